-- The lines of a list or a node behind those of its children.
use Rattle.std.proofs.Common.{◌≡◌, ℕ, suc, ◌<◌, ◌+◌, List, [], ◌∷◌, ◌++◌, Vec, Global, length, drop, get_or, codes, decimal, Result, Ok, Err, OnOk, refl, sym, ap, ◌∙◌}
use Rattle.std.proofs.lemmas.List.{append_assoc}
use Rattle.lalrpop_norm_faults.proofs.FaultLemmas.{at_drop_item}
use Rattle.lalrpop_norm_tree_names.specs.declared.names.NonterminalString.{NonterminalString}
use Rattle.lalrpop_norm_theory.specs.WrittenTrees as written
use Rattle.lalrpop_norm_theory.specs.WrittenTrees.{list, node, tree_count}
use Rattle.lalrpop_norm_theory.specs.LoweredTrees as lowered
use Rattle.lalrpop_norm_theory.specs.LoweredTrees.{lowered_node}
use Rattle.lalrpop_norm_explain.specs.declared.trees.LoweredTree.{LoweredTree}
use Rattle.lalrpop_norm_explain.specs.declared.trees.LoweredTree.TheViews as lowered_rolls
use Rattle.lalrpop_norm_explain.specs.declared.trees.WrittenTree.{WrittenTree}
use Rattle.lalrpop_norm_explain.specs.declared.trees.WrittenTree.TheOpen.{WrittenTree-F}
use Rattle.lalrpop_norm_explain.specs.declared.trees.WrittenTree.TheFolds.{fold-roll-WrittenTree}
use Rattle.lalrpop_norm_explain.specs.declared.trees.WrittenTree.TheViews as written_rolls
use Rattle.lalrpop_norm_explain.specs.Trees.{lowered_view, lowered_views, written_step, written_view, written_views}
use Rattle.lalrpop_norm_explain.proofs.Views.{list_seen, node_seen}
use Rattle.lexplain_lines.specs.TreeLines.{node_line, lowered_count, written_lines, all_written_lines, lowered_lines, all_lowered_lines}

pub written_counted : (ts : List WrittenTree) → tree_count (written_views ts) ≡ length ts
written_counted [] = refl
written_counted (t ∷ ts) = ap suc (written_counted ts)

pub lowered_counted : (us : List LoweredTree) → lowered_count (lowered_views us) ≡ length us
lowered_counted [] = refl
lowered_counted (u ∷ us) = ap suc (lowered_counted us)

pub rule_seen : (n : NonterminalString) (k : ℕ) (ts : Vec WrittenTree Global) → written_view (written_rolls.Node n k ts) ≡ node n.0 k (written_views ts.items)
rule_seen n k ts = ap written_view (sym (written_rolls.rolls-Node n k ts)) ∙ fold-roll-WrittenTree written.WrittenTree written_step (WrittenTree-F.Node n k ts)

-- three texts in a row, of which the first two were there before
behind : (text below line mid new : List ℕ) → mid ≡ text ++ below → new ≡ mid ++ line → new ≡ text ++ (below ++ line)
behind text below line mid new e f = f ∙ ap (λ m. m ++ line) e ∙ append_assoc text below line

-- a list, behind its trees
pub list_lines : (text mid new : List ℕ) (ts : Vec WrittenTree Global) (count : ℕ) → count ≡ length ts.items → mid ≡ text ++ all_written_lines (written_views ts.items) →
    new ≡ mid ++ (codes "{\"List\":" ++ (decimal count ++ codes "}\n")) → new ≡ text ++ written_lines (written_view (written_rolls.List ts))
list_lines text mid new ts count n e f =
    behind text (all_written_lines (written_views ts.items)) (codes "{\"List\":" ++ (decimal count ++ codes "}\n")) mid new e f
    ∙ ap (λ (k : ℕ). text ++ (all_written_lines (written_views ts.items) ++ (codes "{\"List\":" ++ (decimal k ++ codes "}\n")))) (n ∙ sym (written_counted ts.items))
    ∙ ap (λ (t : written.WrittenTree). text ++ written_lines t) (sym (list_seen ts))

-- a node, behind its children
written_node_lines : (text mid new : List ℕ) (name : NonterminalString) (k : ℕ) (ts : Vec WrittenTree Global) (count : ℕ) → count ≡ length ts.items →
    mid ≡ text ++ all_written_lines (written_views ts.items) → new ≡ mid ++ node_line (codes "rule") (codes "alternative") name.0 k count →
    new ≡ text ++ written_lines (written_view (written_rolls.Node name k ts))
written_node_lines text mid new name k ts count n e f =
    behind text (all_written_lines (written_views ts.items)) (node_line (codes "rule") (codes "alternative") name.0 k count) mid new e f
    ∙ ap (λ (c : ℕ). text ++ (all_written_lines (written_views ts.items) ++ node_line (codes "rule") (codes "alternative") name.0 k c)) (n ∙ sym (written_counted ts.items))
    ∙ ap (λ (t : written.WrittenTree). text ++ written_lines t) (sym (rule_seen name k ts))

lowered_node_lines : (text mid new : List ℕ) (name : NonterminalString) (p : ℕ) (us : Vec LoweredTree Global) (count : ℕ) → count ≡ length us.items →
    mid ≡ text ++ all_lowered_lines (lowered_views us.items) → new ≡ mid ++ node_line (codes "nonterminal") (codes "production") name.0 p count →
    new ≡ text ++ lowered_lines (lowered_view (lowered_rolls.Node name p us))
lowered_node_lines text mid new name p us count n e f =
    behind text (all_lowered_lines (lowered_views us.items)) (node_line (codes "nonterminal") (codes "production") name.0 p count) mid new e f
    ∙ ap (λ (c : ℕ). text ++ (all_lowered_lines (lowered_views us.items) ++ node_line (codes "nonterminal") (codes "production") name.0 p c)) (n ∙ sym (lowered_counted us.items))
    ∙ ap (λ (u : lowered.LoweredTree). text ++ lowered_lines u) (sym (node_seen name p us))

-- a tree more, where an allocation may fail for the line of the node
pub written_node_told : {X E : Type 0} (r : Result X E) (text mid new : List ℕ) (name : NonterminalString) (k : ℕ) (ts : Vec WrittenTree Global) (count : ℕ) →
    count ≡ length ts.items → mid ≡ text ++ all_written_lines (written_views ts.items) →
    OnOk r (new ≡ mid ++ node_line (codes "rule") (codes "alternative") name.0 k count) →
    OnOk r (new ≡ text ++ written_lines (written_view (written_rolls.Node name k ts)))
written_node_told (Ok x) text mid new name k ts count n e h = written_node_lines text mid new name k ts count n e h
written_node_told (Err x) text mid new name k ts count n e h = tt

pub lowered_node_told : {X E : Type 0} (r : Result X E) (text mid new : List ℕ) (name : NonterminalString) (p : ℕ) (us : Vec LoweredTree Global) (count : ℕ) →
    count ≡ length us.items → mid ≡ text ++ all_lowered_lines (lowered_views us.items) →
    OnOk r (new ≡ mid ++ node_line (codes "nonterminal") (codes "production") name.0 p count) →
    OnOk r (new ≡ text ++ lowered_lines (lowered_view (lowered_rolls.Node name p us)))
lowered_node_told (Ok x) text mid new name p us count n e h = lowered_node_lines text mid new name p us count n e h
lowered_node_told (Err x) text mid new name p us count n e h = tt

-- one more tree of those that are left
pub written_step_lines : (text new : List ℕ) (ts : List WrittenTree) (i : ℕ) (x : WrittenTree) → i < length ts → x ≡ get_or ts i x →
    new ≡ text ++ written_lines (written_view x) → new ++ all_written_lines (written_views (drop (i + 1) ts)) ≡ text ++ all_written_lines (written_views (drop i ts))
written_step_lines text new ts i x lt is e =
    ap (λ n. n ++ all_written_lines (written_views (drop (i + 1) ts))) e
    ∙ append_assoc text (written_lines (written_view x)) (all_written_lines (written_views (drop (i + 1) ts)))
    ∙ ap (λ n. text ++ n) (sym (at_drop_item (λ ys. all_written_lines (written_views ys)) ts i x lt is))

pub lowered_step_lines : (text new : List ℕ) (us : List LoweredTree) (i : ℕ) (x : LoweredTree) → i < length us → x ≡ get_or us i x →
    new ≡ text ++ lowered_lines (lowered_view x) → new ++ all_lowered_lines (lowered_views (drop (i + 1) us)) ≡ text ++ all_lowered_lines (lowered_views (drop i us))
lowered_step_lines text new us i x lt is e =
    ap (λ n. n ++ all_lowered_lines (lowered_views (drop (i + 1) us))) e
    ∙ append_assoc text (lowered_lines (lowered_view x)) (all_lowered_lines (lowered_views (drop (i + 1) us)))
    ∙ ap (λ n. text ++ n) (sym (at_drop_item (λ ys. all_lowered_lines (lowered_views ys)) us i x lt is))
