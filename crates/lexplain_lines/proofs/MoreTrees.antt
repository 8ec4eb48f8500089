-- The JSON data of the trees of a list, one behind the other, and of one more tree.
use Rattle.std.proofs.Common.{◌≡◌, ℕ, List, [], ◌∷◌, ◌++◌, Vec, Global, length, refl, sym, ap, ◌∙◌}
use Rattle.std.proofs.lemmas.List.{append_assoc, append-nil}
use Rattle.serde_json.specs.Data.{Data}
use Rattle.lalrpop_norm_tree_names.specs.declared.names.NonterminalString.{NonterminalString}
use Rattle.lalrpop_norm_tree_names.specs.declared.names.TerminalString.{TerminalString}
use Rattle.lalrpop_norm_theory.specs.LoweredTrees as lowered
use Rattle.lalrpop_norm_theory.specs.LoweredTrees.{lowered_leaf}
use Rattle.lalrpop_norm_theory.specs.WrittenTrees as written
use Rattle.lalrpop_norm_theory.specs.WrittenTrees.{leaf}
use Rattle.lalrpop_norm_model.specs.Reading.{terminal_of}
use Rattle.lalrpop_norm_explain.specs.declared.trees.LoweredTree.{LoweredTree}
use Rattle.lalrpop_norm_explain.specs.declared.trees.LoweredTree.TheOpen.{LoweredTree-F}
use Rattle.lalrpop_norm_explain.specs.declared.trees.LoweredTree.TheFolds.{fold-roll-LoweredTree}
use Rattle.lalrpop_norm_explain.specs.declared.trees.LoweredTree.TheVariants as lowered_variant
use Rattle.lalrpop_norm_explain.specs.declared.trees.LoweredTree.TheViews as lowered_rolls
use Rattle.lalrpop_norm_explain.specs.declared.trees.WrittenTree.{WrittenTree}
use Rattle.lalrpop_norm_explain.specs.declared.trees.WrittenTree.TheOpen.{WrittenTree-F}
use Rattle.lalrpop_norm_explain.specs.declared.trees.WrittenTree.TheFolds.{fold-roll-WrittenTree}
use Rattle.lalrpop_norm_explain.specs.declared.trees.WrittenTree.TheVariants as written_variant
use Rattle.lalrpop_norm_explain.specs.declared.trees.WrittenTree.TheViews as written_rolls
use Rattle.lalrpop_norm_explain.specs.Trees.{lowered_step, lowered_view, lowered_views, written_step, written_view, written_views}
use Rattle.lalrpop_norm_explain.proofs.Views.{list_seen, node_seen, nothing_seen}
use Rattle.lexplain_lines.specs.LineForms.{leaf_form, nothing_form, list_line_form, written_node_form, lowered_node_form, lowered_forms, all_lowered_forms, written_forms, all_written_forms}
use Rattle.lexplain_lines.proofs.LineLemmas.{lowered_counted, written_counted, rule_seen}

-- ---- lowered trees

lowered_leaf_seen : (a : TerminalString) → lowered_view (lowered_variant.Leaf a) ≡ lowered_leaf (terminal_of a)
lowered_leaf_seen a = ap lowered_view (sym (lowered_rolls.rolls-Leaf a)) ∙ fold-roll-LoweredTree lowered.LoweredTree lowered_step (LoweredTree-F.Leaf a)

lowered_behind : (xs ys : List LoweredTree) → all_lowered_forms (lowered_views (xs ++ ys)) ≡ all_lowered_forms (lowered_views xs) ++ all_lowered_forms (lowered_views ys)
lowered_behind [] ys = refl
lowered_behind (x ∷ xs) ys =
    ap (λ ds. lowered_forms (lowered_view x) ++ ds) (lowered_behind xs ys)
    ∙ sym (append_assoc (lowered_forms (lowered_view x)) (all_lowered_forms (lowered_views xs)) (all_lowered_forms (lowered_views ys)))

-- one more tree
lowered_more : (old new : List LoweredTree) (t : LoweredTree) (ds : List Data) → new ≡ old ++ (t ∷ []) → lowered_forms (lowered_view t) ≡ ds →
    all_lowered_forms (lowered_views new) ≡ all_lowered_forms (lowered_views old) ++ ds
lowered_more old new t ds e f =
    ap (λ us. all_lowered_forms (lowered_views us)) e ∙ lowered_behind old (t ∷ [])
    ∙ ap (λ es. all_lowered_forms (lowered_views old) ++ es) (append-nil (lowered_forms (lowered_view t)) ∙ f)

pub lowered_leaf_more : (old new : List LoweredTree) (a : TerminalString) → new ≡ old ++ (lowered_variant.Leaf a ∷ []) →
    all_lowered_forms (lowered_views new) ≡ all_lowered_forms (lowered_views old) ++ (leaf_form (terminal_of a) ∷ [])
lowered_leaf_more old new a e = lowered_more old new (lowered_variant.Leaf a) (leaf_form (terminal_of a) ∷ []) e (ap lowered_forms (lowered_leaf_seen a))

pub lowered_node_more : (old mid new : List LoweredTree) (n : NonterminalString) (p count : ℕ) (us : Vec LoweredTree Global) →
    old ≡ mid ++ us.items → length us.items ≡ count → new ≡ mid ++ (lowered_rolls.Node n p us ∷ []) →
    all_lowered_forms (lowered_views new) ≡ all_lowered_forms (lowered_views old) ++ (lowered_node_form n.0 p count ∷ [])
lowered_node_more old mid new n p count us e c f =
    let line : List Data = lowered_node_form n.0 p count ∷ [] in
    lowered_more mid new (lowered_rolls.Node n p us) (all_lowered_forms (lowered_views us.items) ++ line) f
    (ap lowered_forms (node_seen n p us) ∙ ap (λ k. all_lowered_forms (lowered_views us.items) ++ (lowered_node_form n.0 p k ∷ [])) (lowered_counted us.items ∙ c))
    ∙ sym (append_assoc (all_lowered_forms (lowered_views mid)) (all_lowered_forms (lowered_views us.items)) line)
    ∙ ap (λ ds. ds ++ line) (sym (lowered_behind mid us.items) ∙ ap (λ xs. all_lowered_forms (lowered_views xs)) (sym e))

-- ---- written trees

written_leaf_seen : (a : TerminalString) → written_view (written_variant.Leaf a) ≡ leaf (terminal_of a)
written_leaf_seen a = ap written_view (sym (written_rolls.rolls-Leaf a)) ∙ fold-roll-WrittenTree written.WrittenTree written_step (WrittenTree-F.Leaf a)

written_behind : (xs ys : List WrittenTree) → all_written_forms (written_views (xs ++ ys)) ≡ all_written_forms (written_views xs) ++ all_written_forms (written_views ys)
written_behind [] ys = refl
written_behind (x ∷ xs) ys =
    ap (λ ds. written_forms (written_view x) ++ ds) (written_behind xs ys)
    ∙ sym (append_assoc (written_forms (written_view x)) (all_written_forms (written_views xs)) (all_written_forms (written_views ys)))

written_more : (old new : List WrittenTree) (t : WrittenTree) (ds : List Data) → new ≡ old ++ (t ∷ []) → written_forms (written_view t) ≡ ds →
    all_written_forms (written_views new) ≡ all_written_forms (written_views old) ++ ds
written_more old new t ds e f =
    ap (λ ts. all_written_forms (written_views ts)) e ∙ written_behind old (t ∷ [])
    ∙ ap (λ es. all_written_forms (written_views old) ++ es) (append-nil (written_forms (written_view t)) ∙ f)

pub written_leaf_more : (old new : List WrittenTree) (a : TerminalString) → new ≡ old ++ (written_variant.Leaf a ∷ []) →
    all_written_forms (written_views new) ≡ all_written_forms (written_views old) ++ (leaf_form (terminal_of a) ∷ [])
written_leaf_more old new a e = written_more old new (written_variant.Leaf a) (leaf_form (terminal_of a) ∷ []) e (ap written_forms (written_leaf_seen a))

pub written_nothing_more : (old new : List WrittenTree) → new ≡ old ++ (written_variant.Nothing ∷ []) →
    all_written_forms (written_views new) ≡ all_written_forms (written_views old) ++ (nothing_form ∷ [])
written_nothing_more old new e = written_more old new written_variant.Nothing (nothing_form ∷ []) e (ap written_forms nothing_seen)

-- a tree over the last ones
written_over : (old mid new : List WrittenTree) (t : WrittenTree) (d : Data) (ts : Vec WrittenTree Global) → old ≡ mid ++ ts.items → new ≡ mid ++ (t ∷ []) →
    written_forms (written_view t) ≡ all_written_forms (written_views ts.items) ++ (d ∷ []) →
    all_written_forms (written_views new) ≡ all_written_forms (written_views old) ++ (d ∷ [])
written_over old mid new t d ts e f is =
    written_more mid new t (all_written_forms (written_views ts.items) ++ (d ∷ [])) f is
    ∙ sym (append_assoc (all_written_forms (written_views mid)) (all_written_forms (written_views ts.items)) (d ∷ []))
    ∙ ap (λ ds. ds ++ (d ∷ [])) (sym (written_behind mid ts.items) ∙ ap (λ xs. all_written_forms (written_views xs)) (sym e))

pub written_list_more : (old mid new : List WrittenTree) (count : ℕ) (ts : Vec WrittenTree Global) → old ≡ mid ++ ts.items → length ts.items ≡ count →
    new ≡ mid ++ (written_rolls.List ts ∷ []) → all_written_forms (written_views new) ≡ all_written_forms (written_views old) ++ (list_line_form count ∷ [])
written_list_more old mid new count ts e c f =
    written_over old mid new (written_rolls.List ts) (list_line_form count) ts e f
    (ap written_forms (list_seen ts) ∙ ap (λ k. all_written_forms (written_views ts.items) ++ (list_line_form k ∷ [])) (written_counted ts.items ∙ c))

pub written_node_more : (old mid new : List WrittenTree) (n : NonterminalString) (k count : ℕ) (ts : Vec WrittenTree Global) → old ≡ mid ++ ts.items →
    length ts.items ≡ count → new ≡ mid ++ (written_rolls.Node n k ts ∷ []) →
    all_written_forms (written_views new) ≡ all_written_forms (written_views old) ++ (written_node_form n.0 k count ∷ [])
written_node_more old mid new n k count ts e c f =
    written_over old mid new (written_rolls.Node n k ts) (written_node_form n.0 k count) ts e f
    (ap written_forms (rule_seen n k ts) ∙ ap (λ j. all_written_forms (written_views ts.items) ++ (written_node_form n.0 k j ∷ [])) (written_counted ts.items ∙ c))
