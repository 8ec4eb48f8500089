-- Faults of a node and of its children, one step at a time.
use Rattle.std.proofs.Common.{◌≡◌, ℕ, suc, ◌+◌, ◌<◌, ◌≢◌, Bool, true, false, List, [], ◌∷◌, ◌++◌, map, drop, take, length, get_or, ap, sym, ◌∙◌, refl, arith, ◌≤◌, add-one, drop-cons, Global}
use Rattle.std.proofs.lemmas.List.{map-append, take_more, reverse-append}
use Rattle.std.proofs.Math.ListN.{drop_of_length-le}
use Rattle.std.specs.Prelude.{slice_get, Some, None, reverse, Vec}
use Rattle.std.specs.List.{remove}
use Rattle.lalrpop_norm_theory.specs.Symbols.{Name}
use Rattle.lalrpop_norm_theory.specs.LoweredTrees.{ProductionTable, Production, LoweredSymbol, LoweredTree, LoweredTrees, lowered_leaf, lowered_node}
use Rattle.lalrpop_norm_theory.specs.WrittenTrees as written
use Rattle.lalrpop_norm_theory.specs.WrittenTrees.{leaf, nothing, no_trees, tree_and, append}
use Rattle.lalrpop_norm_theory.specs.Translations.{written_tree, written_each, made_by, second, first_tree}
use Rattle.lalrpop_norm_explain.specs.declared.errors.ExplainFault.TheVariants.{Production as NoProduction, Child as WrongChild}
use Rattle.lalrpop_norm_explain.specs.declared.errors.ExplainFault.{ExplainFault}
use Rattle.lalrpop_norm_explain.specs.declared.errors.ExplainError.{ExplainError}
use Rattle.lalrpop_norm_explain.specs.declared.errors.ExplainError.TheVariants.{Refused, Memory}
use Rattle.lalrpop_norm_explain.specs.declared.trees.LoweredTree as code
use Rattle.lalrpop_norm_explain.specs.declared.trees.WrittenTree as out
use Rattle.lalrpop_norm_explain.specs.declared.trees.LoweredTree.TheVariants as variant
use Rattle.lalrpop_norm_explain.specs.declared.trees.WrittenTree.TheVariants as out_variant
use Rattle.lalrpop_norm_tree_names.specs.declared.names.TerminalString.{TerminalString}
use Rattle.lalrpop_norm_model.specs.Reading.{terminal_of}
use Rattle.lalrpop_norm_repr.specs.declared.symbol.Symbol.{Symbol}
use Rattle.lalrpop_norm_explain.specs.Trees.{lowered_view, lowered_views, written_view, written_views, written_trees_of}
use Rattle.lalrpop_norm_explain.specs.Derivations.{tree_symbol, symbols_view}
use Rattle.lalrpop_norm_explain.specs.TreeFaults.{Found, first_found, IsFound, IsFoundUp, is_begun, is_of, explain_faults, is_one_each, child_faults, children_faults, tree_faults, raised}
use Rattle.lalrpop_norm_explain.proofs.Views.{leaf_seen, lowered_leaf_seen}

pub one_each : (us : List code.LoweredTree) (ss : List Symbol) → length us ≡ length ss → is_one_each (lowered_views us) (symbols_view ss) ≡ true
one_each [] [] e = refl
one_each [] (s ∷ ss) e = absurd (omega arith)
one_each (u ∷ us) [] e = absurd (omega arith)
one_each (u ∷ us) (s ∷ ss) e = one_each us ss (omega arith)

pub not_one_each : (us : List code.LoweredTree) (ss : List Symbol) → length us ≢ length ss → is_one_each (lowered_views us) (symbols_view ss) ≡ false
not_one_each [] [] e = absurd (e refl)
not_one_each [] (s ∷ ss) e = refl
not_one_each (u ∷ us) [] e = refl
not_one_each (u ∷ us) (s ∷ ss) e = not_one_each us ss (λ h. e (omega arith))

pub no_production : (P : ProductionTable) (u : LoweredTree) (n : Name) (p : ℕ) (us : LoweredTrees) → u ≡ lowered_node n p us → slice_get (P n) p ≡ None →
    tree_faults P u ≡ (NoProduction, []) ∷ []
no_production P u n p us e s = rw e (rw s refl)

module _ (P : ProductionTable) (u : LoweredTree) (n : Name) (p : ℕ) (us : LoweredTrees) (q : Production) where
  pub wrong_number : u ≡ lowered_node n p us → slice_get (P n) p ≡ Some q → is_one_each us q.symbols ≡ false → tree_faults P u ≡ (WrongChild, []) ∷ []
  wrong_number e s f = rw e (rw s (rw f refl))

  pub right_number : u ≡ lowered_node n p us → slice_get (P n) p ≡ Some q → is_one_each us q.symbols ≡ true → tree_faults P u ≡ children_faults P us q.symbols 0
  right_number e s f = rw e (rw s (rw f refl))

  pub made_there : u ≡ lowered_node n p us → slice_get (P n) p ≡ Some q → written_tree P u ≡ made_by q.origin (written_each P us)
  made_there e s = rw e (rw s refl)

pub each_made : (P : ProductionTable) (us : List code.LoweredTree) → written_each P (lowered_views us) ≡ written_trees_of (map (λ (u : code.LoweredTree). written_tree P (lowered_view u)) us)
each_made P [] = refl
each_made P (u ∷ us) = ap (λ ts. tree_and (written_tree P (lowered_view u)) ts) (each_made P us)

pub put_at_end : (ts : List out.WrittenTree) (t : out.WrittenTree) → written_views (ts ++ t ∷ []) ≡ append (written_views ts) (tree_and (written_view t) no_trees)
put_at_end [] t = refl
put_at_end (s ∷ ts) t = ap (λ r. tree_and (written_view s) r) (put_at_end ts t)

pub not_of_symbol : (i : ℕ) (ok : Bool) (below : List Found) (e : ExplainError) → ok ≡ false → IsFoundUp ((WrongChild, i ∷ []) ∷ []) e → IsFoundUp (child_faults i ok below) e
not_of_symbol i ok below e h f = rw h f

pub below_child : (i : ℕ) (ok : Bool) (below : List Found) (e : ExplainError) → ok ≡ true → IsFoundUp (raised i below) e → IsFoundUp (child_faults i ok below) e
below_child i ok below e h f = rw h f

pub below_none : (i : ℕ) (ok : Bool) (below : List Found) → ok ≡ true → below ≡ [] → child_faults i ok below ≡ []
below_none i ok below e f = rw (e, f) refl

-- one more child
module _ (P : ProductionTable) (us : List code.LoweredTree) (i : ℕ) (u : code.LoweredTree) (lt : i < length us) (is : u ≡ get_or us i u) where
  pub next_child : (ss : List Symbol) (s : Symbol) → i < length ss → s ≡ get_or ss i s →
      children_faults P (lowered_views (drop i us)) (symbols_view (drop i ss)) i
      ≡ child_faults i (is_of (tree_symbol s) (lowered_view u)) (tree_faults P (lowered_view u)) ++ children_faults P (lowered_views (drop (i + 1) us)) (symbols_view (drop (i + 1) ss)) (i + 1)
  next_child ss s ls es =
      let here : drop i us ≡ u ∷ drop (i + 1) us = rw add-one (drop-cons us i u lt ∙ ap (λ x. x ∷ drop (suc i) us) (sym is)) in
      let of : drop i ss ≡ s ∷ drop (i + 1) ss = rw add-one (drop-cons ss i s ls ∙ ap (λ x. x ∷ drop (suc i) ss) (sym es)) in
      rw (here, of) refl

  pub next_made : (ts : List out.WrittenTree) (t : out.WrittenTree) → written_view t ≡ written_tree P (lowered_view u) →
      map written_view ts ≡ map (λ (v : code.LoweredTree). written_tree P (lowered_view v)) (take i us) →
      map written_view (ts ++ t ∷ []) ≡ map (λ (v : code.LoweredTree). written_tree P (lowered_view v)) (take (i + 1) us)
  next_made ts t e before =
      let read : code.LoweredTree → written.WrittenTree = λ v. written_tree P (lowered_view v) in
      map-append written_view ts (t ∷ [])
      ∙ ap (λ xs. xs ++ written_view t ∷ []) before
      ∙ ap (λ x. map read (take i us) ++ x ∷ []) (e ∙ ap read is)
      ∙ sym (ap (map read) (take_more us i u lt) ∙ map-append read (take i us) (get_or us i u ∷ []))

pub leaf_read : (P : ProductionTable) (u : code.LoweredTree) (a b : TerminalString) → u ≡ variant.Leaf a → b ≡ a →
    (tree_faults P (lowered_view u) ≡ []) × (written_view (out_variant.Leaf b) ≡ written_tree P (lowered_view u))
leaf_read P u a b is same =
    let seen : lowered_view u ≡ lowered_leaf (terminal_of a) = lowered_leaf_seen u a is in
    (ap (tree_faults P) seen, leaf_seen (out_variant.Leaf b) b refl ∙ ap (λ x. leaf (terminal_of x)) same ∙ sym (ap (written_tree P) seen))

pub all_done : (P : ProductionTable) (us : List code.LoweredTree) (ss : List LoweredSymbol) (i : ℕ) → length us ≤ i → children_faults P (lowered_views (drop i us)) ss i ≡ []
all_done P us ss i h = rw (drop_of_length-le us h) refl

pub found_same : (fs gs : List Found) (e : ExplainError) → fs ≡ gs → IsFoundUp gs e → IsFoundUp fs e
found_same fs gs e h f = rw h f

pub found_on : (fs gs : List Found) (e : ExplainError) → IsFoundUp fs e → IsFoundUp (fs ++ gs) e
found_on [] gs (Refused x p) h = absurd (cc h)
found_on [] gs Memory h = tt
found_on (f ∷ fs) gs e h = h

-- a path with one more index at its end
pub raised_up : (e : ExplainError) (x : ExplainFault) (p q : Vec ℕ Global) (i : ℕ) → e ≡ Refused x p → q.items ≡ p.items ++ i ∷ [] →
    (fs : List Found) → IsFoundUp fs e → first_found (raised i fs) ≡ Some (x, reverse q.items)
raised_up e x p q i is more [] h = absurd (cc (rw is at h))
raised_up e x p q i is more (f ∷ fs) h =
    let same : f ≡ (x, reverse p.items) = let found : Some f ≡ Some (x, reverse p.items) = rw is at h in cc in
    ap (λ (g : Found). Some (g.0, i ∷ g.1)) same ∙ sym (ap (λ ps. Some (x, ps)) (ap reverse more ∙ reverse-append p.items (i ∷ [])))

pub begun_there : (roots : Name → Bool) (P : ProductionTable) (u : LoweredTree) (e : ExplainError) → is_begun roots u ≡ true → IsFound (tree_faults P u) e → IsFound (explain_faults roots P u) e
begun_there roots P u e h f = rw h f

pub begun_none : (roots : Name → Bool) (P : ProductionTable) (u : LoweredTree) → is_begun roots u ≡ true → tree_faults P u ≡ [] → explain_faults roots P u ≡ []
begun_none roots P u h f = rw (h, f) refl

-- the first and the second tree of a list of two or more, and of a shorter one
pub second_removed : (ts : List out.WrittenTree) (t : out.WrittenTree) → 1 < length ts → t ≡ get_or ts 1 t →
    (first_tree (written_views (remove ts 1)) ≡ first_tree (written_views ts)) × (written_view t ≡ second (written_views ts))
second_removed [] t h e = absurd (omega arith)
second_removed (a ∷ []) t h e = absurd (omega arith)
second_removed (a ∷ (b ∷ ts)) t h e = (refl, ap written_view e)

pub no_second : (ts : List out.WrittenTree) → length ts < 2 → second (written_views ts) ≡ nothing
no_second [] h = refl
no_second (a ∷ []) h = refl
no_second (a ∷ (b ∷ ts)) h = absurd (omega arith)

pub first_removed : (ts : List out.WrittenTree) (t : out.WrittenTree) → 0 < length ts → t ≡ get_or ts 0 t → written_view t ≡ first_tree (written_views ts)
first_removed [] t h e = absurd (omega arith)
first_removed (a ∷ ts) t h e = ap written_view e
