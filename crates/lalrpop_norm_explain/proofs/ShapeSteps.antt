-- Trees of a nonterminal lowered, kind by kind.
use Rattle.std.proofs.Common.{◌≡◌, ℕ, Bool, true, false, List, [], ◌∷◌, length, Vec, Global, Result, Ok, Err, Option, Some, None, nat_eq, refl, sym, ap, ◌∙◌, subst, arith}
use Rattle.std.proofs.lemmas.Bool.Decides.{nat_tests}
use Rattle.std.specs.Prelude.{if◌then◌else◌}
use Rattle.std.specs.Result.{IsErrAnd}
use Rattle.lalrpop_norm_theory.specs.Symbols.{Name, Terminal}
use Rattle.lalrpop_norm_theory.specs.Same.{same_closed_terminal}
use Rattle.lalrpop_norm_theory.specs.LoweredTrees.{ProductionTable, LoweredSymbol, terminal_symbol, nonterminal_symbol, LoweredTree, LoweredTrees, lowered_leaf, lowered_node, no_lowered}
use Rattle.lalrpop_norm_theory.specs.WrittenTrees.{WrittenTree, WrittenTrees, leaf, nothing, list, node, no_trees}
use Rattle.lalrpop_norm_tree_names.specs.declared.names.NonterminalString.{NonterminalString}
use Rattle.lalrpop_norm_tree_names.specs.declared.names.TerminalString.{TerminalString}
use Rattle.lalrpop_norm_explain.specs.declared.errors.ExplainError.{ExplainError}
use Rattle.lalrpop_norm_explain.specs.declared.errors.ExplainError.TheVariants.{Memory}
use Rattle.lalrpop_norm_explain.specs.declared.errors.ExplainFault.TheVariants.{Shape as NoShape}
use Rattle.lalrpop_norm_explain.specs.declared.trees.LoweredTree as code
use Rattle.lalrpop_norm_explain.specs.declared.trees.WrittenTree as out
use Rattle.lalrpop_norm_explain.specs.declared.trees.WrittenTree.TheVariants as variant
use Rattle.lalrpop_norm_explain.specs.declared.trees.WrittenTree.TheViews as rolls
use Rattle.lalrpop_norm_explain.specs.TreeFaults.{Found, IsFoundUp, FindsUp}
use Rattle.lalrpop_norm_explain.specs.Trees.{lowered_view, written_view, written_views}
use Rattle.lalrpop_norm_explain.specs.Forms.{Form, group_form, star_form, plus_form, question_form, times_form, ahead_form, behind_form, form_of}
use Rattle.lalrpop_norm_explain.specs.Plans.{TreePlan, plan, flat, fitting, is_one_for_each, planned_tree, plus_plan, node_plan, most_steps}
use Rattle.lalrpop_norm_explain.specs.TreeLowering.{leaf_of, plan_faults, plan_tree, fitting_faults, plus_faults, shape_faults, shapes_faults, lowered_by, each_lowered}
use Rattle.lalrpop_norm_explain.proofs.Views.{leaf_seen, nothing_seen, list_seen, written_seen}

-- an error is propagated
pub handed_on : {T : Type 0} (r : Result T ExplainError) (e : ExplainError) (fs gs : List Found) (Q : T → Type 0) → IsErrAnd r (λ x. x ≡ e) → fs ≡ gs → IsFoundUp gs e → FindsUp r fs Q
handed_on (Ok x) e fs gs Q from same h = absurd from
handed_on (Err x) e fs gs Q from same h = rw (from, same) h

-- a failed allocation is
pub no_memory : {T : Type 0} (r : Result T ExplainError) (fs : List Found) (Q : T → Type 0) → IsErrAnd r (λ x. x ≡ Memory) → FindsUp r fs Q
no_memory (Ok x) fs Q from = absurd from
no_memory (Err x) fs Q from = rw from tt

-- ---- by the kind of the tree

module _ (P : ProductionTable) (n : Name) where
  pub no_leaf : (t : out.WrittenTree) (a : TerminalString) (e : ExplainError) → t ≡ variant.Leaf a → IsFoundUp ((NoShape, []) ∷ []) e →
      IsFoundUp (shape_faults P most_steps (written_view t) (nonterminal_symbol n)) e
  no_leaf t a e is h = subst (λ v. IsFoundUp (shape_faults P most_steps v (nonterminal_symbol n)) e) (sym (leaf_seen t a is)) h

  module _ (r : Result code.LoweredTree ExplainError) where
    abbrev Lowers : WrittenTree → Type 0
    Lowers v = FindsUp r (shape_faults P most_steps v (nonterminal_symbol n)) (λ u. lowered_view u ≡ lowered_by P most_steps v (nonterminal_symbol n))

    pub of_nothing : (t : out.WrittenTree) → t ≡ variant.Nothing → Lowers nothing → Lowers (written_view t)
    of_nothing t is h = subst Lowers (sym (ap written_view is ∙ nothing_seen)) h

    pub of_list : (t : out.WrittenTree) (ts : Vec out.WrittenTree Global) (xs : List out.WrittenTree) → t ≡ rolls.List ts → xs ≡ ts.items → Lowers (list (written_views xs)) → Lowers (written_view t)
    of_list t ts xs is same h = subst Lowers (ap (λ ys. list (written_views ys)) same ∙ sym (ap written_view is ∙ list_seen ts)) h

    pub of_node : (t : out.WrittenTree) (m : NonterminalString) (k : ℕ) (ts : Vec out.WrittenTree Global) (xs : List out.WrittenTree) → t ≡ rolls.Node m k ts → xs ≡ ts.items →
        Lowers (node m.0 k (written_views xs)) → Lowers (written_view t)
    of_node t m k ts xs is same h = subst Lowers (ap (λ ys. node m.0 k (written_views ys)) same ∙ sym (written_seen t m k ts is)) h

-- ---- leaves

abbrev leaf_faults : Bool → List Found
leaf_faults b = if b then [] else (NoShape, []) ∷ []

leaf_at : (b : Bool) (a : Terminal) (u : LoweredTree) → Some u ≡ (if b then Some (lowered_leaf a) else None) → (leaf_faults b ≡ []) × (u ≡ lowered_leaf a)
leaf_at true a u e = (refl, cc)
leaf_at false a u e = absurd (cc e)

no_leaf_at : (b : Bool) (a : Terminal) (x : ExplainError) → None ≡ (if b then Some (lowered_leaf a) else None) → IsFoundUp ((NoShape, []) ∷ []) x → IsFoundUp (leaf_faults b) x
no_leaf_at true a x e h = absurd (cc e)
no_leaf_at false a x e h = h

pub leaf_found : (P : ProductionTable) (b : Terminal) (t : WrittenTree) (u : LoweredTree) → Some u ≡ leaf_of b t →
    (shape_faults P most_steps t (terminal_symbol b) ≡ []) × (u ≡ lowered_by P most_steps t (terminal_symbol b))
leaf_found P b (leaf a) u e = leaf_at (same_closed_terminal b a) a u e
leaf_found P b nothing u e = absurd (cc e)
leaf_found P b (list ts) u e = absurd (cc e)
leaf_found P b (node m k ts) u e = absurd (cc e)

pub leaf_missed : (P : ProductionTable) (b : Terminal) (t : WrittenTree) (x : ExplainError) → None ≡ leaf_of b t → IsFoundUp ((NoShape, []) ∷ []) x →
    IsFoundUp (shape_faults P most_steps t (terminal_symbol b)) x
leaf_missed P b (leaf a) x e h = no_leaf_at (same_closed_terminal b a) a x e h
leaf_missed P b nothing x e h = h
leaf_missed P b (list ts) x e h = h
leaf_missed P b (node m k ts) x e h = h

-- ---- by the plan

fits_at : (b : Bool) (q : TreePlan) (below : List LoweredSymbol → List Found) → plan_faults (if b then Some q else None) below ≡ (if b then below q.wanted else (NoShape, []) ∷ [])
fits_at true q below = refl
fits_at false q below = refl

made_at : (b : Bool) (q : TreePlan) (below : List LoweredSymbol → List Found) (made : List LoweredSymbol → LoweredTrees) → (if b then below q.wanted else (NoShape, []) ∷ []) ≡ [] →
    plan_tree (if b then Some q else None) made ≡ planned_tree q (made q.wanted)
made_at true q below made f = refl
made_at false q below made f = absurd (cc f)

module _ (P : ProductionTable) (ts : WrittenTrees) (q : TreePlan) where
  plan_fits : plan_faults (fitting ts (Some q)) (λ ss. shapes_faults P most_steps ts ss 0) ≡ fitting_faults P ts q.wanted
  plan_fits = fits_at (is_one_for_each ts q.wanted) q (λ ss. shapes_faults P most_steps ts ss 0)

  plan_made : fitting_faults P ts q.wanted ≡ [] → plan_tree (fitting ts (Some q)) (λ ss. each_lowered P most_steps ts ss) ≡ planned_tree q (each_lowered P most_steps ts q.wanted)
  plan_made f = made_at (is_one_for_each ts q.wanted) q (λ ss. shapes_faults P most_steps ts ss 0) (λ ss. each_lowered P most_steps ts ss) f

  pub node_faults : (n m : Name) (k : ℕ) → Some q ≡ node_plan P most_steps n m k → shape_faults P most_steps (node m k ts) (nonterminal_symbol n) ≡ fitting_faults P ts q.wanted
  node_faults n m k e = rw (← e) plan_fits

  pub node_made : (n m : Name) (k : ℕ) → Some q ≡ node_plan P most_steps n m k → fitting_faults P ts q.wanted ≡ [] →
      lowered_by P most_steps (node m k ts) (nonterminal_symbol n) ≡ planned_tree q (each_lowered P most_steps ts q.wanted)
  node_made n m k e f = rw (← e) (plan_made f)

module _ (P : ProductionTable) (n : Name) where
  pub no_node : (m : Name) (k : ℕ) (ts : WrittenTrees) → None ≡ node_plan P most_steps n m k → shape_faults P most_steps (node m k ts) (nonterminal_symbol n) ≡ (NoShape, []) ∷ []
  no_node m k ts e = rw (← e) refl

  module _ (ts : WrittenTrees) (ss : List LoweredSymbol) where
    pub group_faults : Some (group_form ss) ≡ form_of (P n) → shape_faults P most_steps (list ts) (nonterminal_symbol n) ≡ fitting_faults P ts ss
    group_faults e = rw (← e) (plan_fits P ts (plan n (flat 0) ss))

    pub group_made : Some (group_form ss) ≡ form_of (P n) → fitting_faults P ts ss ≡ [] → lowered_by P most_steps (list ts) (nonterminal_symbol n) ≡ lowered_node n 0 (each_lowered P most_steps ts ss)
    group_made e f = rw (← e) (plan_made P ts (plan n (flat 0) ss) f)

    pub times_faults : Some (times_form ss) ≡ form_of (P n) → shape_faults P most_steps (list ts) (nonterminal_symbol n) ≡ fitting_faults P ts ss
    times_faults e = rw (← e) (plan_fits P ts (plan n (flat 0) ss))

    pub times_made : Some (times_form ss) ≡ form_of (P n) → fitting_faults P ts ss ≡ [] → lowered_by P most_steps (list ts) (nonterminal_symbol n) ≡ lowered_node n 0 (each_lowered P most_steps ts ss)
    times_made e f = rw (← e) (plan_made P ts (plan n (flat 0) ss) f)

  pub star_none : (m : Name) (ts : List out.WrittenTree) → Some (star_form m) ≡ form_of (P n) → true ≡ nat_eq (length ts) 0 →
      (shape_faults P most_steps (list (written_views ts)) (nonterminal_symbol n) ≡ []) × (lowered_by P most_steps (list (written_views ts)) (nonterminal_symbol n) ≡ lowered_node n 0 no_lowered)
  star_none m [] e h = (rw (← e) refl, rw (← e) refl)
  star_none m (t ∷ ts) e h = absurd (grind (arith, nat_tests))

  pub question_none : (x : LoweredSymbol) (ts : List out.WrittenTree) → Some (question_form x) ≡ form_of (P n) → true ≡ nat_eq (length ts) 0 →
      (shape_faults P most_steps (list (written_views ts)) (nonterminal_symbol n) ≡ []) × (lowered_by P most_steps (list (written_views ts)) (nonterminal_symbol n) ≡ lowered_node n 1 no_lowered)
  question_none x [] e h = (rw (← e) refl, rw (← e) refl)
  question_none x (t ∷ ts) e h = absurd (grind (arith, nat_tests))

  plus_at : (f : Option Form) (below : List LoweredSymbol → List Found) → plan_faults (plus_plan n f no_trees) below ≡ (NoShape, []) ∷ []
  plus_at None below = refl
  plus_at (Some (plus_form x)) below = refl
  plus_at (Some (group_form ss)) below = refl
  plus_at (Some (star_form a)) below = refl
  plus_at (Some (question_form x)) below = refl
  plus_at (Some (times_form ss)) below = refl
  plus_at (Some ahead_form) below = refl
  plus_at (Some behind_form) below = refl

  pub plus_none : (ts : List out.WrittenTree) → true ≡ nat_eq (length ts) 0 → plus_faults P n (written_views ts) ≡ (NoShape, []) ∷ []
  plus_none [] h = plus_at (form_of (P n)) (λ ss. shapes_faults P most_steps no_trees ss 0)
  plus_none (t ∷ ts) h = absurd (grind (arith, nat_tests))
