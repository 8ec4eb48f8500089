-- Written trees lowered, one step at a time.
use Rattle.std.proofs.Common.{◌≡◌, ℕ, zero, suc, ◌+◌, ◌<◌, ◌≤◌, ◌≢◌, Bool, true, false, List, [], ◌∷◌, ◌++◌, map, drop, length, get_or, refl, sym, ap, ◌∙◌, arith, add-one, drop-cons, nat_eq}
use Rattle.std.proofs.Math.ListN.{drop_of_length-le}
use mathlib.Core.List.{reverse-cons}
use Rattle.std.specs.Prelude.{Option, Some, None, reverse, if◌then◌else◌}
use Rattle.lalrpop_norm_theory.specs.Symbols.{Name, lookahead}
use Rattle.lalrpop_norm_theory.specs.LoweredTrees.{ProductionTable, LoweredSymbol, nonterminal_symbol, LoweredTree, LoweredTrees, lowered_node, no_lowered, lowered_and}
use Rattle.lalrpop_norm_theory.specs.WrittenTrees.{WrittenTree, WrittenTrees, leaf, nothing, list, node, no_trees, tree_and}
use Rattle.lalrpop_norm_theory.specs.Translations.{left_leaning, extended}
use Rattle.lalrpop_norm_explain.specs.declared.errors.ExplainFault.TheVariants.{Root as NoRoot, Shape as NoShape}
use Rattle.lalrpop_norm_tree_names.specs.declared.names.NonterminalString.{NonterminalString}
use Rattle.lalrpop_norm_repr.specs.declared.symbol.Symbol.{Symbol}
use Rattle.lalrpop_norm_explain.specs.declared.trees.LoweredTree as code
use Rattle.lalrpop_norm_explain.specs.declared.trees.WrittenTree as out
use Rattle.lalrpop_norm_explain.specs.TreeFaults.{Found, raised}
use Rattle.lalrpop_norm_explain.specs.Derivations.{tree_symbol, symbols_view}
use Rattle.lalrpop_norm_explain.specs.Trees.{lowered_view, lowered_trees_of, written_view, written_views}
use Rattle.lalrpop_norm_explain.specs.Forms.{Form, group_form, star_form, plus_form, question_form, times_form, ahead_form, behind_form, form_of}
use Rattle.lalrpop_norm_explain.specs.Plans.{plan_under, fitting, is_one_for_each, each, plus_plan, stepped, most_steps, step_pair}
use Rattle.lalrpop_norm_explain.specs.TreeLowering.{plan_faults, plan_tree, shape_faults, shapes_faults, lowered_by, each_lowered, plus_faults, plus_lowered, one_more, begun_by, lower_faults}
use Rattle.lalrpop_norm_explain.proofs.NoFault.{one_for_each}

-- ---- numbers of trees

pub fit : (ts : List out.WrittenTree) (ss : List Symbol) → length ts ≡ length ss → is_one_for_each (written_views ts) (symbols_view ss) ≡ true
fit [] [] e = refl
fit [] (s ∷ ss) e = absurd (omega arith)
fit (t ∷ ts) [] e = absurd (omega arith)
fit (t ∷ ts) (s ∷ ss) e = fit ts ss (omega arith)

pub not_fit : (ts : List out.WrittenTree) (ss : List Symbol) → length ts ≢ length ss → is_one_for_each (written_views ts) (symbols_view ss) ≡ false
not_fit [] [] e = absurd (e refl)
not_fit [] (s ∷ ss) e = refl
not_fit (t ∷ ts) [] e = refl
not_fit (t ∷ ts) (s ∷ ss) e = not_fit ts ss (λ h. e (omega arith))

-- ---- lists

module _ (P : ProductionTable) (n m : Name) where
  over_plus : (f : Option Form) (t : WrittenTree) (ts : WrittenTrees) (below : List LoweredSymbol → List Found) →
      plan_faults (fitting (tree_and t ts) (plan_under n 1 (plus_plan m f (tree_and t ts)))) below ≡ plan_faults (plus_plan m f (tree_and t ts)) below
  over_plus None t ts below = refl
  over_plus (Some (plus_form x)) t ts below = rw (one_for_each x ts) refl
  over_plus (Some (group_form ss)) t ts below = refl
  over_plus (Some (star_form a)) t ts below = refl
  over_plus (Some (question_form x)) t ts below = refl
  over_plus (Some (times_form ss)) t ts below = refl
  over_plus (Some ahead_form) t ts below = refl
  over_plus (Some behind_form) t ts below = refl

  over_plus_tree : (f : Option Form) (t : WrittenTree) (ts : WrittenTrees) (below : List LoweredSymbol → List Found) (made : List LoweredSymbol → LoweredTrees) →
      plan_faults (plus_plan m f (tree_and t ts)) below ≡ [] →
      plan_tree (fitting (tree_and t ts) (plan_under n 1 (plus_plan m f (tree_and t ts)))) made
      ≡ lowered_node n 1 (lowered_and (plan_tree (plus_plan m f (tree_and t ts)) made) no_lowered)
  over_plus_tree None t ts below made e = absurd (cc e)
  over_plus_tree (Some (plus_form x)) t ts below made e = rw (one_for_each x ts) refl
  over_plus_tree (Some (group_form ss)) t ts below made e = absurd (cc e)
  over_plus_tree (Some (star_form a)) t ts below made e = absurd (cc e)
  over_plus_tree (Some (question_form x)) t ts below made e = absurd (cc e)
  over_plus_tree (Some (times_form ss)) t ts below made e = absurd (cc e)
  over_plus_tree (Some ahead_form) t ts below made e = absurd (cc e)
  over_plus_tree (Some behind_form) t ts below made e = absurd (cc e)

  pub star_faults : (ts : List out.WrittenTree) → Some (star_form m) ≡ form_of (P n) → 0 < length ts →
      shape_faults P most_steps (list (written_views ts)) (nonterminal_symbol n) ≡ plus_faults P m (written_views ts)
  star_faults [] e h = absurd (omega arith)
  star_faults (t ∷ ts) e h = rw (← e) (over_plus (form_of (P m)) (written_view t) (written_views ts) (λ ss. shapes_faults P most_steps (written_views (t ∷ ts)) ss 0))

  pub star_lowered : (ts : List out.WrittenTree) → Some (star_form m) ≡ form_of (P n) → 0 < length ts → plus_faults P m (written_views ts) ≡ [] →
      lowered_by P most_steps (list (written_views ts)) (nonterminal_symbol n)
      ≡ lowered_node n 1 (lowered_and (plus_lowered P m (written_views ts)) no_lowered)
  star_lowered [] e h f = absurd (omega arith)
  star_lowered (t ∷ ts) e h f =
      rw (← e) (over_plus_tree (form_of (P m)) (written_view t) (written_views ts) (λ ss. shapes_faults P most_steps (written_views (t ∷ ts)) ss 0)
      (λ ss. each_lowered P most_steps (written_views (t ∷ ts)) ss) f)

module _ (P : ProductionTable) (n : Name) (x : LoweredSymbol) where
  pub plus_same : (ts : WrittenTrees) → Some (plus_form x) ≡ form_of (P n) →
      shape_faults P most_steps (list ts) (nonterminal_symbol n) ≡ plus_faults P n ts
  plus_same no_trees e = rw (← e) refl
  plus_same (tree_and t ts) e = rw (← e) (rw (one_for_each x ts) refl)

  pub plus_lowered_same : (ts : WrittenTrees) → Some (plus_form x) ≡ form_of (P n) →
      lowered_by P most_steps (list ts) (nonterminal_symbol n) ≡ plus_lowered P n ts
  plus_lowered_same no_trees e = rw (← e) refl
  plus_lowered_same (tree_and t ts) e = rw (← e) (rw (one_for_each x ts) refl)

  pub plus_built : (ts : List out.WrittenTree) → Some (plus_form x) ≡ form_of (P n) → 0 < length ts →
      (plus_faults P n (written_views ts) ≡ shapes_faults P most_steps (written_views ts) (each x (written_views ts)) 0)
      × (plus_lowered P n (written_views ts) ≡ left_leaning (λ _. n) lookahead (each_lowered P most_steps (written_views ts) (each x (written_views ts))))
  plus_built [] e h = absurd (omega arith)
  plus_built (t ∷ ts) e h = (rw (← e) refl, rw (← e) refl)

  pub question_many : (ts : List out.WrittenTree) → Some (question_form x) ≡ form_of (P n) → 0 < length ts → length ts ≢ 1 →
      shape_faults P most_steps (list (written_views ts)) (nonterminal_symbol n) ≡ (NoShape, []) ∷ []
  question_many [] e h d = absurd (omega arith)
  question_many (t ∷ []) e h d = absurd (d refl)
  question_many (t ∷ (s ∷ ts)) e h d = rw (← e) refl

  pub question_one : (ts : List out.WrittenTree) → Some (question_form x) ≡ form_of (P n) → length ts ≡ 1 →
      (shape_faults P most_steps (list (written_views ts)) (nonterminal_symbol n) ≡ shapes_faults P most_steps (written_views ts) (each x (written_views ts)) 0)
      × (lowered_by P most_steps (list (written_views ts)) (nonterminal_symbol n) ≡ lowered_node n 0 (each_lowered P most_steps (written_views ts) (each x (written_views ts))))
  question_one [] e d = absurd (omega arith)
  question_one (t ∷ []) e d = (rw (← e) refl, rw (← e) refl)
  question_one (t ∷ (s ∷ ts)) e d = absurd (omega arith)

-- ---- loops

-- these trees before those
abbrev pub put_before : List LoweredTree → LoweredTrees → LoweredTrees
put_before [] us = us
put_before (x ∷ xs) us = lowered_and x (put_before xs us)

put_one : (xs : List code.LoweredTree) (x : code.LoweredTree) (us : LoweredTrees) →
    put_before (map lowered_view (xs ++ x ∷ [])) us ≡ put_before (map lowered_view xs) (lowered_and (lowered_view x) us)
put_one [] x us = refl
put_one (y ∷ xs) x us = ap (λ vs. lowered_and (lowered_view y) vs) (put_one xs x us)

pub put_all : (xs : List LoweredTree) → put_before xs no_lowered ≡ lowered_trees_of xs
put_all [] = refl
put_all (x ∷ xs) = ap (λ vs. lowered_and x vs) (put_all xs)

module _ (P : ProductionTable) (ts : List out.WrittenTree) (i : ℕ) (t : out.WrittenTree) (lt : i < length ts) (et : t ≡ get_or ts i t) where
  dropped : drop i ts ≡ t ∷ drop (i + 1) ts
  dropped = rw add-one (drop-cons ts i t lt ∙ ap (λ x. x ∷ drop (suc i) ts) (sym et))

  module _ (ss : List Symbol) (s : Symbol) (ls : i < length ss) (es : s ≡ get_or ss i s) where
    dropped_symbols : drop i ss ≡ s ∷ drop (i + 1) ss
    dropped_symbols = rw add-one (drop-cons ss i s ls ∙ ap (λ x. x ∷ drop (suc i) ss) (sym es))

    pub all_step : shapes_faults P most_steps (written_views (drop i ts)) (symbols_view (drop i ss)) i
        ≡ raised i (shape_faults P most_steps (written_view t) (tree_symbol s))
        ++ shapes_faults P most_steps (written_views (drop (i + 1) ts)) (symbols_view (drop (i + 1) ss)) (i + 1)
    all_step = rw (dropped, dropped_symbols) refl

    pub all_put : (xs : List code.LoweredTree) (x : code.LoweredTree) → lowered_view x ≡ lowered_by P most_steps (written_view t) (tree_symbol s) →
        put_before (map lowered_view (xs ++ x ∷ [])) (each_lowered P most_steps (written_views (drop (i + 1) ts)) (symbols_view (drop (i + 1) ss)))
        ≡ put_before (map lowered_view xs) (each_lowered P most_steps (written_views (drop i ts)) (symbols_view (drop i ss)))
    all_put xs x e =
        put_one xs x (each_lowered P most_steps (written_views (drop (i + 1) ts)) (symbols_view (drop (i + 1) ss)))
        ∙ rw (dropped, dropped_symbols) (ap (λ u. put_before (map lowered_view xs) (lowered_and u (each_lowered P most_steps (written_views (drop (i + 1) ts)) (symbols_view (drop (i + 1) ss))))) e)

  module _ (s : Symbol) where
    pub each_step : shapes_faults P most_steps (written_views (drop i ts)) (each (tree_symbol s) (written_views (drop i ts))) i
        ≡ raised i (shape_faults P most_steps (written_view t) (tree_symbol s))
        ++ shapes_faults P most_steps (written_views (drop (i + 1) ts)) (each (tree_symbol s) (written_views (drop (i + 1) ts))) (i + 1)
    each_step = rw dropped refl

    pub each_put : (xs : List code.LoweredTree) (x : code.LoweredTree) → lowered_view x ≡ lowered_by P most_steps (written_view t) (tree_symbol s) →
        put_before (map lowered_view (xs ++ x ∷ [])) (each_lowered P most_steps (written_views (drop (i + 1) ts)) (each (tree_symbol s) (written_views (drop (i + 1) ts))))
        ≡ put_before (map lowered_view xs) (each_lowered P most_steps (written_views (drop i ts)) (each (tree_symbol s) (written_views (drop i ts))))
    each_put xs x e =
        put_one xs x (each_lowered P most_steps (written_views (drop (i + 1) ts)) (each (tree_symbol s) (written_views (drop (i + 1) ts))))
        ∙ rw dropped (ap (λ u. put_before (map lowered_view xs) (lowered_and u (each_lowered P most_steps (written_views (drop (i + 1) ts)) (each (tree_symbol s) (written_views (drop (i + 1) ts)))))) e)

pub shapes_done : (P : ProductionTable) (ts : List out.WrittenTree) (ss : List LoweredSymbol) (i : ℕ) → length ts ≤ i → shapes_faults P most_steps (written_views (drop i ts)) ss i ≡ []
shapes_done P ts ss i h = rw (drop_of_length-le ts h) refl

pub lowered_done : (P : ProductionTable) (ts : List out.WrittenTree) (ss : List LoweredSymbol) (i : ℕ) → length ts ≤ i → each_lowered P most_steps (written_views (drop i ts)) ss ≡ no_lowered
lowered_done P ts ss i h = rw (drop_of_length-le ts h) refl

-- ---- wraps

-- the list so far, and what is put at its end
abbrev pub leaned : Name → Option LoweredTree → LoweredTrees → LoweredTree
leaned n None us = left_leaning (λ _. n) lookahead us
leaned n (Some u) us = extended (λ _. n) lookahead u us

pub leaned_more : (n : Name) (o : Option LoweredTree) (x : LoweredTree) (us : LoweredTrees) → extended (λ _. n) lookahead (one_more n o x) us ≡ leaned n o (lowered_and x us)
leaned_more n None x us = refl
leaned_more n (Some u) x us = refl

stepped_last : (ss : List (Name × ℕ)) (s : Name × ℕ) (u : LoweredTree) → stepped (ss ++ s ∷ []) u ≡ stepped ss (lowered_node s.0 s.1 (lowered_and u no_lowered))
stepped_last [] s u = refl
stepped_last (r ∷ ss) s u = ap (λ v. lowered_node r.0 r.1 (lowered_and v no_lowered)) (stepped_last ss s u)

pub built_on : (rest : List (NonterminalString × ℕ)) (s : NonterminalString × ℕ) (u : LoweredTree) →
    stepped (reverse (map step_pair (s ∷ rest))) u ≡ stepped (reverse (map step_pair rest)) (lowered_node s.0.0 s.1 (lowered_and u no_lowered))
built_on rest s u = rw (reverse-cons (step_pair s) (map step_pair rest)) (stepped_last (reverse (map step_pair rest)) (step_pair s) u)

pub empty_list : {X : Type 0} (xs : List X) → length xs ≡ 0 → xs ≡ []
empty_list [] e = refl
empty_list (x ∷ xs) e = absurd (omega arith)

-- ---- the root

begun_by_root : (P : ProductionTable) (m n : Name) (k : ℕ) (ts : WrittenTrees) (b : Bool) → Some n ≡ (if b then Some m else None) →
    (if b then shape_faults P most_steps (node m k ts) (nonterminal_symbol m) else (NoRoot, []) ∷ []) ≡ shape_faults P most_steps (node m k ts) (nonterminal_symbol n)
begun_by_root P m n k ts true e = let same : n ≡ m = cc in rw same refl
begun_by_root P m n k ts false e = absurd (cc e)

pub begun_faults : (roots : Name → Bool) (P : ProductionTable) (t : WrittenTree) (n : Name) → Some n ≡ begun_by roots t →
    lower_faults roots P most_steps t ≡ shape_faults P most_steps t (nonterminal_symbol n)
begun_faults roots P (leaf a) n e = absurd (cc e)
begun_faults roots P nothing n e = absurd (cc e)
begun_faults roots P (list ts) n e = absurd (cc e)
begun_faults roots P (node m k ts) n e = begun_by_root P m n k ts (roots m) e

pub filled : (n : ℕ) → false ≡ nat_eq n 0 → 0 < n
filled zero e = absurd (cc e)
filled (suc n) e = omega arith
