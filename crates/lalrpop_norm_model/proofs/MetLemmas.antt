-- What is reached in symbols, level by level, and what holds of all of it.
use Rattle.std.proofs.Common.{◌≡◌, inl, inr, Bool, true, false, List, [], ◌∷◌, ◌++◌, refl, sym, subst, append-nil}
use Rattle.std.specs.Prelude.{if◌then◌else◌}
use Rattle.lalrpop_norm_tree_names.specs.declared.names.Span.{Span}
use Rattle.lalrpop_norm_tree.specs.Symbols.{Kind, Part, Parts, at, part_and}
use Rattle.lalrpop_norm_tree.specs.Traversal.{inner}
use Rattle.lalrpop_norm_theory.specs.Rounds.{In}
use Rattle.lalrpop_norm_theory.proofs.RoundsLemmas.{in_cases}
use Rattle.lalrpop_norm_theory.proofs.ListLemmas.{in_one}
use Rattle.lalrpop_norm_model.specs.Replaced.{is_desugared}
use Rattle.lalrpop_norm_model.specs.PlainRules.{then_itself, met, all_met}
use Rattle.lalrpop_norm_model.proofs.TraversalLemmas.{each_parts, fold_level}

-- what is reached right inside of a symbol, then itself if it is desugared
pub met_level : (s : Span) (k : Kind) → met (at s k) ≡ then_itself s k (all_met (inner k))
met_level = fold_level then_itself [] (λ ms ns. ms ++ ns) append-nil

-- If what H holds of has H hold of what is right inside of it, and R of itself if it is desugared, R holds of all that is reached.
module _ (H R : Part → Type 0) (HoldsOfAll : Parts → Type 0) (first : (p : Part) (ps : Parts) → HoldsOfAll (part_and p ps) → H p)
    (rest : (p : Part) (ps : Parts) → HoldsOfAll (part_and p ps) → HoldsOfAll ps) (inside : (s : Span) (k : Kind) → H (at s k) → HoldsOfAll (inner k))
    (here : (s : Span) (k : Kind) → is_desugared k ≡ true → H (at s k) → R (at s k)) where
  abbrev Reached : Kind → Type 0
  Reached k = (s : Span) → H (at s k) → (q : Part) → In q (met (at s k)) → R q

  abbrev AllReached : Parts → Type 0
  AllReached ps = HoldsOfAll ps → (q : Part) → In q (all_met ps) → R q

  more : (s : Span) (k : Kind) (ps : Parts) → Reached k → AllReached ps → AllReached (part_and (at s k) ps)
  more s k ps f g h q i = elim (in_cases q (met (at s k)) (all_met ps) i) [
    | inl j ↦ f s (first (at s k) ps h) q j
    | inr j ↦ g (rest (at s k) ps h) q j
  ]

  around : (k : Kind) → AllReached (inner k) → Reached k
  around k f s h q i = by (is_desugared k) refl (subst (λ (ms : List Part). In q ms) (met_level s k) i)
    where
      by : (b : Bool) → is_desugared k ≡ b → In q (if b then all_met (inner k) ++ at s k ∷ [] else all_met (inner k)) → R q
      by true e j = elim (in_cases q (all_met (inner k)) (at s k ∷ []) j) [
        | inl m ↦ f (inside s k h) q m
        | inr m ↦ subst R (sym (in_one q (at s k) m)) (here s k e h)
      ]
      by false e j = f (inside s k h) q j

  pub all_met_hold : (ps : Parts) → HoldsOfAll ps → (q : Part) → In q (all_met ps) → R q
  all_met_hold = each_parts Reached AllReached (λ h q i. absurd i) more around
