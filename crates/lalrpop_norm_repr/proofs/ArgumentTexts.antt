-- The texts of arguments, each a pattern with its type.
use Rattle.std.proofs.Common.{◌≡◌, ℕ, List, [], ◌∷◌, ◌++◌, map, codes, refl, ap, sym, ◌∙◌, append_assoc}
use mathlib.Core.Logic.{◌⊎◌, inl, inr}
use Rattle.std.specs.List.{flat_map, zip}
use Rattle.lalrpop_norm_tree_parts.specs.declared.lowered.TypeRepr.{TypeRepr}
use Rattle.lalrpop_norm_tree_parts.specs.Reprs.{repr_view}
use Rattle.lalrpop_norm_tree.specs.declared.symbol.ArgPattern.{ArgPattern}
use Rattle.lalrpop_norm_tree.specs.Symbols.{argument_pattern_view}
use Rattle.lalrpop_norm_repr.specs.ReprTexts.{typed_text}

-- `, p: T` for each pattern and type, side by side
abbrev pub pair_texts : List ArgPattern → List TypeRepr → List ℕ
pair_texts ps ts = flat_map (λ p. codes ", " ++ typed_text p) (zip (map argument_pattern_view ps) (map repr_view ts))

pub one_more_pair : (ps : List ArgPattern) (ts : List TypeRepr) (p : ArgPattern) (others : List ArgPattern) (t : TypeRepr) (rest : List TypeRepr) (written all : List ℕ)
    → ps ≡ p ∷ others → ts ≡ t ∷ rest → written ++ pair_texts ps ts ≡ all
    → (written ++ (codes ", " ++ typed_text (argument_pattern_view p, repr_view t))) ++ pair_texts others rest ≡ all
one_more_pair ps ts p others t rest written all e h before =
    append_assoc written (codes ", " ++ typed_text (argument_pattern_view p, repr_view t)) (pair_texts others rest)
    ∙ (ap (λ qs. written ++ pair_texts qs (t ∷ rest)) (sym e) ∙ (ap (λ us. written ++ pair_texts ps us) (sym h) ∙ before))

no_pairs : (ps : List ArgPattern) → pair_texts ps [] ≡ []
no_pairs [] = refl
no_pairs (p ∷ ps) = refl

append_nothing : (xs : List ℕ) → xs ++ [] ≡ xs
append_nothing [] = refl
append_nothing (x ∷ xs) = ap (λ ys. x ∷ ys) (append_nothing xs)

-- where either list has ended, all is written
pub last_pair : (ps : List ArgPattern) (ts : List TypeRepr) (written all : List ℕ) → (ps ≡ []) ⊎ (ts ≡ []) → written ++ pair_texts ps ts ≡ all → written ≡ all
last_pair ps ts written all (inl e) before = sym (append_nothing written) ∙ (ap (λ qs. written ++ pair_texts qs ts) (sym e) ∙ before)
last_pair ps ts written all (inr e) before =
    sym (append_nothing written) ∙ (ap (λ us. written ++ us) (sym (no_pairs ps)) ∙ (ap (λ us. written ++ pair_texts ps us) (sym e) ∙ before))
