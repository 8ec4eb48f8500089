-- The symbols of a production, written one by one.
use Rattle.std.proofs.Common.{◌≡◌, ◌∙◌, ◌≤◌, ℕ, List, [], ◌∷◌, ◌++◌, codes, length, map, take, refl, sym, ap, append_assoc, take_all}
use Rattle.std.specs.List.{flat_map}
use Rattle.lalrpop_norm_tree_names.specs.Texts.{joined}
use Rattle.lalrpop_norm_repr.specs.ReprTexts.{symbol_text}
use Rattle.lalrpop_norm_repr.specs.declared.symbol.Symbol.{Symbol}

each_symbol : (xs : List Symbol) → flat_map (λ u. codes ", " ++ u) (map symbol_text xs) ≡ flat_map (λ s. codes ", " ++ symbol_text s) xs
each_symbol [] = refl
each_symbol (y ∷ ys) = ap (λ t. (codes ", " ++ symbol_text y) ++ t) (each_symbol ys)

joined_symbols : (x : Symbol) (xs : List Symbol) → joined (codes ", ") (map symbol_text (x ∷ xs)) ≡ symbol_text x ++ flat_map (λ s. codes ", " ++ symbol_text s) xs
joined_symbols x xs = ap (λ t. symbol_text x ++ t) (each_symbol xs)

-- the first symbol, and behind it those that are gone through
pub all_symbols : (old begun text : List ℕ) (all : List Symbol) (x : Symbol) (xs : List Symbol) (i : ℕ) → all ≡ x ∷ xs → length xs ≤ i → begun ≡ old ++ symbol_text x
    → text ≡ begun ++ flat_map (λ s. codes ", " ++ symbol_text s) (take i xs) → text ≡ old ++ joined (codes ", ") (map symbol_text all)
all_symbols old begun text all x xs i split end first others =
    others ∙ ap (λ ss. begun ++ flat_map (λ s. codes ", " ++ symbol_text s) ss) (take_all i xs end)
    ∙ ap (λ t. t ++ flat_map (λ s. codes ", " ++ symbol_text s) xs) first
    ∙ append_assoc old (symbol_text x) (flat_map (λ s. codes ", " ++ symbol_text s) xs)
    ∙ ap (λ t. old ++ t) (sym (joined_symbols x xs))
    ∙ ap (λ ss. old ++ joined (codes ", ") (map symbol_text ss)) (sym split)
