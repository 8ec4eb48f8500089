-- Symbols and patterns in a row are determined by the row.
use Rattle.std.proofs.Common.{◌≡◌, ℕ, ◌<◌, List, [], ◌∷◌, length, map, get_or, refl, sym, ap, ◌∙◌}
use Rattle.std.proofs.lemmas.List.{length-map, get_or-map}
use Rattle.lalrpop_norm_tree.specs.declared.symbol.Symbol.{Symbol}
use Rattle.lalrpop_norm_tree.specs.declared.symbol.ArgPattern.{ArgPattern}
use Rattle.lalrpop_norm_tree.specs.Symbols.{ArgumentPattern, argument_patterns_of, argument_pattern_view, argument_patterns_view, Part, part_and, parts_of, parts_view, symbol_view}
use Rattle.lalrpop_norm_nodes.specs.Apart.{unplaced, all_unplaced, each_unplaced}

pub parts_apart : (xs ys : List Part) → parts_of xs ≡ parts_of ys → xs ≡ ys
parts_apart [] [] e = refl
parts_apart [] (y ∷ ys) e = cc
parts_apart (x ∷ xs) [] e = cc
parts_apart (x ∷ xs) (y ∷ ys) e =
    let head : x ≡ y = cc in
    let tail : parts_of xs ≡ parts_of ys = cc in
    let rest = parts_apart xs ys tail in
    cc

pub patterns_apart : (xs ys : List ArgumentPattern) → argument_patterns_of xs ≡ argument_patterns_of ys → xs ≡ ys
patterns_apart [] [] e = refl
patterns_apart [] (y ∷ ys) e = cc
patterns_apart (x ∷ xs) [] e = cc
patterns_apart (x ∷ xs) (y ∷ ys) e =
    let head : x ≡ y = cc in
    let tail : argument_patterns_of xs ≡ argument_patterns_of ys = cc in
    let rest = patterns_apart xs ys tail in
    cc
