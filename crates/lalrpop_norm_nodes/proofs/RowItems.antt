-- Rows with one more at the end.
use Rattle.std.proofs.Common.{◌≡◌, ℕ, ◌+◌, ◌<◌, List, [], ◌∷◌, ◌++◌, length, map, take, get_or, Some, sym, ap, ap₂, ◌∙◌, subst}
use Rattle.std.proofs.lemmas.List.{take_more, map-append}
use Rattle.lalrpop_norm_tree.specs.declared.symbol.ArgPattern.{ArgPattern}
use Rattle.lalrpop_norm_tree.specs.Symbols.{Kind, Part, ArgumentPattern, argument_pattern_view}
use Rattle.lalrpop_norm_nodes.specs.declared.node.Node.TheVariants as node
use Rattle.lalrpop_norm_nodes.specs.declared.node.Binary.TheVariants as binary
use Rattle.lalrpop_norm_nodes.specs.Wholes.{Whole, one_symbol, symbols, one_pattern, patterns, as_kind, as_symbols, as_pattern, as_patterns, built, IsKind, AreSymbols, ArePatterns, StandsFor, Grows}
use Rattle.lalrpop_norm_nodes.proofs.RowLemmas.{slice_kept}

pub stands_later : (ws vs : List Whole) (i : ℕ) (w : Whole) → Grows ws vs → StandsFor ws i w → StandsFor vs i w
stands_later ws vs i w (more, e) h = subst (λ (us : List Whole). StandsFor us i w) (sym e) (slice_kept ws more i w h)

pub is_kind : (ws : List Whole) (n : ℕ) (k : Kind) → StandsFor ws n (one_symbol k) → IsKind ws n
is_kind ws n k h = h ∙ ap (λ o. Some (one_symbol (as_kind o))) (sym h)

pub are_symbols : (ws : List Whole) (n : ℕ) (ps : List Part) → StandsFor ws n (symbols ps) → AreSymbols ws n
are_symbols ws n ps h = h ∙ ap (λ o. Some (symbols (as_symbols o))) (sym h)

pub are_patterns : (ws : List Whole) (n : ℕ) (ps : List ArgumentPattern) → StandsFor ws n (patterns ps) → ArePatterns ws n
are_patterns ws n ps h = h ∙ ap (λ o. Some (patterns (as_patterns o))) (sym h)

pub patterns_more : (ws vs us : List Whole) (row n more : ℕ) (xs : List ArgPattern) (i : ℕ) (x : ArgPattern) → i < length xs → x ≡ get_or xs i x →
    StandsFor ws row (patterns (map argument_pattern_view (take i xs))) → Grows ws vs → StandsFor vs n (one_pattern (argument_pattern_view x)) →
    StandsFor us more (built vs (node.Binary binary.Patterns row n)) → StandsFor us more (patterns (map argument_pattern_view (take (i + 1) xs)))
patterns_more ws vs us row n more xs i x l e h grows k new =
    new ∙ ap (λ ps. Some (patterns ps))
    (ap₂ (λ (ps : List ArgumentPattern) (p : ArgumentPattern). ps ++ p ∷ [])
    (ap as_patterns (stands_later ws vs row _ grows h)) (ap as_pattern k)
    ∙ sym (map-append argument_pattern_view (take i xs) (x ∷ []))
    ∙ ap (map argument_pattern_view) (ap (λ y. take i xs ++ y ∷ []) e ∙ sym (take_more xs i x l)))
