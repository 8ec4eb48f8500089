-- What is entered of a pattern, and what the walk over patterns goes down by.
use Rattle.std.proofs.Common.{◌≡◌, ℕ, ◌+◌, ◌*◌, ◌<◌, length, get_or, List, map, Some, ap, sym, ◌∙◌, arith}
use denote.Param.Weighed.{most, at_most}
use Rattle.lalrpop_norm_tree.specs.declared.symbol.ArgPattern.{ArgPattern}
use Rattle.lalrpop_norm_tree.specs.declared.symbol.ArgPattern.TheFolds.{fold-roll-ArgPattern}
use Rattle.lalrpop_norm_tree.specs.declared.symbol.ArgPattern.TheOpen.{ArgPattern-F}
use Rattle.lalrpop_norm_tree.specs.declared.symbol.ArgPattern.TheVariants as pattern
use Rattle.lalrpop_norm_tree.specs.declared.symbol.ArgPattern.TheViews.{rolls-Name, rolls-Tuple, size-ArgPattern, size_is-Tuple, sized-Tuple}
use Rattle.lalrpop_norm_tree.specs.declared.symbol.Name.{Name}
use Rattle.lalrpop_norm_tree.specs.declared.symbol.Tuple.{Tuple}
use Rattle.lalrpop_norm_tree.specs.Symbols.{ArgumentPattern, ArgumentPatterns, one_name, several, argument_pattern_step, tuple_step, argument_pattern_view, argument_patterns_of, tuple_view}
use Rattle.lalrpop_norm_nodes.specs.declared.node.Node.TheVariants as node
use Rattle.lalrpop_norm_nodes.specs.declared.node.Unary.TheVariants as unary
use Rattle.lalrpop_norm_nodes.specs.Wholes.{Whole, one_pattern, patterns, as_pattern, as_patterns, built, IsPattern, StandsFor}
use Rattle.lalrpop_norm_tree.proofs.KindLevels.{names_of}

pub name_seen : (n : Name) → argument_pattern_view (pattern.Name n) ≡ one_name n
name_seen n = ap argument_pattern_view (sym (rolls-Name n)) ∙ fold-roll-ArgPattern ArgumentPattern ArgumentPatterns argument_pattern_step tuple_step (ArgPattern-F.Name n)

pub several_seen : (t : Tuple) → argument_pattern_view (pattern.Tuple t) ≡ several (tuple_view t)
several_seen t = ap argument_pattern_view (sym (rolls-Tuple t)) ∙ fold-roll-ArgPattern ArgumentPattern ArgumentPatterns argument_pattern_step tuple_step (ArgPattern-F.Tuple t)

pub is_pattern : (ws : List Whole) (n : ℕ) (p : ArgumentPattern) → StandsFor ws n (one_pattern p) → IsPattern ws n
is_pattern ws n p h = h ∙ ap (λ o. Some (one_pattern (as_pattern o))) (sym h)

-- a row of patterns as a pattern
pub several_for : (ws : List Whole) (p : ArgPattern) (t : Tuple) (xs : List ArgPattern) (row : ℕ) → p ≡ pattern.Tuple t → xs ≡ t.tuples.items →
    StandsFor ws row (patterns (map argument_pattern_view xs)) → built ws (node.Unary unary.Several row) ≡ one_pattern (argument_pattern_view p)
several_for ws p t xs row is same h =
    ap (λ o. one_pattern (several (argument_patterns_of (as_patterns o)))) h
    ∙ ap (λ (ys : List ArgPattern). one_pattern (several (argument_patterns_of (map argument_pattern_view ys)))) same
    ∙ ap (λ (ps : ArgumentPatterns). one_pattern (several ps)) (sym (names_of t))
    ∙ ap one_pattern (sym (ap argument_pattern_view is ∙ several_seen t))

module _ (t : ℕ) where
  pub to_patterns : (p : ArgPattern) (x : Tuple) (xs : List ArgPattern) → p ≡ pattern.Tuple x → xs ≡ x.tuples.items → 2 * size-ArgPattern p + 0 ≡ t → 2 * most size-ArgPattern xs + 1 < t
  to_patterns p x xs of at is = rw (at) (omega (arith, rw (of) at is, sized-Tuple x, size_is-Tuple x))

  pub to_pattern : (xs : List ArgPattern) (i : ℕ) (x : ArgPattern) → i < length xs → x ≡ get_or xs i x → 2 * most size-ArgPattern xs + 1 ≡ t → 2 * size-ArgPattern x + 0 < t
  to_pattern xs i x h at is = rw (at) (omega (arith, at_most size-ArgPattern xs i x h))
