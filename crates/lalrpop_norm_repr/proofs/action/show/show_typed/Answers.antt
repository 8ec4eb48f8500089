use Rattle.std.proofs.Common.{refl, codes}
use Rattle.std.proofs.Output.{has_written_append, has_written_of_eq}
use Rattle.lalrpop_norm_tree_parts.specs.Reprs.{repr_view}
use Rattle.lalrpop_norm_tree.specs.Symbols.{argument_pattern_view}
use Rattle.lalrpop_norm_repr.specs.ReprTexts.{typed_text}
use Rattle.lalrpop_norm_repr.proofs.SymbolTexts.{joined_pairs}
use Rattle.lalrpop_norm_repr.proofs.action.show.show_typed.Goals as goal

pub returns-in_ok-show_argument-in-Some-Some : goal.returns-in_ok-show_argument-in-Some-Some
returns-in_ok-show_argument-in-Some-Some g c =
    λ plain ok.
    let first = c.in_ok-show_argument-in-Some-Some.ensures plain refl in
    let others = c.show_others.ensures first.plain ok in
    has_written_of_eq _ _ _ _ _ (joined_pairs argument_pattern_view repr_view typed_text (codes ", ") c.args.patterns.now c.args.types.now c.in-Some-Some.pattern.now c.in-Some-Some.patterns.now c.in-Some-Some.ty.now c.in-Some-Some.types.now c.in-Some-Some.ensures.cases.0 c.in-Some-Some.ensures'.cases.0) (has_written_append _ _ _ _ _ _ first others)
