use Rattle.std.proofs.Common.{Some, ap, ◌∙◌}
use Rattle.lalrpop_norm_tree_parts.specs.Paths.{PathData}
use Rattle.lalrpop_norm_tree.specs.declared.symbol.RepeatOp.TheVariants.{Star}
use Rattle.lalrpop_norm_tree.specs.Symbols.{symbol_view}
use Rattle.lalrpop_norm_model.specs.MadeRules.{holding}
use Rattle.lalrpop_norm_macro_expand_repeats.proofs.RepeatLemmas.{repeat_shaped}
use Rattle.lalrpop_norm_macro_expand_repeats.proofs.repeats.star_rule.Goals as goal

pub returns : goal.returns
returns c =
    c.private_rule.ensures
    ∙ repeat_shaped c.args.head.name c.args.head.span Star (symbol_view c.args.inner.now) (symbol_view c.args.over.now) _ _ _ c.in_ok-inline.ensures
    (ap Some (c.in_ok-of_vector.ensures ∙ ap (λ (p : PathData). holding p (symbol_view c.args.inner.now)) c.in_ok-vec.ensures)) c.in_ok-alternatives.ensures
