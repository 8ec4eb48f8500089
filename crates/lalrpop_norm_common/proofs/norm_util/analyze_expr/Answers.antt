use Rattle.std.proofs.Common.{ap, ◌∙◌}
use Rattle.lalrpop_norm_common.specs.ExprSymbols.{named_parts}
use Rattle.lalrpop_norm_common.proofs.ExprLemmas.{seen_named, parts_in}
use Rattle.lalrpop_norm_common.proofs.norm_util.analyze_expr.Goals as goal

pub returns-then-not-is_empty : goal.returns-then-not-is_empty
returns-then-not-is_empty c =
    let named = c.in_ok-named.ensures ∙ ap (named_parts 0) (parts_in c.args.expr.now c.deref.result.now c.deref.ensures.value) in
    seen_named _ c.in_ok-named.named.items c.in_ok-named.named.len _ _ c.in_ok-named.named.ok.0 named c.if-not-is_empty.ensures
