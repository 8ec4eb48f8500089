use Rattle.std.proofs.Common.{◌∙◌, ap, sym}
use Rattle.lalrpop_norm_tree.specs.declared.symbol.SymbolKind.TheFolds.{fold_out-ExprSymbol}
use Rattle.lalrpop_norm_tree.specs.Items.{alternative_view}
use Rattle.lalrpop_norm_shared_types.specs.Shared.{shared_view}
use Rattle.lalrpop_norm_tree.specs.Symbols.{Kind, Part, Parts, Call, Again, kind_step, expr_step, macro_step, repeat_step, symbol_step, parts_view}
use Rattle.lalrpop_norm_lower.specs.Naming.{source_names}
use Rattle.lalrpop_norm_lower.proofs.SourceLemmas.{enough_at, code_nameless}
use Rattle.lalrpop_norm_lower.proofs.bodies.code_of.Goals as goal

pub returns-then-not-has_slot : goal.returns-then-not-has_slot
returns-then-not-has_slot c =
    c.in_ok-from_str.ensures.ok
    ∙ code_nameless c.args.context.now.prefix.now (shared_view c.args.ty.now) (alternative_view c.args.alternative.now) _ c.written_code-nameless.ensures
    (sym c.has_slot.ensures ∙ c.if-not-has_slot.true)

pub filled-requires : goal.filled-requires
filled-requires c =
    let prefix = c.args.context.now.prefix.now in
    let parts = fold_out-ExprSymbol Kind Parts Call Again Part kind_step expr_step macro_step repeat_step symbol_step c.args.alternative.now.expr in
    enough_at prefix (shared_view c.args.ty.now) c.deref-2.result.now (alternative_view c.args.alternative.now) _ _ _ c.requires.counted c.requires.sources.named
    (c.deref-3.ensures.value ∙ c.in_ok-put_source_names.ensures ∙ ap (λ ss. source_names prefix (parts_view ss)) c.deref.ensures.value ∙ ap (source_names prefix) (sym parts))
    c.written_code-written.ensures
