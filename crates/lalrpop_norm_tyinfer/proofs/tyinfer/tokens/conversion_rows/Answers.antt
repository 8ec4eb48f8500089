use Rattle.std.proofs.Common.{List, map, refl, arith, sym, ap, ◌∙◌, append-nil, ◌++◌}
use Rattle.std.specs.List.{flat_map}
use Rattle.lalrpop_norm_tree.specs.declared.items.Conversion.{Conversion}
use Rattle.lalrpop_norm_tree.specs.Items.{conversion_view}
use Rattle.lalrpop_norm_model.specs.TerminalTypes.{conversion_row}
use Rattle.lalrpop_norm_tyinfer_steps.specs.TokenTypes.{rows_seen}
use Rattle.lalrpop_norm_common.proofs.ListLemmas.{next_collected}
use Rattle.std.proofs.lemmas.List.{drop_all}
use Rattle.std.proofs.lemmas.Result.{IfOk-from_err}
use borrow.Author.Count.{falls}
use Rattle.lalrpop_norm_tyinfer.proofs.tyinfer.tokens.conversion_rows.Goals as goal

pub loop-conversion-preserved : goal.loop-conversion-preserved
loop-conversion-preserved c =
    next_collected (λ (xs : List Conversion). flat_map conversion_row (map conversion_view xs)) (λ (x : Conversion). conversion_row (conversion_view x)) (λ x xs. refl)
    c.args.conversions.now c.loop-conversion.conversion-index c.conversion-item.result (rows_seen c.loop-conversion.rows.items) (rows_seen c.add_conversion.new.rows.items) _
    (omega arith) c.conversion-item.is c.in_ok-add_conversion.ensures c.loop-conversion.invariant

pub loop-conversion-init : goal.loop-conversion-init
loop-conversion-init c = ap (λ rs. rows_seen rs ++ flat_map conversion_row (map conversion_view c.args.conversions.now)) c.new-rows.ensures.items

pub loop-conversion-smaller : goal.loop-conversion-smaller
loop-conversion-smaller c = falls _ _ c.loop-conversion-test.true

pub returns : goal.returns
returns c =
    let rows = rows_seen c.loop-conversion.rows.items in
    sym (ap (λ (xs : List Conversion). rows ++ flat_map conversion_row (map conversion_view xs)) (drop_all c.loop-conversion.conversion-index c.args.conversions.now c.loop-conversion-test.false) ∙ append-nil rows)
    ∙ c.loop-conversion.invariant

pub returns-in_err-add_conversion : goal.returns-in_err-add_conversion
returns-in_err-add_conversion c = IfOk-from_err _ _ c.from_residual.ensures.0
