use Rattle.std.proofs.Common.{List, map, sym, ap, subst, ◌∙◌}
use Rattle.std.proofs.Math.Path.{fun_ext}
use Rattle.lalrpop_norm_tree.specs.Items.{conversion_view}
use Rattle.lalrpop_norm_faults.specs.Faults.{Fault, IsFirst}
use Rattle.lalrpop_norm_model.specs.Expanded.{terminals_converted}
use Rattle.lalrpop_norm_model.specs.Terminals.{terminal_cmp}
use Rattle.lalrpop_norm_token_check.specs.Converted.{twice_from}
use Rattle.lalrpop_norm_token_check.specs.Keys.{with_keys, terminal_in}
use Rattle.lalrpop_norm_token_check.proofs.ConvertedLemmas.{twice_is, converted_is}
use Rattle.lalrpop_norm_token_check.proofs.token_check.conversions.terminals_of.Goals as goal
use Rattle.lalrpop_norm_faults.proofs.FaultLemmas.{exit_or}

pub returns-in_err-add_conversions : goal.returns-in_err-add_conversions
returns-in_err-add_conversions c =
    let cs = map conversion_view c.args.conversions.now in
    exit_or _ c.in_err-add_conversions.field-0.0 _ _ c.from_residual.ensures.1
    (subst (λ (fs : List Fault). IsFirst fs c.in_err-add_conversions.field-0.0) (ap (λ keys. twice_from keys cs) c.new-converted.ensures.empty ∙ twice_is cs) c.in_err-add_conversions.ensures.refuses)

pub returns : goal.returns
returns c =
    let cs = map conversion_view c.args.conversions.now in
    let told = c.in_ok-add_conversions.ensures in (
      sym (ap (λ keys. twice_from keys cs) c.new-converted.ensures.empty ∙ twice_is cs) ∙ told.refuses,
      fun_ext (λ t. ap (λ keys. terminal_in keys t) (told.adds ∙ ap (λ keys. with_keys terminal_cmp keys (terminals_converted cs)) c.new-converted.ensures.empty)
          ∙ converted_is cs t),
    )
