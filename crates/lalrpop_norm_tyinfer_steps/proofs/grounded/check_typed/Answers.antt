use Rattle.std.proofs.Common.{map}
use Rattle.lalrpop_norm_tyinfer_steps.specs.Numbered.{numbered_table}
use Rattle.lalrpop_norm_tyinfer_steps.specs.TableFaults.{untyped_in}
use Rattle.lalrpop_norm_tyinfer_steps.specs.Visits.{plain_rule_view, rule_seen}
use Rattle.lalrpop_norm_tyinfer_steps.proofs.LoopLemmas.{exit_loop}
use Rattle.lalrpop_norm_tyinfer_steps.proofs.NumberedRounds.{number_of}
use Rattle.lalrpop_norm_tyinfer_steps.proofs.RoundLemmas.{rule_there}
use Rattle.lalrpop_norm_tyinfer_steps.proofs.grounded.check_typed.Goals as goal

pub check_type-requires : goal.check_type-requires
check_type-requires c =
    let rules = c.args.rules.now in
    let rule = c.index-rules-number.result in
    number_of c.args.types.now (map rule_seen rules) c.loop-number.number (rule_seen rule) c.requires.numbered c.requires.distinct
    (rule_there rules c.loop-number.number rule c.loop-number-test.true c.index-rules-number.is)

pub returns-in_err-check_type : goal.returns-in_err-check_type
returns-in_err-check_type c =
    exit_loop plain_rule_view (untyped_in (numbered_table c.args.types.now)) c.args.rules.now c.loop-number.number c.index-rules-number.result _ _
    c.loop-number-test.true c.index-rules-number.is c.from_residual.ensures.1 c.in_err-check_type.ensures c.loop-number.invariant
