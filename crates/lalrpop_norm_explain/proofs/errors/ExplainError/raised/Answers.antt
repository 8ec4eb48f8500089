use Rattle.lalrpop_norm_explain.proofs.Steps.{raised_up}
use Rattle.lalrpop_norm_explain.proofs.errors.ExplainError.raised.Goals as goal

pub returns-in-Ok : goal.returns-in-Ok
returns-in-Ok c = raised_up c.args.self c.in-Refused.fault c.in-Refused.path c.push.new.self c.args.place c.in-Refused.is c.in-Ok.ensures.items
