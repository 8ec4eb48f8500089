use Rattle.lalrpop_norm_explain.proofs.Origins.{number_asked}
use Rattle.lalrpop_norm_explain.proofs.levels.is_written.Goals as goal

pub returns-then-eq : goal.returns-then-eq
returns-then-eq c = number_asked c.args.wanted.now.0 c.args.number c.args.origin.now c.in-Written.rule c.in-Written.alternative c.in-Written.is c.if-eq.ensures
