use Rattle.lalrpop_norm_model.proofs.WrittenLeveled.{written_leveled}
use Rattle.lalrpop_norm_model.proofs.written_grammars_are_leveled.Goals as goal

pub returns : goal.returns
returns c = written_leveled
