use Rattle.lalrpop_norm_model.proofs.RenumberedClauses.{clauses_only_renumber}
use Rattle.lalrpop_norm_model.proofs.clauses_only_renumber.Goals as goal

pub returns : goal.returns
returns c = clauses_only_renumber
