use Rattle.lalrpop_norm_lowered_json.proofs.Back.{same_repr}
use Rattle.lalrpop_norm_lowered_json.proofs.laws.types_of_one_form_are_one.Goals as goal

pub returns : goal.returns
returns c = same_repr
