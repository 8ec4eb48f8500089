use Rattle.lalrpop_norm_lowered_json.proofs.WholeBack.{same_whole}
use Rattle.lalrpop_norm_lowered_json.proofs.laws.grammars_of_one_form_are_one.Goals as goal

pub returns : goal.returns
returns c = same_whole
