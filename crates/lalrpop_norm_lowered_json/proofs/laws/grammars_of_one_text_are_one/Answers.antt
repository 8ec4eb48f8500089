use Rattle.lalrpop_norm_lowered_json.specs.WholeForms.{whole_form}
use Rattle.lalrpop_norm_lowered_json.proofs.TextBack.{same_data}
use Rattle.lalrpop_norm_lowered_json.proofs.WholeBack.{same_whole}
use Rattle.lalrpop_norm_lowered_json.proofs.laws.grammars_of_one_text_are_one.Goals as goal

pub returns : goal.returns
returns c os ps l m h k e = same_whole os ps l m (same_data (whole_form os l) (whole_form ps m) h k e)
