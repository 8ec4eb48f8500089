use Rattle.lalrpop_norm_json.proofs.Range.{read_in_range}
use Rattle.lalrpop_norm_json.proofs.TreesFit.{grammar_fits}
use Rattle.lalrpop_norm_json.proofs.laws.forms_of_texts_have_the_shape.Goals as goal

pub returns : goal.returns
returns c g text d is_read is_form = grammar_fits g d is_form (read_in_range text d is_read)
