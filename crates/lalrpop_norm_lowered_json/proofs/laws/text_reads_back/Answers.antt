use Rattle.lalrpop_norm_lowered_json.specs.WholeForms.{whole_form}
use Rattle.lalrpop_norm_lowered_json.proofs.Ordered.{text_read}
use Rattle.lalrpop_norm_lowered_json.proofs.OrderedWhole.{whole_ordered}
use Rattle.lalrpop_norm_lowered_json.proofs.laws.text_reads_back.Goals as goal

pub returns : goal.returns
returns c os l words shallow = text_read (whole_form os l) words (whole_ordered os l) shallow
