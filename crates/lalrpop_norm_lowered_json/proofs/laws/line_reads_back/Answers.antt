use Rattle.lalrpop_norm_lowered_json.specs.WholeForms.{whole_form}
use Rattle.lalrpop_norm_lowered_json.proofs.LineFeed.{line_read}
use Rattle.lalrpop_norm_lowered_json.proofs.OrderedWhole.{whole_ordered}
use Rattle.lalrpop_norm_lowered_json.proofs.laws.line_reads_back.Goals as goal

pub returns : goal.returns
returns c os l words shallow = line_read (whole_form os l) words (whole_ordered os l) shallow
