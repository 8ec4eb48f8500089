use Rattle.std.proofs.Common.{◌∙◌}
use Rattle.lalrpop_norm_precedence.proofs.NumberLemmas.{number_read}
use Rattle.lalrpop_norm_precedence.proofs.precedence.read.number_of.Goals as goal

pub returns : goal.returns
returns c = c.ok.ensures.value ∙ number_read c.args.text.now c.parse.result c.parse.ensures.value.0
