use Rattle.std.proofs.Common.{◌∙◌}
use Rattle.lalrpop_norm_common.proofs.SymbolLemmas.{value_is}
use Rattle.lalrpop_norm_common.proofs.norm_util.names_value.Goals as goal

pub returns : goal.returns
returns c = c.is_naming.ensures ∙ value_is c.args.symbol.now
