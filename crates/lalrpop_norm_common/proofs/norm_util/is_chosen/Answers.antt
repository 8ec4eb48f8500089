use Rattle.std.proofs.Common.{◌∙◌, ap, sym}
use Rattle.lalrpop_norm_common.specs.Values.{is_chosen}
use Rattle.lalrpop_norm_tree.proofs.SymbolViews.{seen_at}
use Rattle.lalrpop_norm_common.proofs.norm_util.is_chosen.Goals as goal

pub returns : goal.returns
returns c = c.is_chosen_kind.ensures ∙ ap is_chosen (sym (seen_at c.args.symbol.now))
