use Rattle.std.proofs.Common.{codes}
use Rattle.lalrpop_norm_tree_parts.proofs.KnownTextLemmas.{joined_known-all}
use Rattle.lalrpop_norm_repr.specs.ReprTexts.{symbol_text}
use Rattle.lalrpop_norm_repr.proofs.production.show_symbols.Goals as goal

pub returns : goal.returns
returns g c = rw (joined_known-all symbol_text (codes ", ") c.args.symbols.now.items) at c.show_joined.ensures
