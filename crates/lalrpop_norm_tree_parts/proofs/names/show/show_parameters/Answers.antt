use Rattle.std.proofs.Common.{codes}
use Rattle.lalrpop_norm_tree_names.specs.Texts.{type_parameter_text}
use Rattle.lalrpop_norm_tree_parts.proofs.KnownTextLemmas.{joined_known-all}
use Rattle.lalrpop_norm_tree_parts.proofs.names.show.show_parameters.Goals as goal

pub returns : goal.returns
returns g c = rw (joined_known-all type_parameter_text (codes ", ") c.args.parameters.now.items) at c.show_joined.ensures
