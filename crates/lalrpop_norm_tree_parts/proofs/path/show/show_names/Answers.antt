use Rattle.lalrpop_norm_tree_names.proofs.ListLemmas.{map_same}
use Rattle.lalrpop_norm_tree_parts.proofs.KnownTextLemmas.{joined_known-all}
use Rattle.lalrpop_norm_tree_parts.proofs.path.show.show_names.Goals as goal

pub returns : goal.returns
returns g c = rw (joined_known-all (λ a. a) c.args.separator.now c.args.names.now.items, map_same c.args.names.now.items) at c.show_joined.ensures
