use Rattle.std.proofs.Common.{◌≡◌, drop, map}
use Rattle.std.specs.List.{list_all}
use Rattle.lalrpop_norm_tree.specs.Items.{match_contents_view}
use Rattle.lalrpop_norm_is_expanded.specs.Tokens.{group_spares_error}
use Rattle.lalrpop_norm_is_expanded.proofs.tokens.groups_spare_error.Given as goal

abbrev pub invariant-loop-group : goal.invariant-loop-group
invariant-loop-group l = list_all group_spares_error (map match_contents_view (drop l.group-index l.groups)) ≡ list_all group_spares_error (map match_contents_view l.groups)
