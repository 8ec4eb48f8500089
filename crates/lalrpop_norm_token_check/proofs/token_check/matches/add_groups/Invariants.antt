use Rattle.std.proofs.Common.{◌≡◌, drop, map}
use Rattle.lalrpop_norm_tree.specs.Items.{match_contents_view}
use Rattle.lalrpop_norm_token_check.specs.Found.{found_view, groups_faults, with_groups}
use Rattle.lalrpop_norm_token_check.proofs.token_check.matches.add_groups.Given as goal

abbrev pub invariant-loop-index : goal.invariant-loop-index
invariant-loop-index l = record {
  refuses : groups_faults (found_view l.found) (map match_contents_view (drop l.index l.groups)) ≡ groups_faults (found_view l.initial.found) (map match_contents_view l.groups);
  adds : with_groups (found_view l.found) (map match_contents_view (drop l.index l.groups)) ≡ with_groups (found_view l.initial.found) (map match_contents_view l.groups);
}
