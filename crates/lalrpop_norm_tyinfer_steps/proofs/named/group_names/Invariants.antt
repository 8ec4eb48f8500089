use Rattle.std.proofs.Common.{◌≡◌, ◌++◌, drop, map}
use Rattle.std.specs.List.{flat_map}
use Rattle.lalrpop_norm_tree.specs.Items.{match_contents_view}
use Rattle.lalrpop_norm_model.specs.TokenFaults.{names_mapped_by}
use Rattle.lalrpop_norm_tyinfer_steps.proofs.named.group_names.Given as goal

abbrev pub invariant-loop-group : goal.invariant-loop-group
invariant-loop-group l =
    l.names.items ++ flat_map names_mapped_by (flat_map (λ items. items) (map match_contents_view (drop l.group-index l.groups)))
    ≡ flat_map names_mapped_by (flat_map (λ items. items) (map match_contents_view l.groups))
