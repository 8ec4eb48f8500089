use Rattle.std.proofs.Common.{◌≡◌, map, drop}
use Rattle.std.specs.List.{flat_map}
use Rattle.lalrpop_norm_names.specs.Seeds.{hasher_after}
use Rattle.lalrpop_norm_tree.specs.Items.{alternative_view}
use Rattle.lalrpop_norm_nodes.specs.Digests.{alternative_writes}
use Rattle.lalrpop_norm_nodes.proofs.digest.read_alternatives.Given as goal

-- with the alternatives that are left, what is read of all
abbrev pub invariant-loop-alternative : goal.invariant-loop-alternative
invariant-loop-alternative l =
    hasher_after l.reader (flat_map alternative_writes (map alternative_view (drop l.alternative-index l.alternatives)))
    ≡ hasher_after l.initial.reader (flat_map alternative_writes (map alternative_view l.alternatives))
