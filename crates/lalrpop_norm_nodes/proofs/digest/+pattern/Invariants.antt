use Rattle.std.proofs.Common.{◌≡◌, drop}
use Rattle.lalrpop_norm_names.specs.Seeds.{hasher_after}
use Rattle.lalrpop_norm_tree.specs.Symbols.{argument_patterns_view}
use Rattle.lalrpop_norm_nodes.specs.Digests.{patterns_writes}
use Rattle.lalrpop_norm_nodes.proofs.digest.+pattern.Given as goal

-- with the patterns that are left, what is read of all
abbrev pub invariant-read_patterns-loop-pattern : goal.invariant-read_patterns-loop-pattern
invariant-read_patterns-loop-pattern l =
    hasher_after l.reader (patterns_writes (argument_patterns_view (drop l.pattern-index l.several)))
    ≡ hasher_after l.initial.reader (patterns_writes (argument_patterns_view l.several))
