use Rattle.std.proofs.Common.{◌≡◌, drop}
use Rattle.lalrpop_norm_names.specs.Seeds.{hasher_after}
use Rattle.lalrpop_norm_tree.specs.Symbols.{parts_view}
use Rattle.lalrpop_norm_nodes.specs.Digests.{parts_writes}
use Rattle.lalrpop_norm_nodes.proofs.digest.+symbol.Given as goal

-- with the symbols that are left, what is read of all
abbrev pub invariant-read_row-loop-symbol : goal.invariant-read_row-loop-symbol
invariant-read_row-loop-symbol l =
    hasher_after l.reader (parts_writes (parts_view (drop l.symbol-index l.symbols)))
    ≡ hasher_after l.initial.reader (parts_writes (parts_view l.symbols))
