use Rattle.std.proofs.Common.{◌≡◌, ◌+◌, ◌++◌, length, map}
use Rattle.lalrpop_norm_tree.specs.Items.{alternative_view}
use Rattle.lalrpop_norm_repr.specs.Productions.{production_view}
use Rattle.lalrpop_norm_lower.specs.Lowering.{productions_from}
use Rattle.lalrpop_norm_lower.specs.Made.{alternatives_faults}
use Rattle.lalrpop_norm_lower.proofs.alternatives.lower_alternatives.Given as goal

abbrev pub invariant-loop-alternative : goal.invariant-loop-alternative
invariant-loop-alternative l =
    (l.number + length (map alternative_view l.alternative-iterator.rest.items) ≡ l.initial.number + length (map alternative_view l.fn.alternatives.items))
    × (alternatives_faults l.number (map alternative_view l.alternative-iterator.rest.items) ≡ alternatives_faults l.initial.number (map alternative_view l.fn.alternatives.items))
    × (map production_view l.productions.items ++ productions_from l.name l.number (map alternative_view l.alternative-iterator.rest.items) ≡ productions_from l.name l.initial.number (map alternative_view l.fn.alternatives.items))
