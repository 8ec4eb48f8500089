use Rattle.std.proofs.Common.{◌∙◌, ap, map, option_map}
use Rattle.lalrpop_norm_tree.specs.Items.{item_view}
use Rattle.lalrpop_norm_repr.specs.Tables.{TypeTable, type_of_terminal}
use Rattle.lalrpop_norm_shared_types.specs.Shared.{shared_view}
use Rattle.lalrpop_norm_shared_types.specs.Table.{shared_table}
use Rattle.lalrpop_norm_lower.specs.Lowering.{rules_among}
use Rattle.lalrpop_norm_lower.proofs.NumberLemmas.{types_in_order}
use Rattle.lalrpop_norm_lower.proofs.numbered.NumberedTypes.of.Goals as goal

pub invariant_of-result : goal.invariant_of-result
invariant_of-result c = record {
  numbered = ∣ c.in_ok-by_number.ensures.types ∣₁;
  terminals_typed = ∣ (λ terminal. c.in_ok-terminals.ensures terminal ∙ ap (λ (t : TypeTable). type_of_terminal terminal t) c.rest.ensures) ∣₁;
}

pub returns-clause-types : goal.returns-clause-types
returns-clause-types c =
    types_in_order (shared_table c.args.table.now) c.args.names (rules_among (map item_view c.args.items.now)) (map (option_map (λ t. shared_view t.now)) c.in_ok-by_number.by_number.items)
    c.requires.numbering c.requires.distinct c.in_ok-by_number.ensures.count c.in_ok-by_number.ensures.types
