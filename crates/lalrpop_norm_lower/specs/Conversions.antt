-- Terminals and their patterns.
pub use Rattle.lalrpop_norm_tree_patterns.specs.MappedPatterns.{mapped_kind, mapped_pattern, mapped_patterns}
pub use Rattle.lalrpop_norm_tree_patterns.specs.MappedPatterns.{mapped_fields, mapped_field}
pub use Rattle.lalrpop_norm_repr.specs.Orders.{literal_cmp, terminal_cmp}
pub use Rattle.lalrpop_norm_lower_steps.specs.Terminals.{sorted_terminals, numbered_terminals}
