use Rattle.std.proofs.Common.{◌≡◌, map}
use Rattle.lalrpop_norm_tree_names.specs.declared.names.NonterminalString.{NonterminalString}
use Rattle.lalrpop_norm_repr.specs.Tables.{type_of, found}
use Rattle.lalrpop_norm_shared_types.specs.Table.{shared_table}
use Rattle.lalrpop_norm_tree.specs.Accessors.{or_else}
use Rattle.lalrpop_norm_lower.specs.Starts.{typed_row}
use Rattle.lalrpop_norm_lower.proofs.start_types.add_start_types.Given as goal

abbrev pub invariant-loop-name : goal.invariant-loop-name
invariant-loop-name l =
    ((n : NonterminalString) → or_else (type_of n (shared_table l.types)) (found n (map typed_row l.name-iterator.rest.items)) ≡ or_else (type_of n (shared_table l.initial.types)) (found n (map typed_row l.fn.starts.items)))
    × (shared_table l.types ≡ record (shared_table l.initial.types) { nonterminals = (shared_table l.types).nonterminals })
