-- A table whose nonterminals have types that share their parts.
use Rattle.std.specs.Prelude.{List, map}
use Rattle.lalrpop_norm_tree_names.specs.declared.names.NonterminalString.{NonterminalString}
use Rattle.lalrpop_norm_tree_parts.specs.Reprs.{ReprData}
use Rattle.lalrpop_norm_repr.specs.Tables.{TypeTable, type_table, rows}
use Rattle.lalrpop_norm_shared_types.specs.Shared.{shared_view}
use Rattle.lalrpop_norm_shared_types.specs.declared.shared.SharedType.{SharedType}
use Rattle.lalrpop_norm_shared_types.specs.declared.table.SharedTypes.{SharedTypes}

-- the table that it is
abbrev pub shared_table : SharedTypes → TypeTable
shared_table t = record (type_table t.rest) { nonterminals = rows shared_view t.nonterminals }

-- rows of nonterminals, each type as the data that it is
abbrev pub shared_rows : List (NonterminalString × SharedType) → List (NonterminalString × ReprData)
shared_rows rs = map (λ r. (r.0, shared_view r.1)) rs
