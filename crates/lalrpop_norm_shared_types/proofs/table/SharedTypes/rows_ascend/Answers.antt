use Rattle.std.proofs.Common.{sym, subst}
use Rattle.std.specs.List.Sorted.{IsStrictlySortedBy}
use Rattle.std.proofs.lemmas.Map.Made.{keys_of-map_values}
use Rattle.lalrpop_norm_repr.specs.Orders.{name_cmp}
use Rattle.lalrpop_norm_shared_types.specs.Shared.{shared_view}
use Rattle.lalrpop_norm_shared_types.proofs.table.SharedTypes.rows_ascend.Goals as goal

pub returns-clause-nonterminals : goal.returns-clause-nonterminals
returns-clause-nonterminals c =
    subst (IsStrictlySortedBy name_cmp) (sym (keys_of-map_values shared_view c.args.self.now.nonterminals.entries)) c.len-nonterminals.ensures.ordered
