use Rattle.std.proofs.Common.{sym, subst}
use Rattle.std.specs.List.Sorted.{IsStrictlySortedBy}
use Rattle.std.specs.Map.{keys_of}
use Rattle.std.proofs.lemmas.Map.Made.{keys_of-map_values}
use Rattle.lalrpop_norm_tree_parts.specs.Reprs.{repr_view}
use Rattle.lalrpop_norm_repr.specs.Orders.{name_cmp, terminal_cmp}
use Rattle.lalrpop_norm_repr.proofs.TerminalOrder.{terminal_order}
use Rattle.lalrpop_norm_repr.proofs.types.Types.rows_ascend.Goals as goal

pub returns-clause-nonterminals : goal.returns-clause-nonterminals
returns-clause-nonterminals c =
    subst (IsStrictlySortedBy name_cmp) (sym (keys_of-map_values repr_view c.args.self.now.nonterminal_types.entries)) c.len-nonterminals.ensures.ordered

pub returns-clause-terminals : goal.returns-clause-terminals
returns-clause-terminals c =
    subst (IsStrictlySortedBy terminal_cmp) (sym (keys_of-map_values repr_view c.args.self.now.terminal_types.entries))
    (subst (λ cmp. IsStrictlySortedBy cmp (keys_of c.args.self.now.terminal_types.entries)) terminal_order c.len-terminals.ensures.ordered)
