use Rattle.std.proofs.Common.{ap, sym, ◌∙◌}
use Rattle.std.specs.Prelude.{option_map}
use Rattle.lalrpop_norm_tree_parts.specs.Reprs.{repr_view}
use Rattle.lalrpop_norm_repr.proofs.TableLemmas.{found_terminal_rows, other_terminal}
use Rattle.lalrpop_norm_repr.proofs.TerminalOrder.{terminal_ties}
use Rattle.lalrpop_norm_repr.proofs.types.Types.add_term_type.Goals as goal

pub returns-clause-added : goal.returns-clause-added
returns-clause-added c =
    sym (found_terminal_rows repr_view c.args.terminal _ (λ q. terminal_ties c.args.terminal q) _)
    ∙ ap (option_map repr_view) c.in_ok-insert.ensures.updates.1

pub returns-clause-others : goal.returns-clause-others
returns-clause-others c =
    λ other apart.
    sym (found_terminal_rows repr_view other _ (λ q. terminal_ties other q) _)
    ∙ ap (option_map repr_view) (c.in_ok-insert.ensures.updates.2 other (terminal_ties c.args.terminal other ∙ other_terminal c.args.terminal other apart))
    ∙ found_terminal_rows repr_view other _ (λ q. terminal_ties other q) _
