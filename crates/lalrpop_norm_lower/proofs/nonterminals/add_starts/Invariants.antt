use Rattle.std.proofs.Common.{◌≡◌, ◌+◌, drop}
use Rattle.lalrpop_norm_repr.specs.Productions.{nonterminal_data_view}
use Rattle.lalrpop_norm_repr.specs.Tables.{rows}
use Rattle.lalrpop_norm_lower.specs.Lowering.{sorted_onto}
use Rattle.lalrpop_norm_lower.specs.Starts.{faults_of_starts, rows_of_starts}
use Rattle.lalrpop_norm_lower.proofs.nonterminals.add_starts.Given as goal

abbrev pub invariant-loop-start : goal.invariant-loop-start
invariant-loop-start l =
    (l.state.number ≡ l.initial.state.number + l.start-index)
    × (faults_of_starts l.state.number (drop l.start-index l.starts) ≡ faults_of_starts l.initial.state.number l.starts)
    × (sorted_onto (rows nonterminal_data_view l.state.nonterminals) (rows_of_starts l.state.number (drop l.start-index l.starts)) ≡ sorted_onto (rows nonterminal_data_view l.initial.state.nonterminals) (rows_of_starts l.initial.state.number l.starts))
