use Rattle.std.proofs.Common.{◌≡◌, [], map, take}
use Rattle.lalrpop_norm_tree.specs.Symbols.{argument_pattern_view}
use Rattle.lalrpop_norm_nodes.specs.Wholes.{patterns, StandsFor}
use Rattle.lalrpop_norm_nodes.specs.Tables.{wholes_in, TableMeets}
use Rattle.lalrpop_norm_nodes.proofs.patterns.+pattern.Given as goal

abbrev pub invariant-enter_patterns-loop-pattern : goal.invariant-enter_patterns-loop-pattern
invariant-enter_patterns-loop-pattern l = record {
  meets : TableMeets l.fn.table l.table [];
  counted : l.table.made ≡ l.fn.table.made;
  waiting : l.table.waiting ≡ l.fn.table.waiting;
  row : StandsFor (wholes_in l.table) l.row (patterns (map argument_pattern_view (take l.pattern-index l.several)));
}
