use Rattle.std.proofs.Common.{◌≡◌, ◌++◌, take, drop}
use Rattle.lalrpop_norm_precedence.specs.Made.{less_first}
use Rattle.lalrpop_norm_precedence.proofs.precedence.rules.remove_first.Given as goal

abbrev pub invariant-loop-i : goal.invariant-loop-i
invariant-loop-i l = record {
  same : l.attributes.items ≡ l.initial.attributes.items;
  less : take l.i l.attributes.items ++ less_first l.name (drop l.i l.attributes.items) ≡ less_first l.name l.initial.attributes.items;
}
