use Rattle.std.proofs.Common.{◌≡◌, map, take}
use Rattle.lalrpop_norm_names.proofs.table.few_names.Given as goal

abbrev pub invariant-loop-name : goal.invariant-loop-name
invariant-loop-name l = l.few.items ≡ map (λ n. n.0) (take l.name-index l.names)
