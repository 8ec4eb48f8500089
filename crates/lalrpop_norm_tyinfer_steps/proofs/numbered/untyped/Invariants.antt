use Rattle.std.proofs.Common.{◌≡◌, ◌++◌, ℕ, Option, None, map}
use Rattle.lalrpop_norm_tyinfer_steps.specs.Numbered.{type_at}
use Rattle.lalrpop_norm_tyinfer_steps.proofs.numbered.untyped.Given as goal

abbrev pub invariant-loop-name : goal.invariant-loop-name
invariant-loop-name l = record {
  names : map (λ r. r.0.0) l.rules.items ++ map (λ n. n.0) l.name-iterator.rest.items ≡ map (λ n. n.0) l.fn.names.items;
  none : (o : Option ℕ) → type_at l.rules.items o ≡ None;
}
