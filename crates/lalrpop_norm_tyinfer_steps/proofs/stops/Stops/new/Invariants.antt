use Rattle.std.proofs.Common.{◌≡◌, ℕ, false, [], Vec, Global, length, get_or, slice_get}
use Rattle.std.specs.Prelude.{option_map, unwrap_or}
use Rattle.lalrpop_norm_tyinfer_steps.specs.declared.stops.Stop.{Stop}
use Rattle.lalrpop_norm_tyinfer_steps.proofs.stops.Stops.new.Given as goal

abbrev pub invariant-loop-number : goal.invariant-loop-number
invariant-loop-number l = record {
  flags : length l.typed.items ≡ l._number;
  lists : length l.stopped.items ≡ l._number;
  none : (q : ℕ) → get_or l.typed.items q false ≡ false;
  empty : (q : ℕ) → unwrap_or (option_map (λ (v : Vec Stop Global). v.items) (slice_get l.stopped.items q)) [] ≡ [];
}
