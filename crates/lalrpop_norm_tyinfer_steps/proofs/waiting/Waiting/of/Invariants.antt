use Rattle.std.proofs.Common.{◌≡◌, ℕ, true, take}
use Rattle.lalrpop_norm_theory.specs.Rounds.{In}
use Rattle.lalrpop_norm_tyinfer_steps.specs.Waiting.{has}
use Rattle.lalrpop_norm_tyinfer_steps.proofs.waiting.Waiting.«of».Given as goal

abbrev pub invariant-loop-place : goal.invariant-loop-place
invariant-loop-place l = record {
  all : (k : ℕ) → In k (take l.place-index l.places) → has l.waiting k ≡ true;
  only : (k : ℕ) → has l.waiting k ≡ true → In k (take l.place-index l.places);
}
