use Rattle.std.proofs.Common.{◌≡◌, drop, map}
use Rattle.lalrpop_norm_explain.specs.TracedGrammars.{production_in}
use Rattle.lalrpop_norm_explain.specs.Plans.{first_step}
use Rattle.lalrpop_norm_explain.proofs.levels.step_of.Given as goal

abbrev pub invariant-loop-place : goal.invariant-loop-place
invariant-loop-place l =
    first_step l.place (map (production_in l.traced) (drop l.place l.productions))
    ≡ first_step 0 (map (production_in l.traced) l.productions)
