use Rattle.std.proofs.Common.{◌≡◌, drop, map}
use Rattle.lalrpop_norm_explain.specs.TracedGrammars.{production_in}
use Rattle.lalrpop_norm_explain.specs.Plans.{own_plan}
use Rattle.lalrpop_norm_explain.proofs.levels.own_production.Given as goal

abbrev pub invariant-loop-place : goal.invariant-loop-place
invariant-loop-place l =
    own_plan l.name.0 l.rule.0 l.alternative l.place (map (production_in l.traced) (drop l.place l.productions))
    ≡ own_plan l.name.0 l.rule.0 l.alternative 0 (map (production_in l.traced) l.productions)
