use Rattle.std.proofs.Common.{◌≡◌, ◌++◌, drop}
use Rattle.lalrpop_norm_origins.specs.Origins.{origins_view}
use Rattle.lalrpop_norm_macro_expand.specs.TracedRules.{at_places}
use Rattle.lalrpop_norm_macro_expand.proofs.macro_expand.made_origins.kept_origins.Given as goal

abbrev pub invariant-loop-place : goal.invariant-loop-place
invariant-loop-place l =
    origins_view l.origins.items ++ at_places (origins_view l.own) (drop l.place-index l.kept) ≡ at_places (origins_view l.own) l.kept
