-- Origins as those that trees see.
use Rattle.std.specs.Prelude.{List, Vec, map}
use Rattle.std.specs.declared.alloc.Global.{Global}
use Rattle.lalrpop_norm_theory.specs.LoweredTrees as theory
use Rattle.lalrpop_norm_theory.specs.LoweredTrees.{from_start, written, level_step, from_group, star_empty, star_some}
use Rattle.lalrpop_norm_theory.specs.LoweredTrees.{plus_one}
use Rattle.lalrpop_norm_theory.specs.LoweredTrees.{plus_more, question_some, question_empty, from_times}
use Rattle.lalrpop_norm_theory.specs.LoweredTrees.{from_lookahead, from_lookbehind}
use Rattle.lalrpop_norm_origins.specs.declared.origin.Origin.{Origin}
use Rattle.lalrpop_norm_origins.specs.declared.origin.Origin.TheVariants.{Start, Written, LevelStep, Group, StarEmpty}
use Rattle.lalrpop_norm_origins.specs.declared.origin.Origin.TheVariants.{StarSome}
use Rattle.lalrpop_norm_origins.specs.declared.origin.Origin.TheVariants.{PlusOne, PlusMore, QuestionSome, QuestionEmpty}
use Rattle.lalrpop_norm_origins.specs.declared.origin.Origin.TheVariants.{Times, Lookahead, Lookbehind}

abbrev pub origin_view : Origin → theory.Origin
origin_view Start = from_start
origin_view (Written n k) = written n.0 k
origin_view LevelStep = level_step
origin_view Group = from_group
origin_view StarEmpty = star_empty
origin_view StarSome = star_some
origin_view PlusOne = plus_one
origin_view PlusMore = plus_more
origin_view QuestionSome = question_some
origin_view QuestionEmpty = question_empty
origin_view Times = from_times
origin_view Lookahead = from_lookahead
origin_view Lookbehind = from_lookbehind

abbrev pub origins_view : List Origin → List theory.Origin
origins_view os = map origin_view os

abbrev pub origin_lists : List (Vec Origin Global) → List (List theory.Origin)
origin_lists os = map (λ (v : Vec Origin Global). origins_view v.items) os
