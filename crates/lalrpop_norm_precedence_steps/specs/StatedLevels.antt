-- Levels and associativities as they are held, and whether several levels are among them.
use Rattle.std.specs.Prelude.{ℕ, Bool, false, not, nat_eq, List, [], ◌∷◌, Result, Ok, Err}
use Rattle.std.specs.List.{list_any}
use Rattle.lalrpop_norm_model.specs.Levels.{Side}
use Rattle.lalrpop_norm_precedence_steps.specs.declared.levels.AlternativeLevel.{AlternativeLevel}
use Rattle.lalrpop_norm_precedence_steps.specs.Sides.{side_of}

abbrev pub alternative_level_view : AlternativeLevel → ℕ × Side
alternative_level_view a = (a.level, side_of a.side)

-- some number is another than the first
abbrev pub differ : List ℕ → Bool
differ [] = false
differ (l ∷ ls) = list_any (λ m. not (nat_eq m l)) (l ∷ ls)

-- whether there is an answer, and why there is none
abbrev pub without_value : {T E : Type 0} → Result T E → Result Unit E
without_value (Ok x) = Ok tt
without_value (Err e) = Err e
