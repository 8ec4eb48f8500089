-- Origins of indices, computed.
use Rattle.std.proofs.Common.{◌≡◌, ℕ, List, [], ◌∷◌, Option, Some, None, refl}
use Rattle.std.specs.Prelude.{codes}
use Rattle.lalrpop_norm_theory.specs.Symbols.{Name}
use Rattle.lalrpop_norm_theory.specs.LoweredTrees.{written}
use Rattle.lalrpop_norm_origins.specs.EnabledOrigins.{places_from}

abbrev s_name : Name
s_name = codes "S"

-- the second of three alternatives is disabled: the third keeps its number
abbrev places : List (Option ℕ)
places = Some 7 ∷ (None ∷ (Some 8 ∷ []))

third_keeps_its_number : places_from s_name 0 places ≡ written s_name 0 ∷ (written s_name 2 ∷ [])
third_keeps_its_number = refl
