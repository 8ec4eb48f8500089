-- Lists of the levels of a rule, computed: its first and third alternative have level 1, the second has level 2.
use Rattle.std.proofs.Common.{◌≡◌, ℕ, false, List, [], ◌∷◌, refl}
use Rattle.std.specs.Prelude.{codes}
use Rattle.lalrpop_norm_theory.specs.Symbols.{Name}
use Rattle.lalrpop_norm_theory.specs.LoweredTrees.{Origin, written, level_step}
use Rattle.lalrpop_norm_precedence.specs.LevelLists.{picked, stepped_lists}

abbrev e_name : Name
e_name = codes "E"

abbrev levels : List ℕ
levels = 1 ∷ (2 ∷ (1 ∷ []))

abbrev origins : List Origin
origins = written e_name 0 ∷ (written e_name 1 ∷ (written e_name 2 ∷ []))

lowest_level : picked 1 levels origins ≡ written e_name 0 ∷ (written e_name 2 ∷ [])
lowest_level = refl

level_above : picked 2 levels origins ≡ written e_name 1 ∷ []
level_above = refl

step_on_the_level_above : stepped_lists false (picked 1 levels origins ∷ (picked 2 levels origins ∷ []))
    ≡ (written e_name 0 ∷ (written e_name 2 ∷ [])) ∷ ((written e_name 1 ∷ (level_step ∷ [])) ∷ [])
step_on_the_level_above = refl
