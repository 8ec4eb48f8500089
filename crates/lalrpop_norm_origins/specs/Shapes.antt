-- How lists of origins correspond to the rules of a grammar.
use Rattle.std.specs.Prelude.{◌≡◌, List, [], ◌∷◌, length}
use Rattle.lalrpop_norm_tree.specs.Items.{ItemData, rule_item, match_item, extern_item, intern_item, use_item}
use Rattle.lalrpop_norm_theory.specs.LoweredTrees.{Origin}

-- one list for each rule, and in it one origin for each alternative
abbrev pub IsShaped : List ItemData → List (List Origin) → Type 0
IsShaped [] [] = Unit {0}
IsShaped [] (os ∷ oss) = ⊥
IsShaped (rule_item r ∷ items) [] = ⊥
IsShaped (rule_item r ∷ items) (os ∷ oss) = (length r.alternatives ≡ length os) × IsShaped items oss
IsShaped (match_item m ∷ items) oss = IsShaped items oss
IsShaped (extern_item t ∷ items) oss = IsShaped items oss
IsShaped (intern_item t ∷ items) oss = IsShaped items oss
IsShaped (use_item u ∷ items) oss = IsShaped items oss
