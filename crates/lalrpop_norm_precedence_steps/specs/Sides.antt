-- Associativities (`Side`) as the code names them.
use Rattle.lalrpop_norm_model.specs.Levels.{Side, left, right, neither, every}
use Rattle.lalrpop_norm_precedence_steps.specs.declared.assoc.Assoc.{Assoc}
use Rattle.lalrpop_norm_precedence_steps.specs.declared.assoc.Assoc.TheVariants.{Left, Right, NonAssoc, FullyAssoc}

abbrev pub side_of : Assoc → Side
side_of Left = left
side_of Right = right
side_of NonAssoc = neither
side_of FullyAssoc = every
