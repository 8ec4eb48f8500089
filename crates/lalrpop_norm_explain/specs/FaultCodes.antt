-- The error codes of faults of trees.
use Rattle.std.specs.Prelude.{ℕ, List, codes}
use Rattle.lalrpop_norm_explain.specs.declared.errors.ExplainFault.{ExplainFault}
use Rattle.lalrpop_norm_explain.specs.declared.errors.ExplainFault.TheVariants.{Root, Production, Child, Shape}

-- the error code of a fault
abbrev pub tree_fault_code : ExplainFault → List ℕ
tree_fault_code Root = codes "X1"
tree_fault_code Production = codes "X2"
tree_fault_code Child = codes "X3"
tree_fault_code Shape = codes "X4"
