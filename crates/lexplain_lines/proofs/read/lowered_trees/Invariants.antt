use Rattle.lalrpop_norm_explain.specs.Trees.{lowered_views}
use Rattle.lexplain_lines.specs.LineForms.{all_lowered_forms}
use Rattle.lexplain_lines.proofs.SoFar.{AreSoFar}
use Rattle.lexplain_lines.proofs.read.lowered_trees.Given as goal

-- the trees so far are those of the lines that were read
abbrev pub invariant-loop-line : goal.invariant-loop-line
invariant-loop-line l =
    (goal.iterator-loop-line).can_next l.line-iterator ×
    (goal.iterator-loop-line).is_finite l.line-iterator ×
    AreSoFar l.lines l.line-iterator (all_lowered_forms (lowered_views l.trees.items))
