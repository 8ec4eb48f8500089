use Rattle.std.proofs.Common.{◌≡◌, ◌++◌, drop, string_bytes}
use Rattle.lalrpop_norm_explain.specs.Trees.{lowered_views}
use Rattle.lexplain_lines.specs.TreeLines.{all_lowered_lines}
use Rattle.lexplain_lines.proofs.lines.+lowered.Given as goal

-- what is written, and what the trees that are left will add
abbrev pub invariant-push_all_lowered-loop-tree : goal.invariant-push_all_lowered-loop-tree
invariant-push_all_lowered-loop-tree l = string_bytes l.text ++ all_lowered_lines (lowered_views (drop l.tree-index l.trees))
    ≡ string_bytes l.initial.text ++ all_lowered_lines (lowered_views l.trees)
