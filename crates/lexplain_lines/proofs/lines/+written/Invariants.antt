use Rattle.std.proofs.Common.{◌≡◌, ◌++◌, drop, string_bytes}
use Rattle.lalrpop_norm_explain.specs.Trees.{written_views}
use Rattle.lexplain_lines.specs.TreeLines.{all_written_lines}
use Rattle.lexplain_lines.proofs.lines.+written.Given as goal

-- what is written, and what the trees that are left will add
abbrev pub invariant-push_all_written-loop-tree : goal.invariant-push_all_written-loop-tree
invariant-push_all_written-loop-tree l = string_bytes l.text ++ all_written_lines (written_views (drop l.tree-index l.trees))
    ≡ string_bytes l.initial.text ++ all_written_lines (written_views l.trees)
