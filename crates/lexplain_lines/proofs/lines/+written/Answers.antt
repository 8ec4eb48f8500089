use Rattle.std.proofs.Common.{◌≡◌, ◌++◌, OnOk, length, string_bytes, sym, ap, subst, ◌∙◌}
use Rattle.lalrpop_norm_explain.specs.declared.trees.WrittenTree.{WrittenTree}
use Rattle.lalrpop_norm_explain.specs.Trees.{written_view, written_views}
use Rattle.lexplain_lines.specs.TreeLines.{written_lines, all_written_lines}
use Rattle.lexplain_lines.proofs.LineLemmas.{written_node_told}
use Rattle.lexplain_lines.proofs.lines.+written.Goals as goal

pub push_written-returns-in_ok-push_all_written-in-Node : goal.push_written-returns-in_ok-push_all_written-in-Node
push_written-returns-in_ok-push_all_written-in-Node t c =
    let text = string_bytes c.args.text.now in
    subst (λ (x : WrittenTree). OnOk c.push_node.result (string_bytes c.push_node.new.text ≡ text ++ written_lines (written_view x))) (sym c.in-Node.is)
    (written_node_told c.push_node.result text (string_bytes c.push_all_written-in-Node.new.text) (string_bytes c.push_node.new.text)
    c.in-Node.rule c.in-Node.alternative c.in-Node.children c.len.result (c.len.ensures ∙ sym c.deref-in-Node.ensures.len ∙ ap length c.deref-in-Node.ensures.value)
    (c.in_ok-push_all_written-in-Node.ensures ∙ ap (λ ts. text ++ all_written_lines (written_views ts)) c.deref-in-Node.ensures.value)
    c.push_node.ensures)
