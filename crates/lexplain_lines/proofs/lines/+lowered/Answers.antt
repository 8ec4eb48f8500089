use Rattle.std.proofs.Common.{◌≡◌, ◌++◌, OnOk, length, string_bytes, sym, ap, subst, ◌∙◌}
use Rattle.lalrpop_norm_explain.specs.declared.trees.LoweredTree.{LoweredTree}
use Rattle.lalrpop_norm_explain.specs.Trees.{lowered_view, lowered_views}
use Rattle.lexplain_lines.specs.TreeLines.{lowered_lines, all_lowered_lines}
use Rattle.lexplain_lines.proofs.LineLemmas.{lowered_node_told}
use Rattle.lexplain_lines.proofs.lines.+lowered.Goals as goal

pub push_lowered-returns-in_ok-push_all_lowered-in-Node : goal.push_lowered-returns-in_ok-push_all_lowered-in-Node
push_lowered-returns-in_ok-push_all_lowered-in-Node t c =
    let text = string_bytes c.args.text.now in
    subst (λ (x : LoweredTree). OnOk c.push_node.result (string_bytes c.push_node.new.text ≡ text ++ lowered_lines (lowered_view x))) (sym c.in-Node.is)
    (lowered_node_told c.push_node.result text (string_bytes c.push_all_lowered.new.text) (string_bytes c.push_node.new.text)
    c.in-Node.nonterminal c.in-Node.production c.in-Node.children c.len.result (c.len.ensures ∙ sym c.deref.ensures.len ∙ ap length c.deref.ensures.value)
    (c.in_ok-push_all_lowered-in-Node.ensures ∙ ap (λ ts. text ++ all_lowered_lines (lowered_views ts)) c.deref.ensures.value)
    c.push_node.ensures)
