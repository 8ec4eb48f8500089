use Rattle.std.proofs.Common.{ℕ, Option, sym, ap, subst, ◌∙◌, option_map}
use Rattle.lalrpop_norm_nodes.specs.NodeParts.{EndsRow}
use Rattle.lalrpop_norm_nodes.specs.Wholes.{nodes_of, symbols_at}
use Rattle.lalrpop_norm_nodes.specs.Tables.{wholes_in}
use Rattle.lalrpop_norm_nodes.proofs.NodePartLemmas.{row_ends, no_node}
use Rattle.lalrpop_norm_nodes.proofs.parts.row_end.Goals as goal

pub returns-in-Some : goal.returns-in-Some
returns-in-Some c =
    let t = c.args.table.now in
    subst (λ (o : Option (ℕ × ℕ)). EndsRow (wholes_in t) (symbols_at (wholes_in t) c.args.row) o) (sym c.last_in_row.ensures)
    (row_ends (nodes_of t.nodes) (wholes_in t) c.requires.table.nodes c.args.row c.in-Some.node.now
    (ap (option_map (λ n. n.now)) (sym c.in-Some.is) ∙ c.node.ensures) c.requires.row)

pub returns-in-None : goal.returns-in-None
returns-in-None c =
    let t = c.args.table.now in
    absurd (no_node (nodes_of t.nodes) (wholes_in t) c.requires.table.nodes c.args.row _ (ap (option_map (λ n. n.now)) (sym c.in-None.is) ∙ c.node.ensures) c.requires.row)
