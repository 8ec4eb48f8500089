use Rattle.std.proofs.Common.{sym, ap, ◌∙◌, option_map}
use Rattle.lalrpop_norm_nodes.specs.Wholes.{nodes_of}
use Rattle.lalrpop_norm_nodes.specs.Tables.{wholes_in}
use Rattle.lalrpop_norm_nodes.proofs.NodePartLemmas.{row_of_call_is, no_node}
use Rattle.lalrpop_norm_nodes.proofs.parts.arguments_row.Goals as goal

pub returns-in-Some : goal.returns-in-Some
returns-in-Some c =
    let t = c.args.table.now in
    let h =
    row_of_call_is (nodes_of t.nodes) (wholes_in t) c.requires.table.nodes c.args.number c.in-Some.node.now
    (ap (option_map (λ n. n.now)) (sym c.in-Some.is) ∙ c.node.ensures) c.requires.stands c.requires.call in
    rw c.row_of_call.ensures (record { row = h.row; kinds = h.kinds })

pub returns-in-None : goal.returns-in-None
returns-in-None c =
    let t = c.args.table.now in
    absurd (no_node (nodes_of t.nodes) (wholes_in t) c.requires.table.nodes c.args.number _ (ap (option_map (λ n. n.now)) (sym c.in-None.is) ∙ c.node.ensures) c.requires.stands)
