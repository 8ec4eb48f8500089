use Rattle.std.proofs.Common.{sym, ap, ◌∙◌, option_map}
use Rattle.std.proofs.lemmas.Result.{IfOk-weaker}
use Rattle.lalrpop_norm_nodes.specs.Wholes.{nodes_of}
use Rattle.lalrpop_norm_nodes.specs.Tables.{wholes_in}
use Rattle.lalrpop_norm_macro_expand.specs.TracedRules.{list_under, node_lists}
use Rattle.lalrpop_norm_macro_expand.proofs.TracedLemmas.{node_is_kind, no_node_no_list}
use Rattle.lalrpop_norm_macro_expand.proofs.macro_expand.made_origins.symbol_origins.Goals as goal

pub returns-in-Some : goal.returns-in-Some
returns-in-Some c =
    let t = c.args.table.now in
    let m = c.args.made.now in
    let f = list_under c.args.macros.now in
    let there = ap (option_map (λ n. n.now)) (sym c.in-Some.is) ∙ c.node.ensures in
    IfOk-weaker c.node_origins.result _ _
    (λ o h. h ∙ ap (λ is. node_lists f is c.in-Some.node.now) c.deref.ensures.value
    ∙ node_is_kind (nodes_of t.nodes) (wholes_in t) c.requires.nodes f m.kept.items m.number c.in-Some.node.now (sym there))
    c.node_origins.ensures

pub returns-in-None : goal.returns-in-None
returns-in-None c =
    let t = c.args.table.now in
    let m = c.args.made.now in
    no_node_no_list (nodes_of t.nodes) (wholes_in t) c.requires.nodes (list_under c.args.macros.now) m.kept.items m.number
    (sym (ap (option_map (λ n. n.now)) (sym c.in-None.is) ∙ c.node.ensures))
