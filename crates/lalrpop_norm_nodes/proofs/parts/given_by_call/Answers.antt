use Rattle.std.proofs.Common.{map, ap, ◌∙◌, Some}
use Rattle.std.proofs.lemmas.Result.{IfOk-weaker}
use Rattle.lalrpop_norm_tree_parts.proofs.KnownTextLemmas.{map_twice}
use Rattle.lalrpop_norm_tree.specs.Symbols.{Kind}
use Rattle.lalrpop_norm_model.specs.MadeRules.{kind_of}
use Rattle.lalrpop_norm_nodes.specs.Tables.{wholes_in}
use Rattle.lalrpop_norm_nodes.specs.Wholes.{one_symbol, symbols_at}
use Rattle.lalrpop_norm_nodes.proofs.parts.given_by_call.Goals as goal

pub returns-clause-numbers : goal.returns-clause-numbers
returns-clause-numbers c =
    IfOk-weaker c.given_in_row.result _ _
    (λ gs h. h ∙ map_twice (λ (k : Kind). Some (one_symbol k)) kind_of (symbols_at (wholes_in c.args.table.now) c.arguments_row-row.result)
    ∙ ap (map (λ (k : Kind). Some (one_symbol k))) c.arguments_row-row.ensures.kinds)
    c.given_in_row.ensures.numbers
