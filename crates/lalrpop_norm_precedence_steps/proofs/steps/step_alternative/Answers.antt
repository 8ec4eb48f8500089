use Rattle.std.proofs.Common.{[], ◌∷◌, ◌++◌, None, ap, ap₂, ◌∙◌}
use Rattle.lalrpop_norm_tree_parts.specs.Attributes.{Attributes, attributes_view}
use Rattle.lalrpop_norm_tree.specs.declared.symbol.Symbol.{Symbol}
use Rattle.lalrpop_norm_tree.specs.declared.symbol.SymbolKind.TheVariants.{Nonterminal}
use Rattle.lalrpop_norm_tree.specs.Items.{AlternativeData}
use Rattle.lalrpop_norm_tree.specs.Symbols.{Parts, parts_view, part_and, no_parts, at}
use Rattle.lalrpop_norm_tree.proofs.SymbolViews.{group_seen, symbol_seen, nonterminal_seen}
use Rattle.lalrpop_norm_precedence_steps.proofs.steps.step_alternative.Goals as goal

pub returns : goal.returns
returns c =
    let made : Parts → Attributes → AlternativeData = λ ps ats. record { span = c.args.span; parts = ps; condition = None; action = None; attributes = ats } in
    let step : Symbol = record { span = c.args.span; kind = Nonterminal c.args.name } in
    let symbols = c.in_ok-push.ensures.items ∙ ap (λ ss. ss ++ step ∷ []) c.in_ok-symbols.ensures.items in
    ap₂ made
    (group_seen c.push.new.self ∙ ap parts_view symbols ∙ ap (λ s. part_and s no_parts) (symbol_seen c.args.span (Nonterminal c.args.name) ∙ ap (at c.args.span) (nonterminal_seen c.args.name)))
    (ap attributes_view c.new.ensures.items)
