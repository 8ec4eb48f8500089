use Rattle.std.proofs.Common.{ap, sym, ◌∙◌, option_map}
use Rattle.lalrpop_norm_tree.specs.declared.symbol.Symbol.{Symbol}
use Rattle.lalrpop_norm_tree.specs.Symbols.{kind_view}
use Rattle.lalrpop_norm_macro_expand_rules.proofs.substituted.kind_bound.Goals as goal

pub returns-in-Some : goal.returns-in-Some
returns-in-Some c = ap (option_map (λ (s : Symbol). kind_view s.kind)) (sym (ap (option_map (λ s. s.now)) c.in-Some.is) ∙ c.symbol_bound.ensures)

pub returns-in-None : goal.returns-in-None
returns-in-None c = ap (option_map (λ (s : Symbol). kind_view s.kind)) (sym (ap (option_map (λ s. s.now)) c.in-None.is) ∙ c.symbol_bound.ensures)
