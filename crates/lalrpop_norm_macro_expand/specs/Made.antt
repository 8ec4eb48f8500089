-- Symbols that were desugared, by their ids.
use Rattle.std.specs.Prelude.{◌≡◌, ℕ, List, map}
use Rattle.lalrpop_norm_tree.specs.Symbols.{symbol_view}
use Rattle.lalrpop_norm_tree.specs.Items.{GrammarData, RuleData}
use Rattle.lalrpop_norm_conditions.specs.Conditions.{comparison}
use Rattle.lalrpop_norm_model.specs.PlainRules.{macros_of, made_symbols}
use Rattle.lalrpop_norm_nodes.specs.Apart.{unplaced}
use Rattle.lalrpop_norm_nodes.specs.declared.table.Waiting.{Waiting}
use Rattle.lalrpop_norm_nodes.specs.Wholes.{Whole, part_at}
use Rattle.lalrpop_norm_macro_expand.specs.declared.macro_expand.make.MadeSymbol.{MadeSymbol}
use Rattle.lalrpop_norm_macro_expand.specs.Kept.{kept_by}

abbrev pub made_view : MadeSymbol → ℕ × List ℕ
made_view m = (m.number, m.kept.items)

-- the id of a symbol on the worklist, and the indices of the alternatives that its rule will have
abbrev pub made_for : List RuleData → Waiting → ℕ × List ℕ
made_for macros w = (w.number, kept_by comparison macros (symbol_view w.symbol))

-- They are the symbols that are desugared in the first `count` rounds, up to spans, in the order of their rules. Each has the
-- indices of the alternatives that its rule has of a macro.
pub record AreMade (ws : List Whole) (g : GrammarData) (count : ℕ) (made : List MadeSymbol) : Type 0 where
  pub symbols : map (λ m. part_at ws m.number) made ≡ map unplaced (made_symbols comparison g count)
  pub kept : map (λ m. m.kept.items) made ≡ map (kept_by comparison (macros_of g)) (made_symbols comparison g count)
