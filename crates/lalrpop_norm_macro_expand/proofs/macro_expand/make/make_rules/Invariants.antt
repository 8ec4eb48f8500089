use Rattle.std.proofs.Common.{◌≡◌, ◌++◌, map}
use Rattle.std.specs.Prelude.{reverse}
use Rattle.std.specs.List.{flat_map}
use Rattle.lalrpop_norm_tree.specs.Symbols.{symbol_view}
use Rattle.lalrpop_norm_tree.specs.Items.{item_view}
use Rattle.lalrpop_norm_nodes.specs.NodeParts.{AreWaiting}
use Rattle.lalrpop_norm_nodes.specs.Tables.{wholes_in}
use Rattle.lalrpop_norm_macro_expand_rules.specs.Macros.{macros_in}
use Rattle.lalrpop_norm_macro_expand_rules.specs.Generated.{item_of, filling_of, filling_view, AreReadable}
use Rattle.lalrpop_norm_macro_expand.specs.Expansion.{unmade}
use Rattle.lalrpop_norm_macro_expand.specs.Made.{made_view, made_for}
use Rattle.lalrpop_norm_macro_expand.specs.Making.{generated_for}
use Rattle.lalrpop_norm_macro_expand.proofs.macro_expand.make.make_rules.Given as goal

abbrev pub invariant-loop-symbol : goal.invariant-loop-symbol
invariant-loop-symbol l = record {
  waiting : AreWaiting (wholes_in l.table) l.symbol-iterator.rest.items;
  refuses : flat_map (λ w. unmade (macros_in l.makers.macros) (symbol_view w.symbol)) l.symbol-iterator.rest.items
      ≡ flat_map (λ w. unmade (macros_in l.makers.macros) (symbol_view w.symbol)) (reverse l.fn.waiting.items);
  rules : map item_view l.done.items ++ map item_of (flat_map (generated_for (wholes_in l.table) (macros_in l.makers.macros)) l.symbol-iterator.rest.items)
      ≡ map item_view l.fn.done.items ++ map item_of (flat_map (generated_for (wholes_in l.table) (macros_in l.makers.macros)) (reverse l.fn.waiting.items));
  fillings : map (filling_view (wholes_in l.table)) l.fillings.items ++ map filling_of (flat_map (generated_for (wholes_in l.table) (macros_in l.makers.macros)) l.symbol-iterator.rest.items)
      ≡ map filling_of (flat_map (generated_for (wholes_in l.table) (macros_in l.makers.macros)) (reverse l.fn.waiting.items));
  readable : AreReadable (wholes_in l.table) l.fillings.items;
  made : map made_view l.made.items ++ map (made_for (macros_in l.makers.macros)) l.symbol-iterator.rest.items
      ≡ map made_view l.fn.made.items ++ map (made_for (macros_in l.makers.macros)) (reverse l.fn.waiting.items);
}
