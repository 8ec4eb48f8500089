use Rattle.std.proofs.Common.{◌≡◌, None, map, take}
use Rattle.lalrpop_norm_tree.specs.Symbols.{symbol_view}
use Rattle.lalrpop_norm_model.specs.MadeRules.{substituted}
use Rattle.lalrpop_norm_macro_expand_rules.proofs.copied.+copied.Given as goal

abbrev pub invariant-all_copied-loop-symbol : goal.invariant-all_copied-loop-symbol
invariant-all_copied-loop-symbol l =
    map symbol_view l.all.items ≡ map (λ s. substituted (λ n. None) (symbol_view s)) (take l.symbol-index l.symbols)
