use Rattle.std.proofs.Common.{map, None, ap, ◌∙◌, sym, arith}
use Rattle.std.proofs.lemmas.List.{take_all}
use Rattle.lalrpop_norm_tree.specs.declared.symbol.Symbol.{Symbol}
use Rattle.lalrpop_norm_tree.specs.Symbols.{symbol_view, parts_of}
use Rattle.lalrpop_norm_model.specs.MadeRules.{substituted}
use Rattle.lalrpop_norm_macro_expand_rules.proofs.InstanceLemmas.{all_substituted_are}
use Rattle.lalrpop_norm_macro_expand_rules.proofs.copied.+copied.Goals as goal

pub all_copied-returns : goal.all_copied-returns
all_copied-returns t c =
    ap parts_of
    (c.loop-symbol.invariant
    ∙ ap (λ ss. map (λ (s : Symbol). substituted (λ n. None) (symbol_view s)) ss) (take_all c.loop-symbol.symbol-index c.args.symbols.now (omega arith)))
    ∙ sym (all_substituted_are (λ n. None) c.args.symbols.now)
