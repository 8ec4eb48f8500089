use Rattle.std.proofs.Common.{ap, ◌∙◌}
use Rattle.lalrpop_norm_tree.specs.Symbols.{Again, repeat_view, repeated}
use Rattle.lalrpop_norm_tree.proofs.SymbolViews.{repeated_seen, repeat_seen}
use Rattle.lalrpop_norm_macro_expand_rules.proofs.rules.repeat_of.Goals as goal

pub returns : goal.returns
returns c =
    repeated_seen c.in_ok-repeat.repeat
    ∙ ap (λ r. repeated (repeat_view r).0 (repeat_view r).1) c.in_ok-repeat.ensures.ok
    ∙ ap (λ (a : Again). repeated a.0 a.1) (repeat_seen c.args.op c.args.symbol)
