use Rattle.std.proofs.Common.{◌≡◌, drop, map}
use Rattle.lalrpop_norm_tree.specs.Symbols.{symbol_view}
use Rattle.lalrpop_norm_model.specs.Sources.{Source}
use Rattle.lalrpop_norm_lower_steps.specs.Counts.{end_of}
use Rattle.lalrpop_norm_lower_steps.proofs.refusals.end_of.Given as goal

abbrev pub invariant-loop-symbol : goal.invariant-loop-symbol
invariant-loop-symbol l =
    end_of l.end (map (λ t. let s : Source = record { place = t.0; symbol = symbol_view t.1.now } in s) (drop l.symbol-index l.sources))
    ≡ end_of l.fn.before (map (λ t. let s : Source = record { place = t.0; symbol = symbol_view t.1.now } in s) l.sources)
