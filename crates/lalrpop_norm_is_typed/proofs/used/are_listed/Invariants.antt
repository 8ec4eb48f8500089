use Rattle.std.proofs.Common.{◌≡◌, drop}
use Rattle.lalrpop_norm_tree.specs.Symbols.{parts_view}
use Rattle.lalrpop_norm_common.specs.Sessions.{features_view}
use Rattle.lalrpop_norm_is_typed.specs.Terminals.{source_view}
use Rattle.lalrpop_norm_is_typed.specs.Used.{are_listed}
use Rattle.lalrpop_norm_is_typed.proofs.used.are_listed.Given as goal

abbrev pub invariant-loop-symbol : goal.invariant-loop-symbol
invariant-loop-symbol g l = are_listed (features_view l.session.features) (source_view l.source) (parts_view (drop l.symbol-index l.symbols)) ≡ are_listed (features_view l.session.features) (source_view l.source) (parts_view l.symbols)
