use Rattle.std.proofs.Common.{◌≡◌, drop}
use Rattle.lalrpop_norm_tree.specs.Symbols.{parts_view}
use Rattle.lalrpop_norm_model.specs.TokenFaults.{places_in_parts}
use Rattle.lalrpop_norm_token_check.proofs.token_check.uses.first_use.Given as goal

abbrev pub invariant-loop-index : goal.invariant-loop-index
invariant-loop-index l = places_in_parts (parts_view (drop l.index l.symbols)) ≡ places_in_parts (parts_view l.symbols)
