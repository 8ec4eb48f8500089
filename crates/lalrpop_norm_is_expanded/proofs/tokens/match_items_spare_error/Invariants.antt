use Rattle.std.proofs.Common.{◌≡◌, drop}
use Rattle.lalrpop_norm_is_expanded.specs.Tokens.{group_spares_error}
use Rattle.lalrpop_norm_is_expanded.proofs.tokens.match_items_spare_error.Given as goal

abbrev pub invariant-loop-item : goal.invariant-loop-item
invariant-loop-item l = group_spares_error (drop l.item-index l.items) ≡ group_spares_error l.items
