use Rattle.std.proofs.Common.{◌≡◌, drop}
use Rattle.lalrpop_norm_model.specs.Entries.{has_catch_all}
use Rattle.lalrpop_norm_common.proofs.match_block.has_catch_all.Given as goal

abbrev pub invariant-loop-item : goal.invariant-loop-item
invariant-loop-item l = has_catch_all (drop l.item-index l.items) ≡ has_catch_all l.items
