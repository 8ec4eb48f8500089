use Rattle.std.proofs.Common.{◌≡◌, ◌++◌, drop}
use Rattle.std.specs.List.{flat_map}
use Rattle.lalrpop_norm_model.specs.TokenFaults.{names_mapped_by}
use Rattle.lalrpop_norm_tyinfer_steps.proofs.named.add_items.Given as goal

abbrev pub invariant-loop-item : goal.invariant-loop-item
invariant-loop-item l = l.names.items ++ flat_map names_mapped_by (drop l.item-index l.items) ≡ l.initial.names.items ++ flat_map names_mapped_by l.items
