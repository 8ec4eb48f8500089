use Rattle.std.proofs.Common.{◌≡◌, None, take}
use Rattle.lalrpop_norm_tree.specs.Accessors.{first_of, type_named}
use Rattle.lalrpop_norm_tree.specs.Items.{associated_type_view}
use Rattle.lalrpop_norm_tree.proofs.items.accessors.first_type.Given as goal

abbrev pub invariant-loop-ty : goal.invariant-loop-ty
invariant-loop-ty l = first_of (λ i. type_named l.name (associated_type_view i)) (take l.ty-index l.types) ≡ None
