use Rattle.std.proofs.Common.{sym}
use Rattle.lalrpop_norm_tree.specs.Accessors.{type_named}
use Rattle.lalrpop_norm_tree.specs.Items.{associated_type_view}
use Rattle.lalrpop_norm_tree.proofs.FirstLemmas.{first_found, first_missing}
use Rattle.lalrpop_norm_tree.proofs.items.accessors.first_type.Goals as goal

pub returns-in-Some : goal.returns-in-Some
returns-in-Some c =
    sym (first_found (λ t. type_named c.args.name.now (associated_type_view t)) c.args.types.now c.loop-ty.ty-index c.ty-item.result (associated_type_view c.in-Some.found.now) c.loop-ty-test.true c.loop-ty.invariant (rw (← c.ty-item.is) (sym c.in-Some.ensures)))

pub loop-ty-preserved : goal.loop-ty-preserved
loop-ty-preserved c =
    first_missing (λ t. type_named c.args.name.now (associated_type_view t)) c.args.types.now c.loop-ty.ty-index c.ty-item.result c.loop-ty-test.true c.loop-ty.invariant (rw (← c.ty-item.is) (sym c.in_default.ensures))
