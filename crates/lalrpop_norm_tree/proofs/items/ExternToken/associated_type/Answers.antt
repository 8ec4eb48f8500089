use Rattle.std.proofs.Common.{ap, sym, ◌∙◌}
use Rattle.lalrpop_norm_tree.specs.Accessors.{first_of, type_named}
use Rattle.lalrpop_norm_tree.specs.Items.{associated_type_view}
use Rattle.lalrpop_norm_tree.proofs.FirstLemmas.{first_of-map}
use Rattle.lalrpop_norm_tree.proofs.items.ExternToken.associated_type.Goals as goal

pub returns : goal.returns
returns c =
    c.first_type.ensures
    ∙ ap (first_of (λ t. type_named c.args.name.now (associated_type_view t))) c.deref.ensures.value
    ∙ sym (first_of-map (type_named c.args.name.now) associated_type_view c.args.self.now.associated_types.items)
