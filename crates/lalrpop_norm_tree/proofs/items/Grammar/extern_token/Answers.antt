use Rattle.std.proofs.Common.{ap, sym, ◌∙◌}
use Rattle.lalrpop_norm_tree.specs.Accessors.{first_of, extern_token_of}
use Rattle.lalrpop_norm_tree.specs.Items.{item_view}
use Rattle.lalrpop_norm_tree.proofs.FirstLemmas.{first_of-map}
use Rattle.lalrpop_norm_tree.proofs.items.Grammar.extern_token.Goals as goal

pub returns : goal.returns
returns c =
    c.first_extern.ensures
    ∙ ap (first_of (λ i. extern_token_of (item_view i))) c.deref.ensures.value
    ∙ sym (first_of-map extern_token_of item_view c.args.self.now.items.items)
