use Rattle.std.proofs.Common.{ap, sym, ◌∙◌}
use Rattle.lalrpop_norm_tree.specs.Accessors.{first_of, intern_token_of}
use Rattle.lalrpop_norm_tree.specs.Items.{item_view}
use Rattle.lalrpop_norm_tree.proofs.FirstLemmas.{first_of-map}
use Rattle.lalrpop_norm_tree.proofs.items.Grammar.intern_token.Goals as goal

pub returns : goal.returns
returns c =
    c.first_intern.ensures
    ∙ ap (first_of (λ i. intern_token_of (item_view i))) c.deref.ensures.value
    ∙ sym (first_of-map intern_token_of item_view c.args.self.now.items.items)
