use Rattle.std.proofs.Common.{ap, sym, ◌∙◌}
use Rattle.lalrpop_norm_tree.specs.Accessors.{first_of, match_token_of}
use Rattle.lalrpop_norm_tree.specs.Items.{item_view}
use Rattle.lalrpop_norm_tree.proofs.FirstLemmas.{first_of-map}
use Rattle.lalrpop_norm_tree.proofs.items.Grammar.match_token.Goals as goal

pub returns : goal.returns
returns c =
    c.first_match.ensures
    ∙ ap (first_of (λ i. match_token_of (item_view i))) c.deref.ensures.value
    ∙ sym (first_of-map match_token_of item_view c.args.self.now.items.items)
