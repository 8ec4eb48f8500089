use Rattle.std.proofs.Common.{◌≡◌, List, rules, subst, sym}
use Rattle.std.specs.List.Sorted.{IsStrictlySortedBy}
use Rattle.lalrpop_norm_tree.specs.declared.items.MatchEntry.{MatchEntry}
use Rattle.lalrpop_norm_model.specs.Entries.{entry_cmp}
use Rattle.lalrpop_norm_token_check.proofs.OrderLemmas.{entry_order}
use Rattle.lalrpop_norm_token_check.proofs.token_check.in_order.Goals as goal

pub returns-clause-rising : goal.returns-clause-rising
returns-clause-rising c =
    let same : c.loop-entry.ordered.items ≡ c.args.entries.keys = search rules in
    let sorted = subst (λ cmp. IsStrictlySortedBy cmp c.args.entries.keys) entry_order c.into_iter-entry-iterator.ensures.into_iter_gives.4 in
    subst (λ (es : List MatchEntry). IsStrictlySortedBy entry_cmp es) (sym same) sorted
