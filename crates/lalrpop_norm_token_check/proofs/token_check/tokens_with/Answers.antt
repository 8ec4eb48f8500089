use Rattle.std.proofs.Common.{List, sym, subst}
use Rattle.std.specs.List.Sorted.{IsStrictlySortedBy}
use Rattle.lalrpop_norm_tree.specs.declared.items.MatchEntry.{MatchEntry}
use Rattle.lalrpop_norm_model.specs.Entries.{AreEntries, entry_cmp}
use Rattle.lalrpop_norm_token_check.proofs.ExitLemmas.{exit_match}
use Rattle.lalrpop_norm_token_check.proofs.token_check.tokens_with.Goals as goal

pub returns-in_err-dfa : goal.returns-in_err-dfa
returns-in_err-dfa g c = λ grammar whole.
    let same = c.in_ok-match_entries.ensures.entries in
    let has = whole (subst (λ (es : List MatchEntry). IsStrictlySortedBy entry_cmp es) same c.in_ok-match_entries.ensures.rising) in
    let are = subst (AreEntries grammar) (sym same) has.entries_all in
    exit_match _ c.in_err-dfa.field-0.0 _ _ c.from_residual-in_err-dfa.ensures.1
    (c.in_err-dfa.ensures.refused grammar (rw c.deref.ensures.value are) has.where_they_stand)

pub returns : goal.returns
returns g c = λ grammar whole.
    let same = c.in_ok-match_entries.ensures.entries in
    let has = whole (subst (λ (es : List MatchEntry). IsStrictlySortedBy entry_cmp es) same c.in_ok-match_entries.ensures.rising) in
    record {
      entries = subst (AreEntries grammar) (sym same) has.entries_all;
      automaton = rw c.deref.ensures.value at c.in_ok-dfa.ensures.built;
    }
