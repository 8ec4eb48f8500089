use Rattle.std.proofs.Common.{IfOk, sym, subst, ◌∙◌}
use Rattle.std.specs.BTreeMap.{IsFromIterResult}
use Rattle.std.specs.List.Sorted.{IsStrictlySortedBy}
use Rattle.std.proofs.lemmas.Iterator.Adapters.{fact_from_collect, YieldsList-from_vec}
use Rattle.std.proofs.lemmas.Map.Made.{keys_of-map_values}
use Rattle.lalrpop_norm_repr.specs.Orders.{name_cmp}
use Rattle.lalrpop_norm_shared_types.specs.Shared.{shared_view}
use Rattle.lalrpop_norm_shared_types.proofs.MadeRows.{found_in_made}
use Rattle.lalrpop_norm_shared_types.proofs.table.SharedTypes.of_rows.Goals as goal

-- the map is made of the rows
made : (c : goal.In_ok-nonterminals) → IsFromIterResult name_cmp c.args.listed.items c.in_ok-nonterminals.nonterminals
made c =
    subst (λ r. IfOk r (λ m. IsFromIterResult name_cmp c.args.listed.items m)) c.in_ok-nonterminals.was
    (fact_from_collect (IsFromIterResult name_cmp) c.collect.result c.collect.ensures.ran
    (YieldsList-from_vec c.args.listed.items c.into_iter.ensures.rest (c.into_iter.ensures.len ∙ c.args.listed.ok.0)))

pub returns-clause-listed : goal.returns-clause-listed
returns-clause-listed c = λ n. found_in_made shared_view c.args.listed.items c.in_ok-nonterminals.nonterminals n c.requires ((made c).0 n)

pub returns-clause-names_in_order : goal.returns-clause-names_in_order
returns-clause-names_in_order c =
    subst (IsStrictlySortedBy name_cmp) (sym (keys_of-map_values shared_view c.in_ok-nonterminals.nonterminals.entries)) (made c).1
