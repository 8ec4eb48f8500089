use Rattle.std.proofs.Common.{List, map, ◌++◌, ap, ◌∙◌}
use Rattle.std.specs.Prelude.{filter_map, option_to_list}
use Rattle.lalrpop_norm_tree.specs.declared.items.Alternative.{Alternative}
use Rattle.lalrpop_norm_tree.specs.Items.{alternative_view}
use Rattle.lalrpop_norm_model.specs.TypeRelation.{alternative_clause}
use Rattle.lalrpop_norm_tyinfer_steps.specs.Clauses.{clause_view}
use Rattle.lalrpop_norm_common.proofs.ListLemmas.{first_of_some, next_collected}
use Rattle.lalrpop_norm_tyinfer_steps.proofs.type_sources.alternative_clauses.Goals as goal

pub loop-alternative-preserved : goal.loop-alternative-preserved
loop-alternative-preserved c =
    next_collected (λ (xs : List Alternative). filter_map alternative_clause (map alternative_view xs)) (λ (x : Alternative). option_to_list (alternative_clause (alternative_view x)))
    (λ x xs. first_of_some alternative_clause (alternative_view x) (map alternative_view xs))
    c.args.alternatives.now c.loop-alternative.alternative-index c.alternative-item.result (map clause_view c.loop-alternative.clauses.items) (map clause_view c.add_clause.new.clauses.items) _
    c.loop-alternative-test.true c.alternative-item.is (c.in_ok-add_clause.ensures ∙ ap (λ o. map clause_view c.loop-alternative.clauses.items ++ option_to_list o) c.in_ok-alternative_clause.ensures) c.loop-alternative.invariant
