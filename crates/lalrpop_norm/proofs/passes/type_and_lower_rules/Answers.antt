use Rattle.std.proofs.Common.{subst}
use Rattle.lalrpop_norm_tree.specs.Items as written
use Rattle.lalrpop_norm_faults.specs.Faults.{Refuses}
use Rattle.lalrpop_norm_shared_types.specs.Table.{shared_table}
use Rattle.lalrpop_norm.proofs.PassLemmas.{late_same}
use Rattle.lalrpop_norm.proofs.RulesLemmas.{answered, rules_where}
use Rattle.lalrpop_norm.proofs.passes.type_and_lower_rules.Goals as goal

pub returns-clause-refuses : goal.returns-clause-refuses
returns-clause-refuses c =
    subst (Refuses c.lower_rules.result)
    (late_same (written.grammar_view c.args.plain) (shared_table c.in_ok-types.types) c.requires.distinct_names
    c.in_ok-types.ensures.refuses c.in_ok-types.ensures.inferred)
    c.lower_rules.ensures.refuses

pub returns-clause-lowered : goal.returns-clause-lowered
returns-clause-lowered c = λ fs typed.
    let types = shared_table c.in_ok-types.types in
    answered c.lower_rules.result _ c.lower_rules.ensures.refuses
    (λ lowerable. rules_where (λ l h. record {
      types = types;
      typable = c.in_ok-types.ensures.refuses;
      inferred = c.in_ok-types.ensures.inferred;
      lowerable = lowerable;
      shape = h.0;
      closed = h.1;
    }))
    (c.lower_rules.ensures.lowered fs (typed types c.in_ok-types.ensures.refuses c.in_ok-types.ensures.inferred))
