use Rattle.std.proofs.Common.{subst}
use Rattle.lalrpop_norm_faults.specs.Faults.{Refuses}
use Rattle.lalrpop_norm_tree.specs.Items as written
use Rattle.lalrpop_norm_model.specs.PlainRules.{all_rules}
use Rattle.lalrpop_norm_repr.specs.Closed.{IsClosed}
use Rattle.lalrpop_norm_shared_types.specs.Table.{shared_table}
use Rattle.lalrpop_norm_lower.specs.Active.{active_grammar}
use Rattle.lalrpop_norm_lower.specs.Lowering.{rules_among}
use Rattle.lalrpop_norm_lower.specs.LoweredRules.{AreMadeRules}
use Rattle.lalrpop_norm_lower.specs.Made.{made_faults}
use Rattle.lalrpop_norm_lower.specs.RulesOf.{AreRulesWhere}
use Rattle.lalrpop_norm_lower.specs.Shape.{IsLoweringOf}
use Rattle.lalrpop_norm_lower.proofs.FaultCounts.{faults_same}
use Rattle.lalrpop_norm_lower.proofs.MadeLemmas.{where_clean}
use Rattle.lalrpop_norm_lower.proofs.RuleLemmas.{made_rules_are}
use Rattle.lalrpop_norm_lower.proofs.grammars.lower_rules.Goals as goal

pub returns-clause-refuses : goal.returns-clause-refuses
returns-clause-refuses c = subst (λ fs. Refuses c.rules_over.result fs) (faults_same (written.grammar_view c.args.grammar) (shared_table c.args.types)) c.rules_over.ensures.refuses

pub returns-clause-lowered : goal.returns-clause-lowered
returns-clause-lowered c =
    λ fs typed.
    let written_one = written.grammar_view c.args.grammar in
    let types = shared_table c.args.types in
    where_clean c.rules_over.result (made_faults written_one.prefix types (rules_among written_one.items)) (AreMadeRules written_one.prefix types (rules_among written_one.items))
    (AreRulesWhere (λ l. IsLoweringOf (active_grammar fs written_one) (all_rules written_one) types l × IsClosed l))
    c.rules_over.ensures.refuses c.rules_over.ensures.made
    (λ clean r made. made_rules_are fs written_one types r c.requires typed clean made)
