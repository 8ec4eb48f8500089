use Rattle.std.proofs.Common.{map, subst, sym}
use Rattle.lalrpop_norm_faults.specs.Faults.{Refuses}
use Rattle.lalrpop_norm_theory.specs.Rounds.{IsDistinct}
use Rattle.lalrpop_norm_tree.specs.Items as written
use Rattle.lalrpop_norm_tree.specs.Items.{RuleData}
use Rattle.lalrpop_norm_names.specs.Numbers.{IsNumbering}
use Rattle.lalrpop_norm_common.specs.Sessions.{features_view}
use Rattle.lalrpop_norm_model.specs.PlainRules.{all_rules}
use Rattle.lalrpop_norm_repr.specs.Closed.{IsClosed}
use Rattle.lalrpop_norm_shared_types.specs.Grammars.{shared_grammar_view}
use Rattle.lalrpop_norm_shared_types.specs.Table.{shared_table}
use Rattle.lalrpop_norm_lower.specs.Active.{active_grammar}
use Rattle.lalrpop_norm_lower.specs.Lowering.{rules_among}
use Rattle.lalrpop_norm_lower.specs.Made.{made_faults, IsMade}
use Rattle.lalrpop_norm_lower.specs.Shape.{IsLoweringOf}
use Rattle.lalrpop_norm_lower.proofs.FaultCounts.{faults_same, rules_listed}
use Rattle.lalrpop_norm_lower.proofs.MadeLemmas.{made_is_lowered, made_is_closed, where_clean}
use Rattle.lalrpop_norm_lower.proofs.grammars.lower_shared.Goals as goal

pub lower_over-requires : goal.lower_over-requires
lower_over-requires g c =
    let listed = rules_listed (written.grammar_view c.args.grammar).items in
    record {
      known = c.requires.expanded.known_attributes;
      distinct = subst (λ rs. IsDistinct (map (λ (r : RuleData). r.name.0) rs)) (sym listed) c.requires.expanded.distinct_names;
      numbering = subst (λ rs. IsNumbering (map (λ (r : RuleData). r.name.0) rs) c.args.names) (sym listed) c.requires.names;
    }

pub returns-clause-refuses : goal.returns-clause-refuses
returns-clause-refuses g c = subst (λ fs. Refuses c.lower_over.result fs) (faults_same (written.grammar_view c.args.grammar) (shared_table c.args.types)) c.lower_over.ensures.refuses

pub returns-clause-lowered : goal.returns-clause-lowered
returns-clause-lowered g c =
    let written_one = written.grammar_view c.args.grammar in
    let fs = features_view c.args.session.now.features in
    let types = shared_table c.args.types in
    where_clean c.lower_over.result (made_faults written_one.prefix types (rules_among written_one.items)) (λ l. IsMade fs written_one types (shared_grammar_view l)) (λ l. IsLoweringOf (active_grammar fs written_one) (all_rules written_one) types (shared_grammar_view l))
    c.lower_over.ensures.refuses c.lower_over.ensures.lowered
    (λ clean l made. made_is_lowered fs written_one types c.requires.expanded c.requires.typed clean (shared_grammar_view l) made)

pub returns-clause-closed : goal.returns-clause-closed
returns-clause-closed g c =
    let written_one = written.grammar_view c.args.grammar in
    let fs = features_view c.args.session.now.features in
    let types = shared_table c.args.types in
    where_clean c.lower_over.result (made_faults written_one.prefix types (rules_among written_one.items)) (λ l. IsMade fs written_one types (shared_grammar_view l)) (λ l. IsClosed (shared_grammar_view l))
    c.lower_over.ensures.refuses c.lower_over.ensures.lowered
    (λ clean l made. made_is_closed fs written_one types c.requires.expanded c.requires.typed clean (shared_grammar_view l) made)
