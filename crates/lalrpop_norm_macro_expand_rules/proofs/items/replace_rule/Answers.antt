use Rattle.std.proofs.Common.{◌≡◌, List, [], length, arith, map, sym, ap, ◌∙◌, subst}
use Rattle.std.specs.List.{flat_map}
use Rattle.std.proofs.lemmas.List.{length-map, with_items_is}
use Rattle.lalrpop_norm_tree.specs.Symbols.{Part}
use Rattle.lalrpop_norm_tree.specs.declared.items.Alternative.{Alternative}
use Rattle.lalrpop_norm_tree.specs.Items.{AlternativeData, RuleData, alternative_view, rule_view}
use Rattle.lalrpop_norm_model.specs.PlainRules.{all_met, met_in_rule, replaced_alternative}
use Rattle.lalrpop_norm_nodes.specs.Tables.{wholes_in, TableMeets, refused_in}
use Rattle.lalrpop_norm_nodes.specs.Waits.{parts_replaced, LeavesWaiting}
use Rattle.lalrpop_norm_nodes.proofs.EnterLemmas.{err_same}
use Rattle.lalrpop_norm_macro_expand_rules.specs.Generated.{met_filled, shown_filled, read_filled, whole_numbered, shown_numbered}
use Rattle.lalrpop_norm_macro_expand_rules.proofs.UnboundLemmas.{none_given, none_met, none_shown, none_read}
use Rattle.lalrpop_norm_macro_expand_rules.proofs.items.replace_rule.Goals as goal

pub read_alternatives-requires : goal.read_alternatives-requires
read_alternatives-requires c = record {
  table = c.requires.table;
  counted = c.requires.counted;
  given = none_given c.in_ok-numbers.numbers c.deref.result.now (c.deref.ensures.value ∙ c.new-given.ensures.items) (wholes_in c.args.table.now);
}

pub returns-in_err-read_alternatives-clause-refuses : goal.returns-in_err-read_alternatives-clause-refuses
returns-in_err-read_alternatives-clause-refuses c =
    let a = c.args.table.now in
    let table = c.in_ok-numbers.numbers in
    let given = c.deref.result.now in
    let none : given ≡ [] = c.deref.ensures.value ∙ c.new-given.ensures.items in
    let all : flat_map (met_filled (whole_numbered (wholes_in a) table given)) (map alternative_view c.deref_mut.result.now) ≡ met_in_rule (rule_view c.args.rule.now) =
    none_met table given none (wholes_in a) (map alternative_view c.deref_mut.result.now)
    ∙ ap (λ (xs : List Alternative). flat_map (λ (b : AlternativeData). all_met b.parts) (map alternative_view xs)) c.deref_mut.ensures.value in
    err_same _ _ _ _ (ap (refused_in a) (sym all)) c.from_residual-in_err-read_alternatives.ensures.1 c.in_err-read_alternatives.ensures.refuses

pub returns-clause-refuses : goal.returns-clause-refuses
returns-clause-refuses c =
    let a = c.args.table.now in
    let table = c.in_ok-numbers.numbers in
    let given = c.deref.result.now in
    let none : given ≡ [] = c.deref.ensures.value ∙ c.new-given.ensures.items in
    let all : flat_map (met_filled (whole_numbered (wholes_in a) table given)) (map alternative_view c.deref_mut.result.now) ≡ met_in_rule (rule_view c.args.rule.now) =
    none_met table given none (wholes_in a) (map alternative_view c.deref_mut.result.now)
    ∙ ap (λ (xs : List Alternative). flat_map (λ (b : AlternativeData). all_met b.parts) (map alternative_view xs)) c.deref_mut.ensures.value in
    ap (refused_in a) (sym all) ∙ c.in_ok-read_alternatives.ensures.refuses

pub returns-clause-meets : goal.returns-clause-meets
returns-clause-meets c =
    let a = c.args.table.now in
    let table = c.in_ok-numbers.numbers in
    let given = c.deref.result.now in
    let none : given ≡ [] = c.deref.ensures.value ∙ c.new-given.ensures.items in
    let all : flat_map (met_filled (whole_numbered (wholes_in a) table given)) (map alternative_view c.deref_mut.result.now) ≡ met_in_rule (rule_view c.args.rule.now) =
    none_met table given none (wholes_in a) (map alternative_view c.deref_mut.result.now)
    ∙ ap (λ (xs : List Alternative). flat_map (λ (b : AlternativeData). all_met b.parts) (map alternative_view xs)) c.deref_mut.ensures.value in
    subst (λ (ps : List Part). TableMeets a c.read_alternatives.new.table ps) all c.in_ok-read_alternatives.ensures.meets

pub returns-clause-waits : goal.returns-clause-waits
returns-clause-waits c =
    let a = c.args.table.now in
    let table = c.in_ok-numbers.numbers in
    let given = c.deref.result.now in
    let none : given ≡ [] = c.deref.ensures.value ∙ c.new-given.ensures.items in
    let all : flat_map (shown_filled (shown_numbered table given)) (map alternative_view c.deref_mut.result.now) ≡ map parts_replaced (met_in_rule (rule_view c.args.rule.now)) =
    none_shown table given none (map alternative_view c.deref_mut.result.now)
    ∙ ap (λ (xs : List Alternative). map parts_replaced (flat_map (λ (b : AlternativeData). all_met b.parts) (map alternative_view xs))) c.deref_mut.ensures.value in
    subst (λ (ps : List Part). LeavesWaiting a c.read_alternatives.new.table ps) all c.in_ok-read_alternatives.ensures.waits

pub returns-clause-value : goal.returns-clause-value
returns-clause-value c =
    let table = c.in_ok-numbers.numbers in
    let given = c.deref.result.now in
    let none : given ≡ [] = c.deref.ensures.value ∙ c.new-given.ensures.items in
    let d : RuleData = rule_view c.args.rule.now in
    let new : List Alternative = c.read_alternatives.new.alternatives in
    let read = c.in_ok-read_alternatives.ensures.value in
    let long : length new ≡ c.args.rule.now.alternatives.len =
    omega (arith, ap length read, length-map new alternative_view, length-map (map alternative_view c.deref_mut.result.now) (read_filled (shown_numbered table given)), length-map c.deref_mut.result.now alternative_view, c.deref_mut.ensures.len) in
    ap (λ (xs : List AlternativeData). let r : RuleData = record d { alternatives = xs } in r)
    (ap (map alternative_view) (with_items_is c.args.rule.now.alternatives new long) ∙ read
    ∙ none_read table given none (map alternative_view c.deref_mut.result.now)
    ∙ ap (λ (xs : List Alternative). map replaced_alternative (map alternative_view xs)) c.deref_mut.ensures.value)
