use Rattle.std.proofs.Common.{◌≡◌, List, map, length, arith, ap, ◌∙◌}
use Rattle.std.proofs.lemmas.List.{length-map, with_items_is}
use Rattle.lalrpop_norm_tree.specs.declared.items.Alternative.{Alternative}
use Rattle.lalrpop_norm_tree.specs.Items.{AlternativeData, RuleData, rule_item, alternative_view, rule_view}
use Rattle.lalrpop_norm_nodes.proofs.MeetingLemmas.{err_refuses}
use Rattle.lalrpop_norm_macro_expand_rules.specs.Generated.{shown_numbered, read_filled}
use Rattle.lalrpop_norm_macro_expand_rules.proofs.generated.read_rule.Goals as goal

pub read_alternatives-requires : goal.read_alternatives-requires
read_alternatives-requires c = record {
  table = c.requires.table;
  counted = c.requires.counted;
  given = rw c.deref.ensures.value c.requires.readable;
}

pub returns-in_err-read_alternatives-clause-refuses : goal.returns-in_err-read_alternatives-clause-refuses
returns-in_err-read_alternatives-clause-refuses c =
    err_refuses _ _ _ c.from_residual.ensures.1 (rw (c.deref.ensures.value, c.deref_mut.ensures.value) at c.in_err-read_alternatives.ensures.refuses)

pub returns-clause-refuses : goal.returns-clause-refuses
returns-clause-refuses c = rw (c.deref.ensures.value, c.deref_mut.ensures.value) at c.in_ok-read_alternatives.ensures.refuses

pub returns-clause-meets : goal.returns-clause-meets
returns-clause-meets c = rw (c.deref.ensures.value, c.deref_mut.ensures.value) at c.in_ok-read_alternatives.ensures.meets

pub returns-clause-waits : goal.returns-clause-waits
returns-clause-waits c = rw (c.deref.ensures.value, c.deref_mut.ensures.value) at c.in_ok-read_alternatives.ensures.waits

pub returns-clause-value : goal.returns-clause-value
returns-clause-value c =
    let shown = shown_numbered c.args.filling.now.numbers.now c.args.filling.now.given.items in
    let d : RuleData = rule_view c.args.rule.now in
    let written : List Alternative = c.args.rule.now.alternatives.items in
    let new : List Alternative = c.read_alternatives.new.alternatives in
    let read : map alternative_view new ≡ map (read_filled shown) (map alternative_view written) =
    rw (c.deref.ensures.value, c.deref_mut.ensures.value) at c.in_ok-read_alternatives.ensures.value in
    let long : length new ≡ c.args.rule.now.alternatives.len =
    omega (arith, ap length read, length-map new alternative_view, length-map (map alternative_view written) (read_filled shown), length-map written alternative_view, ap length c.deref_mut.ensures.value, c.deref_mut.ensures.len) in
    ap (λ (xs : List AlternativeData). let r : RuleData = record d { alternatives = xs } in rule_item r)
    (ap (map alternative_view) (with_items_is c.args.rule.now.alternatives new long) ∙ read)
