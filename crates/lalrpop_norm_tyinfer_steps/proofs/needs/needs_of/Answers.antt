use Rattle.std.proofs.Common.{◌≡◌, length, take, map, ◌∙◌, sym, arith}
use Rattle.std.proofs.lemmas.List.{length-map, length-take-le, take_all}
use Rattle.lalrpop_norm_names.specs.Numbers.{number_in_table}
use Rattle.lalrpop_norm_tyinfer_steps.specs.Visits.{rule_seen}
use Rattle.lalrpop_norm_tyinfer_steps.proofs.NeedLemmas.{needs_none, needs_more, mapped_more}
use Rattle.lalrpop_norm_tyinfer_steps.proofs.needs.needs_of.Goals as goal

pub loop-rule-init : goal.loop-rule-init
loop-rule-init c = rw c.in_ok-needs.ensures.items (needs_none (number_in_table c.args.names.now) c.args.parameters.now)

pub loop-rule-preserved : goal.loop-rule-preserved
loop-rule-preserved c =
    let rules = c.args.rules.now in
    let rule = c.index-rules-rule.result in
    let i = c.loop-rule.rule in
    let adds = rw (← c.index-rules-rule.is) at c.in_ok-add_needs.ensures in
    let last : i ≡ length (map rule_seen (take i rules)) = sym (length-map (take i rules) rule_seen ∙ length-take-le i rules (omega arith)) in
    rw (mapped_more rule_seen rules i rule c.loop-rule-test.true c.index-rules-rule.is)
    (needs_more (number_in_table c.args.names.now) c.args.parameters.now (map rule_seen (take i rules)) (rule_seen rule) c.loop-rule.needs.items c.add_needs.new.needs.items i last c.loop-rule.invariant adds)

pub returns : goal.returns
returns c = rw (take_all c.loop-rule.rule c.args.rules.now c.loop-rule-test.false) at c.loop-rule.invariant
