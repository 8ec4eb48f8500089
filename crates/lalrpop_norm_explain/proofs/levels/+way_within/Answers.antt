use Rattle.std.proofs.Common.{◌∙◌, sym, ap, ◌-◌}
use Rattle.lalrpop_norm_theory.specs.Symbols.{Name}
use Rattle.lalrpop_norm_explain.specs.TracedGrammars.{grammar_of}
use Rattle.lalrpop_norm_explain.specs.Plans.{by_step, plan_under, node_plan}
use Rattle.lalrpop_norm_explain.proofs.WaySteps.{way_below}
use Rattle.lalrpop_norm_explain.proofs.levels.+way_within.Goals as goal

pub returns-in-None : goal.returns-in-None
returns-in-None t c =
    sym (way_below (grammar_of c.args.traced.now) c.args.steps c.args.name.now.0 c.args.rule.now.0 c.args.alternative c.if-steps-eq0.false (sym c.in_default.ensures)
    ∙ ap (by_step c.args.name.now.0 (λ (x : Name). node_plan (grammar_of c.args.traced.now) (c.args.steps - 1) x c.args.rule.now.0 c.args.alternative)) (sym c.in-None.ensures))

pub returns-in_ok-stepped-in-Some-step_of : goal.returns-in_ok-stepped-in-Some-step_of
returns-in_ok-stepped-in-Some-step_of t c =
    c.in_ok-stepped-in-Some-step_of.ensures
    ∙ ap (plan_under c.args.name.now.0 c.in-Some-step_of.place) c.in_ok-way-in-Some-step_of.ensures
    ∙ sym (way_below (grammar_of c.args.traced.now) c.args.steps c.args.name.now.0 c.args.rule.now.0 c.args.alternative c.if-steps-eq0.false (sym c.in_default.ensures)
    ∙ ap (by_step c.args.name.now.0 (λ (x : Name). node_plan (grammar_of c.args.traced.now) (c.args.steps - 1) x c.args.rule.now.0 c.args.alternative)) (sym c.in-Some-step_of.ensures))
