use Rattle.std.proofs.Common.{◌≡◌, ◌<◌, ◌+◌, ◌-◌, length, get_or, arith, rules, map, sym, ap, ◌∙◌}
use Rattle.std.proofs.lemmas.List.{get_or_default}
use Rattle.lalrpop_norm_tree.specs.Symbols.{kind_view, symbol_view}
use Rattle.lalrpop_norm_precedence_steps.specs.declared.occurrences.Direction.TheVariants.{Forward, Backward}
use Rattle.lalrpop_norm_precedence_steps.specs.Substitutions.{Plan, met_kind}
use Rattle.lalrpop_norm_precedence.specs.Occurrences.{is_target, once_met}
use Rattle.lalrpop_norm_precedence.proofs.WalkLemmas.{forward_value, forward_plan, backward_value, backward_plan, forward_end, backward_end, planned_parts, count_one_by_one, forward_none, backward_none}
use Rattle.lalrpop_norm_precedence.specs.Replacing.{is_own_of, becomes}
use Rattle.lalrpop_norm_precedence.proofs.RepeatLemmas.{repeat_replaced}
use Rattle.lalrpop_norm_precedence.proofs.precedence.replace.+replace.Goals as goal

pub replace_symbols-forward-preserved : goal.replace_symbols-forward-preserved
replace_symbols-forward-preserved t c =
    let own = is_target c.args.replacing.target.now.0 in
    let p : Plan = (kind_view c.args.replacing.first.now, kind_view c.args.replacing.others.now) in
    let ss = c.forward.symbols in
    let i = c.forward.i in
    let s = c.forward.left in
    let within : i < length ss = omega arith in
    let x = get_or ss i c.index-symbols-i.result in
    let y = c.replace_symbol.new.symbol in
    let here = get_or_default ss i c.index-symbols-i.result x within in
    let new = rw c.in-Forward.is at c.in_ok-left-in-Forward.ensures.value in
    record {
      rest = search rules;
      value = forward_value own p s c.in_ok-left-in-Forward.left ss i x y within here new c.in_ok-left-in-Forward.ensures.met ∙ c.forward.invariant.value;
      left = forward_plan own s c.in_ok-left-in-Forward.left ss i x y within here c.in_ok-left-in-Forward.ensures.met ∙ c.forward.invariant.left;
    }

pub replace_symbols-backward-preserved : goal.replace_symbols-backward-preserved
replace_symbols-backward-preserved t c =
    let own = is_target c.args.replacing.target.now.0 in
    let p : Plan = (kind_view c.args.replacing.first.now, kind_view c.args.replacing.others.now) in
    let ss = c.backward.symbols in
    let i = c.backward.i - 1 in
    let s = c.backward.left in
    let within : i < length ss = omega arith in
    let on : c.backward.i ≡ i + 1 = omega arith in
    let x = get_or ss i c.index-symbols-i-in-backward.result in
    let y = c.replace_symbol-in-backward.new.symbol in
    let here = get_or_default ss i c.index-symbols-i-in-backward.result x within in
    let new = rw c.in-Backward.is at c.in_ok-left-in-Backward.ensures.value in
    record {
      rest = search rules;
      value = backward_value own p s c.in_ok-left-in-Backward.left ss i c.backward.i x y within on here new c.in_ok-left-in-Backward.ensures.met ∙ c.backward.invariant.value;
      left = backward_plan own s c.in_ok-left-in-Backward.left ss i c.backward.i x y within on here c.in_ok-left-in-Backward.ensures.met ∙ c.backward.invariant.left;
    }

pub replace_symbols-returns-after-forward-clause-value : goal.replace_symbols-returns-after-forward-clause-value
replace_symbols-returns-after-forward-clause-value t c =
    let own = is_target c.args.replacing.target.now.0 in
    let p : Plan = (kind_view c.args.replacing.first.now, kind_view c.args.replacing.others.now) in
    rw c.in-Forward.is
    (planned_parts own (met_kind p Forward c.args.replacing.is_met) _ (map symbol_view c.args.symbols.now)
    (sym (forward_end own (met_kind p Forward c.forward.left) c.forward.symbols c.forward.i (omega arith)) ∙ c.forward.invariant.value))

pub replace_symbols-returns-after-forward-clause-met : goal.replace_symbols-returns-after-forward-clause-met
replace_symbols-returns-after-forward-clause-met t c =
    let own = is_target c.args.replacing.target.now.0 in
    sym (forward_none own c.forward.left c.forward.symbols c.forward.i (omega arith)) ∙ c.forward.invariant.left ∙
    ap (once_met c.args.replacing.is_met) (sym (count_one_by_one own (map symbol_view c.args.symbols.now)))

pub replace_symbols-returns-after-backward-clause-value : goal.replace_symbols-returns-after-backward-clause-value
replace_symbols-returns-after-backward-clause-value t c =
    let own = is_target c.args.replacing.target.now.0 in
    let p : Plan = (kind_view c.args.replacing.first.now, kind_view c.args.replacing.others.now) in
    rw c.in-Backward.is
    (planned_parts own (met_kind p Backward c.args.replacing.is_met) _ (map symbol_view c.args.symbols.now)
    (sym (backward_end own (met_kind p Backward c.backward.left) c.backward.symbols c.backward.i (omega arith)) ∙ c.backward.invariant.value))

pub replace_symbols-returns-after-backward-clause-met : goal.replace_symbols-returns-after-backward-clause-met
replace_symbols-returns-after-backward-clause-met t c =
    let own = is_target c.args.replacing.target.now.0 in
    sym (backward_none own c.backward.left c.backward.symbols c.backward.i (omega arith)) ∙ c.backward.invariant.left ∙
    ap (once_met c.args.replacing.is_met) (sym (count_one_by_one own (map symbol_view c.args.symbols.now)))

pub replace_kind-returns-in-Repeat-clause-value : goal.replace_kind-returns-in-Repeat-clause-value
replace_kind-returns-in-Repeat-clause-value t c =
    repeat_replaced (is_own_of c.args.replacing) (becomes c.args.replacing) _ _ _ _ c.in-Repeat.is c.replace_repeat.ensures.value
