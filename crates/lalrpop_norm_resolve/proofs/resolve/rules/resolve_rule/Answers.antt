use Rattle.std.proofs.Common.{◌≡◌, [], length, map, append-nil, arith, ap, sym, ◌∙◌}
use Rattle.std.specs.List.{flat_map}
use Rattle.std.proofs.lemmas.List.{with_items_is}
use Rattle.lalrpop_norm_tree.specs.Items.{alternative_view, rule_view}
use Rattle.lalrpop_norm_faults.proofs.FaultLemmas.{exit_at}
use Rattle.lalrpop_norm_model.specs.Scopes.{is_argument, resolved_alternative}
use Rattle.lalrpop_norm_resolve.specs.NameFaults.{repeated_argument_faults, alternative_name_faults}
use Rattle.lalrpop_norm_resolve.specs.NameTables.{sense_in}
use Rattle.lalrpop_norm_resolve.proofs.ArgumentLemmas.{HasArguments, faults_by_names, resolved_by_names}
use Rattle.lalrpop_norm_resolve.proofs.resolve.rules.resolve_rule.Goals as goal

pub returns-in_err-resolve_alternatives-clause-refuses : goal.returns-in_err-resolve_alternatives-clause-refuses
returns-in_err-resolve_alternatives-clause-refuses c =
    let m = c.args.globals.now in
    let r = rule_view c.args.rule.now in
    let own = c.in_ok-args.args in
    let told = c.in_ok-args.ensures in
    let same = c.deref.ensures.value in
    let has : HasArguments own r.args = λ n. told.1 n ∙ ap (λ xs. is_argument xs n) same in
    let none : repeated_argument_faults r.span r.args ≡ [] = ap (λ xs. repeated_argument_faults r.span xs) (sym same) ∙ told.0 in
    let faults = flat_map (alternative_name_faults (sense_in m own)) r.alternatives in
    exit_at _ _ faults [] _ c.from_residual-in_err-resolve_alternatives.ensures.1 (rw c.deref_mut.ensures.value at c.in_err-resolve_alternatives.ensures.refuses)
    (faults_by_names m own r has none ∙ sym (append-nil faults))

pub returns-clause-refuses : goal.returns-clause-refuses
returns-clause-refuses c =
    let m = c.args.globals.now in
    let r = rule_view c.args.rule.now in
    let own = c.in_ok-args.args in
    let told = c.in_ok-args.ensures in
    let same = c.deref.ensures.value in
    let has : HasArguments own r.args = λ n. told.1 n ∙ ap (λ xs. is_argument xs n) same in
    let none : repeated_argument_faults r.span r.args ≡ [] = ap (λ xs. repeated_argument_faults r.span xs) (sym same) ∙ told.0 in
    faults_by_names m own r has none
    ∙ ap (λ xs. flat_map (alternative_name_faults (sense_in m own)) (map alternative_view xs)) (sym c.deref_mut.ensures.value) ∙ c.in_ok-resolve_alternatives.ensures.refuses

pub returns-clause-resolves : goal.returns-clause-resolves
returns-clause-resolves c =
    let m = c.args.globals.now in
    let r = rule_view c.args.rule.now in
    let own = c.in_ok-args.args in
    let told = c.in_ok-args.ensures in
    let has : HasArguments own r.args = λ n. told.1 n ∙ ap (λ xs. is_argument xs n) c.deref.ensures.value in
    let kept = c.args.rule.now.alternatives in
    let long : length c.resolve_alternatives.new.alternatives ≡ kept.len = omega arith in
    ap (λ xs. record r { alternatives = xs })
    (ap (λ xs. map alternative_view xs) (with_items_is kept c.resolve_alternatives.new.alternatives long)
    ∙ c.in_ok-resolve_alternatives.ensures.resolves ∙ ap (λ xs. map (resolved_alternative (sense_in m own)) (map alternative_view xs)) c.deref_mut.ensures.value)
    ∙ sym (resolved_by_names m own r has)
