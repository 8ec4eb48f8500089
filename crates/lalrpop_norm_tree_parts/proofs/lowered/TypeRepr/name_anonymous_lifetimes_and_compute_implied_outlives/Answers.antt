use Rattle.std.proofs.Common.{◌≡◌, [], refl, sym, ◌∙◌, rules}
use Rattle.std.proofs.lemmas.List.{append-nil}
use Rattle.lalrpop_norm_tree_names.specs.NewLifetimes.{BeginsWith}
use Rattle.lalrpop_norm_tree_parts.specs.LifetimeNames.{scope_of}
use Rattle.lalrpop_norm_tree_parts.proofs.BottomUpLaws.{calls_keep, calls_name}
use Rattle.lalrpop_norm_tree_parts.proofs.OutlivesLemmas.{begins_then}
use Rattle.lalrpop_norm_tree_parts.proofs.lowered.TypeRepr.name_anonymous_lifetimes_and_compute_implied_outlives.Goals as goal

pub returns-clause-parameters : goal.returns-clause-parameters
returns-clause-parameters c =
    let kept = calls_keep _ _ _ _ _ _ c.bottom_up.ensures.walked (λ s s'. (s'.2.ghost_name ≡ s.2.ghost_name) × BeginsWith s'.2.now.items s.2.now.items)
    (λ s. (refl, ([], sym (append-nil s.2.now.items)))) (λ s r s' h k. (k.0 ∙ h.0, begins_then s.2.now.items r.2.now.items s'.2.now.items h.1 k.1)) (λ s y b s' e. search rules) in
    let same = sym kept.0 in
    let begins = kept.1 in
    search rules

pub returns-clause-clauses : goal.returns-clause-clauses
returns-clause-clauses c =
    let kept = calls_keep _ _ _ _ _ _ c.bottom_up.ensures.walked (λ s s'. (s'.3.ghost_name ≡ s.3.ghost_name) × BeginsWith s'.3.now.items s.3.now.items)
    (λ s. (refl, ([], sym (append-nil s.3.now.items)))) (λ s r s' h k. (k.0 ∙ h.0, begins_then s.3.now.items r.3.now.items s'.3.now.items h.1 k.1)) (λ s y b s' e. search rules) in
    let same = sym kept.0 in
    let begins = kept.1 in
    search rules

pub returns-clause-named : goal.returns-clause-named
returns-clause-named c =
    let kept = calls_keep _ _ _ _ _ _ c.bottom_up.ensures.walked (λ s s'. (s'.2.ghost_name ≡ s.2.ghost_name) × (s'.3.ghost_name ≡ s.3.ghost_name)) (λ s. (refl, refl)) (λ s r s' h k. (k.0 ∙ h.0, k.1 ∙ h.1)) (λ s y b s' e. search rules) in
    let names = calls_name _ _ _ _ _ _ c.bottom_up.ensures.walked (λ s. s.1.now) (λ s. scope_of s.2.now.items s.3.now.items) (λ s y b s' e. search rules) in
    let first = sym kept.0 in
    let second = sym kept.1 in
    search rules
