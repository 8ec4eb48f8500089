-- Ways, one step at a time.
use Rattle.std.proofs.Common.{◌≡◌, ℕ, zero, suc, ◌+◌, ◌-◌, ◌<◌, ◌≤◌, ◌≢◌, Bool, true, false, List, [], ◌∷◌, Bor, map, drop, length, get_or, refl, sym, ap, ap₂, ◌∙◌, arith}
use Rattle.std.proofs.lemmas.List.{at_drop_more, drop_all}
use Rattle.std.specs.Prelude.{Option, Some, None, if◌then◌else◌}
use Rattle.lalrpop_norm_theory.specs.Symbols.{Name}
use Rattle.lalrpop_norm_theory.specs.LoweredTrees.{ProductionTable, Production, Origin, LoweredSymbol, terminal_symbol, nonterminal_symbol}
use Rattle.lalrpop_norm_repr.specs.declared.production.Production as code
use Rattle.lalrpop_norm_repr.specs.declared.symbol.Symbol.{Symbol}
use Rattle.lalrpop_norm_explain.specs.declared.traced.Traced.{Traced}
use Rattle.lalrpop_norm_repr.specs.Productions.{production_view}
use Rattle.lalrpop_norm_explain.specs.Derivations.{traced, symbols_view}
use Rattle.lalrpop_norm_explain.specs.TracedGrammars.{production_in, origins_in}
use Rattle.lalrpop_norm_explain.specs.Plans.{TreePlan, plan, flat, own_view, own_plan, is_written, is_step, step_to, step, lower_of, first_to, first_step, by_step, or_plan, node_plan}

pub traced_each : (t : Traced) (ps : List code.Production) → map (production_in t) ps ≡ map (traced (origins_in t)) (map production_view ps)
traced_each t [] = refl
traced_each t (p ∷ ps) = ap (λ qs. production_in t p ∷ qs) (traced_each t ps)

-- the first step decides
step_on_first : (n : Name) (below : Name → Option TreePlan) (i : ℕ) (rest : Option TreePlan) (more : Option (ℕ × Name)) → rest ≡ by_step n below more →
    (b : Bool) (ss : List LoweredSymbol) → step_to n i b ss below rest ≡ by_step n below (first_to i (lower_of b ss) more)
step_on_first n below i rest more e false ss = e
step_on_first n below i rest more e true [] = e
step_on_first n below i rest more e true (terminal_symbol a ∷ ss) = e
step_on_first n below i rest more e true (nonterminal_symbol m ∷ []) = refl
step_on_first n below i rest more e true (nonterminal_symbol m ∷ (s ∷ ss)) = e

pub step_first : (n : Name) (below : Name → Option TreePlan) (i : ℕ) (qs : List Production) → step n below i qs ≡ by_step n below (first_step i qs)
step_first n below i [] = refl
step_first n below i (q ∷ qs) = step_on_first n below i (step n below (suc i) qs) (first_step (suc i) qs) (step_first n below (suc i) qs) (is_step q.origin) q.symbols

pub way_below : (P : ProductionTable) (fuel : ℕ) (n m : Name) (k : ℕ) → fuel ≢ 0 → own_plan n m k 0 (P n) ≡ None →
    node_plan P fuel n m k ≡ by_step n (λ x. node_plan P (fuel - 1) x m k) (first_step 0 (P n))
way_below P zero n m k h e = absurd (h refl)
way_below P (suc f) n m k h e =
    let less : suc f - 1 ≡ f = omega arith in
    rw less (ap (λ o. or_plan o (step n (λ x. node_plan P f x m k) 0 (P n))) e ∙ step_first n (λ x. node_plan P f x m k) 0 (P n))

-- ---- loops over the productions of a name

module _ (t : Traced) (ps : List code.Production) (i : ℕ) where
  last : {X : Type 0} (F : List Production → X) (v : X) → length ps ≤ i → F (map (production_in t) (drop i ps)) ≡ v → F [] ≡ v
  last F v done here = sym (ap (λ (qs : List code.Production). F (map (production_in t) qs)) (drop_all i ps done)) ∙ here

  module _ (p : code.Production) (lt : i < length ps) (is : p ≡ get_or ps i p) where
    met : {X : Type 0} (F : List Production → X) (v : X) → F (map (production_in t) (drop i ps)) ≡ v → F (production_in t p ∷ map (production_in t) (drop (i + 1) ps)) ≡ v
    met {X = X} F v here =
        let G : List code.Production → X = λ qs. F (map (production_in t) qs) in
        sym (at_drop_more G ps i p lt ∙ ap (λ q. G (q ∷ drop (i + 1) ps)) (sym is)) ∙ here

  -- an alternative's own production
  module _ (n m : Name) (k : ℕ) (v : Option TreePlan) (here : own_plan n m k i (map (production_in t) (drop i ps)) ≡ v) where
    pub no_own : length ps ≤ i → None ≡ v
    no_own done = last (own_plan n m k i) v done here

    module _ (p : code.Production) (o : Origin) (lt : i < length ps) (is : p ≡ get_or ps i p) (origin : o ≡ (production_in t p).origin) where
      own_at : (b : Bool) → b ≡ is_written m k o →
          (if b then Some (plan n (flat i) (symbols_view p.symbols.items)) else own_plan n m k (suc i) (map (production_in t) (drop (i + 1) ps))) ≡ v
      own_at b test =
          ap (λ x. if x then Some (plan n (flat i) (symbols_view p.symbols.items)) else own_plan n m k (suc i) (map (production_in t) (drop (i + 1) ps))) (test ∙ ap (is_written m k) origin)
          ∙ met p lt is (own_plan n m k i) v here

      pub next_own : false ≡ is_written m k o → own_plan n m k (i + 1) (map (production_in t) (drop (i + 1) ps)) ≡ v
      next_own test =
          let next : i + 1 ≡ suc i = omega arith in
          ap (λ j. own_plan n m k j (map (production_in t) (drop (i + 1) ps))) next ∙ own_at false test

      pub found_own : (s : Bor (List Symbol)) → s.now ≡ p.symbols.items → true ≡ is_written m k o → Some (own_view n (i, s)) ≡ v
      found_own s same test = ap (λ ss. Some (plan n (flat i) (symbols_view ss))) same ∙ own_at true test

  -- a step
  module _ (v : Option (ℕ × Name)) (here : first_step i (map (production_in t) (drop i ps)) ≡ v) where
    pub no_step : length ps ≤ i → None ≡ v
    no_step done = last (first_step i) v done here

    module _ (p : code.Production) (o : Origin) (ss : List Symbol) (lt : i < length ps) (is : p ≡ get_or ps i p) (origin : o ≡ (production_in t p).origin) (same : ss ≡ p.symbols.items) where
      step_at : (x : Option Name) → x ≡ lower_of (is_step o) (symbols_view ss) → first_to i x (first_step (suc i) (map (production_in t) (drop (i + 1) ps))) ≡ v
      step_at x test =
          ap (λ y. first_to i y (first_step (suc i) (map (production_in t) (drop (i + 1) ps)))) (test ∙ ap₂ (λ a s. lower_of (is_step a) (symbols_view s)) origin same)
          ∙ met p lt is (first_step i) v here

      pub next_step : None ≡ lower_of (is_step o) (symbols_view ss) → first_step (i + 1) (map (production_in t) (drop (i + 1) ps)) ≡ v
      next_step test =
          let next : i + 1 ≡ suc i = omega arith in
          ap (λ j. first_step j (map (production_in t) (drop (i + 1) ps))) next ∙ step_at None test

      pub found_step : (x : Name) → Some x ≡ lower_of (is_step o) (symbols_view ss) → Some (i, x) ≡ v
      found_step x test = step_at (Some x) test
