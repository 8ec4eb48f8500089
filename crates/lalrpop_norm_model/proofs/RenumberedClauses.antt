-- Where disabled alternatives are taken out, the clauses of each symbol stay, with the ranks of their alternatives.
use Rattle.std.proofs.Common.{◌≡◌, ℕ, suc, ◌+◌, List, [], ◌∷◌, ◌++◌, map, length, Option, Some, None, Bool, true, false, ◌&&◌, refl, sym, ap, ap₂, ◌∙◌, arith}
use Rattle.std.specs.Prelude.{option_map, slice_get, if◌then◌else◌}
use Rattle.std.proofs.lemmas.List.{map-append}
use Rattle.lalrpop_norm_theory.specs.Symbols.{Name, ClosedSymbol, ClosedSymbols, terminal, error, reference, call, group, star, plus, question, times, wrapped, lookahead, lookbehind}
use Rattle.lalrpop_norm_theory.specs.LoweredTrees.{written}
use Rattle.lalrpop_norm_theory.specs.Clauses.{Clause, clause, clause_and, numbered, step_clauses, clauses}
use Rattle.lalrpop_norm_model.specs.Enabled.{present}
use Rattle.lalrpop_norm_model.specs.Levels.{Leveled}
use Rattle.lalrpop_norm_model.specs.WrittenRules.{WrittenRule, rule_named, written_rules}
use Rattle.lalrpop_norm_model.specs.Reading.{read_all}
use Rattle.lalrpop_norm_model.specs.Grammars.{ConditionValue, has_arguments, is_own_level, rule_reader, parts_at, rule_parts, place_count, instance_count, arguments_fit, is_true, macro_reader, instance_at, instance_parts, previous_bound, meaning}
use Rattle.lalrpop_norm_model.specs.Renumbered.{closed_up, rank_in, rank_of, rank_by, ranked_clause}
use Rattle.lalrpop_norm_model.specs.Laws.{ClausesOnlyRenumber}
use Rattle.lalrpop_norm_model.proofs.RenumberedLemmas.{disabled_are_left_out, named_closed, previous_closed, reader_same, macro_same, own_same}

-- the parts of what is at an index, by the parts of an alternative
abbrev parts_where : {A : Type 0} → (A → Option ClosedSymbols) → Option (Option A) → Option ClosedSymbols
parts_where F None = None
parts_where F (Some None) = None
parts_where F (Some (Some a)) = F a

no_parts : (m : Bool) → (let none : Option ClosedSymbols = None in if m then none else none) ≡ None
no_parts true = refl
no_parts false = refl

module _ (n : Name) (F : Leveled → Option ClosedSymbols) (rank : Name → ℕ → ℕ) (before after : ℕ → Option ClosedSymbols) where
  one_clause : (i j : ℕ) (o : Option ClosedSymbols) (xs ys : List Clause) → rank n i ≡ j → xs ≡ map (ranked_clause rank) ys →
      clause_and n j o xs ≡ map (ranked_clause rank) (clause_and n i o ys)
  one_clause i j None xs ys e h = h
  one_clause i j (Some parts) xs ys e h = ap₂ (λ k zs. clause (written n k) parts ∷ zs) (sym e) h

  -- the clauses of some indices, numbered from i on, and of those that are there, numbered from j on
  clauses_from : (ps : List (Option Leveled)) (i j : ℕ) →
      ((x : ℕ) → before (x + i) ≡ parts_where F (slice_get ps x)) →
      ((x : ℕ) → after (x + j) ≡ parts_where F (slice_get (map Some (present ps)) x)) →
      ((x : ℕ) → rank n (x + i) ≡ rank_in ps x + j) →
      numbered n after j (length (map Some (present ps))) ≡ map (ranked_clause rank) (numbered n before i (length ps))
  clauses_from [] i j f g r = refl
  clauses_from (None ∷ ps) i j f g r =
      let same : i ≡ 0 + i = omega arith in
      let none : before i ≡ None = ap before same ∙ f 0 in
      rw none
      (clauses_from ps (suc i) j
      (λ x. (let e : x + suc i ≡ suc x + i = omega arith in ap before e ∙ f (suc x)))
      g
      (λ x. (let e : x + suc i ≡ suc x + i = omega arith in ap (rank n) e ∙ r (suc x))))
  clauses_from (Some a ∷ ps) i j f g r =
      let same : i ≡ 0 + i = omega arith in
      let like : j ≡ 0 + j = omega arith in
      let here : before i ≡ F a = ap before same ∙ f 0 in
      let there : after j ≡ F a = ap after like ∙ g 0 in
      let place : rank n i ≡ j = ap (rank n) same ∙ r 0 ∙ sym like in
      rw (here, there)
      (one_clause i j (F a) _ _ place
      (clauses_from ps (suc i) (suc j)
      (λ x. (let e : x + suc i ≡ suc x + i = omega arith in ap before e ∙ f (suc x)))
      (λ x. (let e : x + suc j ≡ suc x + j = omega arith in ap after e ∙ g (suc x)))
      (λ x. (let e : x + suc i ≡ suc x + i = omega arith in
      let d : suc (rank_in ps x) + j ≡ rank_in ps x + suc j = omega arith in
      ap (rank n) e ∙ r (suc x) ∙ d))))

module _ (rs : List WrittenRule) (n : Name) where
  abbrev cs : List WrittenRule
  cs = map closed_up rs

  ranks_of : (r : WrittenRule) → rule_named rs n ≡ Some r → (x : ℕ) → rank_by rs n (x + 0) ≡ rank_in r.places x + 0
  ranks_of r e x =
      let at : x + 0 ≡ x = omega arith in
      let more : rank_in r.places x ≡ rank_in r.places x + 0 = omega arith in
      ap (λ o. rank_of o (x + 0)) e ∙ ap (rank_in r.places) at ∙ more

  -- ---- rules

  module _ (b : Option ℕ) where
    abbrev own_of : WrittenRule → Leveled → Option ClosedSymbols
    own_of r a = if has_arguments r then None else (if is_own_level b r a.level then Some (read_all (rule_reader rs r a) a.alternative.parts) else None)

    own_before : (r : WrittenRule) (p : Option (Option Leveled)) →
        (if has_arguments r then None else parts_at rs r (is_own_level b r) p) ≡ parts_where (own_of r) p
    own_before r None = no_parts (has_arguments r)
    own_before r (Some None) = no_parts (has_arguments r)
    own_before r (Some (Some a)) = refl

    own_after : (r : WrittenRule) (p : Option (Option Leveled)) →
        (if has_arguments r then None else parts_at cs (closed_up r) (is_own_level b (closed_up r)) p) ≡ parts_where (own_of r) p
    own_after r None = no_parts (has_arguments r)
    own_after r (Some None) = no_parts (has_arguments r)
    own_after r (Some (Some a)) =
        ap₂ (λ m R. if has_arguments r then None else (if m then Some (read_all R a.alternative.parts) else None)) (own_same rs b r a.level) (reader_same rs r a)

    own_by : (o : Option WrittenRule) → rule_named rs n ≡ o →
        numbered n (λ k. rule_parts cs (is_own_level b) k (option_map closed_up o)) 0 (place_count (option_map closed_up o))
        ≡ map (ranked_clause (rank_by rs)) (numbered n (λ k. rule_parts rs (is_own_level b) k o) 0 (place_count o))
    own_by None e = refl
    own_by (Some r) e =
        clauses_from n (own_of r) (rank_by rs) (λ k. rule_parts rs (is_own_level b) k (Some r)) (λ k. rule_parts cs (is_own_level b) k (Some (closed_up r)))
        r.places 0 0
        (λ x. (let at : x + 0 ≡ x = omega arith in ap (λ k. rule_parts rs (is_own_level b) k (Some r)) at ∙ own_before r (slice_get r.places x)))
        (λ x. (let at : x + 0 ≡ x = omega arith in
        ap (λ k. rule_parts cs (is_own_level b) k (Some (closed_up r))) at ∙ own_after r (slice_get (map Some (present r.places)) x)))
        (ranks_of r e)

    own_clauses_ranked :
        numbered n (λ k. rule_parts cs (is_own_level b) k (rule_named cs n)) 0 (place_count (rule_named cs n))
        ≡ map (ranked_clause (rank_by rs)) (numbered n (λ k. rule_parts rs (is_own_level b) k (rule_named rs n)) 0 (place_count (rule_named rs n)))
    own_clauses_ranked =
        ap (λ o. numbered n (λ k. rule_parts cs (is_own_level b) k o) 0 (place_count o)) (named_closed rs n) ∙ own_by (rule_named rs n) refl

    step_by : (o : Option (Option ℕ)) → step_clauses n o ≡ map (ranked_clause (rank_by rs)) (step_clauses n o)
    step_by None = refl
    step_by (Some c) = refl

    step_ranked : step_clauses n (previous_bound (rule_named cs n) b) ≡ map (ranked_clause (rank_by rs)) (step_clauses n (previous_bound (rule_named rs n) b))
    step_ranked =
        ap (λ o. step_clauses n (previous_bound o b)) (named_closed rs n) ∙ ap (step_clauses n) (previous_closed b (rule_named rs n))
        ∙ step_by (previous_bound (rule_named rs n) b)

  -- ---- macros

  module _ (value : ConditionValue) (args : ClosedSymbols) where
    abbrev instance_of_macro : WrittenRule → Leveled → Option ClosedSymbols
    instance_of_macro r a =
        if has_arguments r && arguments_fit r.args args then
        (if is_true value r.args args a.alternative.condition then Some (read_all (macro_reader rs r args) a.alternative.parts) else None) else None

    instance_before : (r : WrittenRule) (p : Option (Option Leveled)) →
        (if has_arguments r && arguments_fit r.args args then instance_at value rs r args p else None) ≡ parts_where (instance_of_macro r) p
    instance_before r None = no_parts (has_arguments r && arguments_fit r.args args)
    instance_before r (Some None) = no_parts (has_arguments r && arguments_fit r.args args)
    instance_before r (Some (Some a)) = refl

    instance_after : (r : WrittenRule) (p : Option (Option Leveled)) →
        (if has_arguments r && arguments_fit r.args args then instance_at value cs (closed_up r) args p else None) ≡ parts_where (instance_of_macro r) p
    instance_after r None = no_parts (has_arguments r && arguments_fit r.args args)
    instance_after r (Some None) = no_parts (has_arguments r && arguments_fit r.args args)
    instance_after r (Some (Some a)) =
        ap (λ R. if has_arguments r && arguments_fit r.args args then (if is_true value r.args args a.alternative.condition then Some (read_all R a.alternative.parts) else None) else None)
        (macro_same rs r args)

    counted : (r : WrittenRule) → rule_named rs n ≡ Some r → (m : Bool) →
        numbered n (λ k. instance_parts value cs args k (Some (closed_up r))) 0 (if m then length (map Some (present r.places)) else 0)
        ≡ map (ranked_clause (rank_by rs)) (numbered n (λ k. instance_parts value rs args k (Some r)) 0 (if m then length r.places else 0))
    counted r e false = refl
    counted r e true =
        clauses_from n (instance_of_macro r) (rank_by rs) (λ k. instance_parts value rs args k (Some r)) (λ k. instance_parts value cs args k (Some (closed_up r)))
        r.places 0 0
        (λ x. (let at : x + 0 ≡ x = omega arith in ap (λ k. instance_parts value rs args k (Some r)) at ∙ instance_before r (slice_get r.places x)))
        (λ x. (let at : x + 0 ≡ x = omega arith in
        ap (λ k. instance_parts value cs args k (Some (closed_up r))) at ∙ instance_after r (slice_get (map Some (present r.places)) x)))
        (ranks_of r e)

    instances_by : (o : Option WrittenRule) → rule_named rs n ≡ o →
        numbered n (λ k. instance_parts value cs args k (option_map closed_up o)) 0 (instance_count (option_map closed_up o))
        ≡ map (ranked_clause (rank_by rs)) (numbered n (λ k. instance_parts value rs args k o) 0 (instance_count o))
    instances_by None e = refl
    instances_by (Some r) e = counted r e (has_arguments r)

    instances_ranked :
        numbered n (λ k. instance_parts value cs args k (rule_named cs n)) 0 (instance_count (rule_named cs n))
        ≡ map (ranked_clause (rank_by rs)) (numbered n (λ k. instance_parts value rs args k (rule_named rs n)) 0 (instance_count (rule_named rs n)))
    instances_ranked =
        ap (λ o. numbered n (λ k. instance_parts value cs args k o) 0 (instance_count o)) (named_closed rs n) ∙ instances_by (rule_named rs n) refl

clauses_ranked : (value : ConditionValue) (rs : List WrittenRule) (x : ClosedSymbol) →
    clauses (meaning value (map closed_up rs)) x ≡ map (ranked_clause (rank_by rs)) (clauses (meaning value rs) x)
clauses_ranked value rs (reference n b) =
    ap₂ ◌++◌ (own_clauses_ranked rs n b) (step_ranked rs n b) ∙ sym (map-append (ranked_clause (rank_by rs)) _ _)
clauses_ranked value rs (call n args) = instances_ranked rs n value args
clauses_ranked value rs (terminal a) = refl
clauses_ranked value rs error = refl
clauses_ranked value rs (wrapped w g) = refl
clauses_ranked value rs (group gs) = refl
clauses_ranked value rs (star x) = refl
clauses_ranked value rs (plus x) = refl
clauses_ranked value rs (question x) = refl
clauses_ranked value rs (times n x) = refl
clauses_ranked value rs lookahead = refl
clauses_ranked value rs lookbehind = refl

pub clauses_only_renumber : ClausesOnlyRenumber
clauses_only_renumber value fs g x =
    ap (λ xs. clauses (meaning value xs) x) (disabled_are_left_out fs g) ∙ clauses_ranked value (written_rules fs g) x
