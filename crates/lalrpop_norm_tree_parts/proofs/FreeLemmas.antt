-- Lists of free parameters in pieces.
use Rattle.std.proofs.Common.{◌≡◌, ℕ, suc, ◌+◌, ◌<◌, Bool, true, false, not, ◌&&◌, ◌||◌, cond, Result, Ok, Err, List, [], ◌∷◌, ◌++◌, drop, length, get_or, refl, sym, ap, ◌∙◌}
use Rattle.std.proofs.Math.Numerals.{add-one}
use Rattle.std.proofs.Math.Seq.{drop-cons}
use Rattle.std.proofs.lemmas.List.Elements.{filter-append}
use Rattle.std.proofs.lemmas.Slice.Eq.{bytes_eq-Decides}
use Rattle.std.specs.Prelude.{filter, if◌then◌else◌}
use Rattle.std.specs.List.{list_any}
use Rattle.std.specs.Result.{OnOk}
use Rattle.lalrpop_norm_tree_names.specs.declared.names.TypeParameter.{TypeParameter}
use Rattle.lalrpop_norm_tree_names.specs.declared.names.TypeParameter.TheVariants as parameter
use Rattle.lalrpop_norm_tree_parts.specs.FreeVariables.{same_parameter, is_parameter_among, with_new, with_parameters}

-- new ones of two lists in turn
pub with_new_then : {A B : Type 0} (is : B → A → Bool) (made : B → A) (xs : List A) (ys zs : List B) → with_new is made xs (ys ++ zs) ≡ with_new is made (with_new is made xs ys) zs
with_new_then is made xs [] zs = refl
with_new_then is made xs (y ∷ ys) zs = with_new_then is made (if list_any (is y) xs then xs else xs ++ made y ∷ []) ys zs

filter_twice : {X : Type 0} (p q : X → Bool) (xs : List X) → filter p (filter q xs) ≡ filter (λ x. q x && p x) xs
filter_twice p q [] = refl
filter_twice p q (x ∷ xs) =
    elim (q x) as (λ b. filter p (cond b (x ∷ filter q xs) (filter q xs)) ≡ cond (b && p x) (x ∷ filter (λ x. q x && p x) xs) (filter (λ x. q x && p x) xs)) [
      | true ↦ ap (λ ys. cond (p x) (x ∷ ys) ys) (filter_twice p q xs)
      | false ↦ filter_twice p q xs
    ]

filter_same : {X : Type 0} (p q : X → Bool) → ((x : X) → p x ≡ q x) → (xs : List X) → filter p xs ≡ filter q xs
filter_same p q e [] = refl
filter_same p q e (x ∷ xs) =
    let first = e x in
    let rest = filter_same p q e xs in
    cc

pub same_is : (p q : TypeParameter) → same_parameter p q ≡ true → p ≡ q
same_is (parameter.Lifetime l) (parameter.Lifetime m) e = ap (λ a. parameter.Lifetime record { 0 = a }) ((bytes_eq-Decides l.0 m.0).0 e)
same_is (parameter.Id a) (parameter.Id b) e = ap parameter.Id ((bytes_eq-Decides a b).0 e)
same_is (parameter.Lifetime l) (parameter.Id b) e = absurd cc
same_is (parameter.Id a) (parameter.Lifetime m) e = absurd cc

-- one of those that are not bound
one_less : (bound same same_bound more rest : Bool) → (same ≡ true → bound ≡ same_bound) → rest ≡ (not same_bound && more) → cond (not bound) (same || rest) rest ≡ (not same_bound && (same || more))
one_less true true true more rest e r = r
one_less true true false more rest e r = cc (e refl)
one_less false true true more rest e r = cc (e refl)
one_less false true false more rest e r = refl
one_less true false true more rest e r = r
one_less true false false more rest e r = r
one_less false false true more rest e r = r
one_less false false false more rest e r = r

among_less : (bound listed : List TypeParameter) (q : TypeParameter) → is_parameter_among (filter (λ p. not (is_parameter_among bound p)) listed) q ≡ (not (is_parameter_among bound q) && is_parameter_among listed q)
among_less bound [] q = elim (is_parameter_among bound q) as (λ b. false ≡ (not b && false)) [ true ↦ refl | false ↦ refl ]
among_less bound (p ∷ ps) q =
    (elim (is_parameter_among bound p) as (λ b. is_parameter_among (cond (not b) (p ∷ filter (λ p. not (is_parameter_among bound p)) ps) (filter (λ p. not (is_parameter_among bound p)) ps)) q ≡ cond (not b) (same_parameter p q || is_parameter_among (filter (λ p. not (is_parameter_among bound p)) ps) q) (is_parameter_among (filter (λ p. not (is_parameter_among bound p)) ps) q)) [
      | true ↦ refl
      | false ↦ refl
    ])
    ∙ one_less (is_parameter_among bound p) (same_parameter p q) (is_parameter_among bound q) (is_parameter_among ps q) (is_parameter_among (filter (λ p. not (is_parameter_among bound p)) ps) q) (λ e. ap (is_parameter_among bound) (same_is p q e)) (among_less bound ps q)

-- the unbound ones that are listed are those that are listed and unbound
pub listed_less : (bound listed ps : List TypeParameter) → filter (is_parameter_among listed) (filter (λ q. not (is_parameter_among bound q)) ps) ≡ filter (is_parameter_among (filter (λ p. not (is_parameter_among bound p)) listed)) ps
listed_less bound listed ps =
    filter_twice (is_parameter_among listed) (λ q. not (is_parameter_among bound q)) ps
    ∙ filter_same (λ q. not (is_parameter_among bound q) && is_parameter_among listed q) (is_parameter_among (filter (λ p. not (is_parameter_among bound p)) listed)) (λ q. sym (among_less bound listed q)) ps

-- what occurs in xs, where that in the one at i has been added
module _ {X : Type 0} (places : X → List TypeParameter) (places_in : List X → List TypeParameter) (each : (x : X) (xs : List X) → places_in (x ∷ xs) ≡ places x ++ places_in xs) (listed : List TypeParameter) where
  pub met_more : (xs : List X) (i : ℕ) (x : X) (all new whole : List TypeParameter) → i < length xs → with_parameters all (filter (is_parameter_among listed) (places_in (drop i xs))) ≡ whole
      → new ≡ with_parameters all (filter (is_parameter_among listed) (places (get_or xs i x))) → with_parameters new (filter (is_parameter_among listed) (places_in (drop (i + 1) xs))) ≡ whole
  met_more xs i x all new whole h done one =
      let parts : places_in (drop i xs) ≡ places (get_or xs i x) ++ places_in (drop (suc i) xs) = ap places_in (drop-cons xs i x h) ∙ each (get_or xs i x) (drop (suc i) xs) in
      rw (one, add-one i, ← with_new_then (λ p q. same_parameter q p) (λ p. p) all (filter (is_parameter_among listed) (places (get_or xs i x))) (filter (is_parameter_among listed) (places_in (drop (suc i) xs))), ← filter-append, ← parts) done

-- what occurs in a function type, from what occurs in its parts where only unbound ones are listed
pub met_in_function : {E : Type 0} (bound listed ps qs rs all first second last : List TypeParameter) (unbound : List TypeParameter) (r : Result (Unit {0}) E) → unbound ≡ filter (λ p. not (is_parameter_among bound p)) listed
    → first ≡ with_parameters all (filter (is_parameter_among unbound) ps) → second ≡ with_parameters first (filter (is_parameter_among unbound) qs) → OnOk r (last ≡ with_parameters second (filter (is_parameter_among unbound) rs))
    → OnOk r (last ≡ with_parameters all (filter (is_parameter_among listed) (filter (λ q. not (is_parameter_among bound q)) (ps ++ (qs ++ rs)))))
met_in_function bound listed ps qs rs all first second last unbound (Ok x) is a b c =
    let chosen : filter (is_parameter_among unbound) (ps ++ (qs ++ rs)) ≡ filter (is_parameter_among unbound) ps ++ (filter (is_parameter_among unbound) qs ++ filter (is_parameter_among unbound) rs) =
    filter-append (is_parameter_among unbound) ps (qs ++ rs) ∙ ap (λ l. filter (is_parameter_among unbound) ps ++ l) (filter-append (is_parameter_among unbound) qs rs) in
    rw (
      listed_less bound listed (ps ++ (qs ++ rs)),
      ← is,
      chosen,
      with_new_then (λ p q. same_parameter q p) (λ p. p) all (filter (is_parameter_among unbound) ps) (filter (is_parameter_among unbound) qs ++ filter (is_parameter_among unbound) rs),
      with_new_then (λ p q. same_parameter q p) (λ p. p) (with_parameters all (filter (is_parameter_among unbound) ps)) (filter (is_parameter_among unbound) qs) (filter (is_parameter_among unbound) rs),
      ← a,
      ← b,
    ) c
met_in_function bound listed ps qs rs all first second last unbound (Err e) is a b c = tt

-- what occurs in one part and then in another
pub met_then : {E : Type 0} (listed ps qs all middle last : List TypeParameter) (r : Result (Unit {0}) E) → middle ≡ with_parameters all (filter (is_parameter_among listed) ps)
    → OnOk r (last ≡ with_parameters middle (filter (is_parameter_among listed) qs)) → OnOk r (last ≡ with_parameters all (filter (is_parameter_among listed) (ps ++ qs)))
met_then listed ps qs all middle last (Ok x) a b =
    rw (
      filter-append (is_parameter_among listed) ps qs,
      with_new_then (λ p q. same_parameter q p) (λ p. p) all (filter (is_parameter_among listed) ps) (filter (is_parameter_among listed) qs),
      ← a,
    ) b
met_then listed ps qs all middle last (Err e) a b = tt
