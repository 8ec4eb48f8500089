-- Pairs of types that are left to be compared, as the list grows and shrinks.
use Rattle.std.proofs.Common.{◌≡◌, ◌<◌, ◌+◌, ◌&&◌, ◌++◌, ℕ, suc, Bool, true, false, List, [], ◌∷◌, Bor, length, drop, get_or, refl, sym, ap, ◌∙◌, arith}
use Rattle.std.proofs.Math.Seq.{drop-cons}
use Rattle.lalrpop_norm_shared_types.specs.Shared.{shared_view, shared_all}
use Rattle.lalrpop_norm_shared_types.specs.Weights.{weight, all_weights}
use Rattle.lalrpop_norm_shared_types.specs.declared.shared.SharedType.{SharedType}
use Rattle.lalrpop_norm_tree_parts.specs.Reprs.{ReprData}
use Rattle.lalrpop_norm_model.specs.SameTypes.{same_type, same_types}
use Rattle.lalrpop_norm_tyinfer_steps.specs.Pairs.{same_pairs, pair_weights}

pub and_swap : (a b c : Bool) → (a && (b && c)) ≡ (b && (a && c))
and_swap true b c = refl
and_swap false true c = refl
and_swap false false c = refl

and_turn : (s r p : Bool) → (r && (s && p)) ≡ ((s && r) && p)
and_turn true r p = refl
and_turn false true p = refl
and_turn false false p = refl

pub not_and : (a p : Bool) → false ≡ a → false ≡ (a && p)
not_and false p e = refl
not_and true p e = cc

-- what is known of a test that is told by its answer
pub fell : (s x t : Bool) → s ≡ false → (s && x) ≡ t → false ≡ t
fell s x t e h = rw (e) at h

pub held : (s x t : Bool) → s ≡ true → (s && x) ≡ t → x ≡ t
held s x t e h = rw (e) at h

-- the first of two fails, or holds
pub first_fails : (a r p : Bool) → false ≡ (a && p) → false ≡ ((a && r) && p)
first_fails true true p e = e
first_fails true false p e = refl
first_fails false r p e = refl

pub first_holds : (a r p q s t : Bool) → q ≡ (a && p) → (s && t) ≡ (r && q) → (s && t) ≡ ((a && r) && p)
first_holds a r p q s t e f = f ∙ (ap (λ b. r && b) e ∙ and_turn a r p)

pub same_pushed : (ps : List (Bor SharedType × Bor SharedType)) (p : Bor SharedType × Bor SharedType) →
    same_pairs (ps ++ (p ∷ [])) ≡ (same_type (shared_view p.0.now) (shared_view p.1.now) && same_pairs ps)
same_pushed [] p = refl
same_pushed (q ∷ ps) p =
    ap (λ b. same_type (shared_view q.0.now) (shared_view q.1.now) && b) (same_pushed ps p)
    ∙ and_swap (same_type (shared_view q.0.now) (shared_view q.1.now)) (same_type (shared_view p.0.now) (shared_view p.1.now)) (same_pairs ps)

pub weights_pushed : (ps : List (Bor SharedType × Bor SharedType)) (p : Bor SharedType × Bor SharedType) →
    pair_weights (ps ++ (p ∷ [])) ≡ weight (shared_view p.0.now) + pair_weights ps
weights_pushed [] p = refl
weights_pushed (q ∷ ps) p = omega (arith, weights_pushed ps p)

plus_one : (i : ℕ) → i + 1 ≡ suc i
plus_one i = omega arith

-- the next pair of two rows moves over
pub same_moved : (a b : List SharedType) (i : ℕ) (ps : List (Bor SharedType × Bor SharedType)) (p : Bor SharedType × Bor SharedType) →
    i < length a → i < length b → p.0.now ≡ get_or a i p.0.now → p.1.now ≡ get_or b i p.1.now →
    (same_types (shared_all (drop (i + 1) a)) (shared_all (drop (i + 1) b)) && same_pairs (ps ++ (p ∷ []))) ≡ (same_types (shared_all (drop i a)) (shared_all (drop i b)) && same_pairs ps)
same_moved a b i ps p la lb ea eb = rw (plus_one i, same_pushed ps p, drop-cons a i p.0.now la, drop-cons b i p.1.now lb, sym ea, sym eb)
    (and_turn (same_type (shared_view p.0.now) (shared_view p.1.now)) (same_types (shared_all (drop (suc i) a)) (shared_all (drop (suc i) b))) (same_pairs ps))

pub weights_moved : (a : List SharedType) (i : ℕ) (ps : List (Bor SharedType × Bor SharedType)) (p : Bor SharedType × Bor SharedType) →
    i < length a → p.0.now ≡ get_or a i p.0.now → pair_weights (ps ++ (p ∷ [])) + all_weights (drop (i + 1) a) ≡ pair_weights ps + all_weights (drop i a)
weights_moved a i ps p la ea = rw (plus_one i, drop-cons a i p.0.now la, sym ea) (omega (arith, weights_pushed ps p))

-- a pair that was the last one is compared by its levels
pub compared : (ps qs rs : List (Bor SharedType × Bor SharedType)) (p : Bor SharedType × Bor SharedType) (m n : ReprData) (s t : Bool) →
    ps ≡ qs ++ (p ∷ []) → m ≡ shared_view p.0.now → n ≡ shared_view p.1.now → same_pairs ps ≡ t →
    (s && same_pairs rs) ≡ (same_type m n && same_pairs qs) → (s && same_pairs rs) ≡ t
compared ps qs rs p m n s t is em en kept e = e ∙ (rw (em, en) (sym (same_pushed qs p)) ∙ (sym (ap same_pairs is) ∙ kept))

pub lighter : (ps qs rs : List (Bor SharedType × Bor SharedType)) (p : Bor SharedType × Bor SharedType) (m : ReprData) →
    ps ≡ qs ++ (p ∷ []) → m ≡ shared_view p.0.now → pair_weights rs < weight m + pair_weights qs → pair_weights rs < pair_weights ps
lighter ps qs rs p m is em h = rw (is) (omega (arith, weights_pushed qs p, ap weight em))
