-- The clauses of a rule's alternatives: the k-th alternative with parts has one index among them.
use Rattle.std.proofs.Common.{◌≡◌, ℕ, zero, suc, ◌+◌, ◌<◌, List, [], ◌∷◌, refl, ap, arith, ◌++◌, ◌⊎◌, inl, inr, length}
use Rattle.std.specs.Prelude.{slice_get, Option, Some, None}
use Rattle.lalrpop_norm_theory.specs.Symbols.{Name, ClosedSymbols}
use Rattle.lalrpop_norm_theory.specs.LoweredTrees.{Origin, written, level_step, from_lookahead}
use Rattle.lalrpop_norm_theory.specs.Clauses.{Clause, clause, clause_and, numbered, step_clauses}
use Rattle.lalrpop_norm_theory.specs.Translations.{counted, lowered_place}

-- the clause of alternative k
abbrev pub alternative_clause : Name → ℕ → ClosedSymbols → Clause
alternative_clause n k parts = clause (written n k) parts

-- what is known of the clause at index p
pub record Numbered (n : Name) (f : ℕ → Option ClosedSymbols) (k left p : ℕ) (c : Clause) : Type 0 where
  pub number : ℕ
  pub parts : ClosedSymbols
  pub has : f (k + number) ≡ Some parts
  pub within : number < left
  pub is : c ≡ alternative_clause n (k + number) parts
  pub at : lowered_place f k number ≡ p

later : (n : Name) (f : ℕ → Option ClosedSymbols) (k left p q : ℕ) (c : Clause) (o : Option ClosedSymbols) →
    f k ≡ o → (h : Numbered n f (suc k) left p c) →
    counted o (lowered_place f (suc k) h.number) ≡ q → Numbered n f k (suc left) q c
later n f k left p q c o e h a = record {
  number = suc h.number;
  parts = h.parts;
  has = let same : k + suc h.number ≡ suc k + h.number = omega arith in rw same h.has;
  within = let b : h.number < left = h.within in omega arith;
  is = let same : k + suc h.number ≡ suc k + h.number = omega arith in rw same h.is;
  at = rw e a;
}

numbered_at : (n : Name) (f : ℕ → Option ClosedSymbols) (k left : ℕ) (c : Clause) →
    ((p : ℕ) → slice_get (numbered n f (suc k) left) p ≡ Some c → Numbered n f (suc k) left p c) →
    (p : ℕ) (o : Option ClosedSymbols) → f k ≡ o → slice_get (clause_and n k o (numbered n f (suc k) left)) p ≡ Some c →
    Numbered n f k (suc left) p c
numbered_at n f k left c ih p None e h = let i = ih p h in later n f k left p p c None e i i.at
numbered_at n f k left c ih zero (Some parts) e h =
    let same : k + 0 ≡ k = omega arith in
    record {
      number = 0;
      parts = parts;
      has = rw same e;
      within = omega arith;
      is = rw same (cc h);
      at = refl;
    }
numbered_at n f k left c ih (suc p) (Some parts) e h =
    let i = ih p h in later n f k left p (suc p) c (Some parts) e i (ap suc i.at)

-- a clause of the list is that of a number with parts
pub numbered_sound : (n : Name) (f : ℕ → Option ClosedSymbols) (k left p : ℕ) (c : Clause) →
    slice_get (numbered n f k left) p ≡ Some c → Numbered n f k left p c
numbered_sound n f k zero p c h = absurd (grind arith)
numbered_sound n f k (suc left) p c h =
    numbered_at n f k left c (λ q i. numbered_sound n f (suc k) left q c i) p (f k) refl h

-- a number with parts has a clause at its index
pub numbered_complete : (n : Name) (f : ℕ → Option ClosedSymbols) (k left j : ℕ) (parts : ClosedSymbols) →
    f (k + j) ≡ Some parts → j < left →
    slice_get (numbered n f k left) (lowered_place f k j) ≡ Some (alternative_clause n (k + j) parts)
numbered_complete n f k zero j parts h l = absurd (omega arith)
numbered_complete n f k (suc left) zero parts h l =
    let same : k + 0 ≡ k = omega arith in
    let h' = rw same at h in
    rw (same, h') refl
numbered_complete n f k (suc left) (suc j) parts h l =
    let same : k + suc j ≡ suc k + j = omega arith in
    go (f k) (rw same (numbered_complete n f (suc k) left j parts (rw same at h) (omega arith)))
  where
    go : (o : Option ClosedSymbols) →
        slice_get (numbered n f (suc k) left) (lowered_place f (suc k) j) ≡ Some (alternative_clause n (k + suc j) parts) →
        slice_get (clause_and n k o (numbered n f (suc k) left)) (counted o (lowered_place f (suc k) j)) ≡ Some (alternative_clause n (k + suc j) parts)
    go None i = i
    go (Some q) i = i

pub left_at : (xs ys : List Clause) (p : ℕ) (c : Clause) → slice_get xs p ≡ Some c → slice_get (xs ++ ys) p ≡ Some c
left_at [] ys p c h = absurd (grind arith)
left_at (x ∷ xs) ys zero c h = h
left_at (x ∷ xs) ys (suc p) c h = left_at xs ys p c h

pub right_at : (xs ys : List Clause) → slice_get (xs ++ ys) (length xs) ≡ slice_get ys 0
right_at [] ys = refl
right_at (x ∷ xs) ys = right_at xs ys

pub split_at : (xs ys : List Clause) (p : ℕ) (c : Clause) → slice_get (xs ++ ys) p ≡ Some c →
    (slice_get xs p ≡ Some c) ⊎ ((q : ℕ) × (p ≡ length xs + q) × (slice_get ys q ≡ Some c))
split_at [] ys p c h = inr (p, omega arith, h)
split_at (x ∷ xs) ys zero c h = inl h
split_at (x ∷ xs) ys (suc p) c h = elim (split_at xs ys p c h) [
  | inl i ↦ inl i
  | inr r ↦ inr (r.0, (let a : p ≡ length xs + r.0 = r.1 in omega arith), r.2)
]

abbrev pub origin_in : Option Clause → Origin
origin_in None = from_lookahead
origin_in (Some c) = c.origin

-- a written alternative among a level's clauses is one of its own
pub own_clause_at : (n : Name) (f : ℕ → Option ClosedSymbols) (count : ℕ) (o : Option (Option ℕ)) (p k : ℕ) (parts : ClosedSymbols) →
    slice_get (numbered n f 0 count ++ step_clauses n o) p ≡ Some (alternative_clause n k parts) →
    slice_get (numbered n f 0 count) p ≡ Some (alternative_clause n k parts)
own_clause_at n f count o p k parts h = elim (split_at (numbered n f 0 count) (step_clauses n o) p (alternative_clause n k parts) h) [
  | inl i ↦ i
  | inr r ↦ absurd (none o r.0 r.2)
]
  where
    none : (o : Option (Option ℕ)) (q : ℕ) → slice_get (step_clauses n o) q ≡ Some (alternative_clause n k parts) → ⊥
    none None q e = grind arith
    none (Some b) zero e = let apart : level_step ≡ written n k = ap origin_in e in cc apart
    none (Some b) (suc q) e = grind arith

-- a step among a level's clauses is the last one
pub step_clause_last : (n : Name) (f : ℕ → Option ClosedSymbols) (count : ℕ) (o : Option (Option ℕ)) (p : ℕ) (parts : ClosedSymbols) →
    slice_get (numbered n f 0 count ++ step_clauses n o) p ≡ Some (record { origin = level_step; parts = parts }) →
    p ≡ length (numbered n f 0 count)
step_clause_last n f count o p parts h = elim (split_at (numbered n f 0 count) (step_clauses n o) p _ h) [
  | inl i ↦ absurd (written_only (numbered_sound n f 0 count p _ i))
  | inr r ↦ last o r.0 r.1 r.2
]
  where
    written_only : Numbered n f 0 count p (record { origin = level_step; parts = parts }) → ⊥
    written_only r = let e : level_step ≡ written n (0 + r.number) = ap (λ c. c.origin) r.is in cc e

    last : (o : Option (Option ℕ)) (q : ℕ) → p ≡ length (numbered n f 0 count) + q →
        slice_get (step_clauses n o) q ≡ Some (record { origin = level_step; parts = parts }) → p ≡ length (numbered n f 0 count)
    last None q a e = absurd (grind arith)
    last (Some b) zero a e = omega arith
    last (Some b) (suc q) a e = absurd (grind arith)
