-- The clauses of a call, and those of the same call in the grammar with levels, index by index.
use Rattle.std.proofs.Common.{◌≡◌, ℕ, List, refl, sym, ap, ◌∙◌, subst, arith}
use Rattle.std.specs.Prelude.{slice_get, Option, Some, None, option_map}
use Rattle.std.proofs.lemmas.Option.{slice_get-map}
use Rattle.lalrpop_norm_theory.specs.Symbols.{Name, ClosedSymbol, ClosedSymbols, call}
use Rattle.lalrpop_norm_theory.specs.Meaning.{Meaning}
use Rattle.lalrpop_norm_theory.specs.LoweredTrees.{Origin, written}
use Rattle.lalrpop_norm_theory.specs.Clauses.{Clause, clause, clauses, numbered}
use Rattle.lalrpop_norm_theory.specs.Leveled.{leveled_symbols, composed_clause, leveled_clause, IsLeveled}
use Rattle.lalrpop_norm_theory.specs.Steps.{clause_number}
use Rattle.lalrpop_norm_theory.proofs.Numbered.{origin_in}
use Rattle.lalrpop_norm_theory.proofs.PairTotal.{numbered_clause_at}

pub mapped_at : {A B : Type 0} (f : A → B) (o : Option A) (y : B) → option_map f o ≡ Some y → (x : A) × (o ≡ Some x) × (f x ≡ y)
mapped_at f None y e = absurd (grind arith)
mapped_at f (Some x) y e = (x, refl, cc e)

-- the number that a clause is of has its parts
pub called_at : (n : Name) (f : ℕ → Option ClosedSymbols) (count p k : ℕ) (parts : ClosedSymbols) →
    slice_get (numbered n f 0 count) p ≡ Some (clause (written n k) parts) → f k ≡ Some parts
called_at n f count p k parts h =
    let (j, other, has, is) = numbered_clause_at n f count p (clause (written n k) parts) h in
    let number : k ≡ j = ap (λ (c : Clause). clause_number (Some c)) is in
    let same : parts ≡ other = ap (λ (c : Clause). c.parts) is in
    subst (λ (i : ℕ). f i ≡ Some parts) (sym number) (has ∙ ap Some (sym same))

module _ (M L : Meaning) (l : Name → ℕ → Name) (origin : Name → ℕ → Origin) (declared : List ClosedSymbol)
    (I : IsLeveled M L l origin declared) (n : Name) (args : ClosedSymbols) where
  abbrev upper : List Clause
  upper = clauses M (call n args)

  abbrev lower : List Clause
  lower = clauses L (call n (leveled_symbols l args))

  both_at : (p : ℕ) → option_map (composed_clause origin) (slice_get lower p) ≡ option_map (leveled_clause l) (slice_get upper p)
  both_at p =
      sym (slice_get-map (composed_clause origin) lower p) ∙ ap (λ (cs : List Clause). slice_get cs p) (I.calls n args)
      ∙ slice_get-map (leveled_clause l) upper p

  -- the clause at the same index has the origin
  pub call_origin : (p k j : ℕ) (parts : ClosedSymbols) → slice_get upper p ≡ Some (clause (written n k) parts) →
      slice_get lower p ≡ Some (clause (written n j) (leveled_symbols l parts)) → origin n j ≡ written n k
  call_origin p k j parts at there =
      let both : Some (composed_clause origin (clause (written n j) (leveled_symbols l parts))) ≡ Some (leveled_clause l (clause (written n k) parts)) =
      sym (ap (option_map (composed_clause origin)) there) ∙ both_at p ∙ ap (option_map (leveled_clause l)) at in
      ap origin_in both

  -- down: the clause at the same index
  pub call_there : (p k : ℕ) (parts : ClosedSymbols) → slice_get upper p ≡ Some (clause (written n k) parts) →
      (j : ℕ) × (slice_get lower p ≡ Some (clause (written n j) (leveled_symbols l parts)))
  call_there p k parts at =
      let there : option_map (composed_clause origin) (slice_get lower p) ≡ Some (leveled_clause l (clause (written n k) parts)) =
      both_at p ∙ ap (option_map (leveled_clause l)) at in
      let (d, here, same) = mapped_at (composed_clause origin) (slice_get lower p) (leveled_clause l (clause (written n k) parts)) there in
      let (j, other, has, is) = numbered_clause_at n (L.call_parts n (leveled_symbols l args)) (L.call_count n) p d here in
      let parts_same : other ≡ leveled_symbols l parts = ap (λ (c : Clause). c.parts) (sym is) ∙ ap (λ (c : Clause). c.parts) same in
      (j, here ∙ ap Some (is ∙ ap (λ (gs : ClosedSymbols). clause (written n j) gs) parts_same))

  -- up: the clause at the same index
  pub call_back : (p j : ℕ) (parts : ClosedSymbols) → slice_get lower p ≡ Some (clause (written n j) parts) →
      (k : ℕ) × (mine : ClosedSymbols) × (M.call_parts n args k ≡ Some mine) × (slice_get upper p ≡ Some (clause (written n k) mine))
      × (parts ≡ leveled_symbols l mine) × (origin n j ≡ written n k)
  call_back p j parts at =
      let there : option_map (leveled_clause l) (slice_get upper p) ≡ Some (composed_clause origin (clause (written n j) parts)) =
      sym (both_at p) ∙ ap (option_map (composed_clause origin)) at in
      let (c, here, same) = mapped_at (leveled_clause l) (slice_get upper p) (composed_clause origin (clause (written n j) parts)) there in
      let (k, mine, has, is) = numbered_clause_at n (M.call_parts n args) (M.call_count n) p c here in
      let from : origin n j ≡ c.origin = sym (ap (λ (d : Clause). d.origin) same) in
      let parts_same : leveled_symbols l c.parts ≡ parts = ap (λ (d : Clause). d.parts) same in
      (k, mine, has, here ∙ ap Some is, sym parts_same ∙ ap (λ (d : Clause). leveled_symbols l d.parts) is, from ∙ ap (λ (d : Clause). d.origin) is)
