-- Definitions added to a table one after the other.
use Rattle.std.proofs.Common.{◌≡◌, ◌+◌, ◌<◌, ℕ, List, [], ◌∷◌, ◌++◌, Result, get_or, drop, length, refl, ap, sym, ◌∙◌, append_assoc}
use Rattle.std.specs.Result.{IsErrAnd}
use Rattle.lalrpop_norm_faults.specs.declared.failure.NormFailure.{NormFailure}
use Rattle.lalrpop_norm_faults.specs.Faults.{Fault, IsFirst, Refuses}
use Rattle.lalrpop_norm_faults.proofs.FaultLemmas.{exit_at, at_drop_item}
use Rattle.lalrpop_norm_model.specs.Scopes.{Global}
use Rattle.lalrpop_norm_resolve.specs.NameTables.{NameRows, def_of, with_def, row_faults, with_all, rows_faults}

pub rows_more : (rows : NameRows) (xs ys : List Global) → with_all rows (xs ++ ys) ≡ with_all (with_all rows xs) ys
rows_more rows [] ys = refl
rows_more rows (x ∷ xs) ys = rows_more (with_def rows x.name (def_of x.definition)) xs ys

pub faults_more : (rows : NameRows) (xs ys : List Global) → rows_faults rows (xs ++ ys) ≡ rows_faults rows xs ++ rows_faults (with_all rows xs) ys
faults_more rows [] ys = refl
faults_more rows (x ∷ xs) ys =
    let next = with_def rows x.name (def_of x.definition) in
    ap (λ fs. row_faults rows x.name x.span ++ fs) (faults_more next xs ys) ∙ sym (append_assoc (row_faults rows x.name x.span) (rows_faults next xs) _)

-- the same where the first of them were added already
module _ (old new : NameRows) (xs ys : List Global) (added : new ≡ with_all old xs) where
  pub rows_on : with_all old (xs ++ ys) ≡ with_all new ys
  rows_on = rows_more old xs ys ∙ ap (λ rs. with_all rs ys) (sym added)

  pub faults_on : rows_faults old xs ≡ [] → rows_faults old (xs ++ ys) ≡ rows_faults new ys
  faults_on none = faults_more old xs ys ∙ ap (λ fs. fs ++ rows_faults (with_all old xs) ys) none ∙ ap (λ rs. rows_faults rs ys) (sym added)

-- A loop that adds the definitions of each element: one step, and the exit by `?`. All are those of the elements in a row.
module _ {X : Type 0} (all : List X → List Global) (each : X → List Global) (split : (y : X) (ys : List X) → all (y ∷ ys) ≡ each y ++ all ys)
    (xs : List X) (i : ℕ) (x : X) (old new : NameRows) (lt : i < length xs) (is : x ≡ get_or xs i x) where
  here : all (drop i xs) ≡ each x ++ all (drop (i + 1) xs)
  here = at_drop_item all xs i x lt is ∙ split x (drop (i + 1) xs)

  pub step_rows : (end : NameRows) → new ≡ with_all old (each x) → with_all old (all (drop i xs)) ≡ end → with_all new (all (drop (i + 1) xs)) ≡ end
  step_rows end declared done =
      ap (λ rs. with_all rs (all (drop (i + 1) xs))) declared ∙ sym (rows_more old (each x) (all (drop (i + 1) xs))) ∙ sym (ap (λ ds. with_all old ds) here) ∙ done

  pub step_faults : (end : List Fault) → rows_faults old (each x) ≡ [] → new ≡ with_all old (each x) → rows_faults old (all (drop i xs)) ≡ end →
      rows_faults new (all (drop (i + 1) xs)) ≡ end
  step_faults end none declared sound =
      ap (λ rs. rows_faults rs (all (drop (i + 1) xs))) declared
      ∙ sym (ap (λ fs. fs ++ rows_faults (with_all old (each x)) (all (drop (i + 1) xs))) none)
      ∙ sym (faults_more old (each x) (all (drop (i + 1) xs))) ∙ sym (ap (λ ds. rows_faults old ds) here) ∙ sound

  pub exit_faults : {T : Type 0} (r : Result T NormFailure) (e : NormFailure) (end : List Fault) → IsErrAnd r (λ y. y ≡ e) →
      IsFirst (rows_faults old (each x)) e → rows_faults old (all (drop i xs)) ≡ end → Refuses r end
  exit_faults r e end from h sound =
      exit_at r e (rows_faults old (each x)) (rows_faults (with_all old (each x)) (all (drop (i + 1) xs))) end from h
      (sym sound ∙ ap (λ ds. rows_faults old ds) here ∙ faults_more old (each x) (all (drop (i + 1) xs)))
