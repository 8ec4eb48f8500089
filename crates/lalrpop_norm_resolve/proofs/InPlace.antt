-- Lists that are changed element by element, in place: one step, the exit by `?`, and the end.
use Rattle.std.proofs.Common.{◌≡◌, ◌<◌, ◌≤◌, ◌+◌, ℕ, List, [], ◌∷◌, ◌++◌, Result, length, get_or, slice_index_or, set, take, drop, map, refl, ap, sym, ◌∙◌, arith}
use Rattle.std.specs.Result.{IsErrAnd}
use Rattle.std.proofs.lemmas.List.{get_or-set_other, take_more_set, map_push, map_more, at_drop_more, at_drop_all, take_all}
use Rattle.lalrpop_norm_faults.specs.declared.failure.NormFailure.{NormFailure}
use Rattle.lalrpop_norm_faults.specs.Faults.{Fault, IsFirst, Refuses}
use Rattle.lalrpop_norm_faults.proofs.FaultLemmas.{exit_at}

mapped : {X D : Type 0} (v : X → D) (f : D → D) (xs : List X) → map (λ x. f (v x)) xs ≡ map f (map v xs)
mapped v f [] = refl
mapped v f (x ∷ xs) = ap (λ ys. f (v x) ∷ ys) (mapped v f xs)

-- the elements from the i-th on are still those that were
abbrev pub IsLeft : {X : Type 0} → List X → List X → ℕ → Type 0
IsLeft {X = X} was now i = (k : ℕ) (d : X) → i ≤ k → slice_index_or now k d ≡ slice_index_or was k d

module _ {X : Type 0} (was now : List X) (i : ℕ) (within : i < length was) (long : length now ≡ length was) (rest : IsLeft was now i) where
  pub left_more : (x : X) → IsLeft was (set now i x) (i + 1)
  left_more x k d later = get_or-set_other now i k x d (omega arith) ∙ rest k d (omega arith)

  module _ {D : Type 0} (v : X → D) (f : D → D) (x d : X) (told : v x ≡ f (v (get_or now i d))) where
    pub done_more : map v (take i now) ≡ map (λ y. f (v y)) (take i was) → map v (take (i + 1) (set now i x)) ≡ map (λ y. f (v y)) (take (i + 1) was)
    done_more done =
        ap (λ ys. map v ys) (take_more_set now i x (omega arith))
        ∙ map_push v (take i now) x
        ∙ ap (λ ys. ys ++ v x ∷ []) done
        ∙ ap (λ y. map (λ y. f (v y)) (take i was) ++ y ∷ []) (told ∙ ap (λ y. f (v y)) (rest i d (omega arith)))
        ∙ sym (map_more (λ y. f (v y)) was i d within)

    pub mapped_more : map v (take i now) ≡ map f (map v (take i was)) → map v (take (i + 1) (set now i x)) ≡ map f (map v (take (i + 1) was))
    mapped_more done = done_more (done ∙ sym (mapped v f (take i was))) ∙ mapped v f (take (i + 1) was)

  -- of the faults of a list, which are those of each element in a row
  module _ (faults : List X → List Fault) (each : X → List Fault) (split : (y : X) (ys : List X) → faults (y ∷ ys) ≡ each y ++ faults ys) (d : X) where
    here : faults (drop i was) ≡ each (get_or now i d) ++ faults (drop (i + 1) was)
    here = at_drop_more faults was i d within ∙ split (get_or was i d) (drop (i + 1) was) ∙ ap (λ y. each y ++ faults (drop (i + 1) was)) (sym (rest i d (omega arith)))

    pub sound_more : each (get_or now i d) ≡ [] → faults (drop i was) ≡ faults was → faults (drop (i + 1) was) ≡ faults was
    sound_more none sound = sym (here ∙ ap (λ fs. fs ++ faults (drop (i + 1) was)) none) ∙ sound

    pub exit_more : {T : Type 0} (r : Result T NormFailure) (e : NormFailure) → IsErrAnd r (λ y. y ≡ e) → IsFirst (each (get_or now i d)) e → faults (drop i was) ≡ faults was → Refuses r (faults was)
    exit_more r e from first sound = exit_at r e (each (get_or now i d)) (faults (drop (i + 1) was)) (faults was) from first (sym sound ∙ here)

module _ {X : Type 0} (was now : List X) (i : ℕ) (end : length was ≤ i) (long : length now ≡ length was) where
  module _ {D : Type 0} (v : X → D) (f : D → D) where
    pub each_done : map v (take i now) ≡ map (λ x. f (v x)) (take i was) → map v now ≡ map (λ x. f (v x)) was
    each_done done = ap (λ ys. map v ys) (sym (take_all i now (omega arith))) ∙ done ∙ ap (λ ys. map (λ x. f (v x)) ys) (take_all i was end)

    pub all_done : map v (take i now) ≡ map f (map v (take i was)) → map v now ≡ map f (map v was)
    all_done done = each_done (done ∙ sym (mapped v f (take i was))) ∙ mapped v f was

  pub none_left : (faults : List X → List Fault) → faults [] ≡ [] → faults (drop i was) ≡ faults was → faults was ≡ []
  none_left faults none sound = sym sound ∙ at_drop_all faults was i end ∙ none
