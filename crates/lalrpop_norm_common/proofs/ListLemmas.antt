-- Options and lists.
use Rattle.std.proofs.Common.{◌≡◌, ◌<◌, ◌+◌, ℕ, Option, Some, None, refl, List, ◌∷◌, ◌++◌, append_assoc, length, drop, get_or, ap, sym, ◌∙◌}
use Rattle.std.specs.List.{filter_map, cons_option}
use Rattle.std.specs.Prelude.{option_to_list}
use Rattle.lalrpop_norm_faults.proofs.FaultLemmas.{at_drop_item}

pub cons_some : {B : Type 0} (o : Option B) (ys : List B) → cons_option o ys ≡ option_to_list o ++ ys
cons_some None ys = refl
cons_some (Some y) ys = refl

pub first_of_some : {A B : Type 0} (f : A → Option B) (x : A) (xs : List A) → filter_map f (x ∷ xs) ≡ option_to_list (f x) ++ filter_map f xs
first_of_some f x xs = cons_some (f x) (filter_map f xs)

pub next_collected : {X Y : Type 0} (F : List X → List Y) (v : X → List Y) → ((x : X) (xs : List X) → F (x ∷ xs) ≡ v x ++ F xs) →
    (xs : List X) (i : ℕ) (x : X) (old new all : List Y) → i < length xs → x ≡ get_or xs i x → new ≡ old ++ v x → old ++ F (drop i xs) ≡ all → new ++ F (drop (i + 1) xs) ≡ all
next_collected F v more xs i x old new all lt is made before =
    ap (λ ys. ys ++ F (drop (i + 1) xs)) made
    ∙ (append_assoc old (v x) (F (drop (i + 1) xs))
    ∙ (ap (λ ys. old ++ ys) (sym (more x (drop (i + 1) xs))) ∙ (sym (at_drop_item (λ ys. old ++ F ys) xs i x lt is) ∙ before)))
