-- Items that a hasher reads one after another.
use Rattle.std.proofs.Common.{◌≡◌, ◌<◌, ◌≤◌, ◌+◌, ℕ, List, [], ◌∷◌, ◌++◌, length, drop, get_or, sym, ap, ◌∙◌}
use Rattle.std.proofs.lemmas.List.{drop_all}
use Rattle.std.proofs.lemmas.List.Sums.{fold-append}
use Rattle.std.specs.Hash.{HashWrites}
use Rattle.std.specs.Hash.DefaultHasher.{write}
use Rattle.std.specs.declared.hash.DefaultHasher.{DefaultHasher}
use Rattle.lalrpop_norm_faults.proofs.FaultLemmas.{at_drop_item}
use Rattle.lalrpop_norm_names.specs.Seeds.{hasher_after}

-- what is written of a list begins with what is written of its first item
pub one_read : {A : Type 0} (all : List A → HashWrites) (one : A → HashWrites) → ((x : A) (xs : List A) → all (x ∷ xs) ≡ one x ++ all xs) →
    (xs : List A) (i : ℕ) (x : A) (before later : DefaultHasher) → i < length xs → x ≡ get_or xs i x → later ≡ hasher_after before (one x) →
    hasher_after later (all (drop (i + 1) xs)) ≡ hasher_after before (all (drop i xs))
one_read all one begins xs i x before later inside is read =
    ap (λ (h : DefaultHasher). hasher_after h (all (drop (i + 1) xs))) read
    ∙ sym (fold-append write before (one x) (all (drop (i + 1) xs)))
    ∙ ap (hasher_after before) (sym (begins x (drop (i + 1) xs)))
    ∙ sym (at_drop_item (λ ys. hasher_after before (all ys)) xs i x inside is)

pub all_read : {A : Type 0} (all : List A → HashWrites) (xs : List A) (i : ℕ) (reader : DefaultHasher) → length xs ≤ i →
    hasher_after reader (all []) ≡ hasher_after reader (all (drop i xs))
all_read all xs i reader end = ap (λ ys. hasher_after reader (all ys)) (sym (drop_all i xs end))
