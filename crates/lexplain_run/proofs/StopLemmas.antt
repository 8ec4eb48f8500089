-- The texts of numbers, one by one.
use Rattle.std.proofs.Common.{◌≡◌, ℕ, ◌<◌, ◌+◌, List, ◌++◌, length, drop, get_or, codes, decimal, Result, Ok, Err, OnOk, is_ok, if◌then◌else◌, sym, ap, ◌∙◌}
use Rattle.std.proofs.lemmas.List.{append_assoc}
use Rattle.lalrpop_norm_faults.proofs.FaultLemmas.{at_drop_item}
use Rattle.lexplain_run.specs.Witnesses.{more_text}

-- one more number of those that are left
pub step_more : (text new : List ℕ) (numbers : List ℕ) (i : ℕ) (x : ℕ) → i < length numbers → x ≡ get_or numbers i x →
    new ≡ text ++ (codes "," ++ decimal x) → new ++ more_text (drop (i + 1) numbers) ≡ text ++ more_text (drop i numbers)
step_more text new numbers i x lt is e =
    ap (λ n. n ++ more_text (drop (i + 1) numbers)) e
    ∙ append_assoc text (codes "," ++ decimal x) (more_text (drop (i + 1) numbers))
    ∙ ap (λ n. text ++ n) (append_assoc (codes ",") (decimal x) (more_text (drop (i + 1) numbers)))
    ∙ ap (λ n. text ++ n) (sym (at_drop_item (λ ys. more_text ys) numbers i x lt is))

-- three texts, one behind the other
pub three_texts : {X E : Type 0} (r : Result X E) (old a b c one two new : List ℕ) → one ≡ old ++ a → two ≡ one ++ b →
    new ≡ (if is_ok r then two ++ c else two) →
    OnOk r (new ≡ old ++ (a ++ (b ++ c)))
three_texts (Ok x) old a b c one two new e f h =
    h ∙ ap (λ t. t ++ c) (f ∙ ap (λ t. t ++ b) e) ∙ append_assoc (old ++ a) b c ∙ append_assoc old a (b ++ c)
three_texts (Err x) old a b c one two new e f h = tt
