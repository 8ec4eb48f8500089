-- Levels as `parse` reads them.
use Rattle.std.proofs.Common.{◌≡◌, ℕ, ◌^◌, Bool, true, false, cond, ◌&&◌, List, [], ◌∷◌, Some, None, Result, Ok, Err, Decides, length, refl, ap}
use Rattle.std.specs.Prelude.{nat_lt}
use Rattle.std.specs.Char.{digit_value}
use Rattle.std.specs.Result.{OkIff, result_ok}
use Rattle.std.specs.Str.Parse.{AllDigits, ParsesUnsigned, without_leading_plus, digits_value}
use Rattle.std.proofs.lemmas.Bool.Decides.{Decides-and, Decides-ltb}
use Rattle.lalrpop_norm_model.specs.Levels.{all_digits, number_of}

digits_decided : (ds : List ℕ) → Decides (all_digits ds) (AllDigits 10 ds)
digits_decided [] = (λ h. tt, λ h. refl)
digits_decided (c ∷ cs) = Decides-and _ (all_digits cs) (Decides-ltb (digit_value c) 10) (digits_decided cs)

by_test : {E : Type 0} (a b c : Bool) (P Q R : Type 0) (v : ℕ) (r : Result ℕ E) → Decides a P → Decides b Q → Decides c R →
    OkIff r ((P × Q) × R) v → result_ok r ≡ (cond (a && (b && c)) (Some v) None)
by_test true true true P Q R v (Ok x) p q r h = ap Some h.1
by_test true true true P Q R v (Err e) p q r h = absurd (h ((p.0 refl, q.0 refl), r.0 refl))
by_test false b c P Q R v (Ok x) p q r h = let no = p.1 h.0.0.0 in cc
by_test false b c P Q R v (Err e) p q r h = refl
by_test true false c P Q R v (Ok x) p q r h = let no = q.1 h.0.0.1 in cc
by_test true false c P Q R v (Err e) p q r h = refl
by_test true true false P Q R v (Ok x) p q r h = let no = r.1 h.0.1 in cc
by_test true true false P Q R v (Err e) p q r h = refl

pub number_read : {E : Type 0} (text : List ℕ) (r : Result ℕ E) → ParsesUnsigned 32 10 text r → result_ok r ≡ number_of (2 ^ 32) text
number_read text r h =
    let ds = without_leading_plus text in
    by_test (nat_lt 0 (length ds)) (all_digits ds) (nat_lt (digits_value 10 ds) (2 ^ 32)) _ _ _ (digits_value 10 ds) r
    (Decides-ltb 0 (length ds)) (digits_decided ds) (Decides-ltb (digits_value 10 ds) (2 ^ 32)) h
