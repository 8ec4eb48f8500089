-- Numbers that are written by digits only.
use Rattle.std.proofs.Common.{◌≡◌, ℕ, zero, suc, subst, ◌+◌, ◌-◌, ◌^◌, ◌<◌, ◌≤◌, ◌==◌, ◌&&◌, ◌||◌, List, [], ◌∷◌, length, drop, get_or, slice_range, Bool, true, false, cond, Some, refl, sym, ap, ◌∙◌, arith, append-nil, lt-ltb, ◌*◌, add-one, drop-cons}
use Rattle.std.proofs.lemmas.Grind.{pow_more}
use Rattle.std.proofs.lemmas.List.{drop_all, get_or_past, take_all}
use Rattle.std.specs.Char.{digit_value, is_ascii_digit}
use Rattle.std.specs.Float.Numeral.{Parts, scan_numeral, digits_end, exponent_start, has_exponent}
use Rattle.std.specs.List.{prefix_len}
use Rattle.std.specs.Str.Parse.{digits_value, digits_value_after}
use Rattle.serde_json.specs.Data.{unsigned}
use Rattle.serde_json.specs.Read.{number_of}

-- the parts of digits alone
abbrev plain : List ℕ → Parts
plain ds = record { whole = ds; point = false; fraction = []; exponent_negative = false; exponent = []; len = length ds }

-- the parts of a numeral whose whole part ends at a, by whether a point and an exponent stand behind it
abbrev by_flags : List ℕ → ℕ → Bool → Bool → Parts
by_flags bs a point exponent =
    let b = cond point (digits_end bs (a + 1)) a in
    let c = exponent_start bs b in
    record {
      whole = slice_range bs 0 a;
      point = point;
      fraction = cond point (slice_range bs (a + 1) b) [];
      exponent_negative = exponent && (get_or bs (b + 1) 0 == 45);
      exponent = cond exponent (slice_range bs c (digits_end bs c)) [];
      len = cond exponent (digits_end bs c) b;
    }

abbrev point_at_end : List ℕ → ℕ → Bool
point_at_end bs a = get_or bs a 0 == 46

abbrev exponent_at_end : List ℕ → ℕ → Bool → Bool
exponent_at_end bs a point = has_exponent bs (cond point (digits_end bs (a + 1)) a)

no_exponent : (bs : List ℕ) (a : ℕ) → get_or bs a 0 ≡ 0 → has_exponent bs a ≡ false
no_exponent bs a none = ap (λ n. ((n == 101) || (n == 69)) && is_ascii_digit (get_or bs (exponent_start bs a) 0)) none

by_none : (bs : List ℕ) (a : ℕ) → get_or bs a 0 ≡ 0 → by_flags bs a (point_at_end bs a) (exponent_at_end bs a (point_at_end bs a)) ≡ by_flags bs a false false
by_none bs a none =
    let point : point_at_end bs a ≡ false = ap (λ n. n == 46) none in
    ap (λ p. by_flags bs a p (exponent_at_end bs a p)) point ∙ ap (by_flags bs a false) (no_exponent bs a none)

whole_alone : (bs : List ℕ) (a : ℕ) → a ≡ length bs → by_flags bs a false false ≡ plain bs
whole_alone bs a e =
    let all : slice_range bs 0 (length bs) ≡ bs = take_all (length bs - 0) bs (omega arith) in
    ap (λ n. by_flags bs n false false) e ∙ ap (with_whole bs) all
  where
    with_whole : List ℕ → List ℕ → Parts
    with_whole bs ds = record { whole = ds; point = false; fraction = []; exponent_negative = false; exponent = []; len = length bs }

scan_plain : (ds : List ℕ) → prefix_len is_ascii_digit ds ≡ length ds → scan_numeral ds ≡ plain ds
unfolding scan_numeral
scan_plain ds e =
    let end : digits_end ds 0 ≡ length ds = omega (arith, e) in
    let past : get_or ds (digits_end ds 0) 0 ≡ 0 = get_or_past ds (digits_end ds 0) 0 (omega (arith, end)) in
    let same : scan_numeral ds ≡ by_flags ds (digits_end ds 0) (point_at_end ds (digits_end ds 0)) (exponent_at_end ds (digits_end ds 0) (point_at_end ds (digits_end ds 0))) = refl in
    same ∙ by_none ds (digits_end ds 0) past ∙ whole_alone ds (digits_end ds 0) end

first_digit : (ds : List ℕ) → 0 < length ds → prefix_len is_ascii_digit ds ≡ length ds → (get_or ds 0 0 == 45) ≡ false
first_digit [] h e = absurd (omega (arith, h))
first_digit (d ∷ ds) h e = at _ refl e
  where
    at : (b : Bool) → is_ascii_digit d ≡ b → cond b (1 + prefix_len is_ascii_digit ds) 0 ≡ suc (length ds) → (d == 45) ≡ false
    at true is e = grind (arith, is)
    at false is e = absurd (omega (arith, e))

pub few : (ds : List ℕ) → 0 < length ds → prefix_len is_ascii_digit ds ≡ length ds → digits_value 10 ds < 2 ^ 64 → number_of ds ≡ Some (unsigned (digits_value 10 ds))
unfolding number_of
few ds h e small = rw (first_digit ds h e, scan_plain ds e, append-nil ds, lt-ltb 0 (length ds) h, lt-ltb (digits_value 10 ds) (2 ^ 64) small) refl

pub end_of_digits : (ds : List ℕ) (n i : ℕ) → length ds ≤ i → digits_value 10 ds ≡ digits_value_after 10 n (drop i ds) → prefix_len is_ascii_digit ds ≡ i + prefix_len is_ascii_digit (drop i ds)
    → (digits_value 10 ds ≡ n) × (prefix_len is_ascii_digit ds ≡ length ds)
end_of_digits ds n i h value digits =
    let none : drop i ds ≡ [] = drop_all i ds h in
    let all : prefix_len is_ascii_digit ds ≡ i = rw none at digits ∙ omega arith in
    (value ∙ ap (digits_value_after 10 n) none, omega (arith, h, all, prefix_at_most ds))
  where
    prefix_at_most : (ds : List ℕ) → prefix_len is_ascii_digit ds ≤ length ds
    prefix_at_most [] = omega arith
    prefix_at_most (d ∷ ds) = at (is_ascii_digit d) (prefix_at_most ds)
      where
        at : (b : Bool) → prefix_len is_ascii_digit ds ≤ length ds → cond b (1 + prefix_len is_ascii_digit ds) 0 ≤ suc (length ds)
        at true h = omega (arith, h)
        at false h = omega arith

-- one digit more
module _ (ds : List ℕ) (n i : ℕ) (h : i < length ds) (is : is_ascii_digit (get_or ds i 0) ≡ true) where
  here : drop i ds ≡ get_or ds i 0 ∷ drop (i + 1) ds
  here = rw add-one (drop-cons ds i 0 h)

  pub value_more : digits_value 10 ds ≡ digits_value_after 10 n (drop i ds) → digits_value 10 ds ≡ digits_value_after 10 (n * 10 + (get_or ds i 0 - 48)) (drop (i + 1) ds)
  value_more value = value ∙ ap (digits_value_after 10 n) here ∙ ap (λ d. digits_value_after 10 (n * 10 + d) (drop (i + 1) ds)) (value_of (get_or ds i 0) is)
    where
      value_of : (d : ℕ) → is_ascii_digit d ≡ true → digit_value d ≡ d - 48
      value_of d is = grind (arith, is)

  pub digits_more : prefix_len is_ascii_digit ds ≡ i + prefix_len is_ascii_digit (drop i ds) → prefix_len is_ascii_digit ds ≡ (i + 1) + prefix_len is_ascii_digit (drop (i + 1) ds)
  digits_more digits =
      let more : prefix_len is_ascii_digit (drop i ds) ≡ 1 + prefix_len is_ascii_digit (drop (i + 1) ds) = ap (prefix_len is_ascii_digit) here ∙ ap (λ b. cond b (1 + prefix_len is_ascii_digit (drop (i + 1) ds)) 0) is in
      omega (arith, digits, more)

-- how large a number of so many digits is
pub small_more : (n i d : ℕ) → n < 10 ^ i → d ≤ 9 → n * 10 + d < 10 ^ (i + 1)
small_more n i d small digit = omega (arith, small, digit, pow_more 10 i)

pub few_below : (n i : ℕ) → n < 10 ^ i → i < 18 → n < 10 ^ 17
few_below n i small short =
    let same : (17 - i) + i ≡ 17 = omega (arith, short) in
    let most : 10 ^ i ≤ 10 ^ 17 = subst (λ j. 10 ^ i ≤ 10 ^ j) same (up (17 - i)) in
    omega (arith, small, most)
  where
    up : (k : ℕ) → 10 ^ i ≤ 10 ^ (k + i)
    up zero = let same : 0 + i ≡ i = omega arith in subst (λ j. 10 ^ i ≤ 10 ^ j) (sym same) (omega arith)
    up (suc k) =
        let same : (k + i) + 1 ≡ suc k + i = omega arith in
        subst (λ j. 10 ^ i ≤ 10 ^ j) same (omega (arith, up k, pow_more 10 (k + i)))
