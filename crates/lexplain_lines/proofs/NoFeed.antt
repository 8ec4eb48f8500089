-- Texts without a line feed, and the lines that they are.
use Rattle.std.proofs.Common.{◌≡◌, ℕ, ◌+◌, ◌/◌, ◌%◌, ◌^◌, ◌<◌, ◌-◌, List, [], ◌∷◌, ◌++◌, length, get_or, Bool, true, false, cond, ◌||◌, ◌==◌, nat_lt, decimal, All}
use Rattle.std.proofs.Common.{inl, inr, ◌⊎◌, refl, sym, ap, ◌∙◌, arith, ne_eqb}
use Rattle.std.proofs.lemmas.Bool.{cases_eq}
use Rattle.std.proofs.lemmas.Fmt.{decimal_is_IsNumeral}
use Rattle.std.proofs.lemmas.List.Elements.{All-nil, All-cons}
use Rattle.std.proofs.lemmas.List.Splits.{slice_split_at, length-slice_split}
use Rattle.std.proofs.lemmas.Str.Parse.{digit_from_value}
use Rattle.std.specs.Char.{digit_char}
use Rattle.std.specs.List.{slice_split, count_by}
use Rattle.std.specs.Str.Lines.{lines, lines_of_parts, strip_carriage_return}
use Rattle.std.specs.Str.Parse.{AllDigits}
use Rattle.json.specs.Print.{escape_letter, escape_byte, escape, quoted}

-- no byte of the text is a line feed
abbrev pub feeds_none : List ℕ → Bool
feeds_none [] = true
feeds_none (x ∷ xs) = cond (x == 10) false (feeds_none xs)

pub feeds_none_both : (xs ys : List ℕ) → feeds_none xs ≡ true → feeds_none ys ≡ true → feeds_none (xs ++ ys) ≡ true
feeds_none_both [] ys h k = k
feeds_none_both (x ∷ xs) ys h k = at (x == 10) h (λ i. feeds_none_both xs ys i k)
  where
    at : (b : Bool) → cond b false (feeds_none xs) ≡ true → (feeds_none xs ≡ true → feeds_none (xs ++ ys) ≡ true) →
        cond b false (feeds_none (xs ++ ys)) ≡ true
    at true h more = absurd (cc)
    at false h more = more h

one_none : (x : ℕ) (xs : List ℕ) → (x == 10) ≡ false → feeds_none xs ≡ true → feeds_none (x ∷ xs) ≡ true
one_none x xs e h = ap (λ b. cond b false (feeds_none xs)) e ∙ h

-- ---- numbers and strings

digits_none : (ds : List ℕ) → AllDigits 10 ds → feeds_none ds ≡ true
digits_none [] h = refl
digits_none (d ∷ ds) h = let range = digit_from_value d h.0 in one_none d ds (ne_eqb d 10 (λ e. omega (arith, range))) (digits_none ds h.1)

pub decimal_none : (n : ℕ) → n < 2 ^ 64 → feeds_none (decimal n) ≡ true
decimal_none n h = digits_none (decimal n) (decimal_is_IsNumeral n h).0.1

chosen_none : (x : ℕ) (b c d e f g : Bool) → (b ≡ true → (x == 10) ≡ false) →
    (cond b x (cond c 98 (cond d 102 (cond e 110 (cond f 114 (cond g 116 0))))) == 10) ≡ false
chosen_none x true c d e f g h = h refl
chosen_none x false true d e f g h = refl
chosen_none x false false true e f g h = refl
chosen_none x false false false true f g h = refl
chosen_none x false false false false true g h = refl
chosen_none x false false false false false true h = refl
chosen_none x false false false false false false h = refl

mark_none : (x : ℕ) → ((x == 34) || (x == 92)) ≡ true → (x == 10) ≡ false
mark_none x e = at (cases_eq x 10)
  where
    at : (x ≡ 10) ⊎ (x ≡ 10 → ⊥) → (x == 10) ≡ false
    at (inl is) = let same = ap (λ y. (y == 34) || (y == 92)) (sym is) ∙ e in absurd (cc)
    at (inr not) = ne_eqb x 10 not

letter_none : (x : ℕ) → (escape_letter x == 10) ≡ false
letter_none x = chosen_none x ((x == 34) || (x == 92)) (x == 8) (x == 12) (x == 10) (x == 13) (x == 9) (mark_none x)

digit_none : (d : ℕ) → (digit_char d == 10) ≡ false
digit_none d = at (nat_lt d 10)
  where
    at : (b : Bool) → (cond b (48 + d) (87 + d) == 10) ≡ false
    at true = ne_eqb (48 + d) 10 (λ e. omega arith)
    at false = ne_eqb (87 + d) 10 (λ e. omega arith)

-- a line feed has a letter, so it does not stand for itself
itself_none : (x : ℕ) → nat_lt 0 (escape_letter x) ≡ false → (x == 10) ≡ false
itself_none x e = at (cases_eq x 10)
  where
    at : (x ≡ 10) ⊎ (x ≡ 10 → ⊥) → (x == 10) ≡ false
    at (inl is) = let same = ap (λ y. nat_lt 0 (escape_letter y)) (sym is) ∙ e in absurd (cc)
    at (inr not) = ne_eqb x 10 not

escaped_none : (x : ℕ) → feeds_none (escape_byte x) ≡ true
unfolding escape_byte
escaped_none x = at (nat_lt 0 (escape_letter x)) (nat_lt x 32) (itself_none x)
  where
    at : (b c : Bool) → (b ≡ false → (x == 10) ≡ false) →
        feeds_none (cond b (92 ∷ escape_letter x ∷ []) (cond c (92 ∷ 117 ∷ 48 ∷ 48 ∷ digit_char (x / 16) ∷ digit_char (x % 16) ∷ []) (x ∷ []))) ≡ true
    at true c h = one_none (escape_letter x) [] (letter_none x) refl
    at false true h = one_none (digit_char (x / 16)) (digit_char (x % 16) ∷ []) (digit_none (x / 16)) (one_none (digit_char (x % 16)) [] (digit_none (x % 16)) refl)
    at false false h = one_none x [] (h refl) refl

escapes_none : (s : List ℕ) → feeds_none (escape s) ≡ true
escapes_none [] = refl
escapes_none (x ∷ s) = feeds_none_both (escape_byte x) (escape s) (escaped_none x) (escapes_none s)

pub quoted_none : (s : List ℕ) → feeds_none (quoted s) ≡ true
quoted_none s = feeds_none_both (escape s) (34 ∷ []) (escapes_none s) refl

-- ---- lines

all_none : (xs : List ℕ) → feeds_none xs ≡ true → All (λ x. (x == 10) ≡ false) xs
all_none [] h = All-nil (λ x. (x == 10) ≡ false)
all_none (x ∷ xs) h = at (x == 10) refl h (all_none xs)
  where
    at : (b : Bool) → (x == 10) ≡ b → cond b false (feeds_none xs) ≡ true →
        (feeds_none xs ≡ true → All (λ y. (y == 10) ≡ false) xs) → All (λ y. (y == 10) ≡ false) (x ∷ xs)
    at true e h more = absurd (cc)
    at false e h more = All-cons (λ y. (y == 10) ≡ false) x xs e (more h)

abbrev pub last_byte : ℕ → List ℕ → ℕ
last_byte d [] = d
last_byte d (x ∷ xs) = last_byte x xs

pub last_of_both : (d : ℕ) (xs : List ℕ) (y : ℕ) → last_byte d (xs ++ (y ∷ [])) ≡ y
last_of_both d [] y = refl
last_of_both d (x ∷ xs) y = last_of_both x xs y

last_at : (x : ℕ) (xs : List ℕ) → get_or (x ∷ xs) (length xs) 0 ≡ last_byte x xs
last_at x [] = refl
last_at x (y ∷ ys) = last_at y ys

-- a line that does not end with a carriage return stays as it is
kept : (xs : List ℕ) → (last_byte 0 xs == 13) ≡ false → strip_carriage_return xs ≡ xs
kept [] e = refl
kept (x ∷ xs) e =
    let before : length (x ∷ xs) - 1 ≡ length xs = omega arith in
    let last : get_or (x ∷ xs) (length (x ∷ xs) - 1) 0 ≡ last_byte x xs = ap (λ k. get_or (x ∷ xs) k 0) before ∙ last_at x xs in
    rw (ap (λ b. b == 13) last ∙ e) refl

first_part : (line : List ℕ) (parts : List (List ℕ)) (n : ℕ) → length parts ≡ n + 1 → lines_of_parts (line ∷ parts) ≡ strip_carriage_return line ∷ lines_of_parts parts
first_part line [] n e = absurd (omega (arith, e))
first_part line (part ∷ parts) n e = refl

-- the first of the lines of a text
pub first_line : (line rest : List ℕ) → feeds_none line ≡ true → (last_byte 0 line == 13) ≡ false → lines (line ++ (10 ∷ rest)) ≡ line ∷ lines rest
first_line line rest none last =
    ap lines_of_parts (slice_split_at (λ b. b == 10) line 10 rest (all_none line none) refl)
    ∙ first_part line (slice_split (λ b. b == 10) rest) (count_by (λ b. b == 10) rest) (length-slice_split (λ b. b == 10) rest)
    ∙ ap (λ l. l ∷ lines rest) (kept line last)
