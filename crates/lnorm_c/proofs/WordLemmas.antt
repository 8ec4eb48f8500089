-- The arguments of a text: one more, and the end.
use Rattle.std.proofs.Common.{◌≡◌, refl, sym, ap, ◌∙◌, ℕ, List, [], ◌∷◌, ◌++◌, ◌==◌, ◌<◌, length, map, String, Global, string_bytes, arith}
use Rattle.std.proofs.lemmas.Grind.{common_steps}
use Rattle.std.specs.List.{slice_split, position_or_len, before_first, after_first}
use Rattle.std.proofs.lemmas.List.Splits.{slice_split_first, slice_split_none}
use Rattle.std.proofs.lemmas.List.Sums.{fails_before_first}
use Rattle.lnorm_c.specs.Words.{AreWords}

-- the first part ends at the first zero byte
split_more : (rest word behind : List ℕ) → position_or_len (λ b. b == 0) rest < length rest → word ≡ before_first (λ b. b == 0) rest →
    behind ≡ after_first (λ b. b == 0) rest → slice_split (λ b. b == 0) rest ≡ word ∷ slice_split (λ b. b == 0) behind
split_more rest word behind l w b =
    slice_split_first (λ b. b == 0) rest 0 l
    ∙ ap (λ x. x ∷ slice_split (λ b. b == 0) (after_first (λ b. b == 0) rest)) (sym w)
    ∙ ap (λ x. word ∷ slice_split (λ b. b == 0) x) (sym b)

pushed : (ws : List (String Global)) (w : String Global) (more : List (List ℕ)) →
    map string_bytes ws ++ string_bytes w ∷ more ≡ map string_bytes (ws ++ w ∷ []) ++ more
pushed [] w more = refl
pushed (v ∷ vs) w more = ap (λ x. string_bytes v ∷ x) (pushed vs w more)

pub word_more : (ws vs : List (String Global)) (w : String Global) (rest word behind : List ℕ) →
    position_or_len (λ b. b == 0) rest < length rest → word ≡ before_first (λ b. b == 0) rest →
    behind ≡ after_first (λ b. b == 0) rest → string_bytes w ≡ word → vs ≡ ws ++ w ∷ [] →
    map string_bytes ws ++ slice_split (λ b. b == 0) rest ≡ map string_bytes vs ++ slice_split (λ b. b == 0) behind
word_more ws vs w rest word behind l before after is more =
    ap (λ x. map string_bytes ws ++ x) (split_more rest word behind l before after)
    ∙ ap (λ x. map string_bytes ws ++ x ∷ slice_split (λ b. b == 0) behind) (sym is)
    ∙ pushed ws w (slice_split (λ b. b == 0) behind)
    ∙ ap (λ x. map string_bytes x ++ slice_split (λ b. b == 0) behind) (sym more)

-- what is behind the last zero byte
part_left : (rest : List ℕ) → position_or_len (λ b. b == 0) rest ≡ length rest → slice_split (λ b. b == 0) rest ≡ rest ∷ []
part_left rest e = slice_split_none (λ b. b == 0) rest (λ k d l. fails_before_first (λ b. b == 0) rest k d (grind (arith, common_steps)))

abbrev last_from : List ℕ → List (List ℕ) → List ℕ
last_from d [] = d
last_from d (x ∷ xs) = last_from x xs

last_is : (xs : List (List ℕ)) (d x : List ℕ) → last_from d (xs ++ x ∷ []) ≡ x
last_is [] d x = refl
last_is (y ∷ ys) d x = last_is ys y x

-- the text is no arguments where something is left
pub nothing_left : (ws words : List (List ℕ)) (text rest : List ℕ) → slice_split (λ b. b == 0) text ≡ ws ++ slice_split (λ b. b == 0) rest →
    position_or_len (λ b. b == 0) rest ≡ length rest → AreWords text words → rest ≡ []
nothing_left ws words text rest e none are =
    sym (last_is ws [] rest)
    ∙ ap (last_from []) (ap (λ x. ws ++ x) (sym (part_left rest none)) ∙ sym e ∙ are.parts)
    ∙ last_is words [] []
