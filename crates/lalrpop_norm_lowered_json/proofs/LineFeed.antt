-- A line feed after the text of data changes no token.
use Rattle.std.proofs.Common.{◌≡◌, ◌≤◌, ℕ, List, [], ◌∷◌, ◌++◌, Bool, true, false, cond, codes, decimal}
use Rattle.std.proofs.Common.{Some, refl, sym, ap, ap₂, ◌∙◌, append_assoc, append-nil}
use Rattle.json.specs.Json as json
use Rattle.json.specs.Lex.{Lexeme, token, comma, colon, string_token, lex, between, in_word, fresh, punctuate, tokens}
use Rattle.json.specs.Print.{escape, quoted}
use Rattle.json.specs.Token.{Token}
use Rattle.json.specs.Word.{ends_word, word}
use Rattle.json.proofs.Printed.Decimals.{IsNumber-decimal}
use Rattle.json.proofs.Printed.Numbers.{lex-number, in_word-ended}
use Rattle.json.proofs.Printed.Strings.{content-escape, lex-escape}
use Rattle.serde_json.specs.Data.{unsigned, negative, float, Data, null, boolean, number, string, array, object}
use Rattle.serde_json.specs.Data.{Items, no_items, item, Members, no_members, member, depth}
use Rattle.serde_json.specs.Read.{max_depth, read}
use Rattle.serde_json.specs.Written.{compact_text, items_text, members_text}
use Rattle.lalrpop_norm_lowered_json.specs.Laws.{HasWords, ItemsHaveWords, MembersHaveWords}
use Rattle.lalrpop_norm_lowered_json.proofs.Ordered.{IsOrdered, whole, text_read}

-- texts of the same lexemes, and a word may end before each
abbrev AreAlike : List ℕ → List ℕ → Type 0
AreAlike r s = (ends_word r ≡ true) × (ends_word s ≡ true) × (lex between r ≡ lex between s)

-- after a literal
literal_lexed : (t : Token) (r s : List ℕ) → AreAlike r s
    → token (cond (ends_word r) t Token.bad) ∷ lex in_word r ≡ token (cond (ends_word s) t Token.bad) ∷ lex in_word s
literal_lexed t r s a =
    ap₂ (λ (b : Bool) (ls : List Lexeme). token (cond b t Token.bad) ∷ ls) (a.0 ∙ sym a.1)
    (in_word-ended r a.0 ∙ a.2 ∙ sym (in_word-ended s a.1))

quoted_lexed : (t r : List ℕ) → lex between (quoted t ++ r) ≡ token (Token.string t) ∷ lex between r
unfolding lex
quoted_lexed t r =
    ap (λ l. lex between (34 ∷ l)) (append_assoc (escape t) (34 ∷ []) r)
    ∙ ap₂ (λ o l. token (string_token o) ∷ l) (content-escape t r) (lex-escape t r)

key_lexed : (k b r : List ℕ) → lex between ((quoted k ++ 58 ∷ b) ++ r) ≡ token (Token.string k) ∷ colon ∷ lex between (b ++ r)
unfolding lex
key_lexed k b r = ap (lex between) (append_assoc (quoted k) (58 ∷ b) r) ∙ quoted_lexed k (58 ∷ (b ++ r))

-- after a key
under_key : (k b r s : List ℕ) → lex between (b ++ r) ≡ lex between (b ++ s)
    → lex between ((quoted k ++ 58 ∷ b) ++ r) ≡ lex between ((quoted k ++ 58 ∷ b) ++ s)
under_key k b r s e = key_lexed k b r ∙ ap (λ l. token (Token.string k) ∷ colon ∷ l) e ∙ sym (key_lexed k b s)

joined : (a b r s : List ℕ) → lex between (a ++ (b ++ r)) ≡ lex between (a ++ (b ++ s))
    → lex between ((a ++ b) ++ r) ≡ lex between ((a ++ b) ++ s)
joined a b r s e = ap (lex between) (append_assoc a b r) ∙ e ∙ sym (ap (lex between) (append_assoc a b s))

items_end : (ds : Items) (r : List ℕ) → ends_word (items_text true ds ++ r) ≡ true
items_end no_items r = refl
items_end (item d ds) r = refl

members_end : (ms : Members) (r : List ℕ) → ends_word (members_text true ms ++ r) ≡ true
members_end no_members r = refl
members_end (member k d ms) r = refl

mutual
  unfolding lex word

  value_lexed : (d : Data) (r s : List ℕ) → HasWords d → AreAlike r s
      → lex between (compact_text d ++ r) ≡ lex between (compact_text d ++ s)
  value_lexed null r s h a = literal_lexed Token.null r s a
  value_lexed (boolean true) r s h a = literal_lexed (Token.boolean true) r s a
  value_lexed (boolean false) r s h a = literal_lexed (Token.boolean false) r s a
  value_lexed (number (unsigned n)) r s h a =
      let is_number = IsNumber-decimal n h in
      lex-number (decimal n) r is_number a.0 ∙ ap (λ l. token (Token.number (decimal n)) ∷ l) a.2
      ∙ sym (lex-number (decimal n) s is_number a.1)
  value_lexed (number (negative z)) r s h a = absurd h
  value_lexed (number (float x)) r s h a = absurd h
  value_lexed (string t) r s h a = quoted_lexed t r ∙ ap (λ l. token (Token.string t) ∷ l) a.2 ∙ sym (quoted_lexed t s)
  value_lexed (array ds) r s h a = ap (λ l. token Token.begin_array ∷ l) (items_lexed false ds r s h a)
  value_lexed (object ms) r s h a = ap (λ l. token Token.begin_object ∷ l) (members_lexed false ms r s h a)

  items_lexed : (later : Bool) (ds : Items) (r s : List ℕ) → ItemsHaveWords ds → AreAlike r s
      → lex between (items_text later ds ++ r) ≡ lex between (items_text later ds ++ s)
  items_lexed later no_items r s h a = ap (λ l. token Token.end_array ∷ l) a.2
  items_lexed true (item d ds) r s h a =
      let alike : AreAlike (items_text true ds ++ r) (items_text true ds ++ s) =
      (items_end ds r, items_end ds s, items_lexed true ds r s h.1 a) in
      ap (λ l. comma ∷ l) (joined (compact_text d) (items_text true ds) r s (value_lexed d _ _ h.0 alike))
  items_lexed false (item d ds) r s h a =
      let alike : AreAlike (items_text true ds ++ r) (items_text true ds ++ s) =
      (items_end ds r, items_end ds s, items_lexed true ds r s h.1 a) in
      joined (compact_text d) (items_text true ds) r s (value_lexed d _ _ h.0 alike)

  members_lexed : (later : Bool) (ms : Members) (r s : List ℕ) → MembersHaveWords ms → AreAlike r s
      → lex between (members_text later ms ++ r) ≡ lex between (members_text later ms ++ s)
  members_lexed later no_members r s h a = ap (λ l. token Token.end_object ∷ l) a.2
  members_lexed true (member k d ms) r s h a =
      let alike : AreAlike (members_text true ms ++ r) (members_text true ms ++ s) =
      (members_end ms r, members_end ms s, members_lexed true ms r s h.1 a) in
      ap (λ l. comma ∷ l) (under_key k (compact_text d ++ members_text true ms) r s
      (joined (compact_text d) (members_text true ms) r s (value_lexed d _ _ h.0 alike)))
  members_lexed false (member k d ms) r s h a =
      let alike : AreAlike (members_text true ms ++ r) (members_text true ms ++ s) =
      (members_end ms r, members_end ms s, members_lexed true ms r s h.1 a) in
      under_key k (compact_text d ++ members_text true ms) r s
      (joined (compact_text d) (members_text true ms) r s (value_lexed d _ _ h.0 alike))

same_tokens : (d : Data) → HasWords d → tokens (compact_text d ++ codes "\n") ≡ tokens (compact_text d)
unfolding lex
same_tokens d h =
    ap (punctuate fresh) (value_lexed d (10 ∷ []) [] h (refl, refl, refl) ∙ ap (lex between) (append-nil (compact_text d)))

pub line_read : (d : Data) → HasWords d → IsOrdered d → depth d ≤ max_depth → read (compact_text d ++ codes "\n") ≡ Some d
line_read d h p shallow = ap (λ ts. whole (json.value max_depth ts)) (same_tokens d h) ∙ text_read d h p shallow
