-- Data back from its text, where each number in it is a natural number below 2^64.
use Rattle.std.proofs.Common.{◌≡◌, List, [], ◌∷◌, ◌++◌, Option, unwrap_or, refl, sym, ap, ◌∙◌, subst, append_assoc, append-nil}
use Rattle.json.specs.Token.{Token}
use Rattle.json.specs.Lex.{tokens}
use Rattle.json.specs.Print.{ArePrintable}
use Rattle.json.specs.Tree.{json_tokens, items_tokens, members_tokens}
use Rattle.json.proofs.Printed.Decimals.{IsNumber-decimal}
use Rattle.json.proofs.Printed.Tokens.{tokens-print}
use Rattle.serde_json.specs.Data.{Num, unsigned, negative, float, Data, null, boolean, number, string, array, object}
use Rattle.serde_json.specs.Data.{Items, no_items, item, Members, no_members, member}
use Rattle.serde_json.specs.Read.{number_of}
use Rattle.serde_json.specs.Written.{outline, items_outline, members_outline, compact_text}
use Rattle.serde_json.proofs.Numbers.{number_of-decimal}
use Rattle.serde_json.proofs.Texts.{print-outline}
use Rattle.lalrpop_norm_lowered_json.specs.Laws.{HasWords, ItemsHaveWords, MembersHaveWords}

-- ---- data of tokens, which are read from their end

-- what stands after a token in an array or object that is read in part
data Frame : Type 0 where
  items_after : Items → Frame
  members_after : Members → Frame
  value_after : Data → Members → Frame

abbrev placed : Data → List Frame → List Frame
placed d (items_after ds ∷ fs) = items_after (item d ds) ∷ fs
placed d (members_after ms ∷ fs) = value_after d ms ∷ fs
placed d _ = []

abbrev number_at : Option Num → List Frame → List Frame
number_at o fs = placed (number (unwrap_or o (unsigned 0))) fs

abbrev before : Token → List Frame → List Frame
before Token.null fs = placed null fs
before (Token.boolean b) fs = placed (boolean b) fs
before (Token.number s) fs = number_at (number_of s) fs
before (Token.string s) fs = placed (string s) fs
before Token.end_array fs = items_after no_items ∷ fs
before Token.end_object fs = members_after no_members ∷ fs
before Token.begin_array (items_after ds ∷ fs) = placed (array ds) fs
before Token.begin_object (members_after ms ∷ fs) = placed (object ms) fs
before (Token.key k) (value_after d ms ∷ fs) = members_after (member k d ms) ∷ fs
before _ fs = fs

abbrev frames : List Token → List Frame
frames [] = items_after no_items ∷ []
frames (t ∷ ts) = before t (frames ts)

mutual
  value_read : (d : Data) (ts : List Token) → HasWords d → frames (json_tokens (outline d) ++ ts) ≡ placed d (frames ts)
  value_read null ts h = refl
  value_read (boolean b) ts h = refl
  value_read (number (unsigned n)) ts h = ap (λ (o : Option Num). number_at o (frames ts)) (number_of-decimal n h)
  value_read (number (negative z)) ts h = absurd h
  value_read (number (float x)) ts h = absurd h
  value_read (string s) ts h = refl
  value_read (array ds) ts h = ap (before Token.begin_array) (items_read ds ts h)
  value_read (object ms) ts h = ap (before Token.begin_object) (members_read ms ts h)

  items_read : (ds : Items) (ts : List Token) → ItemsHaveWords ds
      → frames (items_tokens (items_outline ds) ++ ts) ≡ items_after ds ∷ frames ts
  items_read no_items ts h = refl
  items_read (item d ds) ts h =
      let rest = items_tokens (items_outline ds) in
      ap frames (append_assoc (json_tokens (outline d)) rest ts) ∙ value_read d (rest ++ ts) h.0
      ∙ ap (placed d) (items_read ds ts h.1)

  members_read : (ms : Members) (ts : List Token) → MembersHaveWords ms
      → frames (members_tokens (members_outline ms) ++ ts) ≡ members_after ms ∷ frames ts
  members_read no_members ts h = refl
  members_read (member k d ms) ts h =
      let rest = members_tokens (members_outline ms) in
      ap (before (Token.key k))
      (ap frames (append_assoc (json_tokens (outline d)) rest ts) ∙ value_read d (rest ++ ts) h.0
      ∙ ap (placed d) (members_read ms ts h.1))

abbrev first_of : List Frame → Data
first_of (items_after (item d ds) ∷ fs) = d
first_of _ = null

abbrev data_of : List Token → Data
data_of ts = first_of (frames ts)

data_back : (d : Data) → HasWords d → data_of (json_tokens (outline d)) ≡ d
data_back d h = ap data_of (sym (append-nil (json_tokens (outline d)))) ∙ ap first_of (value_read d [] h)

-- ---- the tokens are read back from the text

mutual
  unfolding ArePrintable

  value_printable : (d : Data) (ts : List Token) → HasWords d → ArePrintable ts → ArePrintable (json_tokens (outline d) ++ ts)
  value_printable null ts h p = (tt, p)
  value_printable (boolean b) ts h p = (tt, p)
  value_printable (number (unsigned n)) ts h p = (IsNumber-decimal n h, p)
  value_printable (number (negative z)) ts h p = absurd h
  value_printable (number (float x)) ts h p = absurd h
  value_printable (string s) ts h p = (tt, p)
  value_printable (array ds) ts h p = (tt, items_printable ds ts h p)
  value_printable (object ms) ts h p = (tt, members_printable ms ts h p)

  items_printable : (ds : Items) (ts : List Token) → ItemsHaveWords ds → ArePrintable ts
      → ArePrintable (items_tokens (items_outline ds) ++ ts)
  items_printable no_items ts h p = (tt, p)
  items_printable (item d ds) ts h p =
      let rest = items_tokens (items_outline ds) in
      subst ArePrintable (sym (append_assoc (json_tokens (outline d)) rest ts))
      (value_printable d (rest ++ ts) h.0 (items_printable ds ts h.1 p))

  members_printable : (ms : Members) (ts : List Token) → MembersHaveWords ms → ArePrintable ts
      → ArePrintable (members_tokens (members_outline ms) ++ ts)
  members_printable no_members ts h p = (tt, p)
  members_printable (member k d ms) ts h p =
      let rest = members_tokens (members_outline ms) in (
        tt,
        subst ArePrintable (sym (append_assoc (json_tokens (outline d)) rest ts))
            (value_printable d (rest ++ ts) h.0 (members_printable ms ts h.1 p)),
      )

all_printable : (d : Data) → HasWords d → ArePrintable (json_tokens (outline d))
unfolding ArePrintable
all_printable d h = subst ArePrintable (append-nil (json_tokens (outline d))) (value_printable d [] h tt)

pub tokens_of_text : (d : Data) → HasWords d → tokens (compact_text d) ≡ json_tokens (outline d)
tokens_of_text d h = ap tokens (sym (print-outline d)) ∙ tokens-print (json_tokens (outline d)) (all_printable d h)

-- two data of one text are the same
pub same_data : (a b : Data) → HasWords a → HasWords b → compact_text a ≡ compact_text b → a ≡ b
same_data a b h k e =
    let same_tokens = sym (tokens_of_text a h) ∙ ap tokens e ∙ tokens_of_text b k in
    sym (data_back a h) ∙ ap data_of same_tokens ∙ data_back b k
