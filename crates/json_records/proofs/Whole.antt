-- A whole text, by what its tokens say.
use Rattle.std.proofs.Common.{◌≡◌, ◌⊎◌, inl, inr, ℕ, List, [], ◌∷◌, Option, Some, None, option_and_then, refl, sym, ap, ◌∙◌}
use Rattle.json.specs.Token.{Token}
use Rattle.json.specs.Json as json
use Rattle.json.specs.Json.{value, if_last}
use Rattle.json.specs.Lex.{tokens}
use Rattle.serde_json.specs.Data.{Data}
use Rattle.serde_json.specs.Read.{of_json, max_depth, read}
use Rattle.json_records.specs.Reading.{data_of}
use Rattle.json_records.proofs.Saying.{said, unsaid}

module _ (text : List ℕ) (ts : List Token) (all : ts ≡ tokens text) where
  abbrev whole : Option (json.Json × List Token) → Option Data
  whole o = option_and_then of_json (option_and_then (λ p. if_last p.0 p.1) o)

  -- what is read of the tokens up to the last is read of the text
  pub read_all : (d : Data) → data_of max_depth ts ≡ Some (d, []) → read text ≡ Some d
  read_all d e =
      let j = said of_json (value max_depth ts) d [] e in
      ap (λ us. whole (value max_depth us)) (sym all) ∙ ap whole j.1 ∙ j.2

  -- a text that goes on behind its value is not read
  pub read_more : (d : Data) (t : Token) (r : List Token) → data_of max_depth ts ≡ Some (d, t ∷ r) → read text ≡ None
  read_more d t r e =
      let j = said of_json (value max_depth ts) d (t ∷ r) e in
      ap (λ us. whole (value max_depth us)) (sym all) ∙ ap whole j.1

  pub read_none : data_of max_depth ts ≡ None → read text ≡ None
  read_none e = ap (λ us. whole (value max_depth us)) (sym all) ∙ by_case (unsaid of_json (value max_depth ts) e)
    where
      lost : (j : json.Json) (s : List Token) → of_json j ≡ None → whole (Some (j, s)) ≡ None
      lost j [] means = means
      lost j (t ∷ s) means = refl

      by_case : (value max_depth ts ≡ None) ⊎ ((j : json.Json) × (s : List Token) × (value max_depth ts ≡ Some (j, s)) × (of_json j ≡ None)) → whole (value max_depth ts) ≡ None
      by_case (inl none) = ap whole none
      by_case (inr (j, s, is, means)) = ap whole is ∙ lost j s means
