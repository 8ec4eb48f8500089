-- The fields of a struct, written without the brackets of its object.
use Rattle.std.specs.Prelude.{◌≡◌, ℕ, List, [], ◌∷◌, ◌++◌, Result, OnOk}
use Rattle.json.specs.Token.{Token, key}
use Rattle.json.specs.Written.{Written}
use Rattle.serde_json.specs.Data.{Data}
use Rattle.lalrpop_norm_lowered_json_tables.specs.Written.{data_tokens}

-- the tokens of these fields, and the rest behind them
abbrev pub fields_then : List (List ℕ × Data) → List Token → List Token
fields_then [] rest = rest
fields_then (m ∷ ms) rest = key m.0 ∷ (data_tokens m.1 ++ fields_then ms rest)

-- the fields are written after what was written before; if an allocation fails, nothing is said of the tokens
pub record PutsFields {E : Type 0} (r : Result (Unit {0}) E) (old new : Written) (ms : List (List ℕ × Data)) : Type 0 where
  pub ok : OnOk r ((rest : List Token) → new.tokens ++ rest ≡ old.tokens ++ fields_then ms rest)
  pub before : new.before ≡ old.before
