-- The tokens that are written for data.
use Rattle.std.specs.Prelude.{◌≡◌, List, ◌++◌, Result, OnOk}
use Rattle.json.specs.Token.{Token}
use Rattle.json.specs.Tree.{json_tokens, items_tokens}
use Rattle.json.specs.Written.{Written}
use Rattle.serde_json.specs.Data.{Data, Items}
use Rattle.serde_json.specs.Written.{outline, items_outline}

-- the tokens of data
abbrev pub data_tokens : Data → List Token
data_tokens d = json_tokens (outline d)

-- the tokens of these items, with the bracket that closes their array
abbrev pub items_left : Items → List Token
items_left ds = items_tokens (items_outline ds)

-- the data is written after what was written before; if an allocation fails, nothing is said of the tokens
pub record Puts {E : Type 0} (r : Result (Unit {0}) E) (old new : Written) (d : Data) : Type 0 where
  pub ok : OnOk r (new.tokens ≡ old.tokens ++ data_tokens d)
  pub before : new.before ≡ old.before
