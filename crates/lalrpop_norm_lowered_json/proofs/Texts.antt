-- The text of what a writer wrote from the beginning.
use Rattle.std.proofs.Common.{◌≡◌, ℕ, List, [], ◌++◌, ap, ap₂, ◌∙◌}
use Rattle.json.specs.Token.{Token}
use Rattle.json.specs.Print.{print}
use Rattle.serde_json.specs.Data.{Data}
use Rattle.serde_json.specs.Written.{compact_text}
use Rattle.serde_json.proofs.Texts.{print-outline}
use Rattle.lalrpop_norm_lowered_json_tables.specs.Written.{data_tokens}

pub printed : (d : Data) (items before : List ℕ) (old new : List Token) → items ≡ before ++ print new → before ≡ [] → new ≡ old ++ data_tokens d → old ≡ []
    → items ≡ compact_text d
printed d items before old new e b w o =
    e ∙ ap₂ (λ (s : List ℕ) (ts : List Token). s ++ print ts) b (w ∙ ap (λ ts. ts ++ data_tokens d) o) ∙ print-outline d
