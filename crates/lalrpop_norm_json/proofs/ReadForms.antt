-- The forms of options, as they are read and as a tree has them.
use Rattle.std.proofs.Common.{◌≡◌, Option, Some, None, option_map, refl}
use Rattle.serde_json.specs.Data.{Data}
use Rattle.json_records.specs.Reading.{maybe_form as form_read}
use Rattle.lalrpop_norm_json.specs.Json.{maybe_form}

pub maybe_same : {X : Type 0} (f : X → Data) (o : Option X) → form_read f o ≡ maybe_form f o
maybe_same f None = refl
maybe_same f (Some x) = refl

-- of values that are seen first
pub maybe_read : {X Y : Type 0} (f : Y → Data) (g : X → Y) (o : Option X) → form_read (λ x. f (g x)) o ≡ maybe_form f (option_map g o)
maybe_read f g None = refl
maybe_read f g (Some x) = refl
