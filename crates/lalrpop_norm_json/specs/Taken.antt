-- What becomes of the fields of a record by a member.
use Rattle.std.specs.Prelude.{◌≡◌, ℕ, List, [], ◌∷◌, Bool, true, false, Option, Some, option_map}
use Rattle.json.specs.Token.{Token}
use Rattle.serde_json.specs.Data.{Data, boolean}
use Rattle.json_records.specs.declared.records.And.{And}
use Rattle.json_records.specs.declared.records.End.{End}
use Rattle.json_records.specs.Fields.{Puts, is_known}
use Rattle.json_records.specs.Reading.{data_of, maybe_form}
use Rattle.lalrpop_norm_tree_names.specs.declared.names.Lifetime.{Lifetime}
use Rattle.lalrpop_norm_tree.specs.declared.types.TypeRef.{TypeRef}
use Rattle.lalrpop_norm_tree.specs.Types.{type_view}
use Rattle.lalrpop_norm_json.specs.Forms.{lifetime_form}
use Rattle.lalrpop_norm_json.specs.TypeForms.{type_form}

-- the data is put into the field of that name; or the key is none of the names, and all stays as it was
abbrev pub IsPut : List (List ℕ) → List (Data → Bool) → List ℕ → Data → List (Option Data) → List (Option Data) → Bool → Type 0
IsPut ns ts k d held new true = Puts ns ts k d held new
IsPut ns ts k d held new false = (is_known k ns ≡ false) × (new ≡ held)

-- the tokens begin with data, which is so put under the key
pub record IsTaken (ns : List (List ℕ)) (ts : List (Data → Bool)) (k : List ℕ) (n : ℕ) (start rest : List Token) (held new : List (Option Data)) (known : Bool) : Type 0 where
  pub means : Data
  pub read : data_of n start ≡ Some (means, rest)
  pub put : IsPut ns ts k means held new known

-- what the fields of a reference type hold
abbrev pub reference_held : And (Option Lifetime) (And Bool (And TypeRef End)) → List (Option Data)
reference_held fields =
    option_map (maybe_form lifetime_form) fields.first ∷ option_map boolean fields.rest.first
    ∷ option_map (λ t. type_form (type_view t)) fields.rest.rest.first ∷ []
