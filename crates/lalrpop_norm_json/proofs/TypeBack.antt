-- Types and parameters back from their forms.
use Rattle.std.proofs.Common.{◌≡◌, ℕ, List, [], false, Option, bytes_eq, if◌then◌else◌, codes, refl, ap, ap₂}
use Rattle.serde_json.specs.Data.{Data, array, object, Items, no_items, item, no_members, member}
use Rattle.lalrpop_norm_tree_names.specs.declared.names.Lifetime.{Lifetime}
use Rattle.lalrpop_norm_tree_names.specs.declared.names.TypeParameter.{TypeParameter}
use Rattle.lalrpop_norm_tree_parts.specs.Paths.{PathData}
use Rattle.lalrpop_norm_tree.specs.Types.{TypeData, tuple, slice, nominal, reference, trait_object, of_lifetime, id, of_symbol, function, TypesData, no_types, type_and, MaybeType, no_type, returns, ParameterData}
use Rattle.lalrpop_norm_json.specs.Json.{maybe_form}
use Rattle.lalrpop_norm_json.specs.Forms.{lifetime_form}
use Rattle.lalrpop_norm_json.specs.TypeForms.{type_form, types_form, maybe_type_form, parameter_form}
use Rattle.lalrpop_norm_json.proofs.ListBack.{◌⊛◌, is_null, list_in, maybe_in, maybe_back}
use Rattle.lalrpop_norm_json.proofs.NameBack.{text_in, truth_in, lifetime_in, path_in, path_back, parameter_in, parameters_back}
use Rattle.lalrpop_norm_json.proofs.SymbolLaws.{kind_in, kind_back}

-- ---- types

-- the types that hold no type
abbrev plain_type_in : List ℕ → Data → TypeData
plain_type_in k d =
    if bytes_eq k (codes "Lifetime") then of_lifetime (lifetime_in d)
    else if bytes_eq k (codes "Id") then id (text_in d)
    else of_symbol (kind_in d)

abbrev mutual
  pub type_in : Data → TypeData
  type_in (object (member k d no_members)) =
      if bytes_eq k (codes "Tuple") then tuple (type_list_in d)
      else if bytes_eq k (codes "Slice") then slice (type_in d)
      else if bytes_eq k (codes "Nominal") then nominal_in d
      else if bytes_eq k (codes "Ref") then reference_in d
      else if bytes_eq k (codes "TraitObject") then trait_object_in d
      else if bytes_eq k (codes "Fn") then function_in d
      else plain_type_in k d
  type_in _ = id []

  type_list_in : Data → TypesData
  type_list_in (array ts) = types_in ts
  type_list_in _ = no_types

  nominal_in : Data → TypeData
  nominal_in (object (member k p (member l (array ts) no_members))) = nominal (path_in p) (types_in ts)
  nominal_in _ = id []

  trait_object_in : Data → TypeData
  trait_object_in (object (member k p (member l (array ts) no_members))) = trait_object (path_in p) (types_in ts)
  trait_object_in _ = id []

  reference_in : Data → TypeData
  reference_in (object (member k l (member m b (member n t no_members)))) =
      reference (maybe_in lifetime_in l) (truth_in b) (type_in t)
  reference_in _ = id []

  function_in : Data → TypeData
  function_in (object (member k fs (member l (array ts) (member m p (member n r no_members))))) =
      function (list_in parameter_in fs) (path_in p) (types_in ts) (if is_null r then no_type else returns (type_in r))
  function_in _ = id []

  types_in : Items → TypesData
  types_in no_items = no_types
  types_in (item d ds) = type_and (type_in d) (types_in ds)

-- the form of a type is not null
type_there : (t : TypeData) → is_null (type_form t) ≡ false
type_there (tuple ts) = refl
type_there (slice t) = refl
type_there (nominal p ts) = refl
type_there (reference l m t) = refl
type_there (trait_object p ts) = refl
type_there (of_lifetime l) = refl
type_there (id a) = refl
type_there (of_symbol k) = refl
type_there (function fs p ts r) = refl

abbrev returned_in : Data → MaybeType
returned_in r = if is_null r then no_type else returns (type_in r)

abbrev function_of : List TypeParameter → PathData → TypesData → MaybeType → TypeData
function_of fs p ts r = function fs p ts r

mutual
  pub type_back : (t : TypeData) → type_in (type_form t) ≡ t
  type_back (tuple ts) = ap tuple (types_back ts)
  type_back (slice t) = ap slice (type_back t)
  type_back (nominal p ts) = ap₂ nominal (path_back p) (types_back ts)
  type_back (reference l m t) =
      ap₂ (λ (k : Option Lifetime) (u : TypeData). reference k m u)
      (maybe_back lifetime_form lifetime_in (λ k. refl) (λ k. refl) l) (type_back t)
  type_back (trait_object p ts) = ap₂ trait_object (path_back p) (types_back ts)
  type_back (of_lifetime l) = refl
  type_back (id a) = refl
  type_back (of_symbol k) = ap of_symbol (kind_back k)
  type_back (function fs p ts r) =
      ap function_of (parameters_back fs) ⊛ path_back p ⊛ types_back ts ⊛ returned_back r

  types_back : (ts : TypesData) → types_in (types_form ts) ≡ ts
  types_back no_types = refl
  types_back (type_and t ts) = ap₂ type_and (type_back t) (types_back ts)

  returned_back : (r : MaybeType) → returned_in (maybe_type_form r) ≡ r
  returned_back no_type = refl
  returned_back (returns t) = rw (type_there t) (ap returns (type_back t))

-- ---- parameters

pub maybe_type_back : (r : Option TypeData) → maybe_in type_in (maybe_form type_form r) ≡ r
maybe_type_back = maybe_back type_form type_in type_back type_there

abbrev pub grammar_parameter_in : Data → ParameterData
grammar_parameter_in (object (member k n (member l t no_members))) = record { name = text_in n; type = type_in t }
grammar_parameter_in _ = record { name = []; type = id [] }

pub grammar_parameter_back : (p : ParameterData) → grammar_parameter_in (parameter_form p) ≡ p
grammar_parameter_back p = ap (λ (t : TypeData). let q : ParameterData = record { name = p.name; type = t } in q) (type_back p.type)
