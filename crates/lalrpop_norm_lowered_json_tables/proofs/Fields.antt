-- Fields that are written one after the other, and lists, tables and options of values that are seen through a view.
use Rattle.std.proofs.Common.{◌≡◌, ℕ, List, [], ◌∷◌, ◌++◌, map, Option, Some, None, refl, ap, ◌∙◌, append_assoc}
use Rattle.std.specs.BTreeMap.{BTreeMap}
use Rattle.std.specs.Prelude.{option_map}
use Rattle.json.specs.Token.{Token, key}
use Rattle.serde_json.specs.Data.{Data}
use Rattle.lalrpop_norm_json.specs.Json.{list_form, maybe_form, row}
use Rattle.lalrpop_norm_tree_parts.proofs.KnownTextLemmas.{map_twice}
use Rattle.lalrpop_norm_repr.specs.Tables.{rows}
use Rattle.lalrpop_norm_lowered_json_tables.specs.Written.{data_tokens}
use Rattle.lalrpop_norm_lowered_json_tables.specs.TableForms.{rows_form}

-- a field, its tokens seen as those of other data, and the rest behind it
pub field : (old mid : List Token) (k : List ℕ) (ts us rest : List Token) → mid ≡ old ++ key k ∷ ts → ts ≡ us → mid ++ rest ≡ old ++ key k ∷ (us ++ rest)
field old mid k ts us rest w s =
    ap (λ m. m ++ rest) w ∙ append_assoc old (key k ∷ ts) rest ∙ ap (λ vs. old ++ key k ∷ (vs ++ rest)) s

pub list_seen : {X Y : Type 0} (f : Y → Data) (v : X → Y) (xs : List X)
    → data_tokens (list_form (λ x. f (v x)) xs) ≡ data_tokens (list_form f (map v xs))
list_seen f v xs = ap (λ ds. data_tokens (row ds)) (map_twice f v xs)

pub maybe_seen : {X Y : Type 0} (f : Y → Data) (v : X → Y) (o : Option X)
    → data_tokens (maybe_form (λ x. f (v x)) o) ≡ data_tokens (maybe_form f (option_map v o))
maybe_seen f v None = refl
maybe_seen f v (Some x) = refl

pub rows_seen : {K X V : Type 0} (f : K → Data) (g : V → Data) (v : X → V) (m : BTreeMap K X)
    → data_tokens (rows_form f (λ x. g (v x)) m.entries) ≡ data_tokens (rows_form f g (rows v m))
rows_seen {K} {X} {V} f g v m = ap (λ ds. data_tokens (row ds)) (map_twice (λ (r : K × V). row (f r.0 ∷ g r.1 ∷ [])) (λ (e : K × X). (e.0, v e.1)) m.entries)
