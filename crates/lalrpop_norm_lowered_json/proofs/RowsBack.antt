-- Tables back from their forms, over functions back for what they hold.
use Rattle.std.proofs.Common.{◌≡◌, List, [], ◌∷◌, ap₂}
use Rattle.serde_json.specs.Data.{Data, null, array, no_items, item}
use Rattle.lalrpop_norm_json.specs.Json.{row}
use Rattle.lalrpop_norm_json.proofs.ListBack.{list_in, list_back}
use Rattle.lalrpop_norm_lowered_json_tables.specs.TableForms.{rows_form}

-- a row of a table
abbrev pub pair_in : {K V : Type 0} → (Data → K) → (Data → V) → Data → K × V
pair_in g h (array (item k (item v no_items))) = (g k, h v)
pair_in g h _ = (g null, h null)

abbrev pub rows_in : {K V : Type 0} → (Data → K) → (Data → V) → Data → List (K × V)
rows_in g h = list_in (pair_in g h)

pub rows_back : {K V : Type 0} (f : K → Data) (h : V → Data) (g : Data → K) (i : Data → V)
    → ((k : K) → g (f k) ≡ k) → ((v : V) → i (h v) ≡ v) → (rs : List (K × V)) → rows_in g i (rows_form f h rs) ≡ rs
rows_back {K} {V} f h g i keys values =
    list_back (λ (r : K × V). row (f r.0 ∷ h r.1 ∷ [])) (pair_in g i)
    (λ r. ap₂ (λ (k : K) (v : V). let p : K × V = (k, v) in p) (keys r.0) (values r.1))
