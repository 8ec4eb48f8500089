-- What is no variant has the shape of none.
use Rattle.std.proofs.Common.{◌≡◌, ℕ, List, false, refl}
use Rattle.serde_json.specs.Data.{Data, null, boolean, number, string, array, object, no_members, member}
use Rattle.json_records.specs.Variants.{is_variant}
use Rattle.lalrpop_norm_json.specs.Shapes.{Held, fits, variants}

pub no_variant : (ns : List (List ℕ)) (rows : List (List ℕ × Held)) (d : Data) → is_variant d ≡ false → fits (variants ns rows) d ≡ false
no_variant ns rows null e = refl
no_variant ns rows (boolean b) e = refl
no_variant ns rows (number x) e = refl
no_variant ns rows (string t) e = absurd (cc)
no_variant ns rows (array ds) e = refl
no_variant ns rows (object no_members) e = refl
no_variant ns rows (object (member k d no_members)) e = absurd (cc)
no_variant ns rows (object (member k d (member l f ms))) e = refl
