-- Features by name.
use Rattle.std.proofs.Common.{◌≡◌, ℕ, List, [], ◌∷◌, map, nat_cmp, refl}
use Rattle.std.specs.Prelude.{String, string_bytes}
use Rattle.std.specs.List.{list_any}
use Rattle.std.specs.BTreeMap.{is_at}
use Rattle.std.specs.Cmp.Lexicographic.{slice_cmp}
use Rattle.std.specs.declared.alloc.Global.{Global}
use Rattle.std.proofs.lemmas.Map.Text.{is_eq-slice_cmp}
use Rattle.lalrpop_norm_model.specs.Features.{is_one_of}
use Rattle.lalrpop_norm_theory.proofs.SameLemmas.{text_turned}

-- a set of texts holds a name where one of its texts is that name
pub found_in_set : (name : List ℕ) (ks : List (String Global)) →
    list_any (is_at (λ k. slice_cmp nat_cmp name (string_bytes k))) ks ≡ is_one_of name (map string_bytes ks)
found_in_set name [] = refl
found_in_set name (k ∷ ks) = rw (is_eq-slice_cmp name (string_bytes k), text_turned name (string_bytes k), found_in_set name ks) refl
