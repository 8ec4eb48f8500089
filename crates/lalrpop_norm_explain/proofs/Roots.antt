-- Names at which trees may begin.
use Rattle.std.proofs.Common.{◌≡◌, List, [], ◌∷◌, nat_cmp, bytes_eq, refl}
use Rattle.std.specs.List.{list_any}
use Rattle.std.specs.BTreeMap.{is_at}
use Rattle.std.specs.Cmp.Lexicographic.{slice_cmp}
use Rattle.std.proofs.lemmas.Map.Text.{is_eq-slice_cmp}
use Rattle.lalrpop_norm_tree_names.specs.declared.names.NonterminalString.{NonterminalString}

-- a set of names holds a name where one of its names has that text
pub found_among : (k : NonterminalString) (ks : List NonterminalString) →
    list_any (is_at (λ (q : NonterminalString). slice_cmp nat_cmp k.0 q.0)) ks
    ≡ list_any (λ (m : NonterminalString). bytes_eq k.0 m.0) ks
found_among k [] = refl
found_among k (q ∷ ks) = rw (is_eq-slice_cmp k.0 q.0, found_among k ks) refl
