-- A table that is copied row by row, in the order of the names.
use Rattle.std.proofs.Common.{◌≡◌, ◌∙◌, List, ◌∷◌, ◌++◌, map, sym, ap, subst}
use Rattle.std.specs.BTreeMap.{insert_entry}
use Rattle.std.specs.List.Sorted.{IsStrictlySortedBy}
use Rattle.std.specs.Map.{keys_of}
use Rattle.std.proofs.lemmas.Map.Made.{keys_of-map_values}
use Rattle.lalrpop_norm_tree_names.specs.declared.names.NonterminalString.{NonterminalString}
use Rattle.lalrpop_norm_repr.specs.Orders.{name_cmp}
use Rattle.lalrpop_norm_repr.proofs.NameOrder.{names_total}
use Rattle.lalrpop_norm_repr.proofs.RowOrder.{one_more_copied}

-- one more row of the table is in the copy: what is there and what is left are the table's rows
pub row_copied : {X Y V : Type 0} (f : X → V) (g : Y → V) (all left rs : List (NonterminalString × Y)) (es : List (NonterminalString × X)) (n k : NonterminalString) (y : Y) (x : X)
    → IsStrictlySortedBy name_cmp (keys_of all) → left ≡ (n, y) ∷ rs → k ≡ n → f x ≡ g y → map {B = NonterminalString × V} (λ e. (e.0, f e.1)) es ++ map (λ e. (e.0, g e.1)) left ≡ map (λ e. (e.0, g e.1)) all
    → map {B = NonterminalString × V} (λ e. (e.0, f e.1)) (insert_entry name_cmp es k x) ++ map (λ e. (e.0, g e.1)) rs ≡ map (λ e. (e.0, g e.1)) all
row_copied {X} {Y} {V} f g all left rs es n k y x sorted next key same whole =
    let seen : List (NonterminalString × Y) → List (NonterminalString × V) = λ xs. map (λ e. (e.0, g e.1)) xs in
    let before : List (NonterminalString × V) = map (λ e. (e.0, f e.1)) es in
    one_more_copied name_cmp names_total f es k x (g y) (seen rs) (seen all) (subst (IsStrictlySortedBy name_cmp) (sym (keys_of-map_values g all)) sorted) same
    (ap (λ m. before ++ (m, g y) ∷ seen rs) key ∙ ap (λ xs. before ++ seen xs) (sym next) ∙ whole)
