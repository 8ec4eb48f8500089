-- The lines of types, written while nonterminals and types are walked side by side.
use Rattle.std.proofs.Common.{◌≡◌, ◌∙◌, ℕ, false, List, [], ◌∷◌, ◌++◌, Option, Some, None, map, bytes_eq, Bor, refl, sym, ap, subst, append_assoc, append-nil}
use Rattle.std.specs.declared.cmp.Ordering.{Ordering}
use Rattle.std.specs.declared.cmp.Ordering.TheVariants.{Less, Equal, Greater}
use Rattle.std.specs.List.{AllByRecursion, flat_map}
use Rattle.std.specs.List.Sorted.{IsStrictlySortedBy}
use Rattle.std.specs.Map.{keys_of}
use Rattle.std.specs.Map.Iter.{TakesFirst, deref, deref_pair}
use Rattle.std.specs.Ordering.{is_eq, ordering_reverse}
use Rattle.std.proofs.lemmas.Map.Text.{is_eq-slice_cmp}
use Rattle.std.proofs.lemmas.Map.Lookups.{exact_bytes}
use Rattle.std.proofs.lemmas.Slice.Eq.{bytes_eq-Decides}
use Rattle.lalrpop_norm_tree_names.specs.declared.names.NonterminalString.{NonterminalString}
use Rattle.lalrpop_norm_tree_parts.specs.Reprs.{ReprData}
use Rattle.std.proofs.lemmas.Map.Made.{keys_of-map_values}
use Rattle.lalrpop_norm_repr.specs.Orders.{name_cmp}
use Rattle.lalrpop_norm_repr.specs.Productions.{EntryData}
use Rattle.lalrpop_norm_repr.specs.Tables.{found}
use Rattle.lalrpop_norm_repr.proofs.NameOrder.{names_total, below_is_other, none_above}
use Rattle.lnorm_run.specs.Lines.{line_among, type_line}

-- ---- a walk that has its next element at hand

-- what is left of it
abbrev pub ahead : {A X : Type 0} → (A → X) → Option A → List X → List X
ahead shows None xs = []
ahead shows (Some x) xs = shows x ∷ xs

pub taken : {A X : Type 0} (shows : A → X) (all left : List X) (next : Option A) → TakesFirst shows all next left → ahead shows next left ≡ all
taken shows all left None steps = sym steps.0
taken shows all left (Some x) steps = sym steps

-- ---- what is written

abbrev pub type_lines : List (NonterminalString × ReprData) → List NonterminalString → List ℕ
type_lines rows names = flat_map (λ n. type_line n (found n rows)) names

pub lines_of_rows : {V : Type 0} (f : V → EntryData) (types : List (NonterminalString × ReprData)) (es : List (NonterminalString × V)) →
    type_lines types (keys_of es) ≡ flat_map (line_among types) (map (λ e. (e.0, f e.1)) es)
lines_of_rows f types [] = refl
lines_of_rows f types (e ∷ es) = ap (λ t. line_among types (e.0, f e.1) ++ t) (lines_of_rows f types es)

-- text is what is written of the whole, with the lines of the names that are left, of which the rows that are left have the types
pub record IsMerging (whole text : List ℕ) (names : List NonterminalString) (rows : List (NonterminalString × ReprData)) : Type 0 where
  pub written : text ++ type_lines rows names ≡ whole
  pub names_ordered : IsStrictlySortedBy name_cmp names
  pub rows_ordered : IsStrictlySortedBy name_cmp (keys_of rows)

none_typed : (names : List NonterminalString) → type_lines [] names ≡ []
none_typed [] = refl
none_typed (n ∷ ns) = none_typed ns

pub no_rows : (whole text : List ℕ) (names : List NonterminalString) (rows : List (NonterminalString × ReprData)) → rows ≡ [] → IsMerging whole text names rows → text ≡ whole
no_rows whole text names rows none m =
    sym (append-nil text) ∙ ap (λ t. text ++ t) (sym (none_typed names)) ∙ ap (λ rs. text ++ type_lines rs names) (sym none) ∙ m.written

-- ---- the order of the names

apart_above : (a b : NonterminalString) → name_cmp a b ≡ Less → bytes_eq b.0 a.0 ≡ false
apart_above a b less = sym (is_eq-slice_cmp b.0 a.0) ∙ ap is_eq (names_total.antisymm b a ∙ ap ordering_reverse less)

all_above : (a b : NonterminalString) (others : List NonterminalString) → name_cmp a b ≡ Less → AllByRecursion (λ other. name_cmp b other ≡ Less) others → AllByRecursion (λ other. name_cmp a other ≡ Less) others
all_above a b [] less above = above
all_above a b (o ∷ os) less above = (names_total.trans a b o less above.0, all_above a b os less above.1)

-- names above that of a row don't need it
without_row : (r : NonterminalString × ReprData) (rs : List (NonterminalString × ReprData)) (ns : List NonterminalString) → AllByRecursion (λ other. name_cmp r.0 other ≡ Less) ns → type_lines (r ∷ rs) ns ≡ type_lines rs ns
without_row r rs [] above = refl
without_row r rs (n ∷ ns) above = rw (apart_above r.0 n above.0) (ap (λ t. type_line n (found n rs) ++ t) (without_row r rs ns above.1))

-- ---- each step

module _ (whole text : List ℕ) (n : NonterminalString) (ns : List NonterminalString) (r : NonterminalString × ReprData) (rs : List (NonterminalString × ReprData)) (m : IsMerging whole text (n ∷ ns) (r ∷ rs)) where
  name_passed : name_cmp n r.0 ≡ Less → IsMerging whole text ns (r ∷ rs)
  unfolding IsStrictlySortedBy
  name_passed less =
      let none : found n (r ∷ rs) ≡ None = rw (below_is_other n r.0 less) (none_above n rs (all_above n r.0 (keys_of rs) less m.rows_ordered.0)) in
      record {
        written = ap (λ o. text ++ (type_line n o ++ type_lines (r ∷ rs) ns)) (sym none) ∙ m.written;
        names_ordered = m.names_ordered.1;
        rows_ordered = m.rows_ordered;
      }

  row_passed : name_cmp n r.0 ≡ Greater → IsMerging whole text (n ∷ ns) rs
  unfolding IsStrictlySortedBy
  row_passed greater =
      let less : name_cmp r.0 n ≡ Less = names_total.antisymm r.0 n ∙ ap ordering_reverse greater in
      record {
        written = ap (λ t. text ++ t) (sym (without_row r rs (n ∷ ns) (less, all_above r.0 n ns less m.names_ordered.0))) ∙ m.written;
        names_ordered = m.names_ordered;
        rows_ordered = m.rows_ordered.1;
      }

  both_passed : name_cmp n r.0 ≡ Equal → IsMerging whole (text ++ type_line n (Some r.1)) ns rs
  unfolding IsStrictlySortedBy
  both_passed equal =
      let text_is : n.0 ≡ r.0.0 = exact_bytes n.0 r.0.0 equal in
      let same : n ≡ r.0 = ap (λ (t : List ℕ). let name : NonterminalString = record { 0 = t } in name) text_is in
      let here : found n (r ∷ rs) ≡ Some r.1 = rw ((bytes_eq-Decides n.0 r.0.0).1 text_is) in
      let above : AllByRecursion (λ other. name_cmp r.0 other ≡ Less) ns = subst (λ a. AllByRecursion (λ other. name_cmp a other ≡ Less) ns) same m.names_ordered.0 in
      record {
        written =
            append_assoc text (type_line n (Some r.1)) (type_lines rs ns)
            ∙ ap (λ t. text ++ (type_line n (Some r.1) ++ t)) (sym (without_row r rs ns above))
            ∙ ap (λ o. text ++ (type_line n o ++ type_lines (r ∷ rs) ns)) (sym here) ∙ m.written;
        names_ordered = m.names_ordered.1;
        rows_ordered = m.rows_ordered.1;
      }

-- ---- the walks

module _ {X : Type 0} (view : X → ReprData) where
  abbrev seen : List (NonterminalString × X) → List (NonterminalString × ReprData)
  seen es = map (λ e. (e.0, view e.1)) es

  -- the walks have come to these names and rows
  abbrev pub IsAt : List ℕ → List ℕ → Option (Bor NonterminalString) → List NonterminalString → Option (Bor NonterminalString × Bor X) → List (NonterminalString × X) → Type 0
  IsAt whole text name names row rows = IsMerging whole text (ahead deref name names) (seen (ahead deref_pair row rows))

module _ {X : Type 0} (view : X → ReprData) (whole text : List ℕ) (name : Option (Bor NonterminalString)) (names : List NonterminalString) (row : Option (Bor NonterminalString × Bor X)) (rows : List (NonterminalString × X))
    (asked typed : Bor NonterminalString) (ty : Bor X) (name_is : name ≡ Some asked) (row_is : row ≡ Some (typed, ty)) (at : IsAt view whole text name names row rows) where
  met : IsMerging whole text (asked.now ∷ names) ((typed.now, view ty.now) ∷ seen view rows)
  met = subst (λ o. IsAt view whole text (Some asked) names o rows) row_is (subst (λ o. IsAt view whole text o names row rows) name_is at)

  pub name_goes : name_cmp asked.now typed.now ≡ Less → (next : Option (Bor NonterminalString)) (left : List NonterminalString) → TakesFirst deref names next left → IsAt view whole text next left row rows
  name_goes less next left steps =
      subst (λ ns. IsMerging whole text ns (seen view (ahead deref_pair row rows))) (sym (taken deref names left next steps))
      (subst (λ o. IsMerging whole text names (seen view (ahead deref_pair o rows))) (sym row_is) (name_passed whole text asked.now names (typed.now, view ty.now) (seen view rows) met less))

  pub row_goes : name_cmp asked.now typed.now ≡ Greater → (next : Option (Bor NonterminalString × Bor X)) (left : List (NonterminalString × X)) → TakesFirst deref_pair rows next left → IsAt view whole text name names next left
  row_goes greater next left steps =
      subst (λ rs. IsMerging whole text (ahead deref name names) (seen view rs)) (sym (taken deref_pair rows left next steps))
      (subst (λ o. IsMerging whole text (ahead deref o names) (seen view rows)) (sym name_is) (row_passed whole text asked.now names (typed.now, view ty.now) (seen view rows) met greater))

  pub both_go : name_cmp asked.now typed.now ≡ Equal → (name_next : Option (Bor NonterminalString)) (names_left : List NonterminalString) → TakesFirst deref names name_next names_left
      → (row_next : Option (Bor NonterminalString × Bor X)) (rows_left : List (NonterminalString × X)) → TakesFirst deref_pair rows row_next rows_left
      → IsAt view whole (text ++ type_line asked.now (Some (view ty.now))) name_next names_left row_next rows_left
  both_go equal name_next names_left name_steps row_next rows_left row_steps =
      subst (λ ns. IsMerging whole (text ++ type_line asked.now (Some (view ty.now))) ns (seen view (ahead deref_pair row_next rows_left))) (sym (taken deref names names_left name_next name_steps))
      (subst (λ rs. IsMerging whole (text ++ type_line asked.now (Some (view ty.now))) names (seen view rs)) (sym (taken deref_pair rows rows_left row_next row_steps))
      (both_passed whole text asked.now names (typed.now, view ty.now) (seen view rows) met equal))

-- before the first steps
pub begins : {X V : Type 0} (view : X → ReprData) (f : V → EntryData) (es : List (NonterminalString × V)) (typed : List (NonterminalString × X)) (text : List ℕ) →
    IsStrictlySortedBy name_cmp (keys_of es) → IsStrictlySortedBy name_cmp (keys_of typed) →
    (name : Option (Bor NonterminalString)) (names : List NonterminalString) → TakesFirst deref (keys_of es) name names →
    (row : Option (Bor NonterminalString × Bor X)) (rows : List (NonterminalString × X)) → TakesFirst deref_pair typed row rows →
    IsAt view (text ++ flat_map (line_among (seen view typed)) (map (λ e. (e.0, f e.1)) es)) text name names row rows
begins view f es typed text names_ordered rows_ordered name names name_steps row rows row_steps =
    let whole : List ℕ = text ++ flat_map (line_among (seen view typed)) (map (λ e. (e.0, f e.1)) es) in
    subst (λ ns. IsMerging whole text ns (seen view (ahead deref_pair row rows))) (sym (taken deref (keys_of es) names name name_steps))
    (subst (λ rs. IsMerging whole text (keys_of es) (seen view rs)) (sym (taken deref_pair typed rows row row_steps))
    (record {
      written = ap (λ t. text ++ t) (lines_of_rows f (seen view typed) es);
      names_ordered = names_ordered;
      rows_ordered = subst (IsStrictlySortedBy name_cmp) (sym (keys_of-map_values view typed)) rows_ordered;
    }))

-- where no row is left
pub ends : {X : Type 0} (view : X → ReprData) (whole text : List ℕ) (name : Option (Bor NonterminalString)) (names : List NonterminalString) (row : Option (Bor NonterminalString × Bor X)) (rows : List (NonterminalString × X)) →
    row ≡ None → IsAt view whole text name names row rows → text ≡ whole
ends view whole text name names row rows none at = no_rows whole text (ahead deref name names) [] refl (subst (λ o. IsAt view whole text name names o rows) none at)
