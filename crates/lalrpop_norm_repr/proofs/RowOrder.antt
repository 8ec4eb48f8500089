-- Rows that are put into a table in the order of their keys.
use Rattle.std.proofs.Common.{◌≡◌, ◌∙◌, List, [], ◌∷◌, ◌++◌, map, refl, sym, ap, subst}
use Rattle.std.specs.declared.cmp.Ordering.{Ordering}
use Rattle.std.specs.declared.cmp.Ordering.TheVariants.{Less, Equal, Greater}
use Rattle.std.specs.Ordering.{match_ordering, ordering_reverse}
use Rattle.std.specs.Cmp.{IsTotalOrder}
use Rattle.std.specs.BTreeMap.{insert_entry}
use Rattle.std.specs.List.{AllByRecursion}
use Rattle.std.specs.List.Sorted.{IsStrictlySortedBy}
use Rattle.std.specs.Map.{keys_of}
use Rattle.std.proofs.lemmas.List.{append_assoc}

by_order : {A B : Type 0} (f : A → B) (o : Ordering) (a b c : A) → f (match_ordering o a b c) ≡ match_ordering o (f a) (f b) (f c)
by_order f Less a b c = refl
by_order f Equal a b c = refl
by_order f Greater a b c = refl

-- a row put into a table, seen before or after
pub rows_inserted : {K V W : Type 0} (f : V → W) (cmp : K → K → Ordering) (es : List (K × V)) (k : K) (v : V) → map (λ e. (e.0, f e.1)) (insert_entry cmp es k v) ≡ insert_entry cmp (map (λ e. (e.0, f e.1)) es) k (f v)
rows_inserted f cmp [] k v = refl
rows_inserted {K} {V} {W} f cmp (e ∷ es) k v =
    let seen : List (K × V) → List (K × W) = λ xs. map (λ x. (x.0, f x.1)) xs in
    by_order seen (cmp k e.0) ((k, v) ∷ e ∷ es) ((e.0, v) ∷ es) (e ∷ insert_entry cmp es k v)
    ∙ ap (λ t. match_ordering (cmp k e.0) ((k, f v) ∷ (e.0, f e.1) ∷ seen es) ((e.0, f v) ∷ seen es) ((e.0, f e.1) ∷ t)) (rows_inserted f cmp es k v)

module _ {K : Type 0} (cmp : K → K → Ordering) (total : IsTotalOrder cmp) where
  met : {V : Type 0} (P : K → Type 0) (es : List (K × V)) (r : K × V) (rs : List (K × V)) → AllByRecursion P (keys_of (es ++ r ∷ rs)) → P r.0
  met P [] r rs h = h.0
  met P (e ∷ es) r rs h = met P es r rs h.1

  -- a row above those before it goes to their end
  inserted_last : {V : Type 0} (es : List (K × V)) (r : K × V) (rs : List (K × V)) → IsStrictlySortedBy cmp (keys_of (es ++ r ∷ rs)) → insert_entry cmp es r.0 r.1 ≡ es ++ r ∷ []
  unfolding IsStrictlySortedBy
  inserted_last [] r rs h = refl
  inserted_last (e ∷ es) r rs h =
      ap (λ o. match_ordering o (r ∷ e ∷ es) ((e.0, r.1) ∷ es) (e ∷ insert_entry cmp es r.0 r.1))
      (total.antisymm r.0 e.0 ∙ ap ordering_reverse (met (λ y. cmp e.0 y ≡ Less) es r rs h.0))
      ∙ ap (λ t. e ∷ t) (inserted_last es r rs h.1)

  -- one more row of a table that is copied in the order of its keys
  pub one_more_copied : {V W : Type 0} (f : V → W) (es : List (K × V)) (k : K) (v : V) (w : W) (rs all : List (K × W)) → IsStrictlySortedBy cmp (keys_of all) → f v ≡ w
      → map (λ e. (e.0, f e.1)) es ++ (k, w) ∷ rs ≡ all → map (λ e. (e.0, f e.1)) (insert_entry cmp es k v) ++ rs ≡ all
  one_more_copied {V} {W} f es k v w rs all sorted same whole =
      let seen : List (K × W) = map (λ e. (e.0, f e.1)) es in
      let put : map (λ e. (e.0, f e.1)) (insert_entry cmp es k v) ≡ insert_entry cmp seen k w = rows_inserted f cmp es k v ∙ ap (λ x. insert_entry cmp seen k x) same in
      let last : insert_entry cmp seen k w ≡ seen ++ (k, w) ∷ [] = inserted_last seen (k, w) rs (subst (λ (xs : List (K × W)). IsStrictlySortedBy cmp (keys_of xs)) (sym whole) sorted) in
      ap (λ (xs : List (K × W)). xs ++ rs) (put ∙ last) ∙ append_assoc seen ((k, w) ∷ []) rs ∙ whole
