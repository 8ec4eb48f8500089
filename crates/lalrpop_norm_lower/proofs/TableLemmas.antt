-- Rows that are put into a table one after the other, and what is looked up in it.
use Rattle.std.proofs.Common.{◌≡◌, ◌∙◌, Bool, true, false, cond, List, [], ◌∷◌, ◌++◌, Option, Some, None, refl, sym, ap, Decides}
use Rattle.std.specs.declared.cmp.Ordering.{Ordering}
use Rattle.std.specs.declared.cmp.Ordering.TheVariants.{Less, Equal, Greater}
use Rattle.std.specs.Ordering.{match_ordering, ordering_reverse}
use Rattle.std.specs.Cmp.{IsTotalOrder, IsEquivalence}
use Rattle.std.specs.BTreeMap.{insert_entry}
use Rattle.std.specs.List.{IsDistinct, AllByRecursion}
use Rattle.std.specs.List.Sorted.{IsStrictlySortedBy}
use Rattle.std.specs.Map.{keys_of, lookup}
use Rattle.std.specs.Option.{option_or}
use Rattle.std.proofs.lemmas.Cmp.{tied_itself}
use Rattle.std.proofs.lemmas.List.Elements.{All-from_recursion, recursion_from_All}
use Rattle.std.proofs.lemmas.Map.{lookup-none}
use Rattle.std.proofs.lemmas.Map.Entries.{none_past_head}
use Rattle.std.proofs.lemmas.Map.Keys.{IsDistinct-tail}
use Rattle.std.proofs.lemmas.Map.Views.{All-keys-insert_entry}
use Rattle.lalrpop_norm_theory.proofs.BoolLemmas.{shadowed, swapped}

-- the rows put in, one after the other
abbrev pub put_all : {K V : Type 0} → (K → K → Ordering) → List (K × V) → List (K × V) → List (K × V)
put_all cmp es [] = es
put_all cmp es (r ∷ rs) = put_all cmp (insert_entry cmp es r.0 r.1) rs

pub put_more : {K V : Type 0} (cmp : K → K → Ordering) (es xs ys : List (K × V)) → put_all cmp (put_all cmp es xs) ys ≡ put_all cmp es (xs ++ ys)
put_more cmp es [] ys = refl
put_more cmp es (x ∷ xs) ys = put_more cmp (insert_entry cmp es x.0 x.1) xs ys

module _ {K : Type 0} (cmp : K → K → Ordering) (total : IsTotalOrder cmp) where
  above : (k : K) (e : K) (o : Ordering) → cmp k e ≡ o → cmp e k ≡ ordering_reverse o
  above k e o is = total.antisymm e k ∙ ap ordering_reverse is

  below_all : (k e : K) (ks : List K) → cmp k e ≡ Less → AllByRecursion (λ y. cmp e y ≡ Less) ks → AllByRecursion (λ y. cmp k y ≡ Less) ks
  below_all k e [] is h = tt
  below_all k e (y ∷ ks) is h = (total.trans k e y is h.0, below_all k e ks is h.1)

  not_above : (same : K → K → Bool) → ((a b : K) → Decides (same a b) (a ≡ b)) → (q k e : K) → cmp k e ≡ Greater → same q e ≡ true → same q k ≡ true → ⊥
  not_above same decides q k e is at_e at_k =
      let one : k ≡ e = sym ((decides q k).0 at_k) ∙ (decides q e).0 at_e in
      let tied : cmp k e ≡ Equal = ap (λ x. cmp k x) (sym one) ∙ tied_itself total k in
      cc

module _ {K V : Type 0} (cmp : K → K → Ordering) (total : IsTotalOrder cmp) where
  sorted_step : (e : K × V) (es : List (K × V)) (k : K) (v : V) (o : Ordering) → cmp k e.0 ≡ o → IsStrictlySortedBy cmp (keys_of (e ∷ es)) → IsStrictlySortedBy cmp (keys_of (insert_entry cmp es k v))
      → IsStrictlySortedBy cmp (keys_of (match_ordering o ((k, v) ∷ e ∷ es) ((e.0, v) ∷ es) (e ∷ insert_entry cmp es k v)))
  unfolding IsStrictlySortedBy
  sorted_step e es k v Less is h deeper = ((is, below_all cmp total k e.0 (keys_of es) is h.0), h)
  sorted_step e es k v Equal is h deeper = h
  sorted_step e es k v Greater is h deeper =
      (recursion_from_All (λ y. cmp e.0 y ≡ Less) (keys_of (insert_entry cmp es k v)) (All-keys-insert_entry cmp k v (λ y. cmp e.0 y ≡ Less) es (All-from_recursion (λ y. cmp e.0 y ≡ Less) (keys_of es) h.0) (above cmp total k e.0 Greater is)), deeper)

  sorted_tail : (e : K × V) (es : List (K × V)) → IsStrictlySortedBy cmp (keys_of (e ∷ es)) → IsStrictlySortedBy cmp (keys_of es)
  unfolding IsStrictlySortedBy
  sorted_tail e es h = h.1

  insert_sorted : (es : List (K × V)) (k : K) (v : V) → IsStrictlySortedBy cmp (keys_of es) → IsStrictlySortedBy cmp (keys_of (insert_entry cmp es k v))
  unfolding IsStrictlySortedBy
  insert_sorted [] k v h = (tt, tt)
  insert_sorted (e ∷ es) k v h = sorted_step e es k v (cmp k e.0) refl h (insert_sorted es k v (sorted_tail e es h))

  pub put_sorted : (es rs : List (K × V)) → IsStrictlySortedBy cmp (keys_of es) → IsStrictlySortedBy cmp (keys_of (put_all cmp es rs))
  put_sorted es [] h = h
  put_sorted es (r ∷ rs) h = put_sorted (insert_entry cmp es r.0 r.1) rs (insert_sorted es r.0 r.1 h)

  module _ (same : K → K → Bool) (decides : (a b : K) → Decides (same a b) (a ≡ b)) (exact : (a b : K) → cmp a b ≡ Equal → a ≡ b) (laws : IsEquivalence same) where
    lookup_step : (q : K) (e : K × V) (es : List (K × V)) (k : K) (v : V) (o : Ordering) → cmp k e.0 ≡ o → lookup (same q) (insert_entry cmp es k v) ≡ cond (same q k) (Some v) (lookup (same q) es)
        → lookup (same q) (match_ordering o ((k, v) ∷ e ∷ es) ((e.0, v) ∷ es) (e ∷ insert_entry cmp es k v)) ≡ cond (same q k) (Some v) (lookup (same q) (e ∷ es))
    lookup_step q e es k v Less is deeper = refl
    lookup_step q e es k v Equal is deeper =
        shadowed (same q e.0) (Some v) (Some e.1) (lookup (same q) es)
        ∙ ap (λ x. cond (same q x) (Some v) (lookup (same q) (e ∷ es))) (sym (exact k e.0 is))
    lookup_step q e es k v Greater is deeper =
        ap (λ o. cond (same q e.0) (Some e.1) o) deeper
        ∙ swapped (same q e.0) (same q k) (Some e.1) (Some v) (lookup (same q) es) (not_above cmp total same decides q k e.0 is)

    lookup_insert : (q : K) (es : List (K × V)) (k : K) (v : V) → lookup (same q) (insert_entry cmp es k v) ≡ cond (same q k) (Some v) (lookup (same q) es)
    lookup_insert q [] k v = refl
    lookup_insert q (e ∷ es) k v = lookup_step q e es k v (cmp k e.0) refl (lookup_insert q es k v)

    later_first : (q : K) (r : K × V) (rs : List (K × V)) (o : Option V) (b : Bool) → same q r.0 ≡ b → (b ≡ true → lookup (same q) rs ≡ None) → option_or (lookup (same q) rs) (cond b (Some r.1) o) ≡ option_or (cond b (Some r.1) (lookup (same q) rs)) o
    later_first q r rs o true is none = ap (λ x. option_or x (Some r.1)) (none refl)
    later_first q r rs o false is none = refl

    -- where the rows have distinct keys, each is found
    pub put_lookup : (q : K) (es rs : List (K × V)) → IsDistinct same (keys_of rs) → lookup (same q) (put_all cmp es rs) ≡ option_or (lookup (same q) rs) (lookup (same q) es)
    put_lookup q es [] h = refl
    put_lookup q es (r ∷ rs) h =
        put_lookup q (insert_entry cmp es r.0 r.1) rs (IsDistinct-tail same r.0 (keys_of rs) h)
        ∙ ap (λ o. option_or (lookup (same q) rs) o) (lookup_insert q es r.0 r.1)
        ∙ later_first q r rs (lookup (same q) es) (same q r.0) refl (λ is. lookup-none (same q) rs (none_past_head laws q r rs h is))
