-- The entries of a grammar, put in order, are its entries; and they are the one list of these.
use Rattle.std.proofs.Common.{◌≡◌, ◌⊎◌, ◌∙◌, ℕ, Bool, true, false, List, [], ◌∷◌, ◌++◌, Option, Some, None, inl, inr, refl, sym, ap, subst}
use Rattle.std.specs.Prelude.{if◌then◌else◌}
use Rattle.std.specs.BTreeSet.{insert_key}
use Rattle.std.specs.declared.cmp.Ordering.{Ordering}
use Rattle.std.specs.declared.cmp.Ordering.TheVariants.{Less, Equal, Greater}
use Rattle.std.specs.Ordering.{match_ordering, ordering_reverse}
use Rattle.std.specs.List.{AllByRecursion, list_any}
use Rattle.std.specs.List.Sorted.{IsStrictlySortedBy}
use Rattle.lalrpop_norm_tree_names.specs.declared.names.TerminalLiteral.{TerminalLiteral}
use Rattle.lalrpop_norm_tree_names.specs.declared.names.TerminalString.{TerminalString}
use Rattle.lalrpop_norm_tree_names.specs.declared.names.TerminalString.TheVariants.{Literal, Bare, Error}
use Rattle.lalrpop_norm_tree.specs.declared.items.MatchEntry.{MatchEntry}
use Rattle.lalrpop_norm_tree.specs.Items.{GrammarData}
use Rattle.lalrpop_norm_theory.specs.Rounds.{In}
use Rattle.lalrpop_norm_theory.proofs.RoundsLemmas.{in_left, in_right, in_cases, in_flat, of_flat}
use Rattle.lalrpop_norm_model.specs.Terminals.{same_terminal, terminals_used}
use Rattle.lalrpop_norm_model.specs.Entries.{entry_in, own_mapping, match_entries, catch_all, user_names, IsEntry, written, added, entry_cmp, AreEntries}
use Rattle.lalrpop_norm_model.specs.EnteredGrammars.{added_for, added_entries, sorted_entries, all_entries}
use Rattle.lalrpop_norm_model.specs.Laws.{EntriesAreOneList}
use Rattle.lalrpop_norm_model.proofs.EntryOrder.{entries_total, entries_exact}
use Rattle.lalrpop_norm_model.proofs.EntryLemmas.{one_list}
use Rattle.lalrpop_norm_model.proofs.SameTerminalLemmas.{same_listed, listed_same}

-- ---- an entry put in its place

module _ (k : MatchEntry) where
  insert_new_at : (x : MatchEntry) (xs : List MatchEntry) (o : Ordering) → entry_cmp k x ≡ o → In k (insert_key entry_cmp xs k) →
      In k (match_ordering o (k ∷ x ∷ xs) (x ∷ xs) (x ∷ insert_key entry_cmp xs k))
  insert_new_at x xs Less e i = inl refl
  insert_new_at x xs Equal e i = inl (entries_exact k x e)
  insert_new_at x xs Greater e i = inr i

  insert_new : (xs : List MatchEntry) → In k (insert_key entry_cmp xs k)
  insert_new [] = inl refl
  insert_new (x ∷ xs) = insert_new_at x xs (entry_cmp k x) refl (insert_new xs)

  insert_keeps_at : (z x : MatchEntry) (xs : List MatchEntry) (o : Ordering) → (In z xs → In z (insert_key entry_cmp xs k)) → In z (x ∷ xs) →
      In z (match_ordering o (k ∷ x ∷ xs) (x ∷ xs) (x ∷ insert_key entry_cmp xs k))
  insert_keeps_at z x xs Less f i = inr i
  insert_keeps_at z x xs Equal f i = i
  insert_keeps_at z x xs Greater f (inl e) = inl e
  insert_keeps_at z x xs Greater f (inr i) = inr (f i)

  insert_keeps : (z : MatchEntry) (xs : List MatchEntry) → In z xs → In z (insert_key entry_cmp xs k)
  insert_keeps z [] i = absurd i
  insert_keeps z (x ∷ xs) i = insert_keeps_at z x xs (entry_cmp k x) (insert_keeps z xs) i

  insert_from_at : (z x : MatchEntry) (xs : List MatchEntry) (o : Ordering) → (In z (insert_key entry_cmp xs k) → (z ≡ k) ⊎ In z xs) →
      In z (match_ordering o (k ∷ x ∷ xs) (x ∷ xs) (x ∷ insert_key entry_cmp xs k)) → (z ≡ k) ⊎ In z (x ∷ xs)
  insert_from_at z x xs Less f (inl e) = inl e
  insert_from_at z x xs Less f (inr i) = inr i
  insert_from_at z x xs Equal f i = inr i
  insert_from_at z x xs Greater f (inl e) = inr (inl e)
  insert_from_at z x xs Greater f (inr i) = elim (f i) [ inl e ↦ inl e | inr j ↦ inr (inr j) ]

  insert_from : (z : MatchEntry) (xs : List MatchEntry) → In z (insert_key entry_cmp xs k) → (z ≡ k) ⊎ In z xs
  insert_from z [] i = i
  insert_from z (x ∷ xs) i = insert_from_at z x xs (entry_cmp k x) (insert_from z xs) i

  -- what is above all that are above k, once k is below it
  all_above : (x : MatchEntry) (xs : List MatchEntry) → entry_cmp k x ≡ Less → AllByRecursion (λ y. entry_cmp x y ≡ Less) xs →
      AllByRecursion (λ y. entry_cmp k y ≡ Less) xs
  all_above x [] e h = tt
  all_above x (y ∷ xs) e h = (entries_total.trans k x y e h.0, all_above x xs e h.1)

  below_inserted_at : (x z : MatchEntry) (xs : List MatchEntry) (o : Ordering) → entry_cmp x k ≡ Less →
      AllByRecursion (λ y. entry_cmp x y ≡ Less) (z ∷ xs) → AllByRecursion (λ y. entry_cmp x y ≡ Less) (insert_key entry_cmp xs k) →
      AllByRecursion (λ y. entry_cmp x y ≡ Less) (match_ordering o (k ∷ z ∷ xs) (z ∷ xs) (z ∷ insert_key entry_cmp xs k))
  below_inserted_at x z xs Less e h f = (e, h)
  below_inserted_at x z xs Equal e h f = h
  below_inserted_at x z xs Greater e h f = (h.0, f)

  below_inserted : (x : MatchEntry) (xs : List MatchEntry) → entry_cmp x k ≡ Less → AllByRecursion (λ y. entry_cmp x y ≡ Less) xs →
      AllByRecursion (λ y. entry_cmp x y ≡ Less) (insert_key entry_cmp xs k)
  below_inserted x [] e h = (e, tt)
  below_inserted x (z ∷ xs) e h = below_inserted_at x z xs (entry_cmp k z) e h (below_inserted x xs e h.1)

  insert_rises_at : (x : MatchEntry) (xs : List MatchEntry) (o : Ordering) → entry_cmp k x ≡ o → IsStrictlySortedBy entry_cmp (x ∷ xs) →
      IsStrictlySortedBy entry_cmp (insert_key entry_cmp xs k) →
      IsStrictlySortedBy entry_cmp (match_ordering o (k ∷ x ∷ xs) (x ∷ xs) (x ∷ insert_key entry_cmp xs k))
  unfolding IsStrictlySortedBy
  insert_rises_at x xs Less e h f = ((e, all_above x xs e h.0), h)
  insert_rises_at x xs Equal e h f = h
  insert_rises_at x xs Greater e h f = (below_inserted x xs (entries_total.antisymm x k ∙ ap ordering_reverse e) h.0, f)

  insert_rises : (xs : List MatchEntry) → IsStrictlySortedBy entry_cmp xs → IsStrictlySortedBy entry_cmp (insert_key entry_cmp xs k)
  unfolding IsStrictlySortedBy
  insert_rises [] h = (tt, tt)
  insert_rises (x ∷ xs) h = insert_rises_at x xs (entry_cmp k x) refl h (insert_rises xs h.1)

-- ---- entries in order

in_ordered : (e : MatchEntry) (es : List MatchEntry) → In e es → In e (sorted_entries es)
in_ordered e [] i = absurd i
in_ordered e (d ∷ es) (inl same) = subst (λ x. In x (insert_key entry_cmp (sorted_entries es) d)) (sym same) (insert_new d (sorted_entries es))
in_ordered e (d ∷ es) (inr i) = insert_keeps d e (sorted_entries es) (in_ordered e es i)

of_ordered : (e : MatchEntry) (es : List MatchEntry) → In e (sorted_entries es) → In e es
of_ordered e [] i = absurd i
of_ordered e (d ∷ es) i = elim (insert_from d e (sorted_entries es) i) [ inl same ↦ inl same | inr j ↦ inr (of_ordered e es j) ]

none_rise : IsStrictlySortedBy entry_cmp []
unfolding IsStrictlySortedBy
none_rise = tt

ordered_rises : (es : List MatchEntry) → IsStrictlySortedBy entry_cmp (sorted_entries es)
ordered_rises [] = none_rise
ordered_rises (e ∷ es) = insert_rises e (sorted_entries es) (ordered_rises es)

-- ---- the entries of a grammar

module _ (g : GrammarData) where
  abbrev names : List TerminalString
  names = user_names (match_entries g)

  added_is : (o : Option ℕ) → catch_all g ≡ o → (t : TerminalString) → In t (terminals_used g) → (e : MatchEntry) → In e (added_for (user_names (match_entries g)) o t) → IsEntry g e
  added_is None is t i e j = absurd (none t j)
    where
      none : (t : TerminalString) → In e (added_for names None t) → ⊥
      none (Literal l) j = j
      none (Bare a) j = j
      none Error j = j
  added_is (Some p) is (Bare a) i e j = absurd j
  added_is (Some p) is Error i e j = absurd j
  added_is (Some p) is (Literal l) i e j = by (list_any (same_terminal (Literal l)) names) refl j
    where
      by : (b : Bool) → list_any (same_terminal (Literal l)) names ≡ b → In e (if b then [] else entry_in p l (own_mapping l) ∷ []) → IsEntry g e
      by true h k = absurd k
      by false h (inl same) = subst (IsEntry g) (sym same) (added l p i (λ n. (let yes : list_any (same_terminal (Literal l)) names ≡ true = listed_same (Literal l) names n in cc (h, yes))) is)
      by false h (inr k) = absurd k

  is_added : (o : Option ℕ) (p : ℕ) → o ≡ Some p → (l : TerminalLiteral) → (In (Literal l) (user_names (match_entries g)) → ⊥) →
      In (entry_in p l (own_mapping l)) (added_for (user_names (match_entries g)) o (Literal l))
  is_added None p is l none = absurd (cc is)
  is_added (Some q) p is l none = by (list_any (same_terminal (Literal l)) names) refl
    where
      by : (b : Bool) → list_any (same_terminal (Literal l)) names ≡ b → In (entry_in p l (own_mapping l)) (if b then [] else entry_in q l (own_mapping l) ∷ [])
      by true h = absurd (none (same_listed (Literal l) names h))
      by false h = inl (let same : q ≡ p = cc is in ap (λ x. entry_in x l (own_mapping l)) (sym same))

  pub of_entries : (e : MatchEntry) → In e (match_entries g ++ added_entries g) → IsEntry g e
  of_entries e i = elim (in_cases e (match_entries g) (added_entries g) i) [
    | inl j ↦ written e j
    | inr j ↦ (let (t, k, m) = of_flat (added_for names (catch_all g)) e (terminals_used g) j in added_is (catch_all g) refl t k e m)
  ]

  pub in_entries : (e : MatchEntry) → IsEntry g e → In e (match_entries g ++ added_entries g)
  in_entries _ (written e i) = in_left e (match_entries g) (added_entries g) i
  in_entries _ (added l p i none is) =
      in_right (entry_in p l (own_mapping l)) (match_entries g) (added_entries g)
      (in_flat (added_for names (catch_all g)) (entry_in p l (own_mapping l)) (Literal l) (terminals_used g) i (is_added (catch_all g) p is l none))

  -- the entries of a grammar, in order, are its entries
  pub are_entries : AreEntries g (all_entries g)
  are_entries = record {
    all = λ e. (λ i. of_entries e (of_ordered e _ i), λ h. in_ordered e _ (in_entries e h));
    rising = ordered_rises (match_entries g ++ added_entries g);
  }

pub entries_are_one_list : EntriesAreOneList
entries_are_one_list g es = (
  λ h. one_list g es (all_entries g) h (are_entries g),
  λ same. subst (AreEntries g) (sym same) (are_entries g),
)
