-- The orders of names and of terminals, and tables over them.
use Rattle.std.proofs.Common.{◌≡◌, ◌∙◌, ℕ, Bool, true, cond, List, [], ◌∷◌, ◌++◌, Option, Some, None, refl, sym, ap, subst, bytes_eq, nat_cmp, Decides}
use Rattle.std.specs.declared.cmp.Ordering.{Ordering}
use Rattle.std.specs.declared.cmp.Ordering.TheVariants.{Equal}
use Rattle.std.specs.Ordering.{ordering_reverse}
use Rattle.std.specs.BTreeMap.{insert_entry}
use Rattle.std.specs.Cmp.{IsTotalOrder, IsEquivalence}
use Rattle.std.specs.Cmp.Lexicographic.{slice_cmp, nat_list_cmp_total}
use Rattle.std.specs.List.{IsDistinct}
use Rattle.std.specs.List.Sorted.{IsStrictlySortedBy}
use Rattle.std.specs.Map.{keys_of, lookup}
use Rattle.std.specs.Option.{option_or}
use Rattle.std.proofs.lemmas.Cmp.{on_total}
use Rattle.std.proofs.lemmas.Map.Lookups.{exact_bytes}
use Rattle.std.proofs.lemmas.Slice.Eq.{bytes_eq-Decides}
use Rattle.lalrpop_norm_tree_names.specs.declared.names.NonterminalString.{NonterminalString}
use Rattle.lalrpop_norm_tree_names.specs.declared.names.TerminalLiteral.TheVariants.{Quoted, Regex}
use Rattle.lalrpop_norm_tree_names.specs.declared.names.TerminalString.{TerminalString}
use Rattle.lalrpop_norm_tree_names.specs.declared.names.TerminalString.TheVariants.{Literal, Bare, Error}
use Rattle.lalrpop_norm_repr.specs.Tables.{found, found_terminal, same_terminal}
use Rattle.lalrpop_norm_repr.proofs.NameOrder.{names_total}
use Rattle.lalrpop_norm_tree.proofs.TerminalLemmas.{terminals_same}
use Rattle.lalrpop_norm_lower.specs.Conversions.{terminal_cmp, sorted_terminals}
use Rattle.lalrpop_norm_lower.specs.Lowering.{sorted_onto, with_entry}
use Rattle.lalrpop_norm_lower.specs.Shape.{name_cmp, IsNameTable, IsTerminalTable}
use Rattle.lalrpop_norm_lower.proofs.TableLemmas.{put_all, put_more, put_sorted, put_lookup}
use Rattle.lalrpop_norm_theory.proofs.BoolLemmas.{both_ways}
use Rattle.lalrpop_norm_model.proofs.SameTerminalLemmas.{terminal_itself}
use Rattle.lalrpop_norm_model.proofs.EntryOrder.{terminals_exact}

-- a test that decides sameness is an equivalence
laws_of : {K : Type 0} (same : K → K → Bool) → ((a b : K) → Decides (same a b) (a ≡ b)) → IsEquivalence same
laws_of same d = record {
  refl = λ x. (d x x).1 refl;
  symm = λ x y. both_ways (same x y) (same y x) (λ h. (d y x).1 (sym ((d x y).0 h))) (λ h. (d x y).1 (sym ((d y x).0 h)));
  congr = λ x y z h. ap (λ w. same w z) ((d x y).0 h);
}

or_none : {A : Type 0} (o : Option A) → option_or o None ≡ o
or_none None = refl
or_none (Some x) = refl

-- ---- names

abbrev pub same_name : NonterminalString → NonterminalString → Bool
same_name a b = bytes_eq a.0 b.0

same_by_bytes : (a b : NonterminalString) → a.0 ≡ b.0 → a ≡ b
same_by_bytes a b e = ap (λ (x : List ℕ). let n : NonterminalString = record { 0 = x } in n) e

pub names_decide : (a b : NonterminalString) → Decides (same_name a b) (a ≡ b)
names_decide a b = (λ h. same_by_bytes a b ((bytes_eq-Decides a.0 b.0).0 h), λ e. (bytes_eq-Decides a.0 b.0).1 (ap (λ (n : NonterminalString). n.0) e))

names_exact : (a b : NonterminalString) → name_cmp a b ≡ Equal → a ≡ b
names_exact a b h = same_by_bytes a b (exact_bytes a.0 b.0 h)

pub found_is : {V : Type 0} (n : NonterminalString) (rows : List (NonterminalString × V)) → found n rows ≡ lookup (same_name n) rows
found_is n [] = refl
found_is n (r ∷ rs) = ap (λ o. cond (bytes_eq n.0 r.0.0) (Some r.1) o) (found_is n rs)

sorted_is : {V : Type 0} (es rs : List (NonterminalString × V)) → sorted_onto es rs ≡ put_all name_cmp es rs
sorted_is es [] = refl
sorted_is es (r ∷ rs) = sorted_is (with_entry es r) rs

pub sorted_joined : {V : Type 0} (xs ys : List (NonterminalString × V)) → sorted_onto (sorted_onto [] xs) ys ≡ sorted_onto [] (xs ++ ys)
sorted_joined xs ys = sorted_is (sorted_onto [] xs) ys ∙ ap (λ es. put_all name_cmp es ys) (sorted_is [] xs) ∙ put_more name_cmp [] xs ys ∙ sym (sorted_is [] (xs ++ ys))

none_sorted : {K : Type 0} (cmp : K → K → Ordering) → IsStrictlySortedBy cmp []
unfolding IsStrictlySortedBy
none_sorted cmp = tt

-- rows of distinct names, put into a table
pub name_table : {V : Type 0} (rows : List (NonterminalString × V)) → IsDistinct same_name (keys_of rows) → IsNameTable rows (sorted_onto [] rows)
name_table {V = V} rows distinct = record {
  holds = λ n. found_is n (sorted_onto [] rows) ∙ ap (lookup (same_name n)) (sorted_is [] rows)
      ∙ put_lookup name_cmp names_total same_name names_decide names_exact (laws_of same_name names_decide) n [] rows distinct
      ∙ or_none (lookup (same_name n) rows) ∙ sym (found_is n rows);
  in_order = subst (λ (es : List (NonterminalString × V)). IsStrictlySortedBy name_cmp (keys_of es)) (sym (sorted_is [] rows)) (put_sorted name_cmp names_total [] rows (none_sorted name_cmp));
}

-- ---- terminals

-- terminals are in the order of these texts
rank : TerminalString → List ℕ
rank (Literal (Quoted a)) = 0 ∷ 0 ∷ a
rank (Literal (Regex a)) = 0 ∷ 1 ∷ a
rank (Bare a) = 1 ∷ a
rank Error = 2 ∷ []

ranked : (a b : TerminalString) → terminal_cmp a b ≡ slice_cmp nat_cmp (rank a) (rank b)
unfolding rank
ranked (Literal (Quoted a)) (Literal (Quoted b)) = refl
ranked (Literal (Quoted a)) (Literal (Regex b)) = refl
ranked (Literal (Regex a)) (Literal (Quoted b)) = refl
ranked (Literal (Regex a)) (Literal (Regex b)) = refl
ranked (Literal (Quoted a)) (Bare b) = refl
ranked (Literal (Regex a)) (Bare b) = refl
ranked (Literal (Quoted a)) Error = refl
ranked (Literal (Regex a)) Error = refl
ranked (Bare a) (Literal (Quoted b)) = refl
ranked (Bare a) (Literal (Regex b)) = refl
ranked (Bare a) (Bare b) = refl
ranked (Bare a) Error = refl
ranked Error (Literal (Quoted b)) = refl
ranked Error (Literal (Regex b)) = refl
ranked Error (Bare b) = refl
ranked Error Error = refl

pub terminals_total : IsTotalOrder terminal_cmp
terminals_total =
    let o = on_total rank nat_list_cmp_total in
    record {
      antisymm = λ x y. ranked x y ∙ o.antisymm x y ∙ ap ordering_reverse (sym (ranked y x));
      trans = λ x y z p q. ranked x z ∙ o.trans x y z (sym (ranked x y) ∙ p) (sym (ranked y z) ∙ q);
      congr = λ x y z p. ranked x z ∙ o.congr x y z (sym (ranked x y) ∙ p) ∙ sym (ranked y z);
    }

pub terminals_decide : (a b : TerminalString) → Decides (same_terminal a b) (a ≡ b)
terminals_decide a b = (terminals_same a b, λ e. subst (λ x. same_terminal a x ≡ true) e (terminal_itself a))

pub terminals_laws : IsEquivalence same_terminal
terminals_laws = laws_of same_terminal terminals_decide

pub found_terminal_is : {V : Type 0} (t : TerminalString) (rows : List (TerminalString × V)) → found_terminal t rows ≡ lookup (same_terminal t) rows
found_terminal_is t [] = refl
found_terminal_is t (r ∷ rs) = ap (λ o. cond (same_terminal t r.0) (Some r.1) o) (found_terminal_is t rs)

sorted_terminals_is : {V : Type 0} (es rs : List (TerminalString × V)) → sorted_terminals es rs ≡ put_all terminal_cmp es rs
sorted_terminals_is es [] = refl
sorted_terminals_is es (r ∷ rs) = sorted_terminals_is (insert_entry terminal_cmp es r.0 r.1) rs

-- rows of distinct terminals, put into a table
pub terminal_table : {V : Type 0} (rows : List (TerminalString × V)) → IsDistinct same_terminal (keys_of rows) → IsTerminalTable rows (sorted_terminals [] rows)
terminal_table {V = V} rows distinct = record {
  holds = λ t. found_terminal_is t (sorted_terminals [] rows) ∙ ap (lookup (same_terminal t)) (sorted_terminals_is [] rows)
      ∙ put_lookup terminal_cmp terminals_total same_terminal terminals_decide terminals_exact terminals_laws t [] rows distinct
      ∙ or_none (lookup (same_terminal t) rows) ∙ sym (found_terminal_is t rows);
  in_order = subst (λ (es : List (TerminalString × V)). IsStrictlySortedBy terminal_cmp (keys_of es)) (sym (sorted_terminals_is [] rows)) (put_sorted terminal_cmp terminals_total [] rows (none_sorted terminal_cmp));
}
