-- A table that is made of rows, and what is found in it.
use Rattle.std.proofs.Common.{◌≡◌, ◌∙◌, inl, inr, List, [], ◌∷◌, map, Option, Some, None, false, refl, sym, ap}
use Rattle.std.specs.BTreeMap.{BTreeMap, get}
use Rattle.std.specs.List.{AllByRecursion, IsDistinct as IsDistinctBy}
use Rattle.std.specs.Map.{keys_of, update_all}
use Rattle.std.specs.Option.{option_copied}
use Rattle.std.specs.Ordering.{eq_by_cmp}
use Rattle.std.specs.Prelude.{option_map}
use Rattle.std.proofs.lemmas.Bool.{false_from_ne_true}
use Rattle.std.proofs.lemmas.Cmp.{eq_by_cmp_equiv}
use Rattle.std.proofs.lemmas.Map.Made.{update_all_none}
use Rattle.std.proofs.lemmas.Map.Text.{is_eq-slice_cmp}
use Rattle.std.proofs.lemmas.Slice.Eq.{bytes_eq-Decides}
use denote.Ref.{Bor}
use Rattle.lalrpop_norm_theory.specs.Rounds.{In, IsDistinct}
use Rattle.lalrpop_norm_tree_names.specs.declared.names.NonterminalString.{NonterminalString}
use Rattle.lalrpop_norm_repr.specs.Orders.{name_cmp}
use Rattle.lalrpop_norm_repr.specs.Tables.{found, rows}
use Rattle.lalrpop_norm_repr.proofs.NameOrder.{names_total}
use Rattle.lalrpop_norm_repr.proofs.TableLemmas.{found_rows}

-- a value behind a reference, seen as data
pub seen_behind : {X V : Type 0} (f : X → V) (o : Option (Bor X)) → option_map (λ (x : Bor X). f x.now) o ≡ option_map f (option_copied o)
seen_behind f None = refl
seen_behind f (Some x) = refl

module _ {X V : Type 0} (f : X → V) where
  none_equal : (n : NonterminalString) (rs : List (NonterminalString × X)) → (In n.0 (map (λ r. r.0.0) rs) → ⊥) → AllByRecursion (λ m. eq_by_cmp name_cmp n m ≡ false) (keys_of rs)
  none_equal n [] apart = tt
  none_equal n (r ∷ rs) apart =
      (is_eq-slice_cmp n.0 r.0.0 ∙ false_from_ne_true _ (λ e. apart (inl ((bytes_eq-Decides n.0 r.0.0).0 e))), none_equal n rs (λ i. apart (inr i)))

  distinct_by_order : (rs : List (NonterminalString × X)) → IsDistinct (map (λ r. r.0.0) rs) → IsDistinctBy (eq_by_cmp name_cmp) (keys_of rs)
  unfolding IsDistinctBy
  distinct_by_order [] d = tt
  distinct_by_order (r ∷ rs) d = (none_equal r.0 rs d.0, distinct_by_order rs d.1)

  -- what the names of rows without repetition have in the map that is made of them
  pub found_in_made : (rs : List (NonterminalString × X)) (m : BTreeMap NonterminalString X) (n : NonterminalString) → IsDistinct (map (λ r. r.0.0) rs)
      → get name_cmp m n ≡ update_all (eq_by_cmp name_cmp) (λ _. None) rs n → found n (rows f m) ≡ found n (map (λ r. (r.0, f r.1)) rs)
  found_in_made rs m n d made =
      sym (found_rows f n m.entries)
      ∙ ap (option_map f) (made ∙ update_all_none (eq_by_cmp_equiv names_total) (eq_by_cmp name_cmp) (λ x y. refl) rs n (distinct_by_order rs d))
      ∙ found_rows f n rs
