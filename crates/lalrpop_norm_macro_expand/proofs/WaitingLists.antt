-- Symbols on the worklist, from the last one on; and rules one by one, with their environments.
use Rattle.std.proofs.Common.{◌≡◌, List, [], ◌∷◌, ◌++◌, length, map, Option, Some, None, reverse, append-nil, arith, refl, sym, ap, subst}
use Rattle.std.specs.Option.{IfSome}
use Rattle.std.specs.Prelude.{option_map, option_to_list}
use mathlib.Core.List.{reverse-cons}
use Rattle.lalrpop_norm_tree.specs.Items.{ItemData, rule_item, rule_view}
use Rattle.lalrpop_norm_nodes.specs.declared.table.Waiting.{Waiting}
use Rattle.lalrpop_norm_nodes.specs.NodeParts.{IsWaiting, AreWaiting}
use Rattle.lalrpop_norm_nodes.specs.Wholes.{Whole}
use Rattle.lalrpop_norm_macro_expand_rules.specs.declared.generated.Filling.{Filling}
use Rattle.lalrpop_norm_macro_expand_rules.specs.declared.generated.GeneratedRule.{GeneratedRule}
use Rattle.lalrpop_norm_macro_expand_rules.specs.Generated.{GeneratedData, FillingData, finished_item, unread_rule, item_of, filling_of, filled_item, filled_items, filling_view, generated_view, IsReadable, AreReadable}

pub none_left : {A : Type 0} (xs : List A) → length xs ≡ 0 → xs ≡ []
none_left [] e = refl
none_left (x ∷ xs) e = absurd (omega arith)

module _ (ws : List Whole) where
  waiting_last : (xs : List Waiting) (w : Waiting) → AreWaiting ws xs → IsWaiting ws w → AreWaiting ws (xs ++ w ∷ [])
  waiting_last [] w h k = (k, tt)
  waiting_last (x ∷ xs) w h k = (h.0, waiting_last xs w h.1 k)

  pub waiting_back : (xs : List Waiting) → AreWaiting ws xs → AreWaiting ws (reverse xs)
  waiting_back [] h = tt
  waiting_back (x ∷ xs) h = subst (AreWaiting ws) (sym (reverse-cons x xs)) (waiting_last (reverse xs) x (waiting_back xs h.1) h.0)

  -- ---- a rule, if there is one, is added, and what is given for the names in it

  rule_kept : (p : GeneratedRule) → rule_item (rule_view p.rule) ≡ item_of (generated_view ws p)
  rule_kept p = by p.filling
    where
      by : (f : Option Filling) → rule_item (rule_view p.rule) ≡ item_of (filled_item (filling_view ws f) (rule_item (rule_view p.rule)))
      by None = refl
      by (Some f) = refl

  filling_kept : (p : GeneratedRule) → filling_view ws p.filling ≡ filling_of (generated_view ws p)
  filling_kept p = by p.filling
    where
      by : (f : Option Filling) → filling_view ws f ≡ filling_of (filled_item (filling_view ws f) (rule_item (rule_view p.rule)))
      by None = refl
      by (Some f) = refl

  pub one_rule : (o : Option GeneratedRule) → map (λ p. rule_item (rule_view p.rule)) (option_to_list o) ≡ map item_of (option_to_list (option_map (generated_view ws) o))
  one_rule None = refl
  one_rule (Some p) = ap (λ (i : ItemData). i ∷ []) (rule_kept p)

  pub one_filling : (o : Option GeneratedRule) → map (filling_view ws) (map (λ p. p.filling) (option_to_list o)) ≡ map filling_of (option_to_list (option_map (generated_view ws) o))
  one_filling None = refl
  one_filling (Some p) = ap (λ (f : FillingData). f ∷ []) (filling_kept p)

  readable_last : (fs : List (Option Filling)) (f : Option Filling) → AreReadable ws fs → IsReadable ws f → AreReadable ws (fs ++ f ∷ [])
  readable_last [] f h k = (k, tt)
  readable_last (g ∷ fs) f h k = (h.0, readable_last fs f h.1 k)

  pub readable_more : (fs : List (Option Filling)) (o : Option GeneratedRule) → AreReadable ws fs → IfSome o (λ p. IsReadable ws p.filling) →
      AreReadable ws (fs ++ map (λ p. p.filling) (option_to_list o))
  readable_more fs None h k = subst (AreReadable ws) (sym (append-nil fs)) h
  readable_more fs (Some p) h k = readable_last fs p.filling h k

-- ---- rules and their environments, side by side

pub side_by_side : (ps : List GeneratedData) → filled_items (map filling_of ps) (map item_of ps) ≡ ps
side_by_side [] = refl
side_by_side (finished_item i ∷ ps) = ap (λ qs. finished_item i ∷ qs) (side_by_side ps)
side_by_side (unread_rule r whole shown ∷ ps) = ap (λ qs. unread_rule r whole shown ∷ qs) (side_by_side ps)
