-- Generated rules stay as the table grows, and are read one by one.
use Rattle.std.proofs.Common.{◌≡◌, ℕ, ◌+◌, ◌<◌, List, ◌∷◌, Option, Some, None, length, map, get_or, set, drop, arith, refl, sym, ap, ◌∙◌}
use Rattle.std.proofs.Math.Path.{fun_ext}
use Rattle.std.proofs.lemmas.List.{drop_more, drop-set-lt}
use Rattle.lalrpop_norm_tree.specs.declared.items.GrammarItem.{GrammarItem}
use Rattle.lalrpop_norm_tree.specs.Symbols.{Kind}
use Rattle.lalrpop_norm_tree.specs.Items.{item_view}
use Rattle.lalrpop_norm_nodes.specs.Wholes.{Whole, Grows}
use Rattle.lalrpop_norm_nodes.proofs.GivenLemmas.{given_stays, whole_stays}
use Rattle.lalrpop_norm_macro_expand_rules.specs.declared.generated.Filling.{Filling}
use Rattle.lalrpop_norm_macro_expand_rules.specs.Generated.{GeneratedData, given_numbered, shown_numbered, filling_view, filled_item, generated_in, IsReadable}

pub readable_stays : (ws vs : List Whole) (f : Option Filling) → Grows ws vs → IsReadable ws f → IsReadable vs f
readable_stays ws vs None grows h = tt
readable_stays ws vs (Some f) grows h = λ n g e. given_stays ws vs g grows (h n g e)

pub filling_stays : (ws vs : List Whole) (f : Option Filling) → Grows ws vs → IsReadable ws f → filling_view vs f ≡ filling_view ws f
filling_stays ws vs None grows h = refl
filling_stays ws vs (Some f) grows h =
    ap (λ (w : List ℕ → Option Kind). Some (w, shown_numbered f.numbers.now f.given.items))
    (fun_ext (λ n. whole_stays ws vs (given_numbered f.numbers.now f.given.items n) grows (λ g e. h n g e)))

-- ---- rules and their environments, side by side

module _ (ws : List Whole) (items : List GrammarItem) (count place : ℕ) (rest : List (Option Filling)) where
  pub generated_next : (fs : List (Option Filling)) (f : Option Filling) (d : GrammarItem) → place < length items → place ≡ count → fs ≡ f ∷ rest →
      generated_in ws fs (drop count items) ≡ filled_item (filling_view ws f) (item_view (get_or items place d)) ∷ generated_in ws rest (drop (place + 1) items)
  generated_next fs f d inside here split =
      ap (λ (gs : List (Option Filling)). generated_in ws gs (drop count items)) split
      ∙ ap (λ (n : ℕ). generated_in ws (f ∷ rest) (drop n items)) (sym here)
      ∙ ap (generated_in ws (f ∷ rest)) (drop_more items place d inside)

  pub generated_later : (y : GrammarItem) → count ≡ place + 1 → generated_in ws rest (drop (place + 1) items) ≡ generated_in ws rest (drop count (set items place y))
  generated_later y later =
      ap (generated_in ws rest) (sym (drop-set-lt (place + 1) items place y (omega arith)))
      ∙ ap (λ (n : ℕ). generated_in ws rest (drop n (set items place y))) (sym later)
