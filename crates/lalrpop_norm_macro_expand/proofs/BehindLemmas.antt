-- The rules of a round, which are behind those of the rounds before, are read in place.
use Rattle.std.proofs.Common.{◌≡◌, ℕ, ◌-◌, ◌≤◌, List, [], ◌++◌, length, map, take, drop, append-nil, arith, sym, ap, ◌∙◌}
use Rattle.std.proofs.lemmas.List.{take-map, drop-map, map-append, length-append, length-drop, length-map, length-take-le, take_at, drop_at, take_all, drop_all}
use borrow.Rule.Slice.PartMut.{put_mid, mid_of, post_of}
use Rattle.lalrpop_norm_tree.specs.declared.items.GrammarItem.{GrammarItem}
use Rattle.lalrpop_norm_tree.specs.Items.{item_view}
use Rattle.lalrpop_norm_macro_expand_rules.specs.Generated.{GeneratedData, FillingData, item_of, filling_of, generated_read, filled_items}
use Rattle.lalrpop_norm_macro_expand.proofs.WaitingLists.{side_by_side}

module _ (old all : List GrammarItem) (first : ℕ) (ps : List GeneratedData) (before : first ≡ length old) (rules : map item_view all ≡ map item_view old ++ map item_of ps) where
  inside : first ≤ length all
  inside =
      omega (arith, before, ap length rules, length-map all item_view, length-map old item_view, length-append (map item_view old) (map item_of ps))

  start : length (map item_view old) ≡ first
  start = length-map old item_view ∙ sym before

  last : mid_of first (length all - first) all ≡ drop first all
  last = take_all (length all - first) (drop first all) (omega (arith, length-drop first all))

  -- with what is given for the names in them
  pub last_filled : (fs : List FillingData) → fs ≡ map filling_of ps → filled_items fs (map item_view (mid_of first (length all - first) all)) ≡ ps
  last_filled fs e =
      ap (λ (xs : List GrammarItem). filled_items fs (map item_view xs)) last
      ∙ ap (filled_items fs) (sym (drop-map item_view first all) ∙ ap (drop first) rules ∙ drop_at (map item_view old) (map item_of ps) first start)
      ∙ ap (λ (gs : List FillingData). filled_items gs (map item_of ps)) e
      ∙ side_by_side ps

  module _ (new : List GrammarItem) where
    put_last : put_mid first (length all - first) all new ≡ take first all ++ new
    put_last =
        let none : post_of first (length all - first) all ≡ [] = drop_all (length all - first) (drop first all) (omega (arith, length-drop first all)) in
        ap (λ (xs : List GrammarItem). take first all ++ (new ++ xs)) none ∙ ap (λ (xs : List GrammarItem). take first all ++ xs) (append-nil new)

    pub still_long : length new ≡ length (mid_of first (length all - first) all) → length (put_mid first (length all - first) all new) ≡ length all
    still_long same =
        ap length put_last
        ∙ omega (arith, inside, length-append (take first all) new, length-take-le first all inside, same, ap length last, length-drop first all)

    pub read_behind : map item_view new ≡ map generated_read ps → map item_view (put_mid first (length all - first) all new) ≡ map item_view old ++ map generated_read ps
    read_behind read =
        ap (map item_view) put_last ∙ map-append item_view (take first all) new
        ∙ ap (λ is. is ++ map item_view new) (sym (take-map item_view first all) ∙ ap (take first) rules ∙ take_at (map item_view old) (map item_of ps) first start)
        ∙ ap (λ is. map item_view old ++ is) read
