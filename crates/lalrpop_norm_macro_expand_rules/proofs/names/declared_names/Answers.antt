use Rattle.std.proofs.Common.{◌≡◌, ◌+◌, ◌++◌, ◌∷◌, [], ℕ, List, Bool, take, map, sym, ap, ◌∙◌, arith, append-nil, bytes_eq}
use Rattle.std.specs.List.{flat_map, list_any}
use Rattle.std.proofs.lemmas.List.{take_all, take_more, map-append}
use Rattle.std.proofs.lemmas.Grind.{flat_map-append}
use Rattle.lalrpop_norm_tree.specs.Items.{item_view}
use Rattle.lalrpop_norm_macro_expand_rules.specs.Names.{is_declared_name, item_names, with_names}
use Rattle.lalrpop_norm_macro_expand_rules.proofs.NameLemmas.{with_both}
use Rattle.lalrpop_norm_macro_expand_rules.proofs.names.declared_names.Goals as goal

pub loop-item-init : goal.loop-item-init
loop-item-init c =
    let has : List (List ℕ) → List ℕ → Bool = λ keys t. list_any (bytes_eq t) keys in
    ap has c.in_ok-names.ensures.empty

pub loop-item-preserved : goal.loop-item-preserved
loop-item-preserved c =
    let items = c.args.items.now in
    let i = c.loop-item.item-index in
    let x = c.item-item.result in
    let before : List (List ℕ) = flat_map item_names (map item_view (take i items)) in
    let more : flat_map item_names (map item_view (take (i + 1) items)) ≡ before ++ item_names (item_view x) =
    ap (λ is. flat_map item_names (map item_view is)) (take_more items i x c.loop-item-test.true ∙ ap (λ y. take i items ++ y ∷ []) (sym c.item-item.is))
    ∙ ap (flat_map item_names) (map-append item_view (take i items) (x ∷ []))
    ∙ flat_map-append item_names (map item_view (take i items)) (item_view x ∷ [])
    ∙ ap (λ ns. before ++ ns) (append-nil (item_names (item_view x))) in
    c.in_ok-add_name.ensures
    ∙ ap (λ declared. with_names declared (item_names (item_view x))) c.loop-item.invariant
    ∙ with_both before (item_names (item_view x))
    ∙ ap is_declared_name (sym more)

pub returns : goal.returns
returns c =
    c.loop-item.invariant
    ∙ ap (λ is. is_declared_name (flat_map item_names (map item_view is))) (take_all c.loop-item.item-index c.args.items.now (omega arith))
