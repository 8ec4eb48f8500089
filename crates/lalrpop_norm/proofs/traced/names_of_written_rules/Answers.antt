use Rattle.std.proofs.Common.{◌≡◌, ◌+◌, ◌++◌, ◌∷◌, [], List, take, map, sym, ap, ◌∙◌, arith, append-nil}
use Rattle.std.specs.List.{flat_map}
use Rattle.std.proofs.lemmas.List.{take_all, take_more, map-append}
use Rattle.std.proofs.lemmas.Grind.{flat_map-append}
use Rattle.lalrpop_norm_tree_names.specs.declared.names.NonterminalString.{NonterminalString}
use Rattle.lalrpop_norm_tree.specs.Items.{item_view}
use Rattle.lalrpop_norm.specs.Roots.{plain_names, with_rule_names}
use Rattle.lalrpop_norm.proofs.RootNames.{with_both}
use Rattle.lalrpop_norm.proofs.traced.names_of_written_rules.Goals as goal

pub loop-item-preserved : goal.loop-item-preserved
loop-item-preserved c =
    let items = c.args.items.now in
    let i = c.loop-item.item-index in
    let x = c.item-item.result in
    let before : List NonterminalString = flat_map plain_names (map item_view (take i items)) in
    let more : flat_map plain_names (map item_view (take (i + 1) items)) ≡ before ++ plain_names (item_view x) =
    ap (λ is. flat_map plain_names (map item_view is)) (take_more items i x c.loop-item-test.true ∙ ap (λ y. take i items ++ y ∷ []) (sym c.item-item.is))
    ∙ ap (flat_map plain_names) (map-append item_view (take i items) (x ∷ []))
    ∙ flat_map-append plain_names (map item_view (take i items)) (item_view x ∷ [])
    ∙ ap (λ ns. before ++ ns) (append-nil (plain_names (item_view x))) in
    c.in_ok-add_name.ensures
    ∙ ap (λ keys. with_rule_names keys (plain_names (item_view x))) c.loop-item.invariant
    ∙ sym (with_both [] before (plain_names (item_view x)))
    ∙ ap (with_rule_names []) (sym more)

pub returns : goal.returns
returns c =
    c.loop-item.invariant
    ∙ ap (λ is. with_rule_names [] (flat_map plain_names (map item_view is))) (take_all c.loop-item.item-index c.args.items.now (omega arith))
