use Rattle.std.proofs.Common.{◌≡◌, ◌∷◌, [], ◌∙◌, None, Some, map, length, replicate, option_map, sym, subst, ap, arith, rules}
use Rattle.std.specs.List.Sorted.{IsStrictlySortedBy}
use Rattle.std.specs.Map.{keys_of}
use Rattle.std.proofs.lemmas.List.{length-map, map-set}
use Rattle.std.proofs.lemmas.Map.Made.{keys_of-map_values}
use Rattle.lalrpop_norm_tree.specs.Items.{item_view}
use Rattle.lalrpop_norm_repr.specs.Orders.{name_cmp}
use Rattle.lalrpop_norm_shared_types.specs.Shared.{shared_view}
use Rattle.lalrpop_norm_shared_types.specs.Table.{shared_table}
use Rattle.lalrpop_norm_lower.specs.Lowering.{rules_among}
use Rattle.lalrpop_norm_lower.proofs.PlacedRows.{IsWalkedTo, WillBeByNumber, all_left, none_seen, row_passed, row_put, place_within}
use Rattle.lalrpop_norm_lower.proofs.numbered.types_of.Goals as goal
use Rattle.lalrpop_norm_lower.proofs.numbered.types_of.Goals.{In-Some}

-- before a row is reached
before : (c : In-Some) → IsWalkedTo c.args.table.now (rules_among (map item_view c.args.items.now)) c.args.names.now ((c.in-Some.name.now, c.in-Some.ty.now) ∷ c.next.new.self) c.loop-name.types.items
before c = subst (λ rest. IsWalkedTo c.args.table.now (rules_among (map item_view c.args.items.now)) c.args.names.now rest c.loop-name.types.items) c.in-Some.ensures.steps c.loop-name.invariant

pub index_mut-requires : goal.index_mut-requires
index_mut-requires c =
    omega (
      arith,
      length-map c.loop-name.types.items (option_map (λ t. shared_view t.now)),
      place_within (rules_among (map item_view c.args.items.now)) c.args.names.now c.requires (shared_table c.args.table.now) _ _ _ (before (goal.at.index_mut-requires c).In-Some) c.in-Some-number.number
          (sym c.number.ensures ∙ c.in-Some-number.is),
    )

pub loop-name-init : goal.loop-name-init
loop-name-init c =
    let gives = c.into_iter-name-iterator.ensures.into_iter_gives in
    let rows : map (λ e. (e.0, shared_view e.1)) c.into_iter-name-iterator.result ≡ (shared_table c.args.table.now).nonterminals =
    ap (map (λ e. (e.0, shared_view e.1))) gives.0 ∙ c.nonterminals-name-items.ensures in
    let ordered : IsStrictlySortedBy name_cmp (keys_of (shared_table c.args.table.now).nonterminals) =
    subst (λ rows. IsStrictlySortedBy name_cmp (keys_of rows)) c.nonterminals-name-items.ensures
    (subst (IsStrictlySortedBy name_cmp) (sym (keys_of-map_values shared_view c.nonterminals-name-items.result.now.entries)) gives.5) in
    let none : map (option_map (λ t. shared_view t.now)) c.in_ok-types.types.items ≡ replicate (length (rules_among (map item_view c.args.items.now))) None =
    ap (map (option_map (λ t. shared_view t.now))) (c.in_ok-types.ensures.items_if_clones_equal (λ y e. search rules)) ∙ none_seen (λ t. shared_view t.now) c.count_rules.result ∙ ap (λ n. replicate n None) c.count_rules.ensures in
    rw (rows, none) (all_left (rules_among (map item_view c.args.items.now)) c.args.names.now c.requires (shared_table c.args.table.now) ordered)

pub loop-name-preserved : goal.loop-name-preserved
loop-name-preserved c =
    row_passed (rules_among (map item_view c.args.items.now)) c.args.names.now c.requires (shared_table c.args.table.now) _ _ _ (before (goal.at.loop-name-preserved c).In-Some) (sym c.number.ensures ∙ c.in_default.is)

pub loop-name-preserved-in-Some-number : goal.loop-name-preserved-in-Some-number
loop-name-preserved-in-Some-number c =
    subst (WillBeByNumber (shared_table c.args.table.now) c.args.names.now (length (rules_among (map item_view c.args.items.now))) (map (λ e. (e.0, shared_view e.1)) c.next.new.self))
    (sym (map-set (option_map (λ t. shared_view t.now)) c.loop-name.types.items c.in-Some-number.number (Some c.in-Some.ty)))
    (row_put (rules_among (map item_view c.args.items.now)) c.args.names.now c.requires (shared_table c.args.table.now) _ _ _ (before (goal.at.loop-name-preserved-in-Some-number c).In-Some) c.in-Some-number.number
    (sym c.number.ensures ∙ c.in-Some-number.is))

pub returns : goal.returns
returns c =
    let end : IsWalkedTo c.args.table.now (rules_among (map item_view c.args.items.now)) c.args.names.now [] c.loop-name.types.items =
    subst (λ rest. IsWalkedTo c.args.table.now (rules_among (map item_view c.args.items.now)) c.args.names.now rest c.loop-name.types.items) c.in-None.ensures.steps.0 c.loop-name.invariant in
    record { types = end.will_be; count = end.long }
