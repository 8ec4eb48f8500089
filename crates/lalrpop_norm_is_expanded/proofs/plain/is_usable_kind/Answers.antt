use Rattle.std.proofs.Common.{sym, ap, ◌∙◌, map}
use Rattle.std.specs.Prelude.{option_map}
use Rattle.lalrpop_norm_tree.specs.Items.{item_view}
use Rattle.lalrpop_norm_tree.specs.Symbols.{kind_view, symbol_view}
use Rattle.lalrpop_norm_tree.specs.Accessors.{binding_view}
use Rattle.lalrpop_norm_is_expanded.proofs.PlainLemmas.{usable_chosen, usable_bound, usable_bare}
use Rattle.lalrpop_norm_is_expanded.proofs.plain.is_usable_kind.Goals as goal

pub returns-in-Some : goal.returns-in-Some
returns-in-Some c =
    c.is_usable.ensures
    ∙ usable_chosen (map item_view c.args.items.now) (kind_view c.args.kind.now) (symbol_view c.in-Some.inner.now)
    (sym (ap (option_map (λ s. symbol_view s.now)) c.in-Some.is) ∙ c.as_selected.ensures)

pub returns-in-Some-as_bound : goal.returns-in-Some-as_bound
returns-in-Some-as_bound c =
    let bound = c.in-Some-as_bound in
    c.is_usable-in-Some-as_bound.ensures
    ∙ usable_bound (map item_view c.args.items.now) (kind_view c.args.kind.now) (binding_view bound.field-0-0) (symbol_view bound.inner.now)
    (sym (ap (option_map (λ b. (binding_view b.0, symbol_view b.1.now))) bound.is) ∙ c.as_bound.ensures)

pub returns-in-None : goal.returns-in-None
returns-in-None c =
    c.is_usable_leaf.ensures
    ∙ usable_bare (map item_view c.args.items.now) (kind_view c.args.kind.now) (sym (ap (option_map (λ s. symbol_view s.now)) c.in_default.is) ∙ c.as_selected.ensures)
    (sym (ap (option_map (λ b. (binding_view b.0, symbol_view b.1.now))) c.in-None.is) ∙ c.as_bound.ensures)
