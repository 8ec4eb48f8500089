use Rattle.std.proofs.Common.{◌≡◌, List, [], length, map, ap, sym, ◌∙◌, arith}
use Rattle.std.proofs.lemmas.List.{with_items_is}
use Rattle.lalrpop_norm_tree.specs.Items.{ItemData, item_view, grammar_view}
use Rattle.lalrpop_norm_model.specs.Scopes.{resolved_item}
use Rattle.lalrpop_norm_resolve.specs.NameTables.{all_rows, items_globals, names_faults}
use Rattle.lalrpop_norm_resolve.proofs.names.resolve_names.Goals as goal
use Rattle.lalrpop_norm_faults.proofs.FaultLemmas.{exit_or}

pub returns-in_err-names-clause-resolves : goal.returns-in_err-names-clause-resolves
returns-in_err-names-clause-resolves c =
    exit_or _ _ _ _ c.from_residual.ensures.1 (rw c.deref_mut.ensures.value at c.in_err-names.ensures.refuses)

pub returns-clause-resolves : goal.returns-clause-resolves
returns-clause-resolves c =
    let told = c.in_ok-names.ensures in
    let same = c.deref_mut.ensures.value in
    let kept = c.args.grammar.items in
    let long : length c.resolve_in_place.new.items ≡ kept.len = omega arith in (
      ap (λ xs. names_faults (map item_view xs)) (sym same) ∙ told.refuses,
      ap (λ (xs : List ItemData). record (grammar_view c.args.grammar) { items = xs })
          (ap (λ xs. map item_view xs) (with_items_is kept c.resolve_in_place.new.items long)
          ∙ told.resolves ∙ ap (λ xs. map (resolved_item (items_globals (map item_view xs))) (map item_view xs)) same),
    )

pub returns-clause-names : goal.returns-clause-names
returns-clause-names c =
    c.in_ok-names.ensures.names ∙ ap (λ xs. all_rows [] (items_globals (map item_view xs))) c.deref_mut.ensures.value
