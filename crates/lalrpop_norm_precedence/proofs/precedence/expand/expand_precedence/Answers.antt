use Rattle.std.proofs.Common.{◌≡◌, ◌++◌, List, [], map, subst, refl, sym, ap, ap₂, ◌∙◌}
use Rattle.std.specs.List.{flat_map}
use Rattle.lalrpop_norm_tree.specs.Items.{GrammarData, item_view, grammar_view}
use Rattle.lalrpop_norm_faults.specs.Faults.{Fault, first}
use Rattle.lalrpop_norm_model.specs.Scopes.{globals, resolved_grammar}
use Rattle.lalrpop_norm_model.specs.LevelRules.{leveled_grammar}
use Rattle.lalrpop_norm_resolve.specs.NameFaults.{repeated_faults, item_name_faults, resolve_faults}
use Rattle.lalrpop_norm_precedence_steps.specs.LevelFaults.{grammar_level_faults}
use Rattle.lalrpop_norm_precedence.specs.MacroLevels.{macro_item_faults}
use Rattle.lalrpop_norm_precedence.specs.PrecedenceFaults.{level_items_faults, leveled_faults, precedence_faults}
use Rattle.lalrpop_norm_model.proofs.ResolvedLemmas.{same_globals}
use Rattle.lalrpop_norm_resolve.specs.NameTables.{all_rows}
use Rattle.lalrpop_norm_resolve.specs.NewNames.{table_rows, are_new}
use Rattle.lalrpop_norm_resolve.proofs.ResolvedFaults.{faults_gone}
use Rattle.lalrpop_norm_precedence.specs.MadeNames.{grammar_made_names}
use Rattle.lalrpop_norm_precedence.proofs.MadeNameLemmas.{levels_once}
use Rattle.lalrpop_norm_precedence.proofs.SettledLemmas.{levels_settled}
use Rattle.lalrpop_norm_faults.proofs.FaultLemmas.{left_none, none_first}
use Rattle.lalrpop_norm_precedence.proofs.PrecedenceLemmas.{later_faults, last_faults, exit_first, exit_begins, exit_without}
use Rattle.lalrpop_norm_precedence.proofs.precedence.expand.expand_precedence.Goals as goal

pub returns-in_err-resolved-clause-expands : goal.returns-in_err-resolved-clause-expands
returns-in_err-resolved-clause-expands c =
    let g = grammar_view c.args.grammar in
    exit_begins _ _ (resolve_faults g) (grammar_level_faults (resolved_grammar g) ++ leveled_faults (resolved_grammar g)) (precedence_faults g) _
    c.from_residual.ensures.1 c.in_err-resolved.ensures.resolves refl

pub returns-in_err-resolved-clause-resolved : goal.returns-in_err-resolved-clause-resolved
returns-in_err-resolved-clause-resolved c = exit_without _ _ _ c.from_residual.ensures.1

pub returns-in_err-leveled-clause-expands : goal.returns-in_err-leveled-clause-expands
returns-in_err-leveled-clause-expands c =
    let g = grammar_view c.args.grammar in
    let resolved = c.in_ok-resolved.ensures.resolves in
    exit_begins _ _ (grammar_level_faults (grammar_view c.in_ok-resolved.resolved.grammar)) (leveled_faults (resolved_grammar g)) (precedence_faults g) _
    c.from_residual-in_err-leveled.ensures.1 c.in_err-leveled.ensures.value
    (ap (λ (fs : List Fault). fs ++ (grammar_level_faults (resolved_grammar g) ++ leveled_faults (resolved_grammar g))) resolved.0
    ∙ ap (λ (h : GrammarData). grammar_level_faults h ++ leveled_faults (resolved_grammar g)) (sym resolved.1))

pub returns-in_err-leveled-clause-resolved : goal.returns-in_err-leveled-clause-resolved
returns-in_err-leveled-clause-resolved c = exit_without _ _ _ c.from_residual-in_err-leveled.ensures.1

pub returns-in_err-check_made-clause-expands : goal.returns-in_err-check_made-clause-expands
returns-in_err-check_made-clause-expands c =
    let g = grammar_view c.args.grammar in
    let h = resolved_grammar g in
    let resolved = c.in_ok-resolved.ensures.resolves in
    let leveled = c.in_ok-leveled.ensures.value in
    let levels : grammar_level_faults h ≡ [] = sym (ap grammar_level_faults resolved.1) ∙ leveled.0 in
    let same : grammar_view c.in_ok-leveled.leveled.grammar ≡ leveled_grammar h = leveled.1 ∙ ap leveled_grammar resolved.1 in
    let rest = flat_map (level_items_faults (globals (leveled_grammar h))) h.items in
    exit_begins _ _ (repeated_faults [] (globals (grammar_view c.in_ok-leveled.leveled.grammar))) rest (precedence_faults g) _
    c.from_residual-in_err-check_made.ensures.1 c.in_err-check_made.ensures
    (later_faults g resolved.0 levels ∙ ap (λ (k : GrammarData). repeated_faults [] (globals k) ++ rest) (sym same))

pub returns-in_err-check_made-clause-resolved : goal.returns-in_err-check_made-clause-resolved
returns-in_err-check_made-clause-resolved c = exit_without _ _ _ c.from_residual-in_err-check_made.ensures.1

pub returns-in_err-macros-clause-expands : goal.returns-in_err-macros-clause-expands
returns-in_err-macros-clause-expands c =
    let g = grammar_view c.args.grammar in
    let resolved = c.in_ok-resolved.ensures.resolves in
    let leveled = c.in_ok-leveled.ensures.value in
    let levels : grammar_level_faults (resolved_grammar g) ≡ [] = sym (ap grammar_level_faults resolved.1) ∙ leveled.0 in
    let same : grammar_view c.in_ok-leveled.leveled.grammar ≡ leveled_grammar (resolved_grammar g) = leveled.1 ∙ ap leveled_grammar resolved.1 in
    let once : repeated_faults [] (globals (leveled_grammar (resolved_grammar g))) ≡ [] =
    sym (ap (λ (h : GrammarData). repeated_faults [] (globals h)) same) ∙ c.in_ok-check_made.ensures in
    exit_first _ _ (flat_map macro_item_faults (map item_view c.deref.result.now)) _ _ c.from_residual-in_err-macros.ensures.1 c.in_err-macros.ensures
    (last_faults g resolved.0 levels once
    ∙ sym (ap (λ xs. first (flat_map macro_item_faults (map item_view xs))) c.deref.ensures.value ∙ ap (λ (h : GrammarData). first (flat_map macro_item_faults h.items)) resolved.1))

pub returns-in_err-macros-clause-resolved : goal.returns-in_err-macros-clause-resolved
returns-in_err-macros-clause-resolved c = exit_without _ _ _ c.from_residual-in_err-macros.ensures.1

pub returns-clause-expands : goal.returns-clause-expands
returns-clause-expands c =
    let g = grammar_view c.args.grammar in
    let resolved = c.in_ok-resolved.ensures.resolves in
    let leveled = c.in_ok-leveled.ensures.value in
    let levels : grammar_level_faults (resolved_grammar g) ≡ [] = sym (ap grammar_level_faults resolved.1) ∙ leveled.0 in
    let same : grammar_view c.in_ok-leveled.leveled.grammar ≡ leveled_grammar (resolved_grammar g) = leveled.1 ∙ ap leveled_grammar resolved.1 in
    let once : repeated_faults [] (globals (leveled_grammar (resolved_grammar g))) ≡ [] =
    sym (ap (λ (h : GrammarData). repeated_faults [] (globals h)) same) ∙ c.in_ok-check_made.ensures in
    let macros : flat_map macro_item_faults (resolved_grammar g).items ≡ [] =
    sym (ap (λ xs. flat_map macro_item_faults (map item_view xs)) c.deref.ensures.value ∙ ap (λ (h : GrammarData). flat_map macro_item_faults h.items) resolved.1)
    ∙ c.in_ok-macros.ensures in
    (none_first (precedence_faults g) (last_faults g resolved.0 levels once ∙ ap first macros), same)

pub returns-clause-resolved : goal.returns-clause-resolved
returns-clause-resolved c =
    let g = grammar_view c.args.grammar in
    let resolved = c.in_ok-resolved.ensures.resolves in
    let P : GrammarData → Type 0 = λ h. resolved_grammar h ≡ h in
    subst P (sym (c.in_ok-leveled.ensures.value.1 ∙ ap leveled_grammar resolved.1)) (levels_settled g resolved.0)

pub check_made-requires : goal.check_made-requires
check_made-requires c new =
    let g = grammar_view c.args.grammar in
    let h = resolved_grammar g in
    let resolved = c.in_ok-resolved.ensures.resolves in
    let leveled = c.in_ok-leveled.ensures in
    let same : grammar_view c.in_ok-leveled.leveled.grammar ≡ leveled_grammar h = leveled.value.1 ∙ ap leveled_grammar resolved.1 in
    let known : table_rows c.in_ok-resolved.resolved.names ≡ all_rows [] (globals h) = c.in_ok-resolved.ensures.names ∙ ap (all_rows []) (sym (same_globals (globals g) g)) in
    let made : c.in_ok-leveled.leveled.made.items ≡ grammar_made_names h = leveled.names ∙ ap grammar_made_names resolved.1 in
    ap (λ (k : GrammarData). repeated_faults [] (globals k)) same
    ∙ levels_once h (left_none (repeated_faults [] (globals h)) (flat_map (item_name_faults (globals h)) h.items) (faults_gone g resolved.0))
    (sym (ap₂ are_new known (c.deref-2.ensures.value ∙ made)) ∙ new)
