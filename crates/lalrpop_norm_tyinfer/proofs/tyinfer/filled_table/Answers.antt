use Rattle.std.proofs.Common.{◌≡◌, [], length, map, sym, subst, ◌∙◌}
use Rattle.std.proofs.lemmas.List.{length-map}
use Rattle.lalrpop_norm_tree.specs.Items.{grammar_view}
use Rattle.lalrpop_norm_names.specs.Numbers.{number_in_table}
use Rattle.lalrpop_norm_repr.specs.Tables.{TypeTable, type_table}
use Rattle.lalrpop_norm_model.specs.TerminalTypes.{rows_with, extern_enum}
use Rattle.lalrpop_norm_tyinfer_steps.specs.Needs.{AreRuleNumbers}
use Rattle.lalrpop_norm_tyinfer_steps.specs.Numbered.{numbered_table}
use Rattle.lalrpop_norm_tyinfer_steps.specs.TokenTypes.{base_table, AddsTerminals}
use Rattle.lalrpop_norm_tyinfer_steps.specs.Visits.{rule_seen}
use Rattle.lalrpop_norm_tyinfer_steps.proofs.FilledLemmas.{filled, names_distinct}
use Rattle.lalrpop_norm_tyinfer_steps.proofs.NumberedRounds.{begins_table, none_by_name}
use Rattle.lalrpop_norm_tyinfer_steps.proofs.TokenLemmas.{added_names}
use Rattle.lalrpop_norm_tyinfer.proofs.tyinfer.filled_table.Goals as goal

pub run_rounds-requires-clause-distinct : goal.run_rounds-requires-clause-distinct
run_rounds-requires-clause-distinct c = names_distinct (grammar_view c.args.grammar.now) (map rule_seen c.args.rules.now) c.requires.seen c.requires.distinct

pub run_rounds-requires-clause-numbered : goal.run_rounds-requires-clause-numbered
run_rounds-requires-clause-numbered c =
    let made = c.in_ok-types.ensures in
    let listed = made.listed ∙ c.in_ok-names.ensures in
    record {
      numbers = subst (AreRuleNumbers (number_in_table c.in_ok-types.types.names)) listed made.numbers;
      listed = listed;
      tokens = subst (λ u. (type_table u).nonterminals ≡ []) (sym made.tokens) (added_names (grammar_view c.args.grammar.now) (type_table c.in_ok-tokens.tokens) c.in_ok-tokens.ensures);
    }

pub run_rounds-requires-clause-untyped : goal.run_rounds-requires-clause-untyped
run_rounds-requires-clause-untyped c =
    none_by_name c.in_ok-types.types c.in_ok-types.ensures.untyped

pub returns-clause-filled : goal.returns-clause-filled
returns-clause-filled c =
    let g = grammar_view c.args.grammar.now in
    let made = c.in_ok-types.ensures in
    let ends = rw c.deref.ensures.value at c.in_ok-run_rounds.ensures.ends in
    let begun = begins_table c.in_ok-types.types c.in_ok-tokens.tokens made.tokens made.untyped (added_names g (type_table c.in_ok-tokens.tokens) c.in_ok-tokens.ensures) in
    let added = subst (λ (u : TypeTable). AddsTerminals (base_table g) u (rows_with (extern_enum g) g)) (sym begun) c.in_ok-tokens.ensures in
    filled g (numbered_table c.in_ok-types.types) (numbered_table c.run_rounds.new.types) (map rule_seen c.args.rules.now) (length c.args.rules.now)
    added ends c.requires.seen (length-map c.args.rules.now rule_seen)
