use Rattle.std.proofs.Common.{map, refl}
use Rattle.lalrpop_norm_tree.specs.Items.{grammar_view}
use Rattle.lalrpop_norm_tyinfer_steps.specs.Visits.{rule_seen}
use Rattle.lalrpop_norm_tyinfer_steps.specs.Numbered.{numbered_table}
use Rattle.lalrpop_norm_tyinfer_steps.proofs.FilledLemmas.{names_distinct, clauses_refused, table_refused, none_refused}
use Rattle.lalrpop_norm_tyinfer.proofs.AgreementLemmas.{filled_agree}
use Rattle.lalrpop_norm_tyinfer.proofs.tyinfer.checked_table.Goals as goal

pub returns-in_err-check_clauses-clause-refuses : goal.returns-in_err-check_clauses-clause-refuses
returns-in_err-check_clauses-clause-refuses c =
    clauses_refused (grammar_view c.args.grammar.now) c.args.rules.now _ _ c.requires.seen c.from_residual.ensures.1 c.in_err-check_clauses.ensures

pub check_table-requires-clause-distinct : goal.check_table-requires-clause-distinct
check_table-requires-clause-distinct c = names_distinct (grammar_view c.args.grammar.now) (map rule_seen c.args.rules.now) c.requires.seen c.requires.distinct

pub check_table-requires-clause-numbered : goal.check_table-requires-clause-numbered
check_table-requires-clause-numbered c = c.in_ok-types.ensures.numbered

pub returns-in_err-check_table-clause-refuses : goal.returns-in_err-check_table-clause-refuses
returns-in_err-check_table-clause-refuses c =
    table_refused (grammar_view c.args.grammar.now) (numbered_table c.in_ok-types.types) c.in_ok-types.ensures.filled (grammar_view c.args.grammar.now).type_parameters refl c.args.rules.now c.requires.seen c.in_ok-check_clauses.ensures
    _ _ c.from_residual-in_err-check_table.ensures.1 (c.in_err-check_table.ensures (grammar_view c.args.grammar.now).type_parameters
    (filled_agree (grammar_view c.args.grammar.now) (numbered_table c.in_ok-types.types) c.in_ok-types.ensures.filled c.requires.distinct (map rule_seen c.args.rules.now) c.requires.seen))

pub returns-clause-refuses : goal.returns-clause-refuses
returns-clause-refuses c =
    none_refused (grammar_view c.args.grammar.now) (numbered_table c.in_ok-types.types) c.in_ok-types.ensures.filled (grammar_view c.args.grammar.now).type_parameters refl c.args.rules.now c.requires.seen c.in_ok-check_clauses.ensures
    (c.in_ok-check_table.ensures (grammar_view c.args.grammar.now).type_parameters
    (filled_agree (grammar_view c.args.grammar.now) (numbered_table c.in_ok-types.types) c.in_ok-types.ensures.filled c.requires.distinct (map rule_seen c.args.rules.now) c.requires.seen))
