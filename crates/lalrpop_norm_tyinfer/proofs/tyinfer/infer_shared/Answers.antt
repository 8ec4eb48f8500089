use Rattle.std.proofs.Common.{ℕ, List, map, sym, subst}
use Rattle.lalrpop_norm_names.specs.Numbers.{number_in_table, IsNumbering}
use Rattle.lalrpop_norm_theory.specs.Rounds.{IsDistinct}
use Rattle.lalrpop_norm_tree.specs.Items.{grammar_view}
use Rattle.lalrpop_norm_shared_types.specs.Table.{shared_table}
use Rattle.lalrpop_norm_model.specs.Expanded.{rule_names}
use Rattle.lalrpop_norm_tyinfer_steps.specs.Needs.{AreRuleNumbers, names_seen}
use Rattle.lalrpop_norm_tyinfer_steps.specs.Visits.{rule_seen}
use Rattle.lalrpop_norm_tyinfer_steps.specs.Numbered.{numbered_table}
use Rattle.lalrpop_norm_tyinfer_steps.proofs.NumberLemmas.{number_is_place}
use Rattle.lalrpop_norm_tyinfer_steps.proofs.FilledLemmas.{names_of_all, names_distinct, filled_inferred, filled_same}
use Rattle.lalrpop_norm_tyinfer.proofs.tyinfer.infer_shared.Goals as goal

pub shared_by_name-requires-clause-numbers : goal.shared_by_name-requires-clause-numbers
shared_by_name-requires-clause-numbers c =
    subst (AreRuleNumbers (number_in_table c.in_ok-types.types.names)) (sym c.in_ok-types.ensures.numbered.listed) c.in_ok-types.ensures.numbered.numbers

pub shared_by_name-requires-clause-distinct : goal.shared_by_name-requires-clause-distinct
shared_by_name-requires-clause-distinct c =
    subst (λ (ns : List (List ℕ)). IsDistinct ns) (sym c.in_ok-types.ensures.numbered.listed)
    (names_distinct (grammar_view c.args.grammar.now) (map rule_seen c.args.rules.now) c.requires.seen c.requires.distinct)

pub shared_by_name-requires-clause-tokens : goal.shared_by_name-requires-clause-tokens
shared_by_name-requires-clause-tokens c = c.in_ok-types.ensures.numbered.tokens

pub returns-clause-inferred : goal.returns-clause-inferred
returns-clause-inferred c =
    let g = grammar_view c.args.grammar.now in
    let listed = c.in_ok-listed.ensures in
    let types = shared_table c.in_ok-listed.listed.0 in
    filled_inferred g types (filled_same g (numbered_table c.in_ok-types.types) types c.in_ok-types.ensures.filled listed.same listed.rest) listed.names_in_order listed.terminals_in_order
    c.requires.distinct c.in_ok-types.ensures.refuses

pub returns-clause-names : goal.returns-clause-names
returns-clause-names c =
    let g = grammar_view c.args.grammar.now in
    let ss = map rule_seen c.args.rules.now in
    let names = c.in_ok-types.types.names in
    subst (IsNumbering (rule_names g)) (sym c.in_ok-listed.ensures.numbers)
    (subst (λ (ns : List (List ℕ)). IsNumbering ns names) (names_of_all g ss c.requires.seen)
    (λ n. number_is_place (number_in_table names) (names_seen ss) c.in_ok-types.ensures.numbered.numbers (names_distinct g ss c.requires.seen c.requires.distinct) n))
