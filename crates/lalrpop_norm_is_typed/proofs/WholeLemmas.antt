-- The tests together say that a grammar is typed by the table.
use Rattle.std.proofs.Common.{◌≡◌, ◌∙◌, Bool, true, sym}
use Rattle.std.specs.List.{list_all}
use Rattle.lalrpop_norm_tree.specs.Items.{GrammarData}
use Rattle.lalrpop_norm_theory.proofs.BoolLemmas.{both_true, both_hold}
use Rattle.lalrpop_norm_model.specs.Features.{Features}
use Rattle.lalrpop_norm_model.specs.PlainRules.{all_rules}
use Rattle.lalrpop_norm_model.specs.Terminals.{terminals_used}
use Rattle.lalrpop_norm_model.specs.Expanded.{IsTyped}
use Rattle.lalrpop_norm_repr.specs.Tables.{TypeTable}
use Rattle.lalrpop_norm_lower_steps.specs.StartSymbols.{types_by_name}
use Rattle.lalrpop_norm_is_typed.specs.Rules.{is_item_typed}
use Rattle.lalrpop_norm_is_typed.specs.Terminals.{source_of, is_terminal, are_terminals_distinct}
use Rattle.lalrpop_norm_is_typed.specs.Used.{is_item_listed}
use Rattle.lalrpop_norm_is_typed.specs.Whole.{are_terminals_listed, is_typed_by}
use Rattle.lalrpop_norm_is_typed.proofs.RuleLemmas.{is_rule_typed, rules_typed}
use Rattle.lalrpop_norm_is_typed.proofs.TerminalLemmas.{terminal_in, in_terminal, terminals_distinct, distinct_terminals}
use Rattle.lalrpop_norm_is_typed.proofs.UsedLemmas.{items_listed}
use Rattle.lalrpop_norm_theory.proofs.ListTests.{all_at, all_if}

abbrev all_typed : GrammarData → TypeTable → Bool
all_typed g types = list_all (is_item_typed types) g.items

abbrev all_listed : Features → GrammarData → Bool
all_listed fs g = list_all (is_item_listed fs (source_of g)) g.items

pub passes_typed : (fs : Features) (g : GrammarData) (types : TypeTable) → is_typed_by fs g types ≡ true → IsTyped fs g (types_by_name types)
passes_typed fs g types e =
    let (typed, rest) = both_true (all_typed g types) (are_terminals_listed fs g) e in
    let (distinct, listed) = both_true (are_terminals_distinct fs (source_of g)) (all_listed fs g) rest in
    record {
      rules_typed = all_at (is_rule_typed types) (all_rules g) (sym (rules_typed types g.items) ∙ typed);
      distinct_terminals = terminals_distinct fs g distinct;
      terminals_listed = λ t i. terminal_in fs g t (all_at (is_terminal fs (source_of g)) (terminals_used g) (sym (items_listed fs (source_of g) g.items) ∙ listed) t i);
    }

pub typed_passes : (fs : Features) (g : GrammarData) (types : TypeTable) → IsTyped fs g (types_by_name types) → is_typed_by fs g types ≡ true
typed_passes fs g types t =
    both_hold (all_typed g types) (are_terminals_listed fs g) (rules_typed types g.items ∙ all_if (is_rule_typed types) (all_rules g) t.rules_typed)
    (both_hold (are_terminals_distinct fs (source_of g)) (all_listed fs g) (distinct_terminals fs g t.distinct_terminals)
    (items_listed fs (source_of g) g.items ∙ all_if (is_terminal fs (source_of g)) (terminals_used g) (λ u i. in_terminal fs g u (t.terminals_listed u i))))
