use Rattle.std.proofs.Common.{◌≡◌, ◌≤◌, ◌-◌, [], map}
use Rattle.lalrpop_norm_tree.specs.Items.{item_view, grammar_view}
use Rattle.lalrpop_norm_model.specs.Expanded.{rule_names}
use Rattle.lalrpop_norm_nodes.specs.Tables.{wholes_in, seen_in, waiting_in, is_declared_in, IsNodeTable, IsCounted}
use Rattle.lalrpop_norm_macro_expand_rules.specs.Names.{is_declared_name}
use Rattle.lalrpop_norm_macro_expand.specs.Made.{made_view}
use Rattle.lalrpop_norm_macro_expand.proofs.MadeLemmas.{MadeSo}
use Rattle.lalrpop_norm_macro_expand.proofs.RoundLemmas.{AtRound}
use Rattle.lalrpop_norm_macro_expand.proofs.macro_expand.expand_rounds.Given as goal

abbrev pub invariant-rounds : goal.invariant-rounds
invariant-rounds l = record {
  grammar : grammar_view l.grammar ≡ record (grammar_view l.fn.grammar) { items = [] };
  table : IsNodeTable l.table;
  counted : IsCounted l.table;
  names : is_declared_in l.table ≡ is_declared_name (rule_names (grammar_view l.fn.grammar));
  bound : l.left ≤ l.fn.limit;
  rounds : AtRound (grammar_view l.fn.grammar) l.fn.limit l.left (l.fn.limit - l.left) (seen_in l.table) (waiting_in l.table) (map item_view l.done.items);
  made : MadeSo (grammar_view l.fn.grammar) (wholes_in l.table) (l.fn.limit - l.left) (map made_view l.made.items);
}

abbrev pub decreases-rounds : goal.decreases-rounds
decreases-rounds l = l.left
