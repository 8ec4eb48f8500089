-- The nonterminals, start symbols and types of a lowered grammar, by themselves.
use Rattle.std.specs.Prelude.{◌≡◌}
use Rattle.lalrpop_norm_repr.specs.Lowered.{LoweredGrammar}
use Rattle.lalrpop_norm_repr.specs.Productions.{nonterminal_data_view}
use Rattle.lalrpop_norm_repr.specs.Tables.{rows}
use Rattle.lalrpop_norm_shared_types.specs.Table.{shared_table}
use Rattle.lalrpop_norm_lower.specs.declared.lowered_rules.LoweredRules.{LoweredRules}

-- they are those of that lowered grammar
pub record AreRulesOf (l : LoweredGrammar) (r : LoweredRules) : Type 0 where
  pub start_nonterminals : r.start_nonterminals.entries ≡ l.start_nonterminals
  pub nonterminals : rows nonterminal_data_view r.nonterminals ≡ l.nonterminals
  pub types : shared_table r.types ≡ l.types

-- they are those of a lowered grammar with that property
pub record AreRulesWhere (P : LoweredGrammar → Type 0) (r : LoweredRules) : Type 0 where
  pub grammar : LoweredGrammar
  pub holds : P grammar
  pub rules : AreRulesOf grammar r
