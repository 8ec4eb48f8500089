-- The types of start symbols.
use Rattle.std.specs.Prelude.{◌≡◌, ℕ, List, [], ◌∷◌}
use Rattle.lalrpop_norm_tree_names.specs.declared.names.NonterminalString.{NonterminalString}
use Rattle.lalrpop_norm_tree.specs.Accessors.{or_else}
use Rattle.lalrpop_norm_tree.specs.Items.{RuleData}
use Rattle.lalrpop_norm_tree_parts.specs.Reprs.{ReprData}
use Rattle.lalrpop_norm_repr.specs.Tables.{TypeTable, type_of, found}
use Rattle.lalrpop_norm_lower.specs.Lowering.{start_name, rule_type}

-- each start symbol with its rule's type
abbrev pub start_types : List ℕ → TypeTable → List RuleData → List (NonterminalString × ReprData)
start_types prefix types [] = []
start_types prefix types (r ∷ rs) = (start_name prefix r.name, rule_type types r) ∷ start_types prefix types rs

-- the new table is the old one with the rows added, each where its name had no type yet
pub record AddsTypes (old new : TypeTable) (rows : List (NonterminalString × ReprData)) : Type 0 where
  pub names : (n : NonterminalString) → type_of n new ≡ or_else (type_of n old) (found n rows)
  pub rest : new ≡ record old { nonterminals = new.nonterminals }
