-- The start symbols of public rules.
use Rattle.std.specs.Prelude.{ℕ, List, [], ◌∷◌, ◌++◌, None}
use Rattle.lalrpop_norm_tree_names.specs.declared.names.NonterminalString.{NonterminalString}
use Rattle.lalrpop_norm_tree_parts.specs.Attributes.{no_attributes}
use Rattle.lalrpop_norm_tree.specs.Items.{AlternativeData, RuleData}
use Rattle.lalrpop_norm_tree.specs.Symbols.{nonterminal, at, no_parts, part_and}
use Rattle.lalrpop_norm_model.specs.TypeTables.{Table}
use Rattle.lalrpop_norm_repr.specs.Productions.{EntryData, ProductionData}
use Rattle.lalrpop_norm_repr.specs.Tables.{TypeTable, type_of}

-- the start symbol of a public rule
abbrev pub start_name : List ℕ → NonterminalString → NonterminalString
start_name prefix n = record { 0 = prefix ++ n.0 }

-- a start production holds the rule's name and has no action code
abbrev pub start_alternative : RuleData → AlternativeData
start_alternative r =
    record {
      span = r.span;
      parts = part_and (at r.span (nonterminal r.name.0)) no_parts;
      condition = None;
      action = None;
      attributes = no_attributes;
    }

-- the entry of a rule's start symbol with that production
abbrev pub start_entry_with : RuleData → ProductionData → EntryData
start_entry_with r production =
    record { visibility = r.visibility; span = r.span; attributes = no_attributes; productions = production ∷ [] }

-- the type of each name by the table
abbrev pub types_by_name : TypeTable → Table
types_by_name types = λ n. type_of (record { 0 = n }) types
