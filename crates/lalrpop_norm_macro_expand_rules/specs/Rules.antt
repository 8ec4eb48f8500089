-- Generated rules: internal definitions, which no public contract clause mentions.
use Rattle.std.specs.Prelude.{ℕ, List, [], Option}
use Rattle.lalrpop_norm_tree_names.specs.declared.names.Span.{Span}
use Rattle.lalrpop_norm_tree_parts.specs.Attributes.{Attributes}
use Rattle.lalrpop_norm_tree.specs.Types.{TypeData}
use Rattle.lalrpop_norm_tree.specs.Items.{AlternativeData, RuleData, private}

-- a private rule of that name at that span
abbrev pub named_rule : List ℕ → Span → Attributes → Option TypeData → List AlternativeData → RuleData
named_rule name s attributes type alternatives = record {
  visibility = private;
  name = record { 0 = name };
  attributes = attributes;
  span = s;
  args = [];
  type_decl = type;
  alternatives = alternatives;
}
