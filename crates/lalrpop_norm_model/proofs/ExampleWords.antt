-- Words to write small grammars with, for the examples.
use Rattle.std.specs.Prelude.{ℕ, Bool, false, not, ◌&&◌, bytes_eq, List, [], ◌∷◌, map, Some, None, codes}
use Rattle.lalrpop_norm_tree_names.specs.declared.names.Span.{Span}
use Rattle.lalrpop_norm_tree_names.specs.declared.names.NonterminalString.{NonterminalString}
use Rattle.lalrpop_norm_tree_names.specs.declared.names.TerminalString.{TerminalString}
use Rattle.lalrpop_norm_tree_names.specs.declared.names.TerminalString.TheVariants.{Literal, Bare}
use Rattle.lalrpop_norm_tree_names.specs.declared.names.TerminalLiteral.TheVariants.{Quoted}
use Rattle.lalrpop_norm_tree.specs.declared.items.ConditionOp.{ConditionOp}
use Rattle.lalrpop_norm_tree.specs.declared.items.ConditionOp.TheVariants.{Equals, NotEquals, Match, NotMatch}
use Rattle.lalrpop_norm_tree.specs.declared.symbol.RepeatOp.TheVariants.{Star, Plus, Question}
use Rattle.lalrpop_norm_tree_parts.specs.Attributes.{AttributeData, empty, paren, equal, attribute, no_attributes, attributes_of}
use Rattle.lalrpop_norm_tree.specs.Symbols.{Kind, Part, Parts, terminal, nonterminal, ambiguous_id, repeated, named, at, parts_of}
use Rattle.lalrpop_norm_tree.specs.Types.{id}
use Rattle.lalrpop_norm_tree_patterns.specs.Patterns.{pattern_at, underscore}
use Rattle.lalrpop_norm_tree.specs.Items.{AlternativeData, RuleData, ConversionData, ExternTokenData, ItemData, GrammarData, private, rule_item}
use Rattle.lalrpop_norm_model.specs.Features.{Features}
use Rattle.lalrpop_norm_model.specs.Grammars.{ConditionValue}

-- ---- spans and names

-- from one byte offset up to another, half open
abbrev pub span : ℕ → ℕ → Span
span a b = record { 0 = a; 1 = b }

-- for what has no span that matters
abbrev pub nowhere : Span
nowhere = span 0 0

abbrev pub rule_name : List ℕ → NonterminalString
rule_name n = record { 0 = n }

-- ---- attributes

-- `#[n]`, `#[n(..)]` and `n = "v"`
abbrev pub bare_attribute : List ℕ → AttributeData
bare_attribute n = attribute nowhere n empty

abbrev pub attribute_of : List ℕ → List AttributeData → AttributeData
attribute_of n xs = attribute nowhere n (paren (attributes_of xs))

abbrev pub valued : List ℕ → List ℕ → AttributeData
valued n v = attribute nowhere n (equal v)

-- `#[precedence(level="l")]`, `#[assoc(side="s")]`, `#[cfg(c)]`
abbrev pub precedence : List ℕ → AttributeData
precedence l = attribute_of (codes "precedence") (valued (codes "level") l ∷ [])

abbrev pub assoc : List ℕ → AttributeData
assoc s = attribute_of (codes "assoc") (valued (codes "side") s ∷ [])

abbrev pub cfg : AttributeData → AttributeData
cfg c = attribute_of (codes "cfg") (c ∷ [])

abbrev pub feature : List ℕ → AttributeData
feature f = valued (codes "feature") f

-- `#[cfg(feature = "f")]`, `#[cfg(not(feature = "f"))]`, and the features without f and with it
abbrev pub if_f : AttributeData
if_f = cfg (feature (codes "f"))

abbrev pub unless_f : AttributeData
unless_f = cfg (attribute_of (codes "not") (feature (codes "f") ∷ []))

abbrev pub without_f : Features
without_f = None

abbrev pub with_f : Features
with_f = Some (codes "f" ∷ [])

-- ---- symbols

abbrev pub literal : List ℕ → Kind
literal a = terminal (Literal (Quoted a))

abbrev pub name : List ℕ → Kind
name n = nonterminal n

abbrev pub identifier : List ℕ → Kind
identifier n = ambiguous_id n

abbrev pub bare : List ℕ → Kind
bare n = terminal (Bare n)

abbrev pub starred : Part → Kind
starred p = repeated Star p

abbrev pub plussed : Part → Kind
plussed p = repeated Plus p

abbrev pub optional : Part → Kind
optional p = repeated Question p

abbrev pub name_before : List ℕ → Part → Kind
name_before n p = named (record { mutable = false; name = n }) p

-- a symbol whose span does not matter, and several
abbrev pub here : Kind → Part
here k = at nowhere k

abbrev pub symbols : List Kind → Parts
symbols ks = parts_of (map here ks)

-- ---- rules

abbrev pub alternative : Span → List AttributeData → Parts → AlternativeData
alternative s xs ps = record { span = s; parts = ps; condition = None; action = None; attributes = attributes_of xs }

-- the alternative `k if n op "text"`
abbrev pub conditional : Kind → List ℕ → ConditionOp → List ℕ → AlternativeData
conditional k n op text = record (alternative nowhere [] (symbols (k ∷ []))) { condition = Some (record { span = nowhere; lhs = rule_name n; rhs = text; op = op }) }

-- a private rule without arguments, attributes or a declared type
abbrev pub rule : Span → List ℕ → List AlternativeData → RuleData
rule s n alternatives = record {
  visibility = private;
  name = rule_name n;
  attributes = no_attributes;
  span = s;
  args = [];
  type_decl = None;
  alternatives = alternatives;
}

-- the same with arguments
abbrev pub macro_rule : Span → List ℕ → List (List ℕ) → List AlternativeData → RuleData
macro_rule s n args alternatives = record (rule s n alternatives) { args = map rule_name args }

-- ---- tokens and grammars

-- a conversion into `_`, and an extern block of the enum Tok
abbrev pub conversion : Span → List AttributeData → TerminalString → ConversionData
conversion s xs t = record { span = s; attributes = attributes_of xs; from = t; to = pattern_at s underscore }

abbrev pub extern_of : List ConversionData → ExternTokenData
extern_of cs = record {
  span = nowhere;
  associated_types = [];
  enum_token = Some (record { type_name = id (codes "Tok"); type_span = nowhere; conversions = cs });
}

abbrev pub grammar_of : List ItemData → GrammarData
grammar_of items = record {
  prefix = codes "__";
  span = nowhere;
  type_parameters = [];
  parameters = [];
  where_clauses = [];
  items = items;
  attributes = no_attributes;
  module_attributes = [];
}

-- the grammar of some rules alone
abbrev pub rules_alone : List RuleData → GrammarData
rules_alone rs = grammar_of (map rule_item rs)

-- ---- conditions

-- the texts in which the pattern `^A*C$` is found, of the three below
abbrev pub is_found : List ℕ → List ℕ → Bool
is_found pattern text = bytes_eq pattern (codes "^A*C$") && bytes_eq text (codes "AAC")

abbrev pub compared : ConditionOp → List ℕ → List ℕ → Bool
compared Equals a text = bytes_eq a text
compared NotEquals a text = not (bytes_eq a text)
compared Match a text = is_found text a
compared NotMatch a text = not (is_found text a)

-- what conditions say of quoted literals
abbrev pub example_value : ConditionValue
example_value op a text = compared op a text

-- Expr<E> = { "A" if E == "A*C", "B" if E ~~ "^A*C$", "C" if E != "A*C", "D" if E !~ "^A*C$" };
abbrev pub conditional_macro : RuleData
conditional_macro = macro_rule nowhere (codes "Expr") (codes "E" ∷ [])
    (conditional (literal (codes "A")) (codes "E") Equals (codes "A*C")
    ∷ (conditional (literal (codes "B")) (codes "E") Match (codes "^A*C$")
    ∷ (conditional (literal (codes "C")) (codes "E") NotEquals (codes "A*C")
    ∷ (conditional (literal (codes "D")) (codes "E") NotMatch (codes "^A*C$") ∷ []))))
