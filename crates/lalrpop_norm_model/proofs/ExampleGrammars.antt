-- Small grammars, put together for examples. All spans are empty.
use Rattle.std.specs.Prelude.{ℕ, List, [], ◌∷◌, ◌++◌, map, Option, Some, None, codes}
use Rattle.lalrpop_norm_tree_names.specs.declared.names.Span.{Span}
use Rattle.lalrpop_norm_tree_names.specs.declared.names.TerminalString.{TerminalString}
use Rattle.lalrpop_norm_tree_names.specs.declared.names.TerminalString.TheVariants.{Literal}
use Rattle.lalrpop_norm_tree_names.specs.declared.names.TerminalLiteral.TheVariants.{Quoted, Regex}
use Rattle.lalrpop_norm_tree.specs.declared.items.MatchItem.{MatchItem}
use Rattle.lalrpop_norm_tree_parts.specs.Accessors.{path_of}
use Rattle.lalrpop_norm_tree_parts.specs.Attributes.{no_attributes}
use Rattle.lalrpop_norm_tree.specs.Items.{Action, user_code, AlternativeData, RuleData, private, AssociatedTypeData, ConversionData, ItemData, GrammarData, match_item, extern_item, rule_item}
use Rattle.lalrpop_norm_tree_patterns.specs.Patterns.{pattern_at, tuple_struct, chosen as chosen_type, patterns_of}
use Rattle.lalrpop_norm_tree_parts.specs.Reprs.{ReprData, named_repr}
use Rattle.lalrpop_norm_tree.specs.Symbols.{Kind, Part, Parts, at, parts_of}
use Rattle.lalrpop_norm_tree.specs.Types.{TypeData, id}

abbrev pub nowhere : Span
nowhere = record { 0 = 0; 1 = 0 }

-- ---- symbols and rules

abbrev pub quoted : List ℕ → TerminalString
quoted text = Literal (Quoted text)

abbrev pub pattern : List ℕ → TerminalString
pattern text = Literal (Regex text)

abbrev pub a_part : Kind → Part
a_part k = at nowhere k

abbrev pub some_parts : List Kind → Parts
some_parts ks = parts_of (map a_part ks)

-- an alternative of those symbols, with code or without
abbrev pub with_code : Option Action → List Kind → AlternativeData
with_code code ks = record { span = nowhere; parts = some_parts ks; condition = None; action = code; attributes = no_attributes }

abbrev pub plain : List Kind → AlternativeData
plain ks = with_code None ks

abbrev pub coded : List ℕ → List Kind → AlternativeData
coded text ks = with_code (Some (user_code text)) ks

abbrev pub a_rule : List ℕ → Option TypeData → List AlternativeData → RuleData
a_rule n t alternatives = record { visibility = private; name = record { 0 = n }; attributes = no_attributes; span = nowhere; args = []; type_decl = t; alternatives = alternatives }

-- ---- tokens

-- a conversion that chooses types
abbrev pub converts : TerminalString → List TypeData → ConversionData
converts t types = record { span = nowhere; attributes = no_attributes; from = t; to = pattern_at nowhere (tuple_struct (path_of (codes "T" ∷ [])) (patterns_of (map (λ x. pattern_at nowhere (chosen_type x)) types))) }

-- an extern block that declares those types, and the enum `Tok` of those conversions
abbrev pub extern_tokens : List AssociatedTypeData → List ConversionData → ItemData
extern_tokens types cs = extern_item (record { span = nowhere; associated_types = types; enum_token = Some (record { type_name = id (codes "Tok"); type_span = nowhere; conversions = cs }) })

abbrev pub declares : List ℕ → TypeData → AssociatedTypeData
declares name t = record { type_span = nowhere; type_name = name; type_ref = t }

-- literals without a type of their own
abbrev pub tok_tokens : List (List ℕ) → ItemData
tok_tokens texts = extern_tokens [] (map (λ text. converts (quoted text) []) texts)

abbrev pub tok : ReprData
tok = named_repr (codes "Tok")

abbrev pub match_tokens : List (List MatchItem) → ItemData
match_tokens groups = match_item (record { contents = groups; span = nowhere })

-- ---- grammars

-- a grammar with the prefix `__`
abbrev pub a_grammar : List ItemData → GrammarData
a_grammar items = record { prefix = codes "__"; span = nowhere; type_parameters = []; parameters = []; where_clauses = []; items = items; attributes = no_attributes; module_attributes = [] }

-- tokens, then rules
abbrev pub of_rules : List ItemData → List RuleData → GrammarData
of_rules tokens rules = a_grammar (tokens ++ map rule_item rules)
