-- Items and grammars back from their forms.
use Rattle.std.proofs.Common.{◌≡◌, ℕ, List, [], ◌∷◌, Option, Some, None, option_map, option_and_then, false, bytes_eq, if◌then◌else◌, codes, refl, ap, ap₂, sym, ◌∙◌}
use Rattle.serde_json.specs.Data.{Data, null, string, array, object, no_items, item, no_members, member}
use Rattle.serde_json.specs.View.{items_of}
use Rattle.lalrpop_norm_tree_names.specs.declared.names.NonterminalString.{NonterminalString}
use Rattle.lalrpop_norm_tree_names.specs.declared.names.Span.{Span}
use Rattle.lalrpop_norm_tree_names.specs.declared.names.TerminalLiteral.{TerminalLiteral}
use Rattle.lalrpop_norm_tree_names.specs.declared.names.TerminalString.{TerminalString}
use Rattle.lalrpop_norm_tree_names.specs.declared.names.TypeParameter.{TypeParameter}
use Rattle.lalrpop_norm_tree_parts.specs.Attributes.{Attributes}
use Rattle.lalrpop_norm_tree_parts.specs.Bounds.{WhereClauseData}
use Rattle.lalrpop_norm_tree_patterns.specs.Patterns.{PatternData}
use Rattle.lalrpop_norm_tree.specs.declared.items.Condition.{Condition}
use Rattle.lalrpop_norm_tree.specs.declared.items.ConditionOp.{ConditionOp}
use Rattle.lalrpop_norm_tree.specs.declared.items.ConditionOp.TheVariants.{Equals, NotEquals, Match, NotMatch}
use Rattle.lalrpop_norm_tree.specs.declared.items.MatchItem.{MatchItem}
use Rattle.lalrpop_norm_tree.specs.declared.items.MatchItem.TheVariants.{CatchAll, Unmapped, Mapped}
use Rattle.lalrpop_norm_tree.specs.declared.items.MatchMapping.{MatchMapping}
use Rattle.lalrpop_norm_tree.specs.Symbols.{Parts}
use Rattle.lalrpop_norm_tree.specs.Types.{TypeData, ParameterData}
use Rattle.lalrpop_norm_tree.specs.Items.{Action, user_code, fallible_code, lookahead_code, lookbehind_code, AlternativeData}
use Rattle.lalrpop_norm_tree.specs.Items.{VisibilityData, RuleData, MatchTokenData, AssociatedTypeData, ConversionData}
use Rattle.lalrpop_norm_tree.specs.Items.{EnumTokenData, ExternTokenData, ItemData, match_item, extern_item, intern_item, rule_item, use_item, GrammarData}
use Rattle.lalrpop_norm_json.specs.Json.{row, list_form, maybe_form}
use Rattle.lalrpop_norm_json.specs.Forms.{nonterminal_form}
use Rattle.lalrpop_norm_json.specs.TypeForms.{parameter_form, where_clause_form}
use Rattle.lalrpop_norm_json.specs.ItemForms.{condition_op_form, condition_form, action_form, alternative_form, rule_form}
use Rattle.lalrpop_norm_json.specs.ItemForms.{match_item_form, match_contents_form, match_token_form, associated_type_form}
use Rattle.lalrpop_norm_json.specs.ItemForms.{conversion_form, enum_token_form, extern_token_form, item_form, item_forms, grammar_fields, grammar_form}
use Rattle.lalrpop_norm_json.proofs.ListBack.{◌⊛◌, same, is_null, items_in, list_in, list_back, maybe_in, maybe_back}
use Rattle.lalrpop_norm_json.proofs.NameBack.{text_in, texts_back, span_in, nonterminal_in, nonterminal_back, literal_in, literal_back}
use Rattle.lalrpop_norm_json.proofs.NameBack.{terminal_in, terminal_back, attribute_list_in, attributes_back, parameter_in, parameters_back}
use Rattle.lalrpop_norm_json.proofs.NameBack.{visibility_in, visibility_back, mapping_in, mapping_back}
use Rattle.lalrpop_norm_json.proofs.SymbolLaws.{group_in, parts_back}
use Rattle.lalrpop_norm_json.proofs.TypeBack.{type_in, type_back, maybe_type_back, grammar_parameter_in, grammar_parameter_back}
use Rattle.lalrpop_norm_json.proofs.ClauseBack.{where_clause_in, where_clause_back}
use Rattle.lalrpop_norm_json.proofs.PatternBack.{pattern_in, pattern_back}

-- ---- rules

abbrev condition_op_in : Data → ConditionOp
condition_op_in d =
    if bytes_eq (text_in d) (codes "Equals") then Equals
    else if bytes_eq (text_in d) (codes "NotEquals") then NotEquals
    else if bytes_eq (text_in d) (codes "Match") then Match
    else NotMatch

condition_op_back : (o : ConditionOp) → condition_op_in (condition_op_form o) ≡ o
condition_op_back Equals = refl
condition_op_back NotEquals = refl
condition_op_back Match = refl
condition_op_back NotMatch = refl

abbrev condition_of : NonterminalString → ConditionOp → List ℕ → Span → Condition
condition_of l o r s = record { span = s; lhs = l; rhs = r; op = o }

abbrev condition_in : Data → Condition
condition_in (object (member j l (member k o (member m r (member n s no_members))))) =
    condition_of (nonterminal_in l) (condition_op_in o) (text_in r) (span_in s)
condition_in _ = condition_of (nonterminal_in null) Equals [] (span_in null)

condition_back : (c : Condition) → condition_in (condition_form c) ≡ c
condition_back c = ap (λ (o : ConditionOp). condition_of c.lhs o c.rhs c.span) (condition_op_back c.op)

abbrev action_in : Data → Action
action_in (object (member k d no_members)) = if bytes_eq k (codes "User") then user_code (text_in d) else fallible_code (text_in d)
action_in d = if bytes_eq (text_in d) (codes "Lookahead") then lookahead_code else lookbehind_code

action_back : (a : Action) → action_in (action_form a) ≡ a
action_back (user_code s) = refl
action_back (fallible_code s) = refl
action_back lookahead_code = refl
action_back lookbehind_code = refl

abbrev alternative_of : Option Action → Attributes → Option Condition → Parts → Span → AlternativeData
alternative_of a xs c ps s = record { span = s; parts = ps; condition = c; action = a; attributes = xs }

abbrev alternative_in : Data → AlternativeData
alternative_in (object (member _ d0 (member _ d1 (member _ d2 (member _ d3 (member _ d4 no_members)))))) =
    alternative_of (maybe_in action_in d0) (attribute_list_in d1) (maybe_in condition_in d2) (group_in d3) (span_in d4)
alternative_in _ = alternative_of None (attribute_list_in null) None (group_in null) (span_in null)

action_there : (a : Action) → is_null (action_form a) ≡ false
action_there (user_code s) = refl
action_there (fallible_code s) = refl
action_there lookahead_code = refl
action_there lookbehind_code = refl

alternative_back : (a : AlternativeData) → alternative_in (alternative_form a) ≡ a
alternative_back a =
    ap alternative_of (maybe_back action_form action_in action_back action_there a.action)
    ⊛ attributes_back a.attributes
    ⊛ maybe_back condition_form condition_in condition_back (λ c. refl) a.condition
    ⊛ parts_back a.parts
    ⊛ same a.span

abbrev rule_of : List AlternativeData → List NonterminalString → Attributes → NonterminalString → Span → Option TypeData → VisibilityData → RuleData
rule_of alternatives args attributes name span type visibility =
    record {
      visibility = visibility;
      name = name;
      attributes = attributes;
      span = span;
      args = args;
      type_decl = type;
      alternatives = alternatives;
    }

abbrev rule_in : Data → RuleData
rule_in (object (member _ d0 (member _ d1 (member _ d2 (member _ d3 (member _ d4 (member _ d5 (member _ d6 no_members)))))))) =
    rule_of (list_in alternative_in d0) (list_in nonterminal_in d1) (attribute_list_in d2) (nonterminal_in d3) (span_in d4)
    (maybe_in type_in d5) (visibility_in d6)
rule_in _ = rule_of [] [] (attribute_list_in null) (nonterminal_in null) (span_in null) None (visibility_in null)

rule_back : (r : RuleData) → rule_in (rule_form r) ≡ r
rule_back r =
    ap rule_of (list_back alternative_form alternative_in alternative_back r.alternatives)
    ⊛ list_back nonterminal_form nonterminal_in nonterminal_back r.args
    ⊛ attributes_back r.attributes
    ⊛ same r.name
    ⊛ same r.span
    ⊛ maybe_type_back r.type_decl
    ⊛ visibility_back r.visibility

-- ---- tokens

abbrev unmapped_in : Data → MatchItem
unmapped_in (array (item l (item s no_items))) = Unmapped (literal_in l) (span_in s)
unmapped_in _ = CatchAll (span_in null)

abbrev mapped_in : Data → MatchItem
mapped_in (array (item l (item m (item s no_items)))) = Mapped (literal_in l) (mapping_in m) (span_in s)
mapped_in _ = CatchAll (span_in null)

abbrev match_item_in : Data → MatchItem
match_item_in (object (member k d no_members)) =
    if bytes_eq k (codes "CatchAll") then CatchAll (span_in d)
    else if bytes_eq k (codes "Unmapped") then unmapped_in d
    else mapped_in d
match_item_in _ = CatchAll (span_in null)

match_item_back : (i : MatchItem) → match_item_in (match_item_form i) ≡ i
match_item_back (CatchAll s) = refl
match_item_back (Unmapped l s) = ap (λ (m : TerminalLiteral). Unmapped m s) (literal_back l)
match_item_back (Mapped l m s) = ap₂ (λ (k : TerminalLiteral) (n : MatchMapping). Mapped k n s) (literal_back l) (mapping_back m)

abbrev match_contents_in : Data → List MatchItem
match_contents_in (object (member k is no_members)) = list_in match_item_in is
match_contents_in _ = []

match_contents_back : (is : List MatchItem) → match_contents_in (match_contents_form is) ≡ is
match_contents_back = list_back match_item_form match_item_in match_item_back

abbrev match_token_of : List (List MatchItem) → Span → MatchTokenData
match_token_of cs s = record { contents = cs; span = s }

abbrev match_token_in : Data → MatchTokenData
match_token_in (object (member k cs (member l s no_members))) = match_token_of (list_in match_contents_in cs) (span_in s)
match_token_in _ = match_token_of [] (span_in null)

match_token_back : (m : MatchTokenData) → match_token_in (match_token_form m) ≡ m
match_token_back m =
    ap (λ (cs : List (List MatchItem)). match_token_of cs m.span)
    (list_back match_contents_form match_contents_in match_contents_back m.contents)

abbrev associated_type_of : List ℕ → TypeData → Span → AssociatedTypeData
associated_type_of n t s = record { type_span = s; type_name = n; type_ref = t }

abbrev associated_type_in : Data → AssociatedTypeData
associated_type_in (object (member k n (member l t (member m s no_members)))) =
    associated_type_of (text_in n) (type_in t) (span_in s)
associated_type_in _ = associated_type_of [] (type_in null) (span_in null)

associated_type_back : (a : AssociatedTypeData) → associated_type_in (associated_type_form a) ≡ a
associated_type_back a = ap (λ (t : TypeData). associated_type_of a.type_name t a.type_span) (type_back a.type_ref)

abbrev conversion_of : Attributes → TerminalString → Span → PatternData TypeData → ConversionData
conversion_of xs t s p = record { span = s; attributes = xs; from = t; to = p }

abbrev conversion_in : Data → ConversionData
conversion_in (object (member j xs (member k t (member l s (member m p no_members))))) =
    conversion_of (attribute_list_in xs) (terminal_in t) (span_in s) (pattern_in type_in p)
conversion_in _ = conversion_of (attribute_list_in null) (terminal_in null) (span_in null) (pattern_in type_in null)

conversion_back : (c : ConversionData) → conversion_in (conversion_form c) ≡ c
conversion_back c =
    ap conversion_of (attributes_back c.attributes) ⊛ terminal_back c.from ⊛ same c.span ⊛ pattern_back c.to

abbrev enum_token_of : List ConversionData → TypeData → Span → EnumTokenData
enum_token_of cs t s = record { type_name = t; type_span = s; conversions = cs }

abbrev enum_token_in : Data → EnumTokenData
enum_token_in (object (member k cs (member l t (member m s no_members)))) =
    enum_token_of (list_in conversion_in cs) (type_in t) (span_in s)
enum_token_in _ = enum_token_of [] (type_in null) (span_in null)

enum_token_back : (e : EnumTokenData) → enum_token_in (enum_token_form e) ≡ e
enum_token_back e =
    ap₂ (λ (cs : List ConversionData) (t : TypeData). enum_token_of cs t e.type_span)
    (list_back conversion_form conversion_in conversion_back e.conversions) (type_back e.type_name)

abbrev extern_token_of : List AssociatedTypeData → Option EnumTokenData → Span → ExternTokenData
extern_token_of ts e s = record { span = s; associated_types = ts; enum_token = e }

abbrev extern_token_in : Data → ExternTokenData
extern_token_in (object (member k ts (member l e (member m s no_members)))) =
    extern_token_of (list_in associated_type_in ts) (maybe_in enum_token_in e) (span_in s)
extern_token_in _ = extern_token_of [] None (span_in null)

extern_token_back : (t : ExternTokenData) → extern_token_in (extern_token_form t) ≡ t
extern_token_back t =
    ap₂ (λ (ts : List AssociatedTypeData) (e : Option EnumTokenData). extern_token_of ts e t.span)
    (list_back associated_type_form associated_type_in associated_type_back t.associated_types)
    (maybe_back enum_token_form enum_token_in enum_token_back (λ e. refl) t.enum_token)

-- ---- grammars

abbrev item_in : Data → ItemData
item_in (object (member k d no_members)) =
    if bytes_eq k (codes "MatchToken") then match_item (match_token_in d)
    else if bytes_eq k (codes "ExternToken") then extern_item (extern_token_in d)
    else if bytes_eq k (codes "Nonterminal") then rule_item (rule_in d)
    else use_item (text_in d)
item_in _ = use_item []

-- where a value is the form of an item
formed : (f d : Data) (i : ItemData) → Some f ≡ Some d → item_in f ≡ i → item_in d ≡ i
formed f d i e back =
    let is : f ≡ d = cc in
    ap item_in (sym is) ∙ back

item_back : (i : ItemData) (d : Data) → item_form i ≡ Some d → item_in d ≡ i
item_back (match_item m) d e = formed _ d _ e (ap match_item (match_token_back m))
item_back (extern_item t) d e = formed _ d _ e (ap extern_item (extern_token_back t))
item_back (intern_item t) d e = absurd (cc)
item_back (rule_item r) d e = formed _ d _ e (ap rule_item (rule_back r))
item_back (use_item s) d e = formed _ d _ e refl

-- an item before others
item_and_rest : (i : ItemData) (is : List ItemData) (o : Option Data) → item_form i ≡ o → (rest : Option (List Data))
    → ((es : List Data) → rest ≡ Some es → items_in item_in (items_of es) ≡ is)
    → (ds : List Data) → option_and_then (λ d. option_map (λ es. d ∷ es) rest) o ≡ Some ds
    → items_in item_in (items_of ds) ≡ i ∷ is
item_and_rest i is None p rest back ds e = absurd (cc)
item_and_rest i is (Some d) p None back ds e = absurd (cc)
item_and_rest i is (Some d) p (Some es) back [] e = absurd (cc)
item_and_rest i is (Some d) p (Some es) back (c ∷ cs) e =
    let first : Some d ≡ Some c = cc in
    let others : Some es ≡ Some cs = cc in
    ap₂ (λ (j : ItemData) (js : List ItemData). j ∷ js) (item_back i c (p ∙ first)) (back cs others)

items_back : (is : List ItemData) (ds : List Data) → item_forms is ≡ Some ds → items_in item_in (items_of ds) ≡ is
items_back [] [] e = refl
items_back [] (d ∷ ds) e = absurd (cc)
items_back (i ∷ is) ds e = item_and_rest i is (item_form i) refl (item_forms is) (items_back is) ds e

abbrev grammar_of :
    Attributes → List ItemData → List (List ℕ) → List ParameterData → List ℕ → Span → List TypeParameter
    → List (WhereClauseData TypeData) → GrammarData
grammar_of attributes items module_attributes parameters prefix span type_parameters where_clauses =
    record {
      prefix = prefix;
      span = span;
      type_parameters = type_parameters;
      parameters = parameters;
      where_clauses = where_clauses;
      items = items;
      attributes = attributes;
      module_attributes = module_attributes;
    }

abbrev grammar_in : Data → GrammarData
grammar_in (object (member _ d0 (member _ d1 (member _ d2 (member _ d3 (member _ d4 (member _ d5 (member _ d6 (member _ d7
    no_members))))))))) =
    grammar_of (attribute_list_in d0) (list_in item_in d1) (list_in text_in d2) (list_in grammar_parameter_in d3) (text_in d4)
    (span_in d5) (list_in parameter_in d6) (list_in where_clause_in d7)
grammar_in _ = grammar_of (attribute_list_in null) [] [] [] [] (span_in null) [] []

fields_back : (g : GrammarData) (ds : List Data) → item_forms g.items ≡ Some ds → grammar_in (grammar_fields g (row ds)) ≡ g
fields_back g ds e =
    ap grammar_of (attributes_back g.attributes)
    ⊛ items_back g.items ds e
    ⊛ texts_back g.module_attributes
    ⊛ list_back parameter_form grammar_parameter_in grammar_parameter_back g.parameters
    ⊛ same g.prefix
    ⊛ same g.span
    ⊛ parameters_back g.type_parameters
    ⊛ list_back where_clause_form where_clause_in where_clause_back g.where_clauses

by_items : (g : GrammarData) (o : Option (List Data)) → item_forms g.items ≡ o → (d : Data) → grammar_form g ≡ Some d → grammar_in d ≡ g
by_items g None p d e =
    let none : grammar_form g ≡ None = rw p refl in
    absurd (cc)
by_items g (Some ds) p d e =
    let whole : grammar_form g ≡ Some (grammar_fields g (row ds)) = rw p refl in
    let is : grammar_fields g (row ds) ≡ d = cc in
    ap grammar_in (sym is) ∙ fields_back g ds p

-- a tree back from its form
pub grammar_back : (g : GrammarData) (d : Data) → grammar_form g ≡ Some d → grammar_in d ≡ g
grammar_back g d e = by_items g (item_forms g.items) refl d e
