-- A whole lowered grammar back from its form.
use Rattle.std.proofs.Common.{◌≡◌, ℕ, List, [], Bool, false, Option, bytes_eq, if◌then◌else◌, codes, refl, ap, ap₂, sym, ◌∙◌}
use Rattle.serde_json.specs.Data.{Data, null, string, array, object, no_items, item, no_members, member}
use Rattle.lalrpop_norm_theory.specs.LoweredTrees as theory
use Rattle.lalrpop_norm_tree_names.specs.declared.names.NonterminalString.{NonterminalString}
use Rattle.lalrpop_norm_tree_names.specs.declared.names.Span.{Span}
use Rattle.lalrpop_norm_tree_names.specs.declared.names.TerminalLiteral.{TerminalLiteral}
use Rattle.lalrpop_norm_tree_names.specs.declared.names.TerminalString.{TerminalString}
use Rattle.lalrpop_norm_tree_names.specs.declared.names.TypeParameter.{TypeParameter}
use Rattle.lalrpop_norm_tree.specs.declared.items.MatchEntry.{MatchEntry}
use Rattle.lalrpop_norm_tree.specs.declared.items.MatchMapping.{MatchMapping}
use Rattle.lalrpop_norm_tree.specs.Items.{InternTokenData, VisibilityData}
use Rattle.lalrpop_norm_tree.specs.Symbols.{ArgumentPattern}
use Rattle.lalrpop_norm_tree_patterns.specs.Patterns.{PatternData}
use Rattle.lalrpop_norm_tree_parts.specs.Attributes.{Attributes}
use Rattle.lalrpop_norm_tree_parts.specs.Reprs.{ReprData, LoweredClause}
use Rattle.lalrpop_norm_tree_parts.specs.declared.lowered.Algorithm.{Algorithm}
use Rattle.lalrpop_norm_tree_parts.specs.declared.lowered.LrCodeGeneration.{LrCodeGeneration}
use Rattle.lalrpop_norm_tree_parts.specs.declared.lowered.LrCodeGeneration.TheVariants.{TableDriven, RecursiveAscent, TestAll}
use Rattle.lalrpop_norm_repr.specs.declared.symbol.Symbol.{Symbol}
use Rattle.lalrpop_norm_repr.specs.declared.symbol.Symbol.TheVariants.{Nonterminal, Terminal}
use Rattle.lalrpop_norm_repr.specs.declared.action.ActionFn.{ActionFn}
use Rattle.lalrpop_norm_repr.specs.declared.action.LookaroundActionFnDefn.{LookaroundActionFnDefn}
use Rattle.lalrpop_norm_repr.specs.declared.action.LookaroundActionFnDefn.TheVariants.{Lookahead, Lookbehind}
use Rattle.lalrpop_norm_repr.specs.Actions.{ActionData, ActionKindData, ArgumentData, original, inlined, user, inline, lookaround}
use Rattle.lalrpop_norm_repr.specs.Productions.{ProductionData, EntryData}
use Rattle.lalrpop_norm_repr.specs.Tables.{TypeTable}
use Rattle.lalrpop_norm_repr.specs.Lowered.{LoweredParameter, TerminalTable, LoweredGrammar}
use Rattle.lalrpop_norm_json.specs.Json.{natural, list_form}
use Rattle.lalrpop_norm_json.specs.Forms.{nonterminal_form, terminal_form}
use Rattle.lalrpop_norm_json.specs.SymbolForms.{argument_pattern_form}
use Rattle.lalrpop_norm_lowered_json.specs.LoweredForms.{repr_form, lowered_clause_form, lowered_pattern_form}
use Rattle.lalrpop_norm_lowered_json.specs.WholeForms.{symbol_form, production_form, entry_form}
use Rattle.lalrpop_norm_lowered_json.specs.WholeForms.{lookaround_form, inlined_form, action_kind_form, action_defn_form}
use Rattle.lalrpop_norm_lowered_json.specs.WholeForms.{entry_of_match_form, intern_token_form, terminals_form, type_table_form}
use Rattle.lalrpop_norm_lowered_json.specs.WholeForms.{lowered_parameter_form, codegen_form, algorithm_form, lowered_form}
use Rattle.lalrpop_norm_lowered_json.specs.WholeForms.{origin_form, whole_form}
use Rattle.lalrpop_norm_json.proofs.ListBack.{◌⊛◌, same, list_in, list_back, maybe_in, maybe_back}
use Rattle.lalrpop_norm_json.proofs.NameBack.{number_in, span_in, nonterminal_in, nonterminal_back, literal_in, literal_back}
use Rattle.lalrpop_norm_json.proofs.NameBack.{terminal_in, terminal_back, attribute_list_in, attributes_back}
use Rattle.lalrpop_norm_json.proofs.NameBack.{visibility_in, visibility_back, mapping_in, mapping_back}
use Rattle.lalrpop_norm_json.proofs.NameBack.{argument_pattern_in, argument_pattern_back}
use Rattle.lalrpop_norm_json.proofs.NameBack.{text_in, texts_back, truth_in, parameter_in, parameters_back}
use Rattle.lalrpop_norm_json.proofs.PatternBack.{pattern_in}
use Rattle.lalrpop_norm_lowered_json.proofs.Back.{repr_in, repr_back}
use Rattle.lalrpop_norm_lowered_json.proofs.RowsBack.{rows_in, rows_back}
use Rattle.lalrpop_norm_lowered_json.proofs.PatternBack.{pattern_back}
use Rattle.lalrpop_norm_lowered_json.proofs.ClauseBack.{reprs_back, maybe_repr_back}
use Rattle.lalrpop_norm_lowered_json.proofs.ClauseBack.{lowered_clause_in, lowered_clause_back}

-- ---- productions

abbrev symbol_in : Data → Symbol
symbol_in (object (member k d no_members)) =
    if bytes_eq k (codes "Nonterminal") then Nonterminal (nonterminal_in d) else Terminal (terminal_in d)
symbol_in _ = Nonterminal (record { 0 = [] })

symbol_back : (s : Symbol) → symbol_in (symbol_form s) ≡ s
symbol_back (Nonterminal n) = refl
symbol_back (Terminal t) = ap Terminal (terminal_back t)

symbols_back : (ss : List Symbol) → list_in symbol_in (list_form symbol_form ss) ≡ ss
symbols_back = list_back symbol_form symbol_in symbol_back

abbrev action_in : Data → ActionFn
action_in d = record { 0 = number_in d }

abbrev production_of : ActionFn → NonterminalString → Span → List Symbol → ProductionData
production_of a n s ss = record { nonterminal = n; symbols = ss; action = a; span = s }

abbrev production_in : Data → ProductionData
production_in (object (member j a (member k n (member l s (member m ss no_members))))) =
    production_of (action_in a) (nonterminal_in n) (span_in s) (list_in symbol_in ss)
production_in _ = production_of (record { 0 = 0 }) (record { 0 = [] }) (record { 0 = 0; 1 = 0 }) []

production_back : (p : ProductionData) → production_in (production_form p) ≡ p
production_back p = ap (production_of p.action p.nonterminal p.span) (symbols_back p.symbols)

abbrev entry_of : Attributes → List ProductionData → Span → VisibilityData → EntryData
entry_of xs ps s v = record { visibility = v; span = s; attributes = xs; productions = ps }

abbrev entry_in : Data → EntryData
entry_in (object (member j xs (member k ps (member l s (member m v no_members))))) =
    entry_of (attribute_list_in xs) (list_in production_in ps) (span_in s) (visibility_in v)
entry_in _ = entry_of (attribute_list_in null) [] (record { 0 = 0; 1 = 0 }) (visibility_in null)

entry_back : (e : EntryData) → entry_in (entry_form e) ≡ e
entry_back e =
    ap entry_of (attributes_back e.attributes) ⊛ list_back production_form production_in production_back e.productions
    ⊛ same e.span ⊛ visibility_back e.visibility

-- ---- actions

abbrev lookaround_in : Data → LookaroundActionFnDefn
lookaround_in d = if bytes_eq (text_in d) (codes "Lookahead") then Lookahead else Lookbehind

lookaround_back : (k : LookaroundActionFnDefn) → lookaround_in (lookaround_form k) ≡ k
lookaround_back Lookahead = refl
lookaround_back Lookbehind = refl

abbrev call_in : Data → ArgumentData
call_in (array (item a (item ss no_items))) = inlined (action_in a) (list_in symbol_in ss)
call_in _ = inlined (record { 0 = 0 }) []

abbrev inlined_in : Data → ArgumentData
inlined_in (object (member k d no_members)) = if bytes_eq k (codes "Original") then original (symbol_in d) else call_in d
inlined_in _ = inlined (record { 0 = 0 }) []

inlined_back : (a : ArgumentData) → inlined_in (inlined_form a) ≡ a
inlined_back (original s) = ap original (symbol_back s)
inlined_back (inlined a ss) = ap (inlined a) (symbols_back ss)

abbrev user_in : Data → ActionKindData
user_in (object (member k ps (member l ts (member m code no_members)))) =
    user (list_in argument_pattern_in ps) (list_in repr_in ts) (text_in code)
user_in _ = user [] [] []

abbrev inline_in : Data → ActionKindData
inline_in (object (member k a (member l ss no_members))) = inline (action_in a) (list_in inlined_in ss)
inline_in _ = inline (record { 0 = 0 }) []

abbrev action_kind_in : Data → ActionKindData
action_kind_in (object (member k d no_members)) =
    if bytes_eq k (codes "User") then user_in d
    else if bytes_eq k (codes "Inline") then inline_in d
    else lookaround (lookaround_in d)
action_kind_in _ = user [] [] []

action_kind_back : (k : ActionKindData) → action_kind_in (action_kind_form k) ≡ k
action_kind_back (user ps ts code) =
    ap₂ (λ (qs : List ArgumentPattern) (us : List ReprData). user qs us code)
    (list_back argument_pattern_form argument_pattern_in argument_pattern_back ps) (reprs_back ts)
action_kind_back (inline a ss) = ap (inline a) (list_back inlined_form inlined_in inlined_back ss)
action_kind_back (lookaround k) = ap lookaround (lookaround_back k)

abbrev action_of : Bool → ActionKindData → ReprData → ActionData
action_of f k t = record { fallible = f; ret_type = t; kind = k }

abbrev action_defn_in : Data → ActionData
action_defn_in (object (member k f (member l d (member m t no_members)))) =
    action_of (truth_in f) (action_kind_in d) (repr_in t)
action_defn_in _ = action_of false (user [] [] []) (repr_in null)

action_defn_back : (d : ActionData) → action_defn_in (action_defn_form d) ≡ d
action_defn_back d = ap₂ (action_of d.fallible) (action_kind_back d.kind) (repr_back d.ret_type)

-- ---- the tokenizer

abbrev match_of : TerminalLiteral → ℕ → MatchMapping → MatchEntry
match_of l n m = record { precedence = n; match_literal = l; user_name = m }

abbrev entry_of_match_in : Data → MatchEntry
entry_of_match_in (object (member j l (member k n (member o m no_members)))) =
    match_of (literal_in l) (number_in n) (mapping_in m)
entry_of_match_in _ = match_of (literal_in null) 0 (mapping_in null)

entry_of_match_back : (e : MatchEntry) → entry_of_match_in (entry_of_match_form e) ≡ e
entry_of_match_back e =
    ap₂ (λ (l : TerminalLiteral) (m : MatchMapping). match_of l e.precedence m) (literal_back e.match_literal)
    (mapping_back e.user_name)

abbrev dfa_in : Data → List ℕ
dfa_in (object (member k d no_members)) = list_in number_in d
dfa_in _ = []

abbrev token_of : List ℕ → List MatchEntry → InternTokenData
token_of code es = record { match_entries = es; code = code }

abbrev intern_token_in : Data → InternTokenData
intern_token_in (object (member k d (member l es no_members))) = token_of (dfa_in d) (list_in entry_of_match_in es)
intern_token_in _ = token_of [] []

intern_token_back : (t : InternTokenData) → intern_token_in (intern_token_form t) ≡ t
intern_token_back t =
    ap₂ token_of (list_back natural number_in (λ n. refl) t.code)
    (list_back entry_of_match_form entry_of_match_in entry_of_match_back t.match_entries)

-- ---- tables, parameters

abbrev terminal_table_of : List TerminalString → List (TerminalString × ℕ) → TerminalTable
terminal_table_of ts bits = record { all = ts; bits = bits }

abbrev terminals_in : Data → TerminalTable
terminals_in (object (member k ts (member l bits no_members))) =
    terminal_table_of (list_in terminal_in ts) (rows_in terminal_in number_in bits)
terminals_in _ = terminal_table_of [] []

terminals_back : (s : TerminalTable) → terminals_in (terminals_form s) ≡ s
terminals_back s =
    ap₂ terminal_table_of (list_back terminal_form terminal_in terminal_back s.all)
    (rows_back terminal_form natural terminal_in number_in terminal_back (λ n. refl) s.bits)

abbrev table_of :
    ReprData → Option ReprData → List (NonterminalString × ReprData) → ReprData → Option ReprData → ReprData
    → List (TerminalString × ReprData) → TypeTable
table_of r e ns p l t ts = record {
  token = t;
  location = l;
  error = e;
  terminals = ts;
  nonterminals = ns;
  parse_error = p;
  recovery = r;
}

abbrev types_in : Data → TypeTable
types_in (object (member a r (member b e (member c ns (member d p (member f l (member g t (member h ts no_members)))))))) =
    table_of (repr_in r) (maybe_in repr_in e) (rows_in nonterminal_in repr_in ns) (repr_in p) (maybe_in repr_in l) (repr_in t)
    (rows_in terminal_in repr_in ts)
types_in _ =
    let t = repr_in null in
    table_of t (maybe_in repr_in null) [] t (maybe_in repr_in null) t []

types_back : (t : TypeTable) → types_in (type_table_form t) ≡ t
types_back t =
    ap table_of (repr_back t.recovery) ⊛ maybe_repr_back t.error
    ⊛ rows_back nonterminal_form repr_form nonterminal_in repr_in nonterminal_back repr_back t.nonterminals
    ⊛ repr_back t.parse_error ⊛ maybe_repr_back t.location ⊛ repr_back t.token
    ⊛ rows_back terminal_form repr_form terminal_in repr_in terminal_back repr_back t.terminals

abbrev lowered_parameter_in : Data → LoweredParameter
lowered_parameter_in (object (member k n (member l t no_members))) = record { name = text_in n; ty = repr_in t }
lowered_parameter_in _ = record { name = []; ty = repr_in null }

lowered_parameter_back : (p : LoweredParameter) → lowered_parameter_in (lowered_parameter_form p) ≡ p
lowered_parameter_back p = ap (λ (t : ReprData). let q : LoweredParameter = record { name = p.name; ty = t } in q) (repr_back p.ty)

abbrev codegen_in : Data → LrCodeGeneration
codegen_in d =
    if bytes_eq (text_in d) (codes "TableDriven") then TableDriven
    else if bytes_eq (text_in d) (codes "RecursiveAscent") then RecursiveAscent
    else TestAll

codegen_back : (g : LrCodeGeneration) → codegen_in (codegen_form g) ≡ g
codegen_back TableDriven = refl
codegen_back RecursiveAscent = refl
codegen_back TestAll = refl

abbrev algorithm_in : Data → Algorithm
algorithm_in (object (member k g (member l b no_members))) = record { lalr = truth_in b; codegen = codegen_in g }
algorithm_in _ = record { lalr = false; codegen = TestAll }

algorithm_back : (a : Algorithm) → algorithm_in (algorithm_form a) ≡ a
algorithm_back a = ap (λ (g : LrCodeGeneration). let b : Algorithm = record { lalr = a.lalr; codegen = g } in b) (codegen_back a.codegen)

-- ---- the whole

abbrev grammar_of :
    List ActionData → Algorithm → List (TerminalString × PatternData ReprData) → Option InternTokenData → List (List ℕ)
    → List (NonterminalString × EntryData) → List LoweredParameter → List ℕ → List (NonterminalString × NonterminalString)
    → TerminalTable → List TypeParameter → TypeTable → List (List ℕ) → Bool → List LoweredClause → LoweredGrammar
grammar_of actions algorithm conversions token attributes nonterminals parameters prefix starts terminals variables types uses recovery clauses =
    record {
      prefix = prefix;
      algorithm = algorithm;
      uses_error_recovery = recovery;
      start_nonterminals = starts;
      uses = uses;
      type_parameters = variables;
      parameters = parameters;
      where_clauses = clauses;
      intern_token = token;
      actions = actions;
      terminals = terminals;
      nonterminals = nonterminals;
      conversions = conversions;
      types = types;
      module_attributes = attributes;
    }

abbrev grammar_in : Data → LoweredGrammar
grammar_in (object (member _ d0 (member _ d1 (member _ d2 (member _ d3 (member _ d4 (member _ d5 (member _ d6 (member _ d7
    (member _ d8 (member _ d9 (member _ d10 (member _ d11 (member _ d12 (member _ d13 (member _ d14 no_members)))))))))))))))) =
    grammar_of (list_in action_defn_in d0) (algorithm_in d1) (rows_in terminal_in (pattern_in repr_in) d2) (maybe_in intern_token_in d3)
    (list_in text_in d4) (rows_in nonterminal_in entry_in d5) (list_in lowered_parameter_in d6) (text_in d7)
    (rows_in nonterminal_in nonterminal_in d8) (terminals_in d9) (list_in parameter_in d10) (types_in d11) (list_in text_in d12)
    (truth_in d13) (list_in lowered_clause_in d14)
grammar_in _ =
    grammar_of [] (algorithm_in null) [] (maybe_in intern_token_in null) [] [] [] [] [] (terminals_in null) [] (types_in null) []
    false []

lowered_back : (g : LoweredGrammar) → grammar_in (lowered_form g) ≡ g
lowered_back g =
    ap grammar_of (list_back action_defn_form action_defn_in action_defn_back g.actions)
    ⊛ algorithm_back g.algorithm
    ⊛ rows_back terminal_form lowered_pattern_form terminal_in (pattern_in repr_in) terminal_back pattern_back g.conversions
    ⊛ maybe_back intern_token_form intern_token_in intern_token_back (λ t. refl) g.intern_token
    ⊛ texts_back g.module_attributes
    ⊛ rows_back nonterminal_form entry_form nonterminal_in entry_in nonterminal_back entry_back g.nonterminals
    ⊛ list_back lowered_parameter_form lowered_parameter_in lowered_parameter_back g.parameters
    ⊛ same g.prefix
    ⊛ rows_back nonterminal_form nonterminal_form nonterminal_in nonterminal_in nonterminal_back nonterminal_back g.start_nonterminals
    ⊛ terminals_back g.terminals
    ⊛ parameters_back g.type_parameters
    ⊛ types_back g.types
    ⊛ texts_back g.uses
    ⊛ same g.uses_error_recovery
    ⊛ list_back lowered_clause_form lowered_clause_in lowered_clause_back g.where_clauses

-- ---- origins

abbrev written_in : Data → theory.Origin
written_in (object (member k i (member l n no_members))) = theory.written (text_in n) (number_in i)
written_in _ = theory.from_start

abbrev origin_in : Data → theory.Origin
origin_in (object (member k d no_members)) = written_in d
origin_in (string s) =
    if bytes_eq s (codes "Start") then theory.from_start
    else if bytes_eq s (codes "LevelStep") then theory.level_step
    else if bytes_eq s (codes "Group") then theory.from_group
    else if bytes_eq s (codes "StarEmpty") then theory.star_empty
    else if bytes_eq s (codes "StarSome") then theory.star_some
    else if bytes_eq s (codes "PlusOne") then theory.plus_one
    else if bytes_eq s (codes "PlusMore") then theory.plus_more
    else if bytes_eq s (codes "QuestionSome") then theory.question_some
    else if bytes_eq s (codes "QuestionEmpty") then theory.question_empty
    else if bytes_eq s (codes "Times") then theory.from_times
    else if bytes_eq s (codes "Lookahead") then theory.from_lookahead
    else theory.from_lookbehind
origin_in _ = theory.from_start

origin_back : (o : theory.Origin) → origin_in (origin_form o) ≡ o
origin_back theory.from_start = refl
origin_back (theory.written n k) = refl
origin_back theory.level_step = refl
origin_back theory.from_group = refl
origin_back theory.star_empty = refl
origin_back theory.star_some = refl
origin_back theory.plus_one = refl
origin_back theory.plus_more = refl
origin_back theory.question_some = refl
origin_back theory.question_empty = refl
origin_back theory.from_times = refl
origin_back theory.from_lookahead = refl
origin_back theory.from_lookbehind = refl

abbrev whole_in : Data → Option (List theory.Origin) × LoweredGrammar
whole_in (object (member k g (member l os no_members))) = (maybe_in (list_in origin_in) os, grammar_in g)
whole_in _ = (maybe_in (list_in origin_in) null, grammar_in null)

abbrev pair : Option (List theory.Origin) → LoweredGrammar → Option (List theory.Origin) × LoweredGrammar
pair os g = (os, g)

whole_back : (os : Option (List theory.Origin)) (g : LoweredGrammar) → whole_in (whole_form os g) ≡ (os, g)
whole_back os g =
    ap₂ pair (maybe_back (list_form origin_form) (list_in origin_in) (list_back origin_form origin_in origin_back) (λ ps. refl) os)
    (lowered_back g)

pub same_whole : (os ps : Option (List theory.Origin)) (l m : LoweredGrammar)
    → whole_form os l ≡ whole_form ps m → (os ≡ ps) × (l ≡ m)
same_whole os ps l m e =
    let same_pair = sym (whole_back os l) ∙ ap whole_in e ∙ whole_back ps m in
    (ap (λ p. p.0) same_pair, ap (λ p. p.1) same_pair)
