-- What the parts of a grammar are asked for.
use Rattle.std.specs.Prelude.{ℕ, Bool, true, false, nat_lt, List, [], ◌∷◌, length, Option, Some, None}
use Rattle.std.specs.Prelude.{if◌then◌else◌, bytes_eq}
use Rattle.lalrpop_norm_tree.specs.declared.items.MatchItem.{MatchItem}
use Rattle.lalrpop_norm_tree.specs.declared.items.MatchItem.TheVariants.{CatchAll, Unmapped, Mapped}
use Rattle.lalrpop_norm_tree_names.specs.declared.names.Span.{Span}
use Rattle.lalrpop_norm_tree.specs.Items.{ItemData, match_item, extern_item, intern_item, rule_item, RuleData, MatchTokenData}
use Rattle.lalrpop_norm_tree.specs.Items.{ExternTokenData, InternTokenData, EnumTokenData, AssociatedTypeData, VisibilityData}
use Rattle.lalrpop_norm_tree.specs.Items.{everywhere, within, private}
use Rattle.lalrpop_norm_tree.specs.Symbols.{Kind, Part, terminal, nonterminal, chosen, named, tupled, error_terminal, at}
use Rattle.lalrpop_norm_tree.specs.Symbols.{ArgumentPattern, one_name, several, ArgumentPatterns, tuple_view}
use Rattle.lalrpop_norm_tree.specs.declared.symbol.accessors.Binding.{Binding}
use Rattle.lalrpop_norm_tree.specs.declared.symbol.accessors.Binding.TheVariants as binding
use Rattle.lalrpop_norm_tree.specs.declared.symbol.accessors.GrammarSymbol.{GrammarSymbol}
use Rattle.lalrpop_norm_tree.specs.declared.symbol.accessors.GrammarSymbol.TheVariants as grammar_symbol
use Rattle.lalrpop_norm_tree.specs.SymbolTexts.{tuple_text}

-- ---- lists

abbrev pub or_else : {A : Type 0} → Option A → Option A → Option A
or_else (Some a) o = Some a
or_else None o = o

-- the first answer of f along the list
abbrev pub first_of : {A B : Type 0} → (A → Option B) → List A → Option B
first_of f [] = None
first_of f (x ∷ xs) = or_else (f x) (first_of f xs)

-- ---- symbols

-- the names and the symbol of a tuple symbol
abbrev pub tuple_of : Part → Option (ArgumentPatterns × Part)
tuple_of (at s (tupled ps p)) = Some (ps, p)
tuple_of _ = None

-- what a terminal, a nonterminal and `!` are as symbols
abbrev pub symbol_kind : GrammarSymbol → Kind
symbol_kind (grammar_symbol.Terminal t) = terminal t.now
symbol_kind (grammar_symbol.Nonterminal n) = nonterminal n.now.0
symbol_kind grammar_symbol.Error = error_terminal

-- whether a symbol is a terminal, a nonterminal or `!`
abbrev pub is_grammar_symbol : Kind → Bool
is_grammar_symbol (terminal t) = true
is_grammar_symbol (nonterminal n) = true
is_grammar_symbol error_terminal = true
is_grammar_symbol _ = false

-- the pattern that binds the value of a named or a tuple symbol
abbrev pub binding_view : Binding → ArgumentPattern
binding_view (binding.Name n) = one_name n.now
binding_view (binding.Tuple t) = several (tuple_view t.now)

-- the pattern and the symbol of a named or a tuple symbol
abbrev pub binding_of : Kind → Option (ArgumentPattern × Part)
binding_of (named n p) = Some (one_name n, p)
binding_of (tupled ns p) = Some (several ns, p)
binding_of _ = None

-- the symbol of a selected symbol
abbrev pub selected_of : Kind → Option Part
selected_of (chosen p) = Some p
selected_of _ = None

-- a name without `mut`, and the text of a tuple
abbrev pub pattern_name : ArgumentPattern → List ℕ
pattern_name (one_name n) = n.name
pattern_name (several ps) = tuple_text ps

-- ---- items

abbrev pub match_item_span : MatchItem → Span
match_item_span (CatchAll s) = s
match_item_span (Unmapped l s) = s
match_item_span (Mapped l m s) = s

abbrev pub is_public : VisibilityData → Bool
is_public (everywhere p) = true
is_public (within p) = true
is_public private = false

abbrev pub is_macro : RuleData → Bool
is_macro r = nat_lt 0 (length r.args)

abbrev pub rule_of : ItemData → Option RuleData
rule_of (rule_item r) = Some r
rule_of _ = None

abbrev pub match_token_of : ItemData → Option MatchTokenData
match_token_of (match_item m) = Some m
match_token_of _ = None

abbrev pub extern_token_of : ItemData → Option ExternTokenData
extern_token_of (extern_item t) = Some t
extern_token_of _ = None

abbrev pub intern_token_of : ItemData → Option InternTokenData
intern_token_of (intern_item t) = Some t
intern_token_of _ = None

abbrev pub enum_token_of : ItemData → Option EnumTokenData
enum_token_of (extern_item t) = t.enum_token
enum_token_of _ = None

abbrev pub is_macro_item : ItemData → Bool
is_macro_item (rule_item r) = is_macro r
is_macro_item _ = false

-- the type, if it has that name
abbrev pub type_named : List ℕ → AssociatedTypeData → Option AssociatedTypeData
type_named name t = if bytes_eq t.type_name name then Some t else None
