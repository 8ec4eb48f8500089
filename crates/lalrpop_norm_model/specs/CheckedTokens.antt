-- What the pass on tokens makes of an expanded grammar.
use Rattle.std.specs.Prelude.{◌≡◌, ℕ, false, List, [], ◌∷◌, ◌++◌, map, Option, Some, None, codes}
use Rattle.std.specs.List.{AllZip}
use Rattle.lalrpop_norm_tree_names.specs.declared.names.TypeParameter.TheVariants as parameter
use Rattle.lalrpop_norm_tree.specs.declared.items.MatchEntry.{MatchEntry}
use Rattle.lalrpop_norm_tree.specs.Items.{EnumTokenData, InternTokenData, GrammarData, intern_item}
use Rattle.lalrpop_norm_tree.specs.Types.{ParameterData, reference, id}
use Rattle.lalrpop_norm_model.specs.Entries.{AreEntries}
use Rattle.lalrpop_norm_model.specs.Lexers.{Lexer}
use Rattle.lalrpop_norm_model.specs.TerminalTypes.{extern_enum, input_lifetime}

-- `input: &'input str`
abbrev pub input_parameter : ParameterData
input_parameter = record { name = codes "input"; type = reference (Some input_lifetime) false (id (codes "str")) }

-- the grammar with internal tokens: they are last, `'input` is the first type parameter and `input` the last parameter
abbrev pub with_tokens : InternTokenData → GrammarData → GrammarData
with_tokens t g = record g {
  type_parameters = parameter.Lifetime input_lifetime ∷ g.type_parameters;
  parameters = g.parameters ++ input_parameter ∷ [];
  items = g.items ++ intern_item t ∷ [];
}

-- ---- the entries

-- the grammar with internal tokens that hold its entries, whatever their automaton is
pub record HasEntries (g : GrammarData) (t : InternTokenData) (h : GrammarData) : Type 0 where
  pub entries : AreEntries g t.match_entries
  pub grammar : h ≡ with_tokens t g

abbrev pub IsEnteredWith : Option EnumTokenData → GrammarData → GrammarData → Type 0
IsEnteredWith (Some e) g h = h ≡ g
IsEnteredWith None g h = (t : InternTokenData) × HasEntries g t h

-- What types and lowering see of the tokens of a grammar: with an extern enum it stays as it is, else it has its entries. That
-- a lexer makes an automaton for them is not asked.
abbrev pub IsEntered : GrammarData → GrammarData → Type 0
IsEntered g h = IsEnteredWith (extern_enum g) g h

-- ---- the automaton

-- a regex of each entry's literal, in the order of the entries
abbrev pub AreRegexes : {R : Type 0} → Lexer R → List MatchEntry → List R → Type 0
AreRegexes l entries regexes = AllZip (λ (e : MatchEntry) r. l.IsRegexOf e.match_literal r) entries regexes

abbrev pub precedences : List MatchEntry → List ℕ
precedences entries = map (λ (e : MatchEntry). e.precedence) entries

-- the automaton of internal tokens is built from a regex of each entry's literal and from the precedences
pub record HasAutomaton {R : Type 0} (l : Lexer R) (t : InternTokenData) : Type 0 where
  pub regexes : List R
  pub of_entries : AreRegexes l t.match_entries regexes
  pub built : l.IsBuilt regexes (precedences t.match_entries) t.code

-- ---- both

abbrev pub IsCheckedWith : {R : Type 0} → Option EnumTokenData → Lexer R → GrammarData → GrammarData → Type 0
IsCheckedWith (Some e) l g h = h ≡ g
IsCheckedWith None l g h = (t : InternTokenData) × HasEntries g t h × HasAutomaton l t

-- what a grammar becomes: with an extern enum it stays as it is, else it has its entries, and an automaton is built for them
abbrev pub IsChecked : {R : Type 0} → Lexer R → GrammarData → GrammarData → Type 0
IsChecked l g h = IsCheckedWith (extern_enum g) l g h
