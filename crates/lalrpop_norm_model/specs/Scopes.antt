-- What a name means: the macro's argument of that name, else the one global definition of that name.
use Rattle.std.specs.Prelude.{ℕ, zero, suc, Bool, false, ◌++◌, ◌||◌, List, [], ◌∷◌, length, map, flat_map, Option}
use Rattle.std.specs.Prelude.{Some, None, bytes_eq, if◌then◌else◌}
use Rattle.lalrpop_norm_tree_names.specs.declared.names.Span.{Span}
use Rattle.lalrpop_norm_tree_names.specs.declared.names.NonterminalString.{NonterminalString}
use Rattle.lalrpop_norm_tree_names.specs.declared.names.TerminalString.{TerminalString}
use Rattle.lalrpop_norm_tree_names.specs.declared.names.TerminalString.TheVariants.{Literal, Bare, Error}
use Rattle.lalrpop_norm_tree.specs.declared.items.MatchItem.{MatchItem}
use Rattle.lalrpop_norm_tree.specs.declared.items.MatchItem.TheVariants.{CatchAll, Unmapped, Mapped}
use Rattle.lalrpop_norm_tree.specs.declared.items.MatchMapping.TheVariants as mapping
use Rattle.lalrpop_norm_tree.specs.Symbols.{Kind, Part, Parts, ambiguous_id, terminal, nonterminal}
use Rattle.lalrpop_norm_tree.specs.Traversal.{map_kind, map_part, map_parts}
use Rattle.lalrpop_norm_tree.specs.Items.{AlternativeData, RuleData, ConversionData, EnumTokenData, ItemData, GrammarData}
use Rattle.lalrpop_norm_tree.specs.Items.{match_item, extern_item, intern_item, rule_item, use_item}

-- what a global name is: a rule without arguments, a macro with that many, or a terminal
pub data Definition : Type 0 where
  a_rule : Definition
  a_macro : ℕ → Definition
  a_terminal : Definition

-- a definition of a name, with its span
pub record Global : Type 0 where
  pub name : List ℕ
  pub span : Span
  pub definition : Definition

abbrev pub rule_definition : ℕ → Definition
rule_definition zero = a_rule
rule_definition (suc n) = a_macro (suc n)

-- a bare terminal is a name
abbrev pub bare_global : TerminalString → Span → List Global
bare_global (Bare a) s = record { name = a; span = s; definition = a_terminal } ∷ []
bare_global (Literal l) s = []
bare_global Error s = []

abbrev pub match_global : MatchItem → List Global
match_global (Mapped l (mapping.Terminal t) s) = bare_global t s
match_global (Mapped l mapping.Skip s) = []
match_global (Unmapped l s) = []
match_global (CatchAll s) = []

abbrev pub conversions_in : Option EnumTokenData → List ConversionData
conversions_in None = []
conversions_in (Some e) = e.conversions

abbrev pub rule_globals : ItemData → List Global
rule_globals (rule_item r) = record { name = r.name.0; span = r.span; definition = rule_definition (length r.args) } ∷ []
rule_globals _ = []

abbrev pub conversion_globals : ItemData → List Global
conversion_globals (extern_item t) = flat_map (λ (c : ConversionData). bare_global c.from c.span) (conversions_in t.enum_token)
conversion_globals _ = []

abbrev pub match_globals : ItemData → List Global
match_globals (match_item m) = flat_map (flat_map match_global) m.contents
match_globals _ = []

-- the global definitions: of rules, then of the bare names that conversions give, then of those that match blocks give
abbrev pub globals : GrammarData → List Global
globals g = flat_map rule_globals g.items ++ (flat_map conversion_globals g.items ++ flat_map match_globals g.items)

-- the definition of a name; of several the first
abbrev pub definition_of : List Global → List ℕ → Option Definition
definition_of [] name = None
definition_of (d ∷ ds) name = if bytes_eq d.name name then Some d.definition else definition_of ds name

-- what a name means inside a rule
pub data Sense : Type 0 where
  an_argument : Sense
  a_global : Definition → Sense

abbrev pub is_argument : List NonterminalString → List ℕ → Bool
is_argument [] name = false
is_argument (a ∷ rest) name = bytes_eq a.0 name || is_argument rest name

abbrev pub global_sense : Option Definition → Option Sense
global_sense None = None
global_sense (Some d) = Some (a_global d)

-- an argument shadows a global definition
abbrev pub sense_of : List Global → List NonterminalString → List ℕ → Option Sense
sense_of ds args name = if is_argument args name then Some an_argument else global_sense (definition_of ds name)

-- ---- symbols with their names resolved

-- an identifier by its meaning: a nonterminal or a bare terminal; one that means neither stays
abbrev pub by_sense : Option Sense → List ℕ → Kind
by_sense (Some an_argument) name = nonterminal name
by_sense (Some (a_global a_rule)) name = nonterminal name
by_sense (Some (a_global a_terminal)) name = terminal (Bare name)
by_sense (Some (a_global (a_macro n))) name = ambiguous_id name
by_sense None name = ambiguous_id name

abbrev pub resolved_leaf : (List ℕ → Option Sense) → Kind → Kind
resolved_leaf sense (ambiguous_id a) = by_sense (sense a) a
resolved_leaf sense k = k

abbrev pub resolved_kind : (List ℕ → Option Sense) → Kind → Kind
resolved_kind sense = map_kind (resolved_leaf sense)

abbrev pub resolved_part : (List ℕ → Option Sense) → Part → Part
resolved_part sense = map_part (resolved_leaf sense)

abbrev pub resolved_parts : (List ℕ → Option Sense) → Parts → Parts
resolved_parts sense = map_parts (resolved_leaf sense)

abbrev pub resolved_alternative : (List ℕ → Option Sense) → AlternativeData → AlternativeData
resolved_alternative sense a = record a { parts = resolved_parts sense a.parts }

abbrev pub resolved_rule : List Global → RuleData → RuleData
resolved_rule ds r = record r { alternatives = map (resolved_alternative (sense_of ds r.args)) r.alternatives }

abbrev pub resolved_item : List Global → ItemData → ItemData
resolved_item ds (rule_item r) = rule_item (resolved_rule ds r)
resolved_item ds (match_item m) = match_item m
resolved_item ds (extern_item t) = extern_item t
resolved_item ds (intern_item t) = intern_item t
resolved_item ds (use_item u) = use_item u

-- the grammar with each name in its alternatives as what it means, all else unchanged
abbrev pub resolved_grammar : GrammarData → GrammarData
resolved_grammar g = record g { items = map (resolved_item (globals g)) g.items }
