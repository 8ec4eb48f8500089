-- What each macro call, group, repeat and location symbol is desugared to: a rule, as a function of the symbol where it was first
-- reached. The symbols of its alternatives are written ones, with the arguments substituted; nothing in them is a name yet of
-- what it is desugared to. A symbol whose type is substituted into a declared type is rewritten there.
use Rattle.std.specs.Prelude.{ℕ, replicate, Bool, true, false, ◌||◌, List, [], ◌∷◌, map, Option, Some, None, option_map, codes}
use Rattle.std.specs.Prelude.{bytes_eq, if◌then◌else◌}
use Rattle.lalrpop_norm_tree_names.specs.declared.names.Span.{Span}
use Rattle.lalrpop_norm_tree_names.specs.declared.names.NonterminalString.{NonterminalString}
use Rattle.lalrpop_norm_tree.specs.declared.symbol.RepeatOp.{RepeatOp}
use Rattle.lalrpop_norm_tree.specs.declared.symbol.RepeatOp.TheVariants.{Star, Plus, Question, Times}
use Rattle.lalrpop_norm_tree_parts.specs.Attributes.{Attributes, attribute, empty, no_attributes, attribute_and}
use Rattle.lalrpop_norm_tree_parts.specs.Paths.{PathData}
use Rattle.lalrpop_norm_tree_parts.specs.Accessors.{path_of}
use Rattle.lalrpop_norm_tree.specs.Symbols.{Kind, Part, Parts, group, ambiguous_id, nonterminal, call, repeated, chosen}
use Rattle.lalrpop_norm_tree.specs.Symbols.{named, tupled, lookahead, lookbehind, at, no_parts, part_and, parts_of}
use Rattle.lalrpop_norm_tree.specs.Traversal.{map_kind, map_part, map_parts}
use Rattle.lalrpop_norm_tree.specs.Types.{TypeData, TypesData, MaybeType, tuple, slice, nominal, reference, trait_object}
use Rattle.lalrpop_norm_tree.specs.Types.{of_lifetime, id, of_symbol, function, no_types, type_and, no_type, returns, types_of}
use Rattle.lalrpop_norm_tree.specs.Items.{Action, user_code, lookahead_code, lookbehind_code, AlternativeData, RuleData, private}
use Rattle.lalrpop_norm_tree.specs.SymbolTexts.{kind_text}
use Rattle.lalrpop_norm_model.specs.Reading.{Reader, read_all}
use Rattle.lalrpop_norm_model.specs.Grammars.{ConditionValue, is_true}
use Rattle.lalrpop_norm_model.specs.Replaced.{replaced_kind}

-- ---- symbols

abbrev pub kind_of : Part → Kind
kind_of (at s k) = k

abbrev pub span_of : Part → Span
span_of (at s k) = s

-- a name, or a tuple of names, is before the symbol
abbrev pub is_naming : Kind → Bool
is_naming (named n p) = true
is_naming (tupled ns p) = true
is_naming _ = false

-- a symbol with a name or a tuple of names for its value before it
abbrev pub names_value : Part → Bool
names_value (at s k) = is_naming k

abbrev pub some_name_value : Parts → Bool
some_name_value no_parts = false
some_name_value (part_and p ps) = names_value p || some_name_value ps

-- what is in the selected symbols
abbrev pub chosen_kinds : Parts → List Kind
chosen_kinds no_parts = []
chosen_kinds (part_and (at s (chosen p)) ps) = kind_of p ∷ chosen_kinds ps
chosen_kinds (part_and (at s k) ps) = chosen_kinds ps

abbrev pub all_kinds : Parts → List Kind
all_kinds no_parts = []
all_kinds (part_and p ps) = kind_of p ∷ all_kinds ps

abbrev pub if_any : {A : Type 0} → List A → List A → List A
if_any [] otherwise = otherwise
if_any (x ∷ xs) otherwise = x ∷ xs

-- the symbols whose values a group gives: the selected ones, if there are any, else all
abbrev pub group_sources : Parts → List Kind
group_sources ps = if_any (chosen_kinds ps) (all_kinds ps)

-- ---- rules in general

abbrev pub inline_at : Span → Attributes
inline_at s = attribute_and (attribute s (codes "inline") empty) no_attributes

-- an alternative at s with that action code
abbrev pub coded : Span → Parts → List ℕ → AlternativeData
coded s ps code = record { span = s; parts = ps; condition = None; action = Some (user_code code); attributes = no_attributes }

-- a private rule at s
abbrev pub private_rule : Span → Kind → Attributes → Option TypeData → List AlternativeData → RuleData
private_rule s k attributes type alternatives =
    record {
      visibility = private;
      name = record { 0 = kind_text k };
      attributes = attributes;
      span = s;
      args = [];
      type_decl = type;
      alternatives = alternatives;
    }

-- ---- groups

-- the type of a symbol
abbrev pub type_of_kind : Kind → TypeData
type_of_kind k = of_symbol (replaced_kind k)

-- one type bare, any other number of them as a tuple
abbrev pub bare_or_tuple : List TypeData → TypeData
bare_or_tuple (t ∷ []) = t
bare_or_tuple ts = tuple (types_of ts)

abbrev pub bare_or_tuple_code : List Kind → List ℕ
bare_or_tuple_code (k ∷ []) = codes "<>"
bare_or_tuple_code ks = codes "(<>)"

-- `(a b)`: one alternative, the type and the action code of its sources
abbrev pub group_rule : Span → Parts → RuleData
group_rule s ps =
    private_rule s (group ps) (inline_at s) (Some (bare_or_tuple (map type_of_kind (group_sources ps))))
    (coded s ps (bare_or_tuple_code (group_sources ps)) ∷ [])

-- ---- repeats

abbrev pub only_part : Part → Parts
only_part p = part_and p no_parts

-- one symbol, repeated a number of times
abbrev pub so_many : ℕ → Part → Parts
so_many n p = parts_of (replicate n p)

-- a symbol with a name of its own, at s
abbrev pub with_name : Span → List ℕ → Part → Part
with_name s n p = at s (named (record { mutable = false; name = n }) p)

abbrev pub vector_path : PathData
vector_path = path_of (codes "alloc" ∷ codes "vec" ∷ codes "Vec" ∷ [])

abbrev pub option_path : PathData
option_path = path_of (codes "Option" ∷ [])

-- a generic type over the type of a symbol
abbrev pub holding : PathData → Part → TypeData
holding path p = nominal path (type_and (type_of_kind (kind_of p)) no_types)

-- `X*`: nothing, or `X+`
abbrev pub star_rule : Span → Part → RuleData
star_rule s p =
    private_rule s (repeated Star p) (inline_at s) (Some (holding vector_path p))
    (coded s no_parts (codes "alloc::vec![]")
    ∷ coded s (only_part (with_name s (codes "v") (at s (repeated Plus p)))) (codes "v") ∷ [])

-- `X+`: `X`, or `X+` and one more `X`
abbrev pub plus_rule : Span → Part → RuleData
plus_rule s p =
    private_rule s (repeated Plus p) no_attributes (Some (holding vector_path p))
    (coded s (only_part p) (codes "alloc::vec![<>]")
    ∷ coded s (part_and (with_name s (codes "v") (at s (repeated Plus p))) (only_part (with_name s (codes "e") p)))
    (codes "{ let mut v = v; v.push(e); v }") ∷ [])

-- `X?`: `X`, or nothing
abbrev pub question_rule : Span → Part → RuleData
question_rule s p =
    private_rule s (repeated Question p) (inline_at s) (Some (holding option_path p))
    (coded s (only_part p) (codes "Some(<>)") ∷ coded s no_parts (codes "None") ∷ [])

-- `X{n}`: n times `X`
abbrev pub times_rule : Span → ℕ → Part → RuleData
times_rule s n p =
    private_rule s (repeated (Times n) p) (inline_at s) (Some (holding vector_path p))
    (coded s (so_many n p) (codes "alloc::vec![<>]") ∷ [])

abbrev pub repeat_rule : Span → RepeatOp → Part → RuleData
repeat_rule s Star p = star_rule s p
repeat_rule s Plus p = plus_rule s p
repeat_rule s Question p = question_rule s p
repeat_rule s (Times n) p = times_rule s n p

-- ---- location symbols

-- `@L` and `@R`: one empty alternative that gives a location, and no declared type
abbrev pub location_rule : Span → Kind → Action → RuleData
location_rule s k action =
    private_rule s k (inline_at s) None
    (record { span = s; parts = no_parts; condition = None; action = Some action; attributes = no_attributes } ∷ [])

-- ---- macros

-- the environment of a macro: what its arguments are bound to
abbrev pub argument_kind : List NonterminalString → Parts → List ℕ → Option Kind
argument_kind (a ∷ rest) (part_and p ps) n = if bytes_eq a.0 n then Some (kind_of p) else argument_kind rest ps n
argument_kind _ _ n = None

abbrev pub or_name : List ℕ → Option Kind → Kind
or_name n None = nonterminal n
or_name n (Some k) = k

-- a symbol with the arguments substituted; one that is substituted is in place of its name
abbrev pub substituted_leaf : (List ℕ → Option Kind) → Kind → Kind
substituted_leaf argument (nonterminal n) = or_name n (argument n)
substituted_leaf argument (ambiguous_id n) = or_name n (argument n)
substituted_leaf argument k = k

abbrev pub kind_substituted : (List ℕ → Option Kind) → Kind → Kind
kind_substituted argument = map_kind (substituted_leaf argument)

abbrev pub substituted : (List ℕ → Option Kind) → Part → Part
substituted argument = map_part (substituted_leaf argument)

abbrev pub all_substituted : (List ℕ → Option Kind) → Parts → Parts
all_substituted argument = map_parts (substituted_leaf argument)

abbrev pub type_of_name : List ℕ → Option Kind → TypeData
type_of_name n None = nominal (path_of (n ∷ [])) no_types
type_of_name n (Some k) = type_of_kind k

-- A declared type with the arguments substituted: a single name that is an argument is the type of its symbol, any other a path.
abbrev mutual
  pub type_substituted : (List ℕ → Option Kind) → TypeData → TypeData
  type_substituted argument (id n) = type_of_name n (argument n)
  type_substituted argument (tuple ts) = tuple (types_substituted argument ts)
  type_substituted argument (slice t) = slice (type_substituted argument t)
  type_substituted argument (nominal p ts) = nominal p (types_substituted argument ts)
  type_substituted argument (reference l m t) = reference l m (type_substituted argument t)
  type_substituted argument (trait_object p ts) = trait_object p (types_substituted argument ts)
  type_substituted argument (of_lifetime l) = of_lifetime l
  type_substituted argument (of_symbol k) = of_symbol k
  type_substituted argument (function fs p ts r) = function fs p (types_substituted argument ts) (returned_substituted argument r)

  pub types_substituted : (List ℕ → Option Kind) → TypesData → TypesData
  types_substituted argument no_types = no_types
  types_substituted argument (type_and t ts) = type_and (type_substituted argument t) (types_substituted argument ts)

  pub returned_substituted : (List ℕ → Option Kind) → MaybeType → MaybeType
  returned_substituted argument no_type = no_type
  returned_substituted argument (returns t) = returns (type_substituted argument t)

-- A symbol in which no name is an argument and no reference has a bound, as a ground symbol.
abbrev pub flat_reader : Reader
flat_reader = record { argument = λ n. None; is_own = λ n. false; own_bound = λ before after. None; bound = λ n. None }

-- An instance's alternative: at the call's span, with the arguments substituted and without a condition.
abbrev pub instance_alternative : Span → (List ℕ → Option Kind) → AlternativeData → AlternativeData
instance_alternative s argument a = record a { span = s; parts = all_substituted argument a.parts; condition = None }

-- those whose condition is true or absent, in order
abbrev pub instance_alternatives : ConditionValue → Span → RuleData → Parts →
    List AlternativeData → List AlternativeData
instance_alternatives value s d args [] = []
instance_alternatives value s d args (a ∷ rest) =
    if is_true value d.args (read_all flat_reader args) a.condition
    then instance_alternative s (argument_kind d.args args) a ∷ instance_alternatives value s d args rest
    else instance_alternatives value s d args rest

-- A call of a macro: its definition's visibility and attributes, its declared type and alternatives with the arguments
-- substituted.
abbrev pub instance_rule : ConditionValue → Span → RuleData → Parts → RuleData
instance_rule value s d args = record {
  visibility = d.visibility;
  name = record { 0 = kind_text (call d.name.0 args) };
  attributes = d.attributes;
  span = s;
  args = [];
  type_decl = option_map (type_substituted (argument_kind d.args args)) d.type_decl;
  alternatives = instance_alternatives value s d args d.alternatives;
}

-- the definition of a macro; of several of a name the first
abbrev pub macro_named : List RuleData → List ℕ → Option RuleData
macro_named [] n = None
macro_named (d ∷ ds) n = if bytes_eq d.name.0 n then Some d else macro_named ds n

abbrev pub instance_of : ConditionValue → Span → Option RuleData → Parts → List RuleData
instance_of value s None args = []
instance_of value s (Some d) args = instance_rule value s d args ∷ []

-- ---- all of them

-- the rule that a symbol is desugared to where it was first reached; other kinds of symbols are not desugared
abbrev pub made_rules : ConditionValue → List RuleData → Part → List RuleData
made_rules value macros (at s (group ps)) = group_rule s ps ∷ []
made_rules value macros (at s (call n ps)) = instance_of value s (macro_named macros n) ps
made_rules value macros (at s (repeated op p)) = repeat_rule s op p ∷ []
made_rules value macros (at s lookahead) = location_rule s lookahead lookahead_code ∷ []
made_rules value macros (at s lookbehind) = location_rule s lookbehind lookbehind_code ∷ []
made_rules value macros _ = []
