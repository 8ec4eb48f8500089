-- The meaning of a grammar: what its trees see of it, from its rules and from the values of conditions.
use Rattle.std.specs.Prelude.{ℕ, Bool, true, false, not, ◌&&◌, ◌||◌, List, [], ◌∷◌, length, map, flat_map}
use Rattle.std.specs.Prelude.{slice_get, Option, Some, None, option_map, nat_le, nat_eq, bytes_eq, if◌then◌else◌}
use Rattle.lalrpop_norm_tree_names.specs.declared.names.NonterminalString.{NonterminalString}
use Rattle.lalrpop_norm_tree.specs.declared.items.Condition.{Condition}
use Rattle.lalrpop_norm_tree.specs.declared.items.ConditionOp.{ConditionOp}
use Rattle.lalrpop_norm_theory.specs.Symbols.{Name, quoted, ClosedSymbol, ClosedSymbols, terminal, reference, no_symbols}
use Rattle.lalrpop_norm_theory.specs.Symbols.{symbol_and}
use Rattle.lalrpop_norm_theory.specs.Meaning.{Meaning}
use Rattle.lalrpop_norm_model.specs.Levels.{Leveled, highest_level, previous_level, levels_of}
use Rattle.lalrpop_norm_model.specs.WrittenRules.{WrittenRule, rule_named}
use Rattle.lalrpop_norm_model.specs.Occurrences.{own_bound}
use Rattle.lalrpop_norm_model.specs.Reading.{Reader, read_all}

abbrev pub is_nil : {A : Type 0} → List A → Bool
is_nil [] = true
is_nil (x ∷ xs) = false

-- a rule with arguments is a macro
abbrev pub has_arguments : WrittenRule → Bool
has_arguments r = not (is_nil r.args)

-- the level that a bound stands for; without one it is the highest
abbrev pub level_within : WrittenRule → Option ℕ → ℕ
level_within r None = highest_level r.places
level_within r (Some b) = b

-- Whether a level of a rule is within a bound, and whether it is the bound's own. A rule without levels is read whole, whatever
-- the bound.
abbrev pub is_within : Option ℕ → WrittenRule → ℕ → Bool
is_within b r l = not r.has_levels || nat_le l (level_within r b)

abbrev pub is_own_level : Option ℕ → WrittenRule → ℕ → Bool
is_own_level b r l = not r.has_levels || nat_eq l (level_within r b)

-- the bound of a reference to a rule from elsewhere: its highest level, if it has levels
abbrev pub bound_of : Option WrittenRule → Option ℕ
bound_of None = None
bound_of (Some r) = if r.has_levels && not (has_arguments r) then Some (highest_level r.places) else None

-- ---- rules

abbrev pub own_bound_in : WrittenRule → Leveled → ℕ → ℕ → Option ℕ
own_bound_in r a before after =
    if r.has_levels then Some (own_bound a.side a.level (previous_level r.places a.level) before after) else None

-- an alternative of a rule is read without arguments, its recursive occurrences with the bounds of its level and associativity
abbrev pub rule_reader : List WrittenRule → WrittenRule → Leveled → Reader
rule_reader rs r a = record {
  argument = λ n. None;
  is_own = λ n. bytes_eq n r.name;
  own_bound = own_bound_in r a;
  bound = λ n. bound_of (rule_named rs n);
}

-- the symbols of what is at an index, if it is an alternative whose level passes
abbrev pub parts_at : List WrittenRule → WrittenRule → (ℕ → Bool) → Option (Option Leveled) → Option ClosedSymbols
parts_at rs r passes (Some (Some a)) = if passes a.level then Some (read_all (rule_reader rs r a) a.alternative.parts) else None
parts_at rs r passes (Some None) = None
parts_at rs r passes None = None

abbrev pub rule_parts : List WrittenRule → (WrittenRule → ℕ → Bool) → ℕ →
    Option WrittenRule → Option ClosedSymbols
rule_parts rs passes k None = None
rule_parts rs passes k (Some r) = if has_arguments r then None else parts_at rs r (passes r) (slice_get r.places k)

abbrev pub place_count : Option WrittenRule → ℕ
place_count None = 0
place_count (Some r) = length r.places

-- the bound one level down, in a rule that has levels and is no macro
abbrev pub previous_bound : Option WrittenRule → Option ℕ → Option (Option ℕ)
previous_bound None b = None
previous_bound (Some r) b =
    if r.has_levels && not (has_arguments r) then option_map Some (previous_level r.places (level_within r b)) else None

abbrev pub depth_of : Option WrittenRule → Option ℕ → ℕ
depth_of None b = 0
depth_of (Some r) b = level_within r b

-- ---- macros

-- the arguments of a macro, each bound to a ground symbol
abbrev pub bound_argument : List NonterminalString → ClosedSymbols → Name → Option ClosedSymbol
bound_argument (a ∷ rest) (symbol_and g gs) n = if bytes_eq a.0 n then Some g else bound_argument rest gs n
bound_argument _ _ n = None

-- an alternative of a macro is read with its arguments substituted; a reference in it may hold any level
abbrev pub macro_reader : List WrittenRule → WrittenRule → ClosedSymbols → Reader
macro_reader rs r args = record {
  argument = bound_argument r.args args;
  is_own = λ n. false;
  own_bound = λ before after. None;
  bound = λ n. bound_of (rule_named rs n);
}

-- what an operator says of a literal's text and the text on the right
abbrev pub ConditionValue : Type 0
ConditionValue = ConditionOp → Name → Name → Bool

-- A condition says what its operator says of the quoted literal that its left operand is bound to. One on anything else, which is
-- an error, is false.
abbrev pub value_of : ConditionValue → Condition → Option ClosedSymbol → Bool
value_of value c (Some (terminal (quoted text))) = value c.op text c.rhs
value_of value c _ = false

-- an absent condition is true
abbrev pub is_true : ConditionValue → List NonterminalString → ClosedSymbols → Option Condition → Bool
is_true value params args None = true
is_true value params args (Some c) = value_of value c (bound_argument params args c.lhs.0)

abbrev pub instance_at : ConditionValue → List WrittenRule → WrittenRule → ClosedSymbols →
    Option (Option Leveled) → Option ClosedSymbols
instance_at value rs r args (Some (Some a)) =
    if is_true value r.args args a.alternative.condition
    then Some (read_all (macro_reader rs r args) a.alternative.parts) else None
instance_at value rs r args (Some None) = None
instance_at value rs r args None = None

-- one ground symbol for each argument
abbrev pub arguments_fit : List NonterminalString → ClosedSymbols → Bool
arguments_fit [] no_symbols = true
arguments_fit (a ∷ rest) (symbol_and g gs) = arguments_fit rest gs
arguments_fit _ _ = false

-- the numbers of a macro's alternatives; what is no macro has none here
abbrev pub instance_count : Option WrittenRule → ℕ
instance_count None = 0
instance_count (Some r) = if has_arguments r then length r.places else 0

abbrev pub instance_parts : ConditionValue → List WrittenRule → ClosedSymbols → ℕ →
    Option WrittenRule → Option ClosedSymbols
instance_parts value rs args k None = None
instance_parts value rs args k (Some r) =
    if has_arguments r && arguments_fit r.args args then instance_at value rs r args (slice_get r.places k) else None

-- ---- the meaning

abbrev pub meaning : ConditionValue → List WrittenRule → Meaning
meaning value rs = record {
  reference_parts = λ n b k. rule_parts rs (is_within b) k (rule_named rs n);
  reference_count = λ n. place_count (rule_named rs n);
  own_parts = λ n b k. rule_parts rs (is_own_level b) k (rule_named rs n);
  previous = λ n b. previous_bound (rule_named rs n) b;
  depth = λ n b. depth_of (rule_named rs n) b;
  call_parts = λ n args k. instance_parts value rs args k (rule_named rs n);
  call_count = λ n. instance_count (rule_named rs n);
}

-- ---- declared references

-- a rule with levels declares one reference for each, rising; one without declares itself; a macro none
abbrev pub rule_references : WrittenRule → List ClosedSymbol
rule_references r =
    if has_arguments r then [] else
    (if r.has_levels then map (λ l. reference r.name (Some l)) (levels_of r.places) else reference r.name None ∷ [])

abbrev pub references : List WrittenRule → List ClosedSymbol
references rs = flat_map rule_references rs

-- rules taken by themselves, without a bound
abbrev pub rule_roots : WrittenRule → List ClosedSymbol
rule_roots r = if has_arguments r then [] else reference r.name None ∷ []

abbrev pub roots : List WrittenRule → List ClosedSymbol
roots rs = flat_map rule_roots rs
