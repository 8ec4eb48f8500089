-- The sources of an alternative: the symbols whose values it gives, each with its index.
use Rattle.std.specs.Prelude.{ℕ, suc, Bool, true, false, ◌&&◌, not, List, [], ◌∷◌, map, Option, Some, None, is_none}
use Rattle.lalrpop_norm_tree.specs.Symbols.{Part, Parts, chosen, named, tupled, at, no_parts, part_and}
use Rattle.lalrpop_norm_tree.specs.Types.{TypeData, of_symbol}
use Rattle.lalrpop_norm_tree.specs.Items.{Action, user_code, fallible_code, lookahead_code, lookbehind_code, AlternativeData}
use Rattle.lalrpop_norm_model.specs.MadeRules.{kind_of, some_name_value, if_any, bare_or_tuple}

-- a symbol whose value is given, and its index among the symbols of its alternative, from 0
pub record Source : Type 0 where
  pub place : ℕ
  pub symbol : Part

-- what is in the named and tuple symbols, the first symbol having that index
abbrev pub named_sources : ℕ → Parts → List Source
named_sources k no_parts = []
named_sources k (part_and (at s (named n p)) ps) = record { place = k; symbol = p } ∷ named_sources (suc k) ps
named_sources k (part_and (at s (tupled ns p)) ps) = record { place = k; symbol = p } ∷ named_sources (suc k) ps
named_sources k (part_and (at s x) ps) = named_sources (suc k) ps

-- what is in the selected symbols
abbrev pub chosen_sources : ℕ → Parts → List Source
chosen_sources k no_parts = []
chosen_sources k (part_and (at s (chosen p)) ps) = record { place = k; symbol = p } ∷ chosen_sources (suc k) ps
chosen_sources k (part_and (at s x) ps) = chosen_sources (suc k) ps

abbrev pub all_sources : ℕ → Parts → List Source
all_sources k no_parts = []
all_sources k (part_and p ps) = record { place = k; symbol = p } ∷ all_sources (suc k) ps

-- the named and tuple symbols if there are any, else the selected ones, else all symbols
abbrev pub sources : Parts → List Source
sources ps = if_any (named_sources 0 ps) (if_any (chosen_sources 0 ps) (all_sources 0 ps))

-- a default alternative has no action code and no named or tuple symbol
abbrev pub is_default : AlternativeData → Bool
is_default a = is_none a.action && not (some_name_value a.parts)

-- The type that a default alternative makes, in which the types of its sources are left open: one bare, any other number of
-- them as a tuple.
abbrev pub default_type : AlternativeData → TypeData
default_type a = bare_or_tuple (map (λ (s : Source). of_symbol (kind_of s.symbol)) (sources a.parts))

abbrev pub is_lookaround_action : Option Action → Bool
is_lookaround_action (Some lookahead_code) = true
is_lookaround_action (Some lookbehind_code) = true
is_lookaround_action (Some (user_code c)) = false
is_lookaround_action (Some (fallible_code c)) = false
is_lookaround_action None = false

-- an alternative that is a location symbol gives a location
abbrev pub is_lookaround : AlternativeData → Bool
is_lookaround a = is_lookaround_action a.action
