-- The symbols whose values an alternative gives.
use Rattle.std.specs.Prelude.{ℕ, ◌+◌, List, [], ◌∷◌, ◌++◌, map, Option, Some, None, option_map, option_to_list}
use Rattle.lalrpop_norm_tree.specs.Symbols.{ArgumentPattern, Part, Parts, Kind, at}
use Rattle.lalrpop_norm_tree.specs.Symbols.{no_parts, part_and, argument_pattern_view, symbol_view}
use Rattle.lalrpop_norm_tree.specs.Accessors.{binding_of, selected_of}
use Rattle.lalrpop_norm_tree.specs.Items.{Action, action_view, AlternativeData}
use Rattle.lalrpop_norm_model.specs.MadeRules.{if_any}
use Rattle.lalrpop_norm_common.specs.declared.norm_util.Symbols.{Symbols}
use Rattle.lalrpop_norm_common.specs.declared.norm_util.Symbols.TheVariants.{Named, Anon}
use Rattle.lalrpop_norm_common.specs.declared.norm_util.AlternativeAction.{AlternativeAction}
use Rattle.lalrpop_norm_common.specs.declared.norm_util.AlternativeAction.TheVariants.{User, Default}

-- an index, from 0, and the symbol there or inside of the symbol there
abbrev pub Placed : Type 0
Placed = ℕ × Part

-- likewise, with the names that it gets
abbrev pub NamedPart : Type 0
NamedPart = ℕ × ArgumentPattern × Part

-- symbols with names, or without
pub data SymbolsSeen : Type 0 where
  with_names : List NamedPart → SymbolsSeen
  without_names : List Placed → SymbolsSeen

pub data ActionSeen : Type 0 where
  by_code : Action → ActionSeen
  by_symbols : SymbolsSeen → ActionSeen

-- a named or tuple symbol at that index
abbrev pub named_in : ℕ → Kind → Option NamedPart
named_in k x = option_map (λ b. (k, b.0, b.1)) (binding_of x)

abbrev pub named_parts : ℕ → Parts → List NamedPart
named_parts k no_parts = []
named_parts k (part_and (at s x) ps) = option_to_list (named_in k x) ++ named_parts (k + 1) ps

-- a selected symbol at that index
abbrev pub chosen_in : ℕ → Kind → Option Placed
chosen_in k x = option_map (λ p. (k, p)) (selected_of x)

abbrev pub chosen_parts : ℕ → Parts → List Placed
chosen_parts k no_parts = []
chosen_parts k (part_and (at s x) ps) = option_to_list (chosen_in k x) ++ chosen_parts (k + 1) ps

abbrev pub all_parts : ℕ → Parts → List Placed
all_parts k no_parts = []
all_parts k (part_and p ps) = (k, p) ∷ all_parts (k + 1) ps

-- the sources of symbols without names: what is inside of the selected ones, if there are any, else all
abbrev pub placed_sources : Parts → List Placed
placed_sources ps = if_any (chosen_parts 0 ps) (all_parts 0 ps)

-- the named and tuple symbols, if there are any
abbrev pub with_any : List NamedPart → SymbolsSeen → SymbolsSeen
with_any [] otherwise = otherwise
with_any (x ∷ xs) otherwise = with_names (x ∷ xs)

abbrev pub analyzed_symbols : Parts → SymbolsSeen
analyzed_symbols ps = with_any (named_parts 0 ps) (without_names (placed_sources ps))

abbrev pub action_or : Option Action → SymbolsSeen → ActionSeen
action_or (Some a) ss = by_code a
action_or None ss = by_symbols ss

abbrev pub analyzed_action : AlternativeData → ActionSeen
analyzed_action a = action_or a.action (analyzed_symbols a.parts)

-- ---- as the code has them

abbrev pub symbols_seen : Symbols → SymbolsSeen
symbols_seen (Named v) = with_names (map (λ t. (t.0, argument_pattern_view t.1, symbol_view t.2.now)) v.items)
symbols_seen (Anon v) = without_names (map (λ t. (t.0, symbol_view t.1.now)) v.items)

abbrev pub action_seen : AlternativeAction → ActionSeen
action_seen (User a) = by_code (action_view a.now)
action_seen (Default ss) = by_symbols (symbols_seen ss)
