-- The terminals that an expanded grammar uses.
use Rattle.std.specs.Prelude.{List, [], ◌∷◌, ◌++◌, map, flat_map}
use Rattle.lalrpop_norm_tree_names.specs.declared.names.Span.{Span}
use Rattle.lalrpop_norm_tree_names.specs.declared.names.TerminalString.{TerminalString}
pub use Rattle.lalrpop_norm_tree_names.specs.Terminals.{same_literal, same_terminal, literal_cmp, terminal_cmp}
use Rattle.lalrpop_norm_tree.specs.Symbols.{Kind, Part, Parts, terminal, at, no_parts, part_and}
use Rattle.lalrpop_norm_tree.specs.Traversal.{unwrapped, unwrapped_kind}
use Rattle.lalrpop_norm_tree.specs.Items.{AlternativeData, RuleData, GrammarData}
use Rattle.lalrpop_norm_model.specs.PlainRules.{all_rules}

-- a terminal with its span
abbrev pub terminal_place : Part → List (TerminalString × Span)
terminal_place (at s (terminal t)) = (t, s) ∷ []
terminal_place _ = []

-- The terminals in a symbol, under wrappers, each with its span. A kind that an expanded grammar does not have uses none; `!` is
-- no terminal.
abbrev pub places_in : Part → List (TerminalString × Span)
places_in p = terminal_place (unwrapped p)

abbrev pub places_in_kind : Span → Kind → List (TerminalString × Span)
places_in_kind s k = terminal_place (unwrapped_kind s k)

abbrev pub places_in_parts : Parts → List (TerminalString × Span)
places_in_parts no_parts = []
places_in_parts (part_and p ps) = places_in p ++ places_in_parts ps

-- the terminals that alternatives use, each with its span
abbrev pub places_used : GrammarData → List (TerminalString × Span)
places_used g =
    flat_map (λ (r : RuleData). flat_map (λ (a : AlternativeData). places_in_parts a.parts) r.alternatives) (all_rules g)

-- the same without spans
abbrev pub terminals_in : Part → List TerminalString
terminals_in p = map (λ (u : TerminalString × Span). u.0) (places_in p)

abbrev pub terminals_in_parts : Parts → List TerminalString
terminals_in_parts no_parts = []
terminals_in_parts (part_and p ps) = terminals_in p ++ terminals_in_parts ps

abbrev pub terminals_in_rule : RuleData → List TerminalString
terminals_in_rule r = flat_map (λ (a : AlternativeData). terminals_in_parts a.parts) r.alternatives

-- the terminals that the alternatives of a grammar use, in reading order; those in declared types are not used by them
abbrev pub terminals_used : GrammarData → List TerminalString
terminals_used g = flat_map terminals_in_rule (all_rules g)
