-- Symbols with their spans taken off: what the code compares. An identifier counts as the name of a rule, as in
-- `same_apart_from_spans`, which says the same of two symbols.
use Rattle.std.specs.Prelude.{List, map}
use Rattle.lalrpop_norm_tree_names.specs.declared.names.Span.{Span}
use Rattle.lalrpop_norm_tree.specs.declared.symbol.Symbol.{Symbol}
use Rattle.lalrpop_norm_tree.specs.Symbols.{Kind, Part, Parts, group, ambiguous_id, nonterminal, call, repeated, chosen, named}
use Rattle.lalrpop_norm_tree.specs.Symbols.{tupled, at, no_parts, part_and, symbol_view}

abbrev pub nowhere : Span
nowhere = record { 0 = 0; 1 = 0 }

-- a symbol with each span in it set to (0, 0)
abbrev mutual
  pub unplaced_kind : Kind → Kind
  unplaced_kind (group ps) = group (all_unplaced ps)
  unplaced_kind (ambiguous_id a) = nonterminal a
  unplaced_kind (call n ps) = call n (all_unplaced ps)
  unplaced_kind (repeated op p) = repeated op (unplaced p)
  unplaced_kind (chosen p) = chosen (unplaced p)
  unplaced_kind (named n p) = named n (unplaced p)
  unplaced_kind (tupled ns p) = tupled ns (unplaced p)
  unplaced_kind k = k

  pub unplaced : Part → Part
  unplaced (at s k) = at nowhere (unplaced_kind k)

  pub all_unplaced : Parts → Parts
  all_unplaced no_parts = no_parts
  all_unplaced (part_and p ps) = part_and (unplaced p) (all_unplaced ps)

-- each symbol without its spans
abbrev pub each_unplaced : List Symbol → List Part
each_unplaced ss = map (λ s. unplaced (symbol_view s)) ss
