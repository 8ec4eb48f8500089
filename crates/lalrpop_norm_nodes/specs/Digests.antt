-- What decides the hashes of a table: the names of a grammar's rules, and the symbols of their alternatives, up to spans.
use Rattle.std.specs.Prelude.{List, [], ◌++◌, flat_map}
use Rattle.std.specs.Hash.{HashWrites, u8, u16, bool, str}
use Rattle.std.specs.Hash.DefaultHasher.{initial}
use Rattle.std.specs.declared.hash.DefaultHasher.{DefaultHasher}
use Rattle.lalrpop_norm_tree_names.specs.declared.names.TerminalString.{TerminalString}
use Rattle.lalrpop_norm_tree_names.specs.declared.names.TerminalString.TheVariants.{Literal, Bare, Error}
use Rattle.lalrpop_norm_tree_names.specs.declared.names.TerminalLiteral.TheVariants.{Quoted, Regex}
use Rattle.lalrpop_norm_tree.specs.declared.symbol.Name.{Name}
use Rattle.lalrpop_norm_tree.specs.declared.symbol.RepeatOp.{RepeatOp}
use Rattle.lalrpop_norm_tree.specs.declared.symbol.RepeatOp.TheVariants.{Star, Plus, Question, Times}
use Rattle.lalrpop_norm_tree.specs.Symbols.{ArgumentPattern, ArgumentPatterns, one_name, several, no_arguments, argument_and}
use Rattle.lalrpop_norm_tree.specs.Symbols.{Kind, Part, Parts, group, ambiguous_id, terminal, nonterminal, call, repeated, chosen}
use Rattle.lalrpop_norm_tree.specs.Symbols.{named, tupled, lookahead, lookbehind, error_terminal, at, no_parts, part_and}
use Rattle.lalrpop_norm_tree.specs.Items.{AlternativeData, ItemData, match_item, extern_item, intern_item, rule_item, use_item}
use Rattle.lalrpop_norm_names.specs.Seeds.{hasher_after}

abbrev pub name_writes : Name → HashWrites
name_writes n = bool n.mutable ++ str n.name

abbrev mutual
  pub pattern_writes : ArgumentPattern → HashWrites
  pattern_writes (one_name n) = name_writes n
  pattern_writes (several ps) = u8 2 ++ patterns_writes ps

  pub patterns_writes : ArgumentPatterns → HashWrites
  patterns_writes no_arguments = u8 3
  patterns_writes (argument_and p ps) = pattern_writes p ++ patterns_writes ps

abbrev pub terminal_writes : TerminalString → HashWrites
terminal_writes (Literal (Quoted t)) = u8 4 ++ str t
terminal_writes (Literal (Regex t)) = u8 5 ++ str t
terminal_writes (Bare t) = u8 6 ++ str t
terminal_writes Error = u8 7

abbrev pub op_writes : RepeatOp → HashWrites
op_writes Star = u8 8
op_writes Plus = u8 9
op_writes Question = u8 10
op_writes (Times n) = u8 22 ++ u16 n

abbrev mutual
  pub part_writes : Part → HashWrites
  part_writes (at s k) = kind_writes k

  pub kind_writes : Kind → HashWrites
  kind_writes (nonterminal n) = u8 11 ++ str n
  kind_writes (ambiguous_id n) = u8 12 ++ str n
  kind_writes (terminal t) = terminal_writes t
  kind_writes (group ps) = u8 13 ++ parts_writes ps
  kind_writes (call n ps) = (u8 14 ++ str n) ++ parts_writes ps
  kind_writes (repeated op p) = op_writes op ++ part_writes p
  kind_writes (chosen p) = u8 15 ++ part_writes p
  kind_writes (named n p) = u8 16 ++ (name_writes n ++ part_writes p)
  kind_writes (tupled ns p) = u8 17 ++ (patterns_writes ns ++ part_writes p)
  kind_writes lookahead = u8 18
  kind_writes lookbehind = u8 19
  kind_writes error_terminal = u8 20

  pub parts_writes : Parts → HashWrites
  parts_writes no_parts = u8 21
  parts_writes (part_and p ps) = part_writes p ++ parts_writes ps

abbrev pub alternative_writes : AlternativeData → HashWrites
alternative_writes a = parts_writes a.parts

abbrev pub item_writes : ItemData → HashWrites
item_writes (rule_item r) = str r.name.0 ++ flat_map alternative_writes r.alternatives
item_writes (match_item m) = []
item_writes (extern_item t) = []
item_writes (intern_item t) = []
item_writes (use_item u) = []

-- the hasher that has read the items, one after another
abbrev pub reader_of_items : List ItemData → DefaultHasher
reader_of_items items = hasher_after initial (flat_map item_writes items)
