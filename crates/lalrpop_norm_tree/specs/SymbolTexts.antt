-- The texts of symbols and of what a match block maps to, as bytes.
use Rattle.std.specs.Prelude.{ℕ, List, [], ◌∷◌, ◌++◌, if◌then◌else◌, codes, decimal}
use Rattle.lalrpop_norm_tree.specs.declared.items.MatchMapping.{MatchMapping}
use Rattle.lalrpop_norm_tree.specs.declared.items.MatchMapping.TheVariants as mapping
use Rattle.lalrpop_norm_tree.specs.declared.symbol.Name.{Name}
use Rattle.lalrpop_norm_tree.specs.declared.symbol.RepeatOp.{RepeatOp}
use Rattle.lalrpop_norm_tree.specs.declared.symbol.RepeatOp.TheVariants.{Star, Plus, Question, Times}
use Rattle.lalrpop_norm_tree_names.specs.Texts.{terminal_text, joined}
use Rattle.lalrpop_norm_tree.specs.Symbols.{ArgumentPattern, one_name, several, ArgumentPatterns, no_arguments, argument_and}
use Rattle.lalrpop_norm_tree.specs.Symbols.{Kind, group, ambiguous_id, terminal, nonterminal, call, repeated, chosen, named}
use Rattle.lalrpop_norm_tree.specs.Symbols.{tupled, lookahead, lookbehind, error_terminal, Part, at, Parts, no_parts, part_and}
use Rattle.lalrpop_norm_tree.specs.Symbols.{Call, Again}

abbrev pub mapping_text : MatchMapping → List ℕ
mapping_text (mapping.Terminal t) = terminal_text t
mapping_text mapping.Skip = codes "{ }"

abbrev pub name_text : Name → List ℕ
name_text n = (if n.mutable then codes "mut " else []) ++ n.name

abbrev pub op_text : RepeatOp → List ℕ
op_text Star = codes "*"
op_text Plus = codes "+"
op_text Question = codes "?"
op_text (Times n) = codes "{" ++ decimal n ++ codes "}"

abbrev mutual
  pub argument_pattern_text : ArgumentPattern → List ℕ
  argument_pattern_text (one_name n) = name_text n
  argument_pattern_text (several ps) = codes "(" ++ joined (codes ", ") (argument_pattern_texts ps) ++ codes ")"

  pub argument_pattern_texts : ArgumentPatterns → List (List ℕ)
  argument_pattern_texts no_arguments = []
  argument_pattern_texts (argument_and p ps) = argument_pattern_text p ∷ argument_pattern_texts ps

abbrev pub tuple_text : ArgumentPatterns → List ℕ
tuple_text ps = codes "(" ++ joined (codes ", ") (argument_pattern_texts ps) ++ codes ")"

abbrev mutual
  pub kind_text : Kind → List ℕ
  kind_text (group ps) = codes "(" ++ joined (codes " ") (part_texts ps) ++ codes ")"
  kind_text (ambiguous_id a) = a
  kind_text (terminal t) = terminal_text t
  kind_text (nonterminal n) = n
  kind_text (call m ps) = m ++ codes "<" ++ joined (codes ", ") (part_texts ps) ++ codes ">"
  kind_text (repeated op p) = part_text p ++ op_text op
  kind_text (chosen p) = codes "<" ++ part_text p ++ codes ">"
  kind_text (named n p) = name_text n ++ codes ":" ++ part_text p
  kind_text (tupled ps p) = tuple_text ps ++ codes ":" ++ part_text p
  kind_text lookahead = codes "@L"
  kind_text lookbehind = codes "@R"
  kind_text error_terminal = codes "error"

  pub part_text : Part → List ℕ
  part_text (at s k) = kind_text k

  pub part_texts : Parts → List (List ℕ)
  part_texts no_parts = []
  part_texts (part_and p ps) = part_text p ∷ part_texts ps

abbrev pub group_text : Parts → List ℕ
group_text ps = codes "(" ++ joined (codes " ") (part_texts ps) ++ codes ")"

abbrev pub call_text : Call → List ℕ
call_text m = m.0 ++ codes "<" ++ joined (codes ", ") (part_texts m.1) ++ codes ">"

abbrev pub again_text : Again → List ℕ
again_text r = part_text r.1 ++ op_text r.0
