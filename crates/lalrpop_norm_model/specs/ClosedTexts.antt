-- The text of a ground symbol: as it is displayed, with arguments substituted and each bounded reference as the name of its
-- level.
use Rattle.std.specs.Prelude.{ℕ, Bool, List, [], ◌∷◌, ◌++◌, Option, Some, None, codes, decimal, nat_eq}
use Rattle.std.specs.Prelude.{if◌then◌else◌}
use Rattle.lalrpop_norm_tree_names.specs.Texts.{escape, joined}
use Rattle.lalrpop_norm_theory.specs.Symbols.{Name, Terminal, quoted, regex, bare, error_terminal, ClosedPattern, ClosedPatterns}
use Rattle.lalrpop_norm_theory.specs.Symbols.{name_pattern, tuple_pattern, no_patterns, pattern_and, Wrapper, chosen, named}
use Rattle.lalrpop_norm_theory.specs.Symbols.{tuple, ClosedSymbol, ClosedSymbols, terminal, error, reference, call, group, star}
use Rattle.lalrpop_norm_theory.specs.Symbols.{plus, question, times, wrapped, lookahead, lookbehind, no_symbols, symbol_and}
use Rattle.lalrpop_norm_model.specs.Levels.{highest_level}
use Rattle.lalrpop_norm_model.specs.WrittenRules.{WrittenRule, rule_named}

abbrev pub closed_terminal_text : Terminal → Name
closed_terminal_text (quoted a) = codes "\"" ++ escape a ++ codes "\""
closed_terminal_text (regex a) = codes "r#\"" ++ escape a ++ codes "\"#"
closed_terminal_text (bare a) = a
closed_terminal_text error_terminal = codes "error"

abbrev pub closed_name_text : Bool → Name → Name
closed_name_text mutable n = (if mutable then codes "mut " else []) ++ n

abbrev mutual
  pub closed_pattern_text : ClosedPattern → Name
  closed_pattern_text (name_pattern m n) = closed_name_text m n
  closed_pattern_text (tuple_pattern ps) = codes "(" ++ joined (codes ", ") (closed_pattern_texts ps) ++ codes ")"

  pub closed_pattern_texts : ClosedPatterns → List Name
  closed_pattern_texts no_patterns = []
  closed_pattern_texts (pattern_and p ps) = closed_pattern_text p ∷ closed_pattern_texts ps

abbrev pub wrapped_text : Wrapper → Name → Name
wrapped_text chosen t = codes "<" ++ t ++ codes ">"
wrapped_text (named m n) t = closed_name_text m n ++ codes ":" ++ t
wrapped_text (tuple ps) t = codes "(" ++ joined (codes ", ") (closed_pattern_texts ps) ++ codes ")" ++ codes ":" ++ t

abbrev mutual
  pub closed_text : (Name → Option ℕ → Name) → ClosedSymbol → Name
  closed_text name (terminal a) = closed_terminal_text a
  closed_text name error = codes "error"
  closed_text name (reference n b) = name n b
  closed_text name (call n gs) = n ++ codes "<" ++ joined (codes ", ") (closed_texts name gs) ++ codes ">"
  closed_text name (group gs) = codes "(" ++ joined (codes " ") (closed_texts name gs) ++ codes ")"
  closed_text name (star x) = closed_text name x ++ codes "*"
  closed_text name (plus x) = closed_text name x ++ codes "+"
  closed_text name (question x) = closed_text name x ++ codes "?"
  closed_text name (times n x) = closed_text name x ++ (codes "{" ++ decimal n ++ codes "}")
  closed_text name (wrapped w g) = wrapped_text w (closed_text name g)
  closed_text name lookahead = codes "@L"
  closed_text name lookbehind = codes "@R"

  pub closed_texts : (Name → Option ℕ → Name) → ClosedSymbols → List Name
  closed_texts name no_symbols = []
  closed_texts name (symbol_and g gs) = closed_text name g ∷ closed_texts name gs

-- the highest level keeps the rule's name; the name of any other ends in its number, in decimal
abbrev pub level_name : Name → ℕ → ℕ → Name
level_name n highest l = if nat_eq l highest then n else n ++ decimal l

abbrev pub named_level : Option WrittenRule → Name → ℕ → Name
named_level None n l = n
named_level (Some r) n l = level_name n (highest_level r.places) l

-- the names of the levels of the rules
abbrev pub level_names : List WrittenRule → Name → ℕ → Name
level_names rs n l = named_level (rule_named rs n) n l

-- the name of a reference within a bound
abbrev pub reference_name : List WrittenRule → Name → Option ℕ → Name
reference_name rs n None = n
reference_name rs n (Some b) = level_names rs n b

-- the text of a symbol of a grammar
abbrev pub text_in : List WrittenRule → ClosedSymbol → Name
text_in rs g = closed_text (reference_name rs) g
