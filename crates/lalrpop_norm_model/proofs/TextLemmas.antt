-- The text of a ground symbol without bounds is the displayed text.
use Rattle.std.proofs.Common.{◌≡◌, ℕ, ◌+◌, ◌∷◌, ◌++◌, refl, ap, ap₂}
use Rattle.std.specs.Prelude.{codes, Option, None}
use Rattle.lalrpop_norm_tree_names.specs.declared.names.TerminalString.{TerminalString}
use Rattle.lalrpop_norm_tree_names.specs.declared.names.TerminalString.TheVariants.{Literal, Bare, Error}
use Rattle.lalrpop_norm_tree_names.specs.declared.names.TerminalLiteral.{TerminalLiteral}
use Rattle.lalrpop_norm_tree_names.specs.declared.names.TerminalLiteral.TheVariants.{Quoted, Regex}
use Rattle.lalrpop_norm_tree.specs.declared.symbol.RepeatOp.{RepeatOp}
use Rattle.lalrpop_norm_tree.specs.declared.symbol.RepeatOp.TheVariants.{Star, Plus, Question, Times}
use Rattle.lalrpop_norm_tree.specs.Symbols.{ArgumentPattern, one_name, several, ArgumentPatterns, no_arguments, argument_and, Kind, group, ambiguous_id, terminal, nonterminal, call, repeated, chosen, named, tupled, Part, at, Parts, no_parts, part_and}
use Rattle.lalrpop_norm_tree_names.specs.Texts as displayed
use Rattle.lalrpop_norm_tree_names.specs.Texts.{joined}
use Rattle.lalrpop_norm_tree.specs.SymbolTexts.{kind_text, part_text, part_texts, op_text, name_text, argument_pattern_text, argument_pattern_texts}
use Rattle.lalrpop_norm_theory.specs.Symbols.{Name, ClosedSymbol}
use Rattle.lalrpop_norm_model.specs.Occurrences.{count_part, count_parts}
use Rattle.lalrpop_norm_model.specs.Reading.{literal_terminal, terminal_of, closed_pattern_of, closed_patterns_of, repeat_of, read_kind, read_part, read_parts}
use Rattle.lalrpop_norm_model.specs.ClosedTexts.{closed_terminal_text, closed_pattern_text, closed_pattern_texts, closed_text, closed_texts, reference_name}
use Rattle.lalrpop_norm_model.specs.MadeRules.{flat_reader}
use Rattle.lalrpop_norm_model.specs.Laws.{TextsAreDisplayed, TextsInGrammars}

literal_displayed : (l : TerminalLiteral) → closed_terminal_text (literal_terminal l) ≡ displayed.literal_text l
literal_displayed (Quoted a) = refl
literal_displayed (Regex a) = refl

terminal_displayed : (t : TerminalString) → closed_terminal_text (terminal_of t) ≡ displayed.terminal_text t
terminal_displayed (Literal l) = literal_displayed l
terminal_displayed (Bare a) = refl
terminal_displayed Error = refl

mutual
  pattern_displayed : (p : ArgumentPattern) → closed_pattern_text (closed_pattern_of p) ≡ argument_pattern_text p
  pattern_displayed (one_name n) = refl
  pattern_displayed (several ps) = ap (λ ts. codes "(" ++ joined (codes ", ") ts ++ codes ")") (patterns_displayed ps)

  patterns_displayed : (ps : ArgumentPatterns) → closed_pattern_texts (closed_patterns_of ps) ≡ argument_pattern_texts ps
  patterns_displayed no_arguments = refl
  patterns_displayed (argument_and p ps) = ap₂ ◌∷◌ (pattern_displayed p) (patterns_displayed ps)

-- a reference without a bound as its name
module _ (name : Name → Option ℕ → Name) (by_name : (n : Name) → name n None ≡ n) where
  repeat_displayed : (op : RepeatOp) (x : ClosedSymbol) → closed_text name (repeat_of op x) ≡ closed_text name x ++ op_text op
  repeat_displayed Star x = refl
  repeat_displayed Plus x = refl
  repeat_displayed Question x = refl
  repeat_displayed (Times n) x = refl

  mutual
    pub kind_displayed : (before after : ℕ) (k : Kind) → closed_text name (read_kind flat_reader before after k) ≡ kind_text k
    kind_displayed before after (group ps) = ap (λ ts. codes "(" ++ joined (codes " ") ts ++ codes ")") (parts_displayed before after ps)
    kind_displayed before after (ambiguous_id a) = by_name a
    kind_displayed before after (terminal t) = terminal_displayed t
    kind_displayed before after (nonterminal n) = by_name n
    kind_displayed before after (call n ps) = ap (λ ts. n ++ codes "<" ++ joined (codes ", ") ts ++ codes ">") (parts_displayed before after ps)
    kind_displayed before after (repeated op p) = rw (repeat_displayed op, part_displayed before after p) refl
    kind_displayed before after (chosen p) = ap (λ t. codes "<" ++ t ++ codes ">") (part_displayed before after p)
    kind_displayed before after (named n p) = ap (λ t. name_text n ++ codes ":" ++ t) (part_displayed before after p)
    kind_displayed before after (tupled ns p) =
        ap₂ (λ ts t. (codes "(" ++ joined (codes ", ") ts ++ codes ")") ++ codes ":" ++ t) (patterns_displayed ns) (part_displayed before after p)
    kind_displayed before after _ = refl

    pub part_displayed : (before after : ℕ) (p : Part) → closed_text name (read_part flat_reader before after p) ≡ part_text p
    part_displayed before after (at s k) = kind_displayed before after k

    parts_displayed : (before after : ℕ) (ps : Parts) → closed_texts name (read_parts flat_reader before after ps) ≡ part_texts ps
    parts_displayed before after no_parts = refl
    parts_displayed before after (part_and p ps) =
        ap₂ ◌∷◌ (part_displayed before (after + count_parts flat_reader.is_own ps) p)
        (parts_displayed (before + count_part flat_reader.is_own p) after ps)

pub texts_displayed : TextsAreDisplayed
texts_displayed k = kind_displayed (λ n b. n) (λ n. refl) 0 0 k

pub texts_in_grammars : TextsInGrammars
texts_in_grammars rs k = kind_displayed (reference_name rs) (λ n. refl) 0 0 k
