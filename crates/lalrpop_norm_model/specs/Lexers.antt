-- What a lexer promises to the pass on tokens. It has five relations of its own; its answers have to keep to them.
use Rattle.std.specs.Prelude.{◌≡◌, ◌≢◌, ℕ, ◌<◌, List, length, Some, slice_get}
use Rattle.lalrpop_norm_tree_names.specs.declared.names.TerminalLiteral.{TerminalLiteral}
use Rattle.lalrpop_norm_tree_names.specs.declared.names.TerminalLiteral.TheVariants.{Quoted, Regex}

-- what a regex may have that an automaton is not made for
pub data Feature : Type 0 where
  named_captures : Feature
  non_greedy : Feature
  look_around : Feature
  byte_regex : Feature

-- The five relations of a lexer. R is the type of its regexes; a precedence is a number; an automaton is its code.
pub record Lexer (R : Type 0) : Type 1 where
  -- the text is no pattern
  pub IsBad : List ℕ → Type 0
  -- the regex is one of the literal: of a quoted one's text as it is, of the other kind's pattern
  pub IsRegexOf : TerminalLiteral → R → Type 0
  -- the regex has that feature, which is not supported
  pub HasFeature : R → Feature → Type 0
  -- with these precedences the regexes at the two indexes are ambiguous
  pub AreAmbiguous : List R → List ℕ → ℕ → ℕ → Type 0
  -- the automaton is built from the regexes and their precedences, both in one order
  pub IsBuilt : List R → List ℕ → List ℕ → Type 0

-- what reading a text may answer, unless an allocation fails
pub data Read (R : Type 0) : Type 0 where
  regex : R → Read R
  bad : Read R

-- what building may answer, unless an allocation fails: the automaton; the index of a regex, and its feature; two indexes
pub data Built : Type 0 where
  automaton : List ℕ → Built
  unsupported : ℕ → Feature → Built
  ambiguous : ℕ → ℕ → Built

-- A literal's text is read as a regex of it, and never rejected.
abbrev pub KeepsLiteral : {R : Type 0} → Lexer R → List ℕ → Read R → Type 0
KeepsLiteral l text (regex r) = l.IsRegexOf (Quoted text) r
KeepsLiteral l text bad = ⊥

-- A pattern's text is read as a regex of it, or rejected if it is bad.
abbrev pub KeepsPattern : {R : Type 0} → Lexer R → List ℕ → Read R → Type 0
KeepsPattern l text (regex r) = l.IsRegexOf (Regex text) r
KeepsPattern l text bad = l.IsBad text

-- the regex at that index has the feature
abbrev pub HasFeatureAt : {R : Type 0} → Lexer R → List R → ℕ → Feature → Type 0
HasFeatureAt {R} l rs i f = (r : R) × (slice_get rs i ≡ Some r) × l.HasFeature r f

-- two different indexes in range are ambiguous
pub record IsAmbiguity {R : Type 0} (l : Lexer R) (rs : List R) (precedences : List ℕ) (i j : ℕ) : Type 0 where
  pub first_in_range : i < length rs
  pub second_in_range : j < length rs
  pub differ : i ≢ j
  pub ambiguous : l.AreAmbiguous rs precedences i j

-- Building answers an automaton that is built, or an error whose reason holds.
abbrev pub KeepsBuilding : {R : Type 0} → Lexer R → List R → List ℕ → Built → Type 0
KeepsBuilding l rs precedences (automaton code) = l.IsBuilt rs precedences code
KeepsBuilding l rs precedences (unsupported i f) = HasFeatureAt l rs i f
KeepsBuilding l rs precedences (ambiguous i j) = IsAmbiguity l rs precedences i j
