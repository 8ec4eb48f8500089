-- What is proved of conditions, in the subject's own terms. The functions of the crate carry these statements.
use Rattle.std.specs.Prelude.{◌≡◌, ◌≢◌, ◌↔◌, ◌<◌, Bool, true, false, Some, is_some, All}
use Rattle.regex_hir.specs.Meaning.{meaning}
use Rattle.regex_hir.specs.declared.hir.Hir.{Hir}
use Rattle.regex_syntax.specs.Grammar.{Names}
use Rattle.regex_syntax.specs.declared.error.ErrorKind.{ErrorKind}
use Rattle.regex_syntax.specs.declared.error.ErrorKind.TheVariants.{OutOfMemory}
use Rattle.regex.specs.Patterns.{Reads, Refuses, find_str, default_config}
use Rattle.lalrpop_norm_theory.specs.Symbols.{Name, ClosedSymbol, terminal, quoted}
use Rattle.lalrpop_norm_tree.specs.declared.items.ConditionOp.{ConditionOp}
use Rattle.lalrpop_norm_tree.specs.declared.items.ConditionOp.TheVariants.{Equals, NotEquals, Match, NotMatch}
use Rattle.lalrpop_norm_conditions.specs.Patterns.{has_reading, is_found, MatchesSomewhere}
use Rattle.lalrpop_norm_conditions.specs.Conditions.{comparison, condition_value}

-- what the four operators say of a literal and the text on the right
pub record Says (literal right : Name) : Type 0 where
  pub equals : (comparison Equals literal right ≡ true) ↔ (literal ≡ right)
  pub not_equals : (comparison NotEquals literal right ≡ true) ↔ (literal ≢ right)
  pub found : (comparison Match literal right ≡ true) ↔ MatchesSomewhere right literal
  pub not_found : (comparison NotMatch literal right ≡ true) ↔ (¬ (MatchesSomewhere right literal))

-- Operators compare texts, or say whether the pattern on the right matches somewhere in the literal.
abbrev pub OperatorsSay : Type 0
OperatorsSay = (literal right : Name) → Says literal right

-- A condition has a value if and only if its left operand is bound to a quoted literal, and then it is the operator's.
abbrev pub ValuesAreOfLiterals : Type 0
ValuesAreOfLiterals = (op : ConditionOp) (left : ClosedSymbol) (right : Name) (value : Bool) →
    (condition_value op left right ≡ Some value)
    ↔ ((literal : Name) × (left ≡ terminal (quoted literal)) × (comparison op literal right ≡ value))

-- The definitions agree with what `regex` says by itself: what it reads has a reading, what it rejects, unless an allocation
-- fails, has none, and a pattern is found in the bytes where a search by the tree that it read finds something.
pub record AgreesWithRegex (pattern : Name) : Type 0 where
  pub read : (hir : Hir) (names : Names) → Reads default_config pattern hir names → has_reading pattern ≡ true
  pub refused : (kind : ErrorKind) → Refuses default_config pattern kind → kind ≢ OutOfMemory →
      has_reading pattern ≡ false
  pub found : (hir : Hir) (names : Names) → Reads default_config pattern hir names → (text : Name) →
      All (λ b. b < 256) text →
      is_found pattern text ≡ is_some (find_str (meaning hir) text 0)

abbrev pub PatternsAreThoseOfRegex : Type 0
PatternsAreThoseOfRegex = (pattern : Name) → AgreesWithRegex pattern
