-- The value of a condition on an alternative of a macro, as `if E ~~ "^A"`.
use Rattle.std.specs.Prelude.{Bool, true, false, not, ◌&&◌, bytes_eq, Option, Some, None, option_map}
use Rattle.lalrpop_norm_theory.specs.Symbols.{Name, ClosedSymbol, terminal, quoted}
use Rattle.lalrpop_norm_tree.specs.declared.items.ConditionOp.{ConditionOp}
use Rattle.lalrpop_norm_tree.specs.declared.items.ConditionOp.TheVariants.{Equals, NotEquals, Match, NotMatch}
use Rattle.lalrpop_norm_conditions.specs.Patterns.{has_reading, is_found}

-- what a condition says of the literal on its left and the text on its right
abbrev pub comparison : ConditionOp → Name → Name → Bool
comparison Equals literal right = bytes_eq literal right
comparison NotEquals literal right = not (bytes_eq literal right)
comparison Match literal right = is_found right literal
comparison NotMatch literal right = not (is_found right literal)

-- the text of a quoted literal; no other symbol has one, nor has a literal in a wrapper or in a group
abbrev pub literal_in : ClosedSymbol → Option Name
literal_in (terminal (quoted text)) = Some text
literal_in _ = None

-- The value of a condition whose left operand is bound to this symbol, and none if that is no quoted literal.
abbrev pub condition_value : ConditionOp → ClosedSymbol → Name → Option Bool
condition_value op left right = option_map (λ literal. comparison op literal right) (literal_in left)

-- the operator asks for a match of a pattern
abbrev pub asks_for_match : ConditionOp → Bool
asks_for_match Equals = false
asks_for_match NotEquals = false
asks_for_match Match = true
asks_for_match NotMatch = true

-- the condition asks for a match of a pattern that has no reading
abbrev pub lacks_reading : ConditionOp → Name → Bool
lacks_reading op right = asks_for_match op && not (has_reading right)
