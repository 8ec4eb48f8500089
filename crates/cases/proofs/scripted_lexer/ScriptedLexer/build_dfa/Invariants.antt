use Rattle.std.proofs.Common.{◌≡◌, take}
use Rattle.lalrpop_norm_lexer.specs.Answers.{numbers}
use Rattle.cases.proofs.scripted_lexer.ScriptedLexer.build_dfa.Given as goal

abbrev pub invariant-loop-precedence : goal.invariant-loop-precedence
invariant-loop-precedence l = l.code.items ≡ numbers (take l.precedence-index l.precedences)
