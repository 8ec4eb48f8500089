-- What the answers of a lexer's calls say, unless an allocation fails.
use Rattle.std.specs.Prelude.{ℕ, List, map, Option, Some, None, Result, Ok, Err}
use Rattle.shared_text.specs.declared.atom.NoMemory.{NoMemory}
use Rattle.lalrpop_norm_model.specs.Lexers.{Feature, named_captures, non_greedy, look_around, byte_regex, Read, regex, bad}
use Rattle.lalrpop_norm_model.specs.Lexers.{Built, automaton, unsupported, ambiguous}
use Rattle.lalrpop_norm_tree.specs.declared.items.Dfa.{Dfa}
use Rattle.lalrpop_norm_lexer.specs.declared.lexer.answers.Precedence.{Precedence}
use Rattle.lalrpop_norm_lexer.specs.declared.lexer.answers.RegexError.{RegexError}
use Rattle.lalrpop_norm_lexer.specs.declared.lexer.answers.RegexError.TheVariants as read
use Rattle.lalrpop_norm_lexer.specs.declared.lexer.answers.DfaConstructionError.{DfaConstructionError}
use Rattle.lalrpop_norm_lexer.specs.declared.lexer.answers.DfaConstructionError.TheVariants as build
use Rattle.lalrpop_norm_lexer.specs.declared.lexer.answers.NfaConstructionError as features
use Rattle.lalrpop_norm_lexer.specs.declared.lexer.answers.NfaConstructionError.TheVariants.{NamedCaptures, NonGreedy}
use Rattle.lalrpop_norm_lexer.specs.declared.lexer.answers.NfaConstructionError.TheVariants.{LookAround, ByteRegex}

-- a literal's text is read
abbrev pub literal_answer : {R : Type 0} → Result R NoMemory → Option (Read R)
literal_answer (Ok r) = Some (regex r)
literal_answer (Err e) = None

-- a pattern's text is read or rejected
abbrev pub pattern_answer : {R : Type 0} → Result R RegexError → Option (Read R)
pattern_answer (Ok r) = Some (regex r)
pattern_answer (Err (read.Refused message)) = Some bad
pattern_answer (Err read.Memory) = None

abbrev pub feature_of : features.NfaConstructionError → Feature
feature_of NamedCaptures = named_captures
feature_of NonGreedy = non_greedy
feature_of LookAround = look_around
feature_of ByteRegex = byte_regex

-- an automaton is built or rejected
abbrev pub building_answer : Result Dfa DfaConstructionError → Option Built
building_answer (Ok d) = Some (automaton d.code.items)
building_answer (Err (build.NfaConstructionError index error)) = Some (unsupported index (feature_of error))
building_answer (Err (build.Ambiguity match0 match1)) = Some (ambiguous match0 match1)
building_answer (Err build.Memory) = None

-- the precedences as numbers
abbrev pub numbers : List Precedence → List ℕ
numbers = map (λ p. p.0)
