-- The relations of a lexer, which are the lists that it is built from.
use Rattle.std.specs.Prelude.{◌≡◌}
use Rattle.std.specs.List.{Any, Contains}
use Rattle.lalrpop_norm_tree_names.specs.declared.names.TerminalLiteral.{TerminalLiteral}
use Rattle.cases.specs.declared.scripted_lexer.Scripted.{Scripted}
use Rattle.lalrpop_norm_model.specs.Lexers.{Lexer}
use Rattle.lalrpop_norm_lexer.specs.Answers.{feature_of}

-- A text is bad, a regex has a feature, and two indexes are ambiguous, where a list says so. The regex of a literal is the
-- literal, and an automaton has the precedences for its code.
abbrev pub of_lists : Scripted → Lexer TerminalLiteral
of_lists s = record {
  IsBad = Contains s.bad.items;
  IsRegexOf = λ literal regex. regex ≡ literal;
  HasFeature = λ regex feature. Any (λ f. (f.literal ≡ regex) × (feature_of f.error ≡ feature)) s.features.items;
  AreAmbiguous = λ regexes precedences i j. Contains s.ambiguous.items (record { first = i; second = j });
  IsBuilt = λ regexes precedences code. code ≡ precedences;
}
