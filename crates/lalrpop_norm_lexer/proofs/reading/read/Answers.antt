use Rattle.std.proofs.Common.{List, ℕ, subst}
use Rattle.std.specs.Prelude.{IfSome}
use Rattle.lalrpop_norm_tree_names.specs.declared.names.TerminalLiteral.TheVariants.{Regex}
use Rattle.lalrpop_norm_lexer.specs.Answers.{pattern_answer}
use Rattle.lalrpop_norm_lexer.specs.Entries.{KeepsReading}
use Rattle.lalrpop_norm_lexer.proofs.reading.read.Goals as goal

pub returns-in-Regex : goal.returns-in-Regex
returns-in-Regex g c =
    let Keeps = λ (text : List ℕ). IfSome (pattern_answer c.parse_regex.result) (KeepsReading (g.L.Lexer.relations c.args.lexer.now) (Regex text)) in
    rw c.in-Regex.is (subst Keeps (search) c.parse_regex.ensures)
