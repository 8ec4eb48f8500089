use Rattle.lalrpop_norm_conditions.proofs.ReadingLemmas.{refused_without_reading}
use Rattle.lalrpop_norm_lexer.proofs.lexer.check_only.hir_of.Goals as goal

pub returns-in_default : goal.returns-in_default
returns-in_default c =
    refused_without_reading c.args.pattern.now c.in-Err.error.kind (rw c.default.ensures at c.in-Err.ensures.err) c.in_default.not-OutOfMemory
