use Rattle.lalrpop_norm_lexer.proofs.CheckedLemmas.{apart}
use Rattle.lalrpop_norm_lexer.proofs.lexer.check_only.no_bad_text_is_read.Goals as goal

pub returns : goal.returns
returns c = apart
