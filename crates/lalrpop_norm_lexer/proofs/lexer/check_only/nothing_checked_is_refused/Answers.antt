use Rattle.lalrpop_norm_lexer.proofs.CheckedLemmas.{none_refused_of_checked}
use Rattle.lalrpop_norm_lexer.proofs.lexer.check_only.nothing_checked_is_refused.Goals as goal

pub returns : goal.returns
returns c = none_refused_of_checked
