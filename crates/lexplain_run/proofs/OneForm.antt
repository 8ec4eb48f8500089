-- Two grammars of one form are the same.
use Rattle.std.proofs.Common.{sym, ◌∙◌}
use Rattle.lalrpop_norm_json.proofs.GrammarBack.{grammar_back}
use Rattle.lexplain_run.proofs.ThereAndBack.{FormsAreOne}

pub one_form : FormsAreOne
one_form g h d e f = sym (grammar_back g d e) ∙ grammar_back h d f
