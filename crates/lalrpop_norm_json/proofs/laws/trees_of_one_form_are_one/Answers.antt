use Rattle.std.proofs.Common.{sym, ◌∙◌}
use Rattle.lalrpop_norm_json.proofs.GrammarBack.{grammar_back}
use Rattle.lalrpop_norm_json.proofs.laws.trees_of_one_form_are_one.Goals as goal

pub returns : goal.returns
returns c g h d e f = sym (grammar_back g d e) ∙ grammar_back h d f
