use Rattle.std.proofs.Common.{ap}
use Rattle.std.proofs.lemmas.Result.{IfOk-from_err}
use Rattle.lalrpop_norm_tree.specs.Items.{match_item, extern_item, intern_item, rule_item, use_item}
use Rattle.lalrpop_norm_tree.proofs.items.GrammarItem.clone.Goals as goal

pub returns-in_err-clone-in-ExternToken : goal.returns-in_err-clone-in-ExternToken
returns-in_err-clone-in-ExternToken c = IfOk-from_err _ _ c.from_residual-in_err-clone-in-ExternToken.ensures.0

pub returns-in_err-clone-in-InternToken : goal.returns-in_err-clone-in-InternToken
returns-in_err-clone-in-InternToken c = IfOk-from_err _ _ c.from_residual-in_err-clone-in-InternToken.ensures.0

pub returns-in_err-clone-in-MatchToken : goal.returns-in_err-clone-in-MatchToken
returns-in_err-clone-in-MatchToken c = IfOk-from_err _ _ c.from_residual.ensures.0

pub returns-in_err-clone-in-Nonterminal : goal.returns-in_err-clone-in-Nonterminal
returns-in_err-clone-in-Nonterminal c = IfOk-from_err _ _ c.from_residual-in_err-clone-in-Nonterminal.ensures.0

pub returns-in_err-clone-in-Use : goal.returns-in_err-clone-in-Use
returns-in_err-clone-in-Use c = IfOk-from_err _ _ c.from_residual-in_err-clone-in-Use.ensures.0

pub returns-in_ok-clone-in-MatchToken : goal.returns-in_ok-clone-in-MatchToken
returns-in_ok-clone-in-MatchToken c = rw (c.in-MatchToken.is) (ap match_item c.in_ok-clone-in-MatchToken.ensures.cases)

pub returns-in_ok-clone-in-ExternToken : goal.returns-in_ok-clone-in-ExternToken
returns-in_ok-clone-in-ExternToken c = rw (c.in-ExternToken.is) (ap extern_item c.in_ok-clone-in-ExternToken.ensures)

pub returns-in_ok-clone-in-InternToken : goal.returns-in_ok-clone-in-InternToken
returns-in_ok-clone-in-InternToken c = rw (c.in-InternToken.is) (ap intern_item c.in_ok-clone-in-InternToken.ensures.cases)

pub returns-in_ok-clone-in-Nonterminal : goal.returns-in_ok-clone-in-Nonterminal
returns-in_ok-clone-in-Nonterminal c = rw (c.in-Nonterminal.is) (ap rule_item c.in_ok-clone-in-Nonterminal.ensures.cases)

pub returns-in_ok-clone-in-Use : goal.returns-in_ok-clone-in-Use
returns-in_ok-clone-in-Use c = rw (c.in-Use.is) (ap use_item c.in_ok-clone-in-Use.ensures.cases)
