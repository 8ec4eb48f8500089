use Rattle.std.proofs.Common.{sym, ap}
use Rattle.lalrpop_norm_tree.specs.Accessors.{rule_of}
use Rattle.lalrpop_norm_tree.specs.Items.{item_view}
use Rattle.lalrpop_norm_tree.proofs.items.GrammarItem.into_nonterminal.Goals as goal

pub returns-in-Nonterminal : goal.returns-in-Nonterminal
returns-in-Nonterminal c = record { rule = ap item_view c.in-Nonterminal.is; other = tt }

pub returns-in-MatchToken : goal.returns-in-MatchToken
returns-in-MatchToken c = record { rule = tt; other = (ap item_view (sym c.in-MatchToken.is), ap (λ i. rule_of (item_view i)) c.in-MatchToken.is) }

pub returns-in-ExternToken : goal.returns-in-ExternToken
returns-in-ExternToken c = record { rule = tt; other = (ap item_view (sym c.in-ExternToken.is), ap (λ i. rule_of (item_view i)) c.in-ExternToken.is) }

pub returns-in-InternToken : goal.returns-in-InternToken
returns-in-InternToken c = record { rule = tt; other = (ap item_view (sym c.in-InternToken.is), ap (λ i. rule_of (item_view i)) c.in-InternToken.is) }

pub returns-in-Use : goal.returns-in-Use
returns-in-Use c = record { rule = tt; other = (ap item_view (sym c.in-Use.is), ap (λ i. rule_of (item_view i)) c.in-Use.is) }
