use Rattle.lalrpop_norm.proofs.OneRuleLemmas.{each_class_one}
use Rattle.lalrpop_norm.proofs.laws.each_class_has_one_rule.Goals as goal

pub returns : goal.returns
returns c = each_class_one
