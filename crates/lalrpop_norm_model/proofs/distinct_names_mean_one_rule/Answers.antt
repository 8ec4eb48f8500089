use Rattle.lalrpop_norm_model.proofs.FaithfulLemmas.{distinct_names_mean_one_rule}
use Rattle.lalrpop_norm_model.proofs.distinct_names_mean_one_rule.Goals as goal

pub returns : goal.returns
returns c = distinct_names_mean_one_rule
