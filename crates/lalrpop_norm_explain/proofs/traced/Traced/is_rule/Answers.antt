use Rattle.std.proofs.Common.{◌∙◌}
use Rattle.lalrpop_norm_explain.proofs.Roots.{found_among}
use Rattle.lalrpop_norm_explain.proofs.traced.Traced.is_rule.Goals as goal

pub returns : goal.returns
returns c = c.contains.ensures ∙ found_among c.args.name.now c.args.self.now.rules.keys
