use Rattle.std.proofs.Common.{sym, ◌∙◌}
use Rattle.lalrpop_norm_macro_expand_rules.proofs.ArgumentLemmas.{argument_bound}
use Rattle.lalrpop_norm_macro_expand_rules.proofs.substituted.bound_to.Goals as goal

pub returns : goal.returns
returns c = c.kind_bound.ensures ∙ sym (argument_bound c.args.bindings.now c.args.name.now.0 c.requires.numbers)
