use Rattle.lalrpop_norm_tree.specs.Items as written
use Rattle.lalrpop_norm_lower.proofs.grammars.lower_rest.Goals as goal

pub returns-clause-lowered : goal.returns-clause-lowered
returns-clause-lowered c =
    λ fs carried.
    c.in_ok-lowered_with.ensures fs (written.grammar_view c.args.grammar) carried
    (rw (c.as_str.ensures.value, c.replace-items.ensures.value) at c.in_ok-made.ensures.made)
