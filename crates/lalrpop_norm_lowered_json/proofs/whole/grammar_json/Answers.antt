use Rattle.std.proofs.Common.{◌∙◌, None}
use Rattle.lalrpop_norm_repr.specs.Lowered.{lowered_grammar_view}
use Rattle.lalrpop_norm_lowered_json.specs.WholeForms.{whole_form}
use Rattle.lalrpop_norm_lowered_json.proofs.Texts.{printed}
use Rattle.lalrpop_norm_lowered_json.proofs.whole.grammar_json.Goals as goal

pub returns : goal.returns
returns c =
    printed (whole_form None (lowered_grammar_view c.args.grammar.now)) c.into_inner.result.items c.put_with_origins.new.out.before c.new-out.result.tokens
    c.put_with_origins.new.out.tokens c.into_inner.ensures.items
    (c.put_with_origins.ensures.before ∙ c.new-out.ensures.before ∙ c.in_ok-with_capacity.ensures.items) c.in_ok-put_with_origins.ensures.ok c.new-out.ensures.tokens
