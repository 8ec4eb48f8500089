use Rattle.std.proofs.Common.{◌∙◌, sym}
use Rattle.lalrpop_norm_explain.specs.TracedGrammars.{grammar_of}
use Rattle.lalrpop_norm_explain.specs.Trees.{lowered_view}
use Rattle.lalrpop_norm_explain.proofs.Steps.{begun_none, begun_there}
use Rattle.lalrpop_norm_explain.proofs.reading.explain_begun.Goals as goal

pub returns-in-Err : goal.returns-in-Err
returns-in-Err c roots is = begun_there roots (grammar_of c.args.traced.now) (lowered_view c.args.tree.now) c.turned.result (sym is ∙ c.if-not-begun.false) (c.turned.ensures _ c.in-Err.ensures)

pub returns-in-Ok : goal.returns-in-Ok
returns-in-Ok c roots is = (begun_none roots (grammar_of c.args.traced.now) (lowered_view c.args.tree.now) (sym is ∙ c.if-not-begun.false) c.in-Ok.ensures.0, c.in-Ok.ensures.1)
