use Rattle.std.proofs.Common.{sym}
use Rattle.cases.proofs.ScriptedLemmas.{feature_found}
use Rattle.cases.proofs.scripted_lexer.Scripted.first_feature.Goals as goal
use Rattle.lalrpop_norm_model.proofs.SameTerminalLemmas.{literals_same}

pub returns-then-is_same : goal.returns-then-is_same
returns-then-is_same c =
    let listed = c.deref-feature-items.ensures.value in
    let same = literals_same c.feature-item.result.literal c.index-regexes-index.result (sym (rw c.if-is_same.true at c.is_same.ensures)) in
    feature_found c.args.self.now c.args.regexes.now c.loop-index.index c.loop-feature.feature-index c.index-regexes-index.result
    c.feature-item.result c.loop-index-test.true c.index-regexes-index.is (rw listed at c.loop-feature-test.true) (rw listed at c.feature-item.is)
    same
