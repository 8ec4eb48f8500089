use Rattle.std.proofs.Common.{[], ◌∷◌, codes}
use Rattle.lalrpop_norm_json.specs.Shapes.{one, text, condition_operator, span}
use Rattle.lalrpop_norm_json.proofs.Shaped.{no_record, told_none, told_some}
use Rattle.lalrpop_norm_json.proofs.tree.rules.TreeReadsCondition.read.Goals as goal

pub returns-in-None-clause-ok : goal.returns-in-None-clause-ok
returns-in-None-clause-ok c =
    let done = c.in_ok-fields.ensures.ok in
    record {
      means = done.0;
      read = done.1;
      made = no_record ((codes "lhs", one text) ∷ (codes "op", one condition_operator) ∷ (codes "rhs", one text) ∷ (codes "span", one span) ∷ []) done.0 (told_none _ _ _ c.in-None.is done.2);
    }

pub returns-in-Some-clause-ok : goal.returns-in-Some-clause-ok
returns-in-Some-clause-ok c =
    let done = c.in_ok-fields.ensures.ok in
    record {
      means = done.0;
      read = done.1;
      made = told_some _ _ _ _ c.in-Some.is done.2;
    }
