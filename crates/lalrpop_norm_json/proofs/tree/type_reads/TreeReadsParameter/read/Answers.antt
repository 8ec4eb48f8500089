use Rattle.std.proofs.Common.{◌≡◌, [], ◌∷◌, codes, rules, refl, ap, ◌∙◌}
use Rattle.lalrpop_norm_json.specs.Shapes as shape
use Rattle.lalrpop_norm_json.specs.Shapes.{one}
use Rattle.lalrpop_norm_json.proofs.Shaped.{no_record, told_none, told_some}
use Rattle.lalrpop_norm_json.proofs.tree.type_reads.TreeReadsParameter.read.Goals as goal

pub returns-in-None-clause-ok : goal.returns-in-None-clause-ok
returns-in-None-clause-ok c =
    let done = c.in_ok-fields.ensures.ok in
    record {
      means = done.0;
      read = done.1;
      made = no_record ((codes "name", one shape.text) ∷ (codes "ty", one shape.type) ∷ []) done.0 (told_none _ _ _ c.in-None.is done.2);
    }

pub returns-in-Some-clause-ok : goal.returns-in-Some-clause-ok
returns-in-Some-clause-ok c =
    let done = c.in_ok-fields.ensures.ok in
    record {
      means = done.0;
      read = done.1;
      made = told_some _ _ _ _ c.in-Some.is done.2;
    }
