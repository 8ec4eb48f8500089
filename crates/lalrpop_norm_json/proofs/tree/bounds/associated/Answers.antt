use Rattle.std.proofs.Common.{◌≡◌, [], ◌∷◌, codes, rules, refl, ap, ◌∙◌}
use Rattle.json_records.specs.Reading.{under}
use Rattle.lalrpop_norm_json.specs.Shapes as shape
use Rattle.lalrpop_norm_json.specs.Shapes.{one}
use Rattle.lalrpop_norm_json.proofs.Shaped.{told_none, told_some}
use Rattle.lalrpop_norm_json.proofs.TypesRead.{no_row}
use Rattle.lalrpop_norm_json.proofs.tree.bounds.associated.Goals as goal

pub returns-in-None-clause-ok : goal.returns-in-None-clause-ok
returns-in-None-clause-ok c =
    let done = c.in_ok-name.ensures.ok in
    record {
      means = done.means;
      read = done.read;
      made = no_row (one shape.text ∷ one shape.type ∷ []) done.means (told_none _ _ _ c.in-None.is done.made);
    }

pub returns-in-Some-clause-ok : goal.returns-in-Some-clause-ok
returns-in-Some-clause-ok c =
    let done = c.in_ok-name.ensures.ok in
    record {
      means = done.means;
      read = done.read;
      made = ap (under (codes "Associated")) (told_some _ _ _ _ c.in-Some.is done.made);
    }
