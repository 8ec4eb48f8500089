use Rattle.std.proofs.Common.{◌≡◌, [], ◌∷◌, codes, rules, refl, ap, ◌∙◌}
use Rattle.serde_json.specs.Data.{object}
use Rattle.json_records.specs.Reading.{under}
use Rattle.lalrpop_norm_tree.specs.Types.{type_view}
use Rattle.lalrpop_norm_json.specs.TypeForms.{type_form}
use Rattle.lalrpop_norm_json.proofs.FormLemmas.{list_seen}
use Rattle.lalrpop_norm_json.proofs.MemberLemma.{member_is}
use Rattle.lalrpop_norm_json.proofs.TypesRead.{maybe_read}
use Rattle.lalrpop_norm_json.specs.Shapes as shape
use Rattle.lalrpop_norm_json.specs.Shapes.{one, maybe, many}
use Rattle.lalrpop_norm_json.proofs.Shaped.{no_record, told_none, told_some}
use Rattle.lalrpop_norm_json.proofs.tree.bounds.function_bound.Goals as goal

pub returns-in-None-clause-ok : goal.returns-in-None-clause-ok
returns-in-None-clause-ok c =
    let done = c.in_ok-fields.ensures.ok in
    record {
      means = done.0;
      read = done.1;
      made = no_record ((codes "forall", many shape.type_parameter) ∷ (codes "parameters", many shape.type) ∷ (codes "path", one shape.path) ∷ (codes "ret", maybe shape.type) ∷ []) done.0 (told_none _ _ _ c.in-None.is done.2);
    }

pub returns-in-Some-clause-ok : goal.returns-in-Some-clause-ok
returns-in-Some-clause-ok c =
    let done = c.in_ok-fields.ensures.ok in
    record {
      means = done.0;
      read = done.1;
      made = ap (under (codes "Fn")) (told_some _ _ _ _ c.in-Some.is done.2
          ∙ ap object (member_is _ refl (member_is _ (list_seen type_form type_view _) (member_is _ refl (member_is _ (maybe_read type_form type_view _) refl)))));
    }
