use Rattle.std.proofs.Common.{[], ◌∷◌, codes, refl, ap, ◌∙◌}
use Rattle.serde_json.specs.Data.{array, object}
use Rattle.lalrpop_norm_tree.specs.Items.{action_view}
use Rattle.lalrpop_norm_json.specs.ItemForms.{action_form, condition_form}
use Rattle.lalrpop_norm_json.specs.Shapes.{maybe, action, many, attribute, condition, one, group, span}
use Rattle.lalrpop_norm_json.proofs.FormLemmas.{attributes_items}
use Rattle.lalrpop_norm_json.proofs.ReadForms.{maybe_read, maybe_same}
use Rattle.lalrpop_norm_json.proofs.MemberLemma.{member_is}
use Rattle.lalrpop_norm_json.proofs.Shaped.{no_record, told_none, told_some}
use Rattle.lalrpop_norm_json.proofs.tree.rules.TreeReadsAlternative.read.Goals as goal

pub returns-in-None-clause-ok : goal.returns-in-None-clause-ok
returns-in-None-clause-ok c =
    let done = c.in_ok-fields.ensures.ok in
    record {
      means = done.0;
      read = done.1;
      made = no_record ((codes "action", maybe action) ∷ (codes "attributes", many attribute) ∷ (codes "condition", maybe condition) ∷ (codes "expr", one group) ∷ (codes "span", one span) ∷ []) done.0 (told_none _ _ _ c.in-None.is done.2);
    }

pub returns-in-Some-clause-ok : goal.returns-in-Some-clause-ok
returns-in-Some-clause-ok c =
    let done = c.in_ok-fields.ensures.ok in
    record {
      means = done.0;
      read = done.1;
      made = told_some _ _ _ _ c.in-Some.is done.2 ∙ ap object (member_is _ (maybe_read action_form action_view _) (
          member_is _ (ap array (attributes_items _)) (
          member_is _ (maybe_same condition_form _) (
          member_is _ refl (
          member_is _ refl refl)))));
    }
