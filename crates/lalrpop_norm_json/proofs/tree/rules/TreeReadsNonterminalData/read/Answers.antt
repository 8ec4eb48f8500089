use Rattle.std.proofs.Common.{[], ◌∷◌, codes, refl, ap, ◌∙◌}
use Rattle.serde_json.specs.Data.{array, object}
use Rattle.lalrpop_norm_tree.specs.Types.{type_view}
use Rattle.lalrpop_norm_tree.specs.Items.{alternative_view}
use Rattle.lalrpop_norm_json.specs.TypeForms.{type_form}
use Rattle.lalrpop_norm_json.specs.ItemForms.{alternative_form}
use Rattle.lalrpop_norm_json.specs.Shapes.{many, alternative, text, attribute, one, span, maybe, type, visibility}
use Rattle.lalrpop_norm_json.proofs.FormLemmas.{list_seen, attributes_items}
use Rattle.lalrpop_norm_json.proofs.ReadForms.{maybe_read}
use Rattle.lalrpop_norm_json.proofs.MemberLemma.{member_is}
use Rattle.lalrpop_norm_json.proofs.Shaped.{no_record, told_none, told_some}
use Rattle.lalrpop_norm_json.proofs.tree.rules.TreeReadsNonterminalData.read.Goals as goal

pub returns-in-None-clause-ok : goal.returns-in-None-clause-ok
returns-in-None-clause-ok c =
    let done = c.in_ok-fields.ensures.ok in
    record {
      means = done.0;
      read = done.1;
      made = no_record ((codes "alternatives", many alternative) ∷ (codes "args", many text) ∷ (codes "attributes", many attribute) ∷ (codes "name", one text) ∷ (codes "span", one span) ∷ (codes "type_decl", maybe type) ∷ (codes "visibility", one visibility) ∷ []) done.0 (told_none _ _ _ c.in-None.is done.2);
    }

pub returns-in-Some-clause-ok : goal.returns-in-Some-clause-ok
returns-in-Some-clause-ok c =
    let done = c.in_ok-fields.ensures.ok in
    record {
      means = done.0;
      read = done.1;
      made = told_some _ _ _ _ c.in-Some.is done.2 ∙ ap object (member_is _ (list_seen alternative_form alternative_view _) (
          member_is _ refl (
          member_is _ (ap array (attributes_items _)) (
          member_is _ refl (
          member_is _ refl (
          member_is _ (maybe_read type_form type_view _) (
          member_is _ refl refl)))))));
    }
