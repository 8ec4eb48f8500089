use Rattle.std.proofs.Common.{[], ◌∷◌, codes, refl, ap, ◌∙◌}
use Rattle.serde_json.specs.Data.{object}
use Rattle.lalrpop_norm_tree.specs.Items.{match_contents_view}
use Rattle.lalrpop_norm_json.specs.ItemForms.{match_contents_form}
use Rattle.lalrpop_norm_json.specs.Shapes.{many, match_contents, one, span}
use Rattle.lalrpop_norm_json.proofs.FormLemmas.{list_seen}
use Rattle.lalrpop_norm_json.proofs.MemberLemma.{member_is}
use Rattle.lalrpop_norm_json.proofs.Shaped.{no_record, told_none, told_some}
use Rattle.lalrpop_norm_json.proofs.tree.tokens.TreeReadsMatchToken.read.Goals as goal

pub returns-in-None-clause-ok : goal.returns-in-None-clause-ok
returns-in-None-clause-ok c =
    let done = c.in_ok-fields.ensures.ok in
    record {
      means = done.0;
      read = done.1;
      made = no_record ((codes "contents", many match_contents) ∷ (codes "span", one span) ∷ []) done.0 (told_none _ _ _ c.in-None.is done.2);
    }

pub returns-in-Some-clause-ok : goal.returns-in-Some-clause-ok
returns-in-Some-clause-ok c =
    let done = c.in_ok-fields.ensures.ok in
    record {
      means = done.0;
      read = done.1;
      made = told_some _ _ _ _ c.in-Some.is done.2 ∙ ap object (member_is _ (list_seen match_contents_form match_contents_view _) (
          member_is _ refl refl));
    }
