use Rattle.std.proofs.Common.{codes, ap, ◌∙◌}
use Rattle.json_records.specs.Reading.{under}
use Rattle.lalrpop_norm_tree_parts.specs.Paths.{path_view}
use Rattle.lalrpop_norm_json.specs.Forms.{path_form}
use Rattle.lalrpop_norm_json.specs.Shapes.{maybe, path, one}
use Rattle.lalrpop_norm_json.proofs.ReadForms.{maybe_read}
use Rattle.lalrpop_norm_json.proofs.Shaped.{slot_is, told_none, told_some}
use Rattle.lalrpop_norm_json.proofs.tree.rules.TreeVariantVisibility.held.Goals as goal

pub returns-in-Some-clause-ok : goal.returns-in-Some-clause-ok
returns-in-Some-clause-ok c =
    let done = c.in_ok-read-in-Pub.ensures.ok in
    record {
      means = done.means;
      read = done.read;
      made = rw c.in-Pub.is (ap (under (codes "Pub")) (told_some _ _ _ _ c.in-Some.is done.made ∙ maybe_read path_form path_view _));
    }

pub returns-in-None-clause-ok : goal.returns-in-None-clause-ok
returns-in-None-clause-ok c =
    let done = c.in_ok-read-in-Pub.ensures.ok in
    record {
      means = done.means;
      read = done.read;
      made = rw c.in-Pub.is (slot_is (maybe path) done.means ∙ told_none _ _ _ c.in-None.is done.made);
    }

pub returns-in-Some-2-clause-ok : goal.returns-in-Some-2-clause-ok
returns-in-Some-2-clause-ok c =
    let done = c.in_ok-read-in-PubIn.ensures.ok in
    record {
      means = done.means;
      read = done.read;
      made = rw c.in-PubIn.is (ap (under (codes "PubIn")) (told_some _ _ _ _ c.in-Some-2.is done.made));
    }

pub returns-in-None-2-clause-ok : goal.returns-in-None-2-clause-ok
returns-in-None-2-clause-ok c =
    let done = c.in_ok-read-in-PubIn.ensures.ok in
    record {
      means = done.means;
      read = done.read;
      made = rw c.in-PubIn.is (slot_is (one path) done.means ∙ told_none _ _ _ c.in-None-2.is done.made);
    }
