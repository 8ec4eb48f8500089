use Rattle.std.proofs.Common.{codes, ap, ◌∙◌}
use Rattle.json_records.specs.Reading.{under}
use Rattle.lalrpop_norm_json.specs.Shapes.{one, text}
use Rattle.lalrpop_norm_json.proofs.Shaped.{slot_is, told_none, told_some}
use Rattle.lalrpop_norm_json.proofs.tree.rules.TreeVariantActionKind.held.Goals as goal

pub returns-in-Some-clause-ok : goal.returns-in-Some-clause-ok
returns-in-Some-clause-ok c =
    let done = c.in_ok-read-in-User.ensures.ok in
    record {
      means = done.means;
      read = done.read;
      made = rw c.in-User.is (ap (under (codes "User")) (told_some _ _ _ _ c.in-Some.is done.made));
    }

pub returns-in-None-clause-ok : goal.returns-in-None-clause-ok
returns-in-None-clause-ok c =
    let done = c.in_ok-read-in-User.ensures.ok in
    record {
      means = done.means;
      read = done.read;
      made = rw c.in-User.is (slot_is (one text) done.means ∙ told_none _ _ _ c.in-None.is done.made);
    }

pub returns-in-Some-2-clause-ok : goal.returns-in-Some-2-clause-ok
returns-in-Some-2-clause-ok c =
    let done = c.in_ok-read-in-Fallible.ensures.ok in
    record {
      means = done.means;
      read = done.read;
      made = rw c.in-Fallible.is (ap (under (codes "Fallible")) (told_some _ _ _ _ c.in-Some-2.is done.made));
    }

pub returns-in-None-2-clause-ok : goal.returns-in-None-2-clause-ok
returns-in-None-2-clause-ok c =
    let done = c.in_ok-read-in-Fallible.ensures.ok in
    record {
      means = done.means;
      read = done.read;
      made = rw c.in-Fallible.is (slot_is (one text) done.means ∙ told_none _ _ _ c.in-None-2.is done.made);
    }
