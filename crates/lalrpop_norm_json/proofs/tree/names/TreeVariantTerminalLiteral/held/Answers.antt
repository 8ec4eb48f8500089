use Rattle.std.proofs.Common.{[], ◌∷◌, codes, ap, ◌∙◌}
use Rattle.json_records.specs.Reading.{under}
use Rattle.lalrpop_norm_json.specs.Shapes.{field, one, text}
use Rattle.lalrpop_norm_json.proofs.Shaped.{no_case, slot_is, told_none, told_some}
use Rattle.lalrpop_norm_json.proofs.tree.names.TreeVariantTerminalLiteral.held.Goals as goal

pub returns-in-Some-clause-ok : goal.returns-in-Some-clause-ok
returns-in-Some-clause-ok c =
    let done = c.in_ok-read-in-Quoted.ensures.ok in
    record {
      means = done.means;
      read = done.read;
      made = rw c.in-Quoted.is (ap (under (codes "Quoted")) (told_some _ _ _ _ c.in-Some.is done.made));
    }

pub returns-in-None-clause-ok : goal.returns-in-None-clause-ok
returns-in-None-clause-ok c =
    let done = c.in_ok-read-in-Quoted.ensures.ok in
    record {
      means = done.means;
      read = done.read;
      made = rw c.in-Quoted.is (slot_is (one text) done.means ∙ told_none _ _ _ c.in-None.is done.made);
    }

pub returns-in-Some-2-clause-ok : goal.returns-in-Some-2-clause-ok
returns-in-Some-2-clause-ok c =
    let done = c.in_ok-read-in-Regex.ensures.ok in
    record {
      means = done.means;
      read = done.read;
      made = rw c.in-Regex.is (ap (under (codes "Regex")) (told_some _ _ _ _ c.in-Some-2.is done.made));
    }

pub returns-in-None-2-clause-ok : goal.returns-in-None-2-clause-ok
returns-in-None-2-clause-ok c =
    let done = c.in_ok-read-in-Regex.ensures.ok in
    record {
      means = done.means;
      read = done.read;
      made = rw c.in-Regex.is (slot_is (one text) done.means ∙ told_none _ _ _ c.in-None-2.is done.made);
    }

pub returns-in_ok-pass-in_default-clause-ok : goal.returns-in_ok-pass-in_default-clause-ok
returns-in_ok-pass-in_default-clause-ok c =
    let done = c.in_ok-pass-in_default.ensures.ok in
    record {
      means = done.0;
      read = done.1;
      made = no_case [] ((codes "Quoted", field (one text)) ∷ (codes "Regex", field (one text)) ∷ []) c.args.name.now done.0 (c.in_default.not-Quoted, (c.in_default.not-Regex, tt));
    }
