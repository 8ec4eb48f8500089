use Rattle.std.proofs.Common.{◌≡◌, map, false, MatchOption, subst, ◌∙◌}
use Rattle.std.proofs.lemmas.List.{length-map}
use Rattle.serde_json.specs.Data.{Members, object}
use Rattle.json_records.specs.Fields.{AreHeld, is_record}
use Rattle.json_records.proofs.Rows as row
use Rattle.json_records.proofs.Turns as turn
use Rattle.json_records.proofs.records.read_record.Goals as goal

pub returns-in-Some-clause-ok : goal.returns-in-Some-clause-ok
returns-in-Some-clause-ok g c =
    let names = map (λ s. s.now) c.args.names.now in
    let done = c.in_ok-fields.ensures.ok in
    let held = subst (λ o. MatchOption o (is_record names g.F.Fields.tests done.0 ≡ false) (λ f. (ms : Members) × (done.0 ≡ object ms) × AreHeld names g.F.Fields.tests (g.F.Fields.held f) ms)) c.in-Some.is done.2 in
    (done.0, done.1, row.record_made names g.F.Fields.tests (g.F.Fields.held c.in-Some.fields) done.0 g.F.Fields.means c.values.result (length-map c.args.names.now (λ s. s.now) ∙ c.requires.fields) c.requires.order held c.values.ensures)

pub returns-in_err-fields : goal.returns-in_err-fields
returns-in_err-fields g c =
    let failed = c.from_residual in
    record {
      ok = turn.no_answer _ failed.result failed.ensures.0;
      err = λ refused. c.in_err-fields.ensures.err (turn.same_error _ failed.ensures refused);
      shorter = turn.no_answer _ failed.result failed.ensures.0;
    }

pub returns-in-Some-clause-err : goal.returns-in-Some-clause-err
returns-in-Some-clause-err g c = turn.never_refused

pub returns-in-Some-clause-shorter : goal.returns-in-Some-clause-shorter
returns-in-Some-clause-shorter g c = c.in_ok-fields.ensures.shorter

pub returns-in-None : goal.returns-in-None
returns-in-None g c =
    let done = c.in_ok-fields.ensures.ok in
    record { ok = (done.0, done.1, turn.not_held _ _ c.in-None.is done.2); err = turn.never_refused; shorter = c.in_ok-fields.ensures.shorter }
