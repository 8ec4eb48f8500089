use Rattle.std.proofs.Common.{◌≡◌, ◌∷◌, false, MatchOption, subst, refl, ap, ◌∙◌}
use Rattle.json.specs.Reads.{token_of}
use Rattle.serde_json.specs.Data.{null}
use Rattle.json_records.specs.Reading.{data_of}
use Rattle.json_records.proofs.Turns as turn
use Rattle.json_records.proofs.lists.read_maybe.Goals as goal

pub returns-in-Null-clause-ok : goal.returns-in-Null-clause-ok
returns-in-Null-clause-ok g c = record {
  means = null;
  read = ap (λ k. data_of c.args.depth (token_of k ∷ c.args.reader.now)) c.in-Null.is ∙ turn.null_said c.args.depth c.args.reader.now;
  made = refl;
}

pub returns-in-None : goal.returns-in-None
returns-in-None g c =
    let done = c.in_ok-value.ensures.ok in
    let fails = subst (λ o. MatchOption o (g.K.Reads.can done.means ≡ false) (λ x. done.means ≡ g.K.Reads.form x)) c.in-None.is done.made in
    let other = turn.no_null g.K.Reads.can c.args.first done.means c.in_default.not-Null (turn.starts c.args.depth (token_of c.args.first) c.args.reader.now c.read.new.reader done.means done.read) fails in
    record { ok = record { means = done.means; read = done.read; made = other }; err = λ refused. cc; shorter = c.in_ok-value.ensures.shorter }

pub returns-in_err-value : goal.returns-in_err-value
returns-in_err-value g c =
    let failed = c.from_residual in
    record {
      ok = turn.no_answer _ failed.result failed.ensures.0;
      err = λ refused. c.in_err-value.ensures.err (turn.same_error _ failed.ensures refused);
      shorter = turn.no_answer _ failed.result failed.ensures.0;
    }

pub returns-in-Null-clause-err : goal.returns-in-Null-clause-err
returns-in-Null-clause-err g c = turn.never_refused

pub returns-in-Some : goal.returns-in-Some
returns-in-Some g c =
    let done = c.in_ok-value.ensures.ok in
    record { ok = record { means = done.means; read = done.read; made = turn.held _ _ c.in-Some.is done.made }; err = turn.never_refused; shorter = c.in_ok-value.ensures.shorter }
