use Rattle.std.proofs.Common.{◌≡◌, ◌∷◌, ◌<◌, ◌≤◌, inl, inr, None, Some, Result, Ok, Err, refl, ap, ◌∙◌, arith, rules}
use Rattle.json.specs.Reads.{token_of}
use Rattle.serde_json.specs.Data.{string, boolean}
use Rattle.json_records.specs.Reading.{data_of}
use Rattle.json_records.proofs.Turns as turn
use Rattle.json_records.proofs.scalars.truth.Goals as goal

pub returns-in-Bool-clause-ok : goal.returns-in-Bool-clause-ok
returns-in-Bool-clause-ok c = record {
  means = boolean c.in-Bool.truth;
  read = ap (λ k. data_of c.args.depth (token_of k ∷ c.args.reader.now)) c.in-Bool.is ∙ turn.truth_said c.args.depth c.in-Bool.truth c.args.reader.now;
  made = refl;
}

pub returns : goal.returns
returns c =
    let done = c.in_ok-pass.ensures.ok in
    let other = turn.no_truth c.args.first done.0 c.in_default.not-Bool (turn.starts c.args.depth (token_of c.args.first) c.args.reader.now c.pass.new.reader done.0 done.1) in
    record { ok = record { means = done.0; read = done.1; made = other }; err = λ refused. cc; shorter = c.in_ok-pass.ensures.shorter }
