use Rattle.std.proofs.Common.{◌≡◌, ◌∷◌, ◌<◌, ◌≤◌, inl, inr, None, Some, Result, Ok, Err, refl, ap, ◌∙◌, arith, rules}
use Rattle.json.specs.Reads.{token_of}
use Rattle.serde_json.specs.Data.{string, boolean}
use Rattle.json_records.specs.Reading.{data_of}
use Rattle.json_records.proofs.Turns as turn
use Rattle.json_records.proofs.scalars.text.Goals as goal

pub returns-in-String-clause-ok : goal.returns-in-String-clause-ok
returns-in-String-clause-ok c = record {
  means = string c.in-String.text.now;
  read = ap (λ k. data_of c.args.depth (token_of k ∷ c.args.reader.now)) c.in-String.is ∙ turn.text_said c.args.depth c.in-String.text.now c.args.reader.now;
  made = refl;
}

pub returns : goal.returns
returns c =
    let done = c.in_ok-pass.ensures.ok in
    let other = turn.no_text c.args.first done.0 c.in_default.not-String (turn.starts c.args.depth (token_of c.args.first) c.args.reader.now c.pass.new.reader done.0 done.1) in
    record { ok = record { means = done.0; read = done.1; made = other }; err = λ refused. cc; shorter = c.in_ok-pass.ensures.shorter }
