use Rattle.std.proofs.Common.{◌≡◌, ◌∷◌, ◌<◌, ◌≤◌, inl, inr, None, Some, Result, Ok, Err, refl, ap, ◌∙◌, arith, rules}
use Rattle.json.specs.Reads.{token_of}
use Rattle.json_records.specs.Reading.{data_of}
use Rattle.json_records.proofs.Turns as turn
use Rattle.json_records.proofs.scalars.natural.Goals as goal

pub returns-in-Some : goal.returns-in-Some
returns-in-Some c =
    let read = turn.natural_read c.args.depth c.in-Number.text.now c.args.reader.now c.in-Some.natural c.in-Some.ensures in
    record {
      ok = rw c.in-Number.is read;
      err = λ refused. cc;
      shorter = omega arith;
    }

pub returns-in-None : goal.returns-in-None
returns-in-None c = record {
  ok = tt;
  err = λ refused. ap (λ k. data_of c.args.depth (token_of k ∷ c.args.reader.now)) c.in-Number.is ∙ turn.number_lost c.args.depth c.in-Number.text.now c.args.reader.now (turn.number_out_of_range c.in-Number.text.now c.in-None.ensures);
  shorter = tt;
}

pub returns : goal.returns
returns c =
    let done = c.in_ok-pass.ensures.ok in
    let other = turn.no_natural c.args.first done.0 c.in_default.not-Number (turn.starts c.args.depth (token_of c.args.first) c.args.reader.now c.pass.new.reader done.0 done.1) in
    record { ok = record { means = done.0; read = done.1; made = other }; err = λ refused. cc; shorter = c.in_ok-pass.ensures.shorter }
