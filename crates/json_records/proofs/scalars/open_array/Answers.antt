use Rattle.std.proofs.Common.{◌≡◌, ◌∷◌, ◌<◌, ◌≤◌, inl, inr, None, Some, Result, Ok, Err, refl, ap, ◌∙◌, arith, rules}
use Rattle.json.specs.Reads.{token_of}
use Rattle.json_records.specs.Reading.{data_of}
use Rattle.json_records.proofs.Turns as turn
use Rattle.json_records.proofs.scalars.open_array.Goals as goal

pub returns-then-depth-eq0-clause-err : goal.returns-then-depth-eq0-clause-err
returns-then-depth-eq0-clause-err c refused = turn.no_level (token_of c.args.first) c.args.reader.now c.args.depth (omega arith) (inl (ap token_of c.in-BeginArray.is))

pub returns : goal.returns
returns c =
    let done = c.in_ok-pass.ensures.ok in
    let other = turn.no_array c.args.first done.0 c.in_default.not-BeginArray (turn.starts c.args.depth (token_of c.args.first) c.args.reader.now c.pass.new.reader done.0 done.1) in
    record { ok = (done.0, done.1, other); err = λ refused. cc; shorter = c.in_ok-pass.ensures.shorter }
