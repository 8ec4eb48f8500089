use Rattle.std.proofs.Common.{◌∷◌}
use Rattle.json.specs.Reads.{token_of}
use Rattle.serde_json.specs.Data.{number, unsigned}
use Rattle.json_records.specs.Reading.{is_natural}
use Rattle.json_records.proofs.Turns as turn
use Rattle.json_records.proofs.plain.AnyReadsUsize.read.Goals as goal

pub returns-in_err-n : goal.returns-in_err-n
returns-in_err-n g c =
    let failed = c.from_residual in
    record {
      ok = turn.no_answer _ failed.result failed.ensures.0;
      err = λ refused. c.in_err-n.ensures.err (turn.same_error _ failed.ensures refused);
      shorter = turn.no_answer _ failed.result failed.ensures.0;
    }

pub returns-in-Some : goal.returns-in-Some
returns-in-Some g c = record { ok = turn.read_same (λ n. number (unsigned n)) is_natural c.args.depth (token_of c.args.first ∷ c.args.reader.now) c.natural.new.reader c.in-Some.is c.in_ok-n.ensures.ok; err = turn.never_refused; shorter = c.in_ok-n.ensures.shorter }

pub returns-in-None : goal.returns-in-None
returns-in-None g c = record { ok = turn.read_same (λ n. number (unsigned n)) is_natural c.args.depth (token_of c.args.first ∷ c.args.reader.now) c.natural.new.reader c.in-None.is c.in_ok-n.ensures.ok; err = turn.never_refused; shorter = c.in_ok-n.ensures.shorter }
