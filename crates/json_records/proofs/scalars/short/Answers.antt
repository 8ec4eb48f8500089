use Rattle.std.proofs.Common.{◌∷◌, arith}
use Rattle.json.specs.Reads.{token_of}
use Rattle.json_records.proofs.Turns as turn
use Rattle.json_records.proofs.scalars.short.Goals as goal

pub returns-in_err-n : goal.returns-in_err-n
returns-in_err-n c =
    let failed = c.from_residual in
    record {
      ok = turn.no_answer _ failed.result failed.ensures.0;
      err = λ refused. c.in_err-n.ensures.err (turn.same_error _ failed.ensures refused);
      shorter = turn.no_answer _ failed.result failed.ensures.0;
    }

pub returns-in-Some : goal.returns-in-Some
returns-in-Some c = record { ok = turn.short_read c.args.depth (token_of c.args.first ∷ c.args.reader.now) c.natural.new.reader c.in_ok-n.ensures.ok c.in-Some.n c.in-Some.is; err = turn.never_refused; shorter = c.in_ok-n.ensures.shorter }

pub returns-in_default : goal.returns-in_default
returns-in_default c = record { ok = turn.not_short c.args.depth (token_of c.args.first ∷ c.args.reader.now) c.natural.new.reader c.in_ok-n.ensures.ok c.in-Some.n (omega arith) c.in-Some.is; err = turn.never_refused; shorter = c.in_ok-n.ensures.shorter }

pub returns-in_default-2 : goal.returns-in_default-2
returns-in_default-2 c = record { ok = turn.none_short c.args.depth (token_of c.args.first ∷ c.args.reader.now) c.natural.new.reader c.in_ok-n.ensures.ok c.in_default.is; err = turn.never_refused; shorter = c.in_ok-n.ensures.shorter }
