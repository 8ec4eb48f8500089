use Rattle.std.proofs.Common.{[], ◌∷◌}
use Rattle.json.specs.Reads.{token_of}
use Rattle.json_records.proofs.LastItems as last
use Rattle.json_records.proofs.Turns as turn
use Rattle.json_records.proofs.tuples.read_pair.Goals as goal

pub returns-in_err-depth : goal.returns-in_err-depth
returns-in_err-depth g c =
    let failed = c.from_residual in
    record {
      ok = turn.no_answer _ failed.result failed.ensures.0;
      err = λ refused. c.in_err-depth.ensures.err (turn.same_error _ failed.ensures refused);
      shorter = turn.no_answer _ failed.result failed.ensures.0;
    }

pub returns-in-Some : goal.returns-in-Some
returns-in-Some g c =
    let opened = turn.held _ _ c.in-Some.is c.in_ok-depth.ensures.ok in
    record {
      ok = last.row_read (token_of c.args.first) c.args.depth c.in-Some.depth c.args.reader.now c.open_array.new.reader opened (λ p. g.K.Reads.form p.0 ∷ g.L.Reads.form p.1 ∷ []) (g.K.Reads.can ∷ g.L.Reads.can ∷ []) c.last_two.new.reader c.last_two.result c.last_two.ensures.ok;
      err = λ refused. last.row_lost (token_of c.args.first) c.args.depth c.in-Some.depth c.args.reader.now c.open_array.new.reader opened (c.last_two.ensures.err refused);
      shorter = last.row_shorter (token_of c.args.first) c.args.depth c.in-Some.depth c.args.reader.now c.open_array.new.reader opened (λ p. g.K.Reads.form p.0 ∷ g.L.Reads.form p.1 ∷ []) (g.K.Reads.can ∷ g.L.Reads.can ∷ []) c.last_two.new.reader c.last_two.result c.last_two.ensures.shorter;
    }

pub returns-in-None : goal.returns-in-None
returns-in-None g c =
    let other = turn.not_held _ _ c.in-None.is c.in_ok-depth.ensures.ok in
    record {
      ok = record { means = other.0; read = other.1; made = last.no_row (g.K.Reads.can ∷ g.L.Reads.can ∷ []) other.0 other.2 };
      err = turn.never_refused;
      shorter = c.in_ok-depth.ensures.shorter;
    }
