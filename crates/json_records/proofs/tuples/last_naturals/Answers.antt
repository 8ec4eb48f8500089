use Rattle.std.proofs.Common.{[], ◌∷◌, true, refl}
use Rattle.serde_json.specs.Data.{number, unsigned, no_items, item}
use Rattle.json_records.specs.Reading.{is_natural}
use Rattle.json_records.proofs.LastItems as last
use Rattle.json_records.proofs.Turns as turn
use Rattle.json_records.proofs.tuples.last_naturals.Goals as goal

pub returns-in_err-first : goal.returns-in_err-first
returns-in_err-first c =
    let failed = c.from_residual in
    record {
      ok = turn.no_answer _ failed.result failed.ensures.0;
      err = λ refused. last.no_items_left c.args.depth c.args.reader.now (c.in_err-first.ensures.err (refl {a = true}) c.args.depth);
      shorter = turn.no_answer _ failed.result failed.ensures.0;
    }

pub returns-in_default : goal.returns-in_default
returns-in_default c = record {
  ok = (no_items, last.end_read c.args.depth c.args.reader.now c.next_item.new.reader (turn.not_held _ _ c.in_default.is c.in_ok-first.ensures.ok), refl);
  err = turn.never_refused;
  shorter = last.fewer c.in_ok-first.ensures.shorter;
}

pub returns-in_err-one : goal.returns-in_err-one
returns-in_err-one c =
    let going = turn.held _ _ c.in-Some.is c.in_ok-first.ensures.ok in
    let failed = c.from_residual-in_err-one in
    record {
      ok = turn.no_answer _ failed.result failed.ensures.0;
      err = λ refused. last.first_lost _ _ _ _ going (c.in_err-one.ensures.err (turn.same_error _ failed.ensures refused));
      shorter = turn.no_answer _ failed.result failed.ensures.0;
    }

pub returns-in_err-two : goal.returns-in_err-two
returns-in_err-two c =
    let going = turn.held _ _ c.in-Some.is c.in_ok-first.ensures.ok in
    let done = c.in_ok-one.ensures.ok in
    let failed = c.from_residual-in_err-two in
    record {
      ok = turn.no_answer _ failed.result failed.ensures.0;
      err = λ refused. last.others_lost _ _ _ _ going _ done.means done.read c.in_ok-one.ensures.shorter (c.in_err-two.ensures.err (turn.same_error _ failed.ensures refused));
      shorter = turn.no_answer _ failed.result failed.ensures.0;
    }

pub returns : goal.returns
returns c =
    let going = turn.held _ _ c.in-Some.is c.in_ok-first.ensures.ok in
    let done = c.in_ok-one.ensures.ok in
    let rest = c.in_ok-two.ensures.ok in
    record {
      ok = (
        item done.means rest.0,
        last.others_read _ _ _ _ going _ done.means done.read c.in_ok-one.ensures.shorter rest.0 c.last_natural.new.reader rest.1,
        last.made_both (λ n. number (unsigned n)) is_natural c.in_ok-one.one done.means done.made (λ n. number (unsigned n) ∷ []) (is_natural ∷ []) c.in_ok-two.two rest.0 rest.2 c.both.result c.both.ensures,
      );
      err = turn.never_refused;
      shorter = last.fewer_yet c.in_ok-two.ensures.shorter c.in_ok-one.ensures.shorter c.in_ok-first.ensures.shorter;
    }
