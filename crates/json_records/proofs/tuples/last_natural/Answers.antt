use Rattle.std.proofs.Common.{[], true, refl, sym, ◌∙◌}
use Rattle.serde_json.specs.Data.{number, unsigned, no_items, item}
use Rattle.json_records.specs.Reading.{is_natural}
use Rattle.json_records.proofs.LastItems as last
use Rattle.json_records.proofs.Turns as turn
use Rattle.json_records.proofs.tuples.last_natural.Goals as goal

pub returns-in_err-first : goal.returns-in_err-first
returns-in_err-first c =
    let failed = c.from_residual in
    record {
      ok = turn.no_answer _ failed.result failed.ensures.0;
      err = λ refused. last.no_items_left c.args.depth c.args.reader.now (c.in_err-first.ensures.err (refl {a = true}) c.args.depth);
      shorter = turn.no_answer _ failed.result failed.ensures.0;
    }

pub returns-in_default : goal.returns-in_default
returns-in_default c = record {
  ok = (no_items, last.end_read c.args.depth c.args.reader.now c.next_item.new.reader (turn.not_held _ _ c.in_default.is c.in_ok-first.ensures.ok), refl);
  err = turn.never_refused;
  shorter = last.fewer c.in_ok-first.ensures.shorter;
}

pub returns-in_err-one : goal.returns-in_err-one
returns-in_err-one c =
    let going = turn.held _ _ c.in-Some.is c.in_ok-first.ensures.ok in
    let failed = c.from_residual-in_err-one in
    record {
      ok = turn.no_answer _ failed.result failed.ensures.0;
      err = λ refused. last.first_lost _ _ _ _ going (c.in_err-one.ensures.err (turn.same_error _ failed.ensures refused));
      shorter = turn.no_answer _ failed.result failed.ensures.0;
    }

pub returns-in_err-ends : goal.returns-in_err-ends
returns-in_err-ends c =
    let going = turn.held _ _ c.in-Some.is c.in_ok-first.ensures.ok in
    let done = c.in_ok-one.ensures.ok in
    let failed = c.from_residual-in_err-ends in
    record {
      ok = turn.no_answer _ failed.result failed.ensures.0;
      err = λ refused. last.others_lost _ _ _ _ going _ done.means done.read c.in_ok-one.ensures.shorter (c.in_err-ends.ensures.err (turn.same_error _ failed.ensures refused));
      shorter = turn.no_answer _ failed.result failed.ensures.0;
    }

pub returns-else-branch : goal.returns-else-branch
returns-else-branch c =
    let going = turn.held _ _ c.in-Some.is c.in_ok-first.ensures.ok in
    let done = c.in_ok-one.ensures.ok in
    let rest = c.in_ok-ends.ensures.ok in
    record {
      ok = (
        item done.means rest.0,
        last.others_read _ _ _ _ going _ done.means done.read c.in_ok-one.ensures.shorter rest.0 c.ends.new.reader rest.1,
        last.others_fail (λ n. number (unsigned n)) is_natural c.in_ok-one.one done.means done.made [] rest.0 (sym rest.2 ∙ c.if-branch.false),
      );
      err = turn.never_refused;
      shorter = last.fewer_yet c.in_ok-ends.ensures.shorter c.in_ok-one.ensures.shorter c.in_ok-first.ensures.shorter;
    }

pub returns-then-branch : goal.returns-then-branch
returns-then-branch c =
    let going = turn.held _ _ c.in-Some.is c.in_ok-first.ensures.ok in
    let done = c.in_ok-one.ensures.ok in
    let rest = c.in_ok-ends.ensures.ok in
    record {
      ok = (
        item done.means rest.0,
        last.others_read _ _ _ _ going _ done.means done.read c.in_ok-one.ensures.shorter rest.0 c.ends.new.reader rest.1,
        last.made_last (λ n. number (unsigned n)) is_natural c.in_ok-one.one done.means done.made c.in_ok-one.one rest.0 refl (sym rest.2 ∙ c.if-branch.true),
      );
      err = turn.never_refused;
      shorter = last.fewer_yet c.in_ok-ends.ensures.shorter c.in_ok-one.ensures.shorter c.in_ok-first.ensures.shorter;
    }
