use Rattle.std.proofs.Common.{◌≡◌, ◌∷◌, None, refl, sym, ◌∙◌}
use Rattle.json.specs.Json.{after_end_array}
use Rattle.json.specs.Reads.{token_of}
use Rattle.serde_json.specs.Data.{no_items, item}
use Rattle.json_records.proofs.LastItems as last
use Rattle.json_records.proofs.Turns as turn
use Rattle.json_records.proofs.tuples.ends.Goals as goal

pub returns-then-take_end_array-clause-ok : goal.returns-then-take_end_array-clause-ok
returns-then-take_end_array-clause-ok c = (no_items, last.end_read c.args.depth c.args.reader.now c.take_end_array.new.self c.if-take_end_array.ensures, refl)

pub returns-in_err-further-clause-err : goal.returns-in_err-further-clause-err
returns-in_err-further-clause-err c refused =
    let test = c.if-take_end_array.ensures in
    last.no_items_left c.args.depth c.args.reader.now (turn.no_item c.args.depth c.args.reader.now test.0 (sym test.1 ∙ c.in_err-further.ensures.err refl))

pub returns-in_err-pass : goal.returns-in_err-pass
returns-in_err-pass c =
    let test = c.if-take_end_array.ensures in
    let going : (after_end_array c.args.reader.now ≡ None) × (c.args.reader.now ≡ token_of c.in_ok-further.further ∷ c.next_token.new.reader) = (test.0, sym test.1 ∙ c.in_ok-further.ensures.ok) in
    let failed = c.from_residual-in_err-pass in
    record {
      ok = turn.no_answer _ failed.result failed.ensures.0;
      err = λ refused. last.first_lost _ _ _ _ going (c.in_err-pass.ensures.err (turn.same_error _ failed.ensures refused));
      shorter = turn.no_answer _ failed.result failed.ensures.0;
    }

pub returns-in_err-pass_items : goal.returns-in_err-pass_items
returns-in_err-pass_items c =
    let test = c.if-take_end_array.ensures in
    let going : (after_end_array c.args.reader.now ≡ None) × (c.args.reader.now ≡ token_of c.in_ok-further.further ∷ c.next_token.new.reader) = (test.0, sym test.1 ∙ c.in_ok-further.ensures.ok) in
    let done = c.in_ok-pass.ensures.ok in
    let failed = c.from_residual-in_err-pass_items in
    record {
      ok = turn.no_answer _ failed.result failed.ensures.0;
      err = λ refused. last.others_lost _ _ _ _ going _ done.0 done.1 c.in_ok-pass.ensures.shorter (c.in_err-pass_items.ensures.err (turn.same_error _ failed.ensures refused));
      shorter = turn.no_answer _ failed.result failed.ensures.0;
    }

pub returns-clause-ok : goal.returns-clause-ok
returns-clause-ok c =
    let test = c.if-take_end_array.ensures in
    let going : (after_end_array c.args.reader.now ≡ None) × (c.args.reader.now ≡ token_of c.in_ok-further.further ∷ c.next_token.new.reader) = (test.0, sym test.1 ∙ c.in_ok-further.ensures.ok) in
    let done = c.in_ok-pass.ensures.ok in
    let rest = c.in_ok-pass_items.ensures.ok in
    (item done.0 rest.0, last.others_read _ _ _ _ going _ done.0 done.1 c.in_ok-pass.ensures.shorter rest.0 c.pass_items.new.reader rest.1, refl)
