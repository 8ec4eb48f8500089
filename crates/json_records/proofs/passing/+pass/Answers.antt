use Rattle.std.proofs.Common.{◌≡◌, true, inl, inr, ◌-◌, suc, ◌∷◌, ◌++◌, ◌<◌, [], length, Some, None, refl, ap, ◌∙◌, arith, rules}
use Rattle.json.specs.Json.{read_key, after_end_array}
use Rattle.json.specs.Reads.{token_of}
use Rattle.serde_json.specs.Data.{array, object, number, no_items, no_members, put}
use Rattle.json_records.specs.Reading.{data_of, items_before}
use Rattle.json_records.proofs.Turns as turn
use Rattle.json_records.proofs.passing.+pass.Goals as goal

pub pass-returns-in-String-clause-ok : goal.pass-returns-in-String-clause-ok
pass-returns-in-String-clause-ok t c = turn.plain_said c.args.depth c.args.first c.args.reader.now (grind arith)

pub pass-returns-in-Some-clause-ok : goal.pass-returns-in-Some-clause-ok
pass-returns-in-Some-clause-ok t c =
    let n = turn.number_in_range c.in-Number.text.now c.in-Some.field-0 c.in-Some.ensures in
    (number n.0, ap (λ k. data_of c.args.depth (token_of k ∷ c.args.reader.now)) c.in-Number.is ∙ turn.number_said c.args.depth c.in-Number.text.now n.0 c.args.reader.now n.1)

pub pass-returns-in-None-clause-err : goal.pass-returns-in-None-clause-err
pass-returns-in-None-clause-err t c refused =
    ap (λ k. data_of c.args.depth (token_of k ∷ c.args.reader.now)) c.in-Number.is ∙ turn.number_lost c.args.depth c.in-Number.text.now c.args.reader.now (turn.number_out_of_range c.in-Number.text.now c.in-None.ensures)

pub pass-returns-then-depth-eq0-clause-err : goal.pass-returns-then-depth-eq0-clause-err
pass-returns-then-depth-eq0-clause-err t c refused = turn.no_level (token_of c.args.first) c.args.reader.now c.args.depth (omega arith) (inl (ap token_of c.in-BeginArray.is))

pub pass-returns-else-depth-eq0-clause-ok : goal.pass-returns-else-depth-eq0-clause-ok
pass-returns-else-depth-eq0-clause-ok t c =
    let inner : c.args.depth ≡ suc (c.args.depth - 1) = omega arith in
    turn.on_ok c.pass_items.result c.pass_items.ensures.ok (λ p. (array p.0, turn.array_read (token_of c.args.first) c.args.depth (c.args.depth - 1) c.args.reader.now inner p.0 c.pass_items.new.reader (ap token_of c.in-BeginArray.is) p.1))

pub pass-returns-else-depth-eq0-clause-err : goal.pass-returns-else-depth-eq0-clause-err
pass-returns-else-depth-eq0-clause-err t c refused =
    let inner : c.args.depth ≡ suc (c.args.depth - 1) = omega arith in
    turn.array_stop (token_of c.args.first) c.args.depth (c.args.depth - 1) c.args.reader.now inner (ap token_of c.in-BeginArray.is) (c.pass_items.ensures.err refused)

pub pass-returns-then-depth-eq0-2-clause-err : goal.pass-returns-then-depth-eq0-2-clause-err
pass-returns-then-depth-eq0-2-clause-err t c refused = turn.no_level (token_of c.args.first) c.args.reader.now c.args.depth (omega arith) (inr (ap token_of c.in-BeginObject.is))

pub pass-returns-else-depth-eq0-2-clause-ok : goal.pass-returns-else-depth-eq0-2-clause-ok
pass-returns-else-depth-eq0-2-clause-ok t c =
    let inner : c.args.depth ≡ suc (c.args.depth - 1) = omega arith in
    turn.on_ok c.pass_members.result c.pass_members.ensures.ok (λ p. (object p.0, turn.object_read (token_of c.args.first) c.args.depth (c.args.depth - 1) c.args.reader.now inner p.0 c.pass_members.new.reader (ap token_of c.in-BeginObject.is) p.1))

pub pass-returns-else-depth-eq0-2-clause-err : goal.pass-returns-else-depth-eq0-2-clause-err
pass-returns-else-depth-eq0-2-clause-err t c refused =
    let inner : c.args.depth ≡ suc (c.args.depth - 1) = omega arith in
    turn.object_stop (token_of c.args.first) c.args.depth (c.args.depth - 1) c.args.reader.now inner (ap token_of c.in-BeginObject.is) (c.pass_members.ensures.err refused)

pub pass-returns-in-EndArray-clause-err : goal.pass-returns-in-EndArray-clause-err
pass-returns-in-EndArray-clause-err t c refused = turn.none_begins c.args.depth c.args.first c.args.reader.now (grind arith)

pub pass_items-loop-first-preserved : goal.pass_items-loop-first-preserved
pass_items-loop-first-preserved t c =
    let l = c.loop-first in
    let going : (after_end_array l.reader ≡ None) × (l.reader ≡ token_of c.in-Some.first ∷ c.next_item.new.reader) = grind arith in
    let done = c.in_ok-pass.ensures.ok in
    let less : length c.pass.new.reader < length l.reader = omega (arith, c.in_ok-pass.ensures.shorter, c.in_ok-first.ensures.shorter) in
    (l.invariant.0 ++ done.0 ∷ [], turn.item_more c.args.depth c.args.reader.now l.reader l.invariant.0 l.invariant.1 c.pass.new.reader done.0 going.0 (ap (data_of c.args.depth) going.1 ∙ done.1) less)

pub pass_items-returns-in_err-pass-clause-err : goal.pass_items-returns-in_err-pass-clause-err
pass_items-returns-in_err-pass-clause-err t c refused =
    let l = c.loop-first in
    let going : (after_end_array l.reader ≡ None) × (l.reader ≡ token_of c.in-Some.first ∷ c.next_item.new.reader) = grind arith in
    turn.item_stop c.args.depth c.args.reader.now l.reader l.invariant.0 l.invariant.1 going.0 (ap (data_of c.args.depth) going.1 ∙ c.in_err-pass.ensures.err (search rules))

pub pass_items-returns-clause-ok : goal.pass_items-returns-clause-ok
pass_items-returns-clause-ok t c =
    let l = c.loop-first in
    (items_before l.invariant.0 no_items, turn.items_all c.args.depth c.args.reader.now l.reader l.invariant.0 l.invariant.1 c.next_item.new.reader (grind arith))

pub pass_members-loop-first-init : goal.pass_members-loop-first-init
pass_members-loop-first-init t c = (no_members, turn.members_start c.args.depth c.args.reader.now)

pub pass_members-loop-first-preserved : goal.pass_members-loop-first-preserved
pass_members-loop-first-preserved t c =
    let l = c.loop-first in
    let key : read_key l.reader ≡ Some (Some c.in-Some.field-0-0.now, token_of c.in-Some.first ∷ c.next_member.new.reader) = grind arith in
    let done = c.in_ok-pass.ensures.ok in
    let less : length c.pass.new.reader < length l.reader = omega (arith, c.in_ok-pass.ensures.shorter, c.in_ok-first.ensures.shorter) in
    (put c.in-Some.field-0-0.now done.0 l.invariant.0, turn.member_more c.args.depth c.args.reader.now l.reader l.invariant.0 l.invariant.1 c.in-Some.field-0-0.now (token_of c.in-Some.first ∷ c.next_member.new.reader) c.pass.new.reader done.0 key done.1 less)

pub pass_members-returns-in_err-pass-clause-err : goal.pass_members-returns-in_err-pass-clause-err
pass_members-returns-in_err-pass-clause-err t c refused =
    let l = c.loop-first in
    let key : read_key l.reader ≡ Some (Some c.in-Some.field-0-0.now, token_of c.in-Some.first ∷ c.next_member.new.reader) = grind arith in
    turn.member_stop c.args.depth c.args.reader.now l.reader l.invariant.0 l.invariant.1 c.in-Some.field-0-0.now (token_of c.in-Some.first ∷ c.next_member.new.reader) key (c.in_err-pass.ensures.err (search rules))

pub pass_members-returns-clause-ok : goal.pass_members-returns-clause-ok
pass_members-returns-clause-ok t c =
    let l = c.loop-first in
    (l.invariant.0, turn.members_all c.args.depth c.args.reader.now l.reader l.invariant.0 l.invariant.1 c.next_member.new.reader (grind arith))

pub pass_items-loop-first-init : goal.pass_items-loop-first-init
pass_items-loop-first-init t c = ([], turn.items_start c.args.depth c.args.reader.now)

pub pass_items-returns-in_err-first : goal.pass_items-returns-in_err-first
pass_items-returns-in_err-first t c =
    let failed = c.from_residual in
    record {
      ok = turn.no_answer _ failed.result failed.ensures.0;
      err = λ refused. turn.items_stop c.args.depth c.args.reader.now c.loop-first.reader c.loop-first.invariant.0 c.loop-first.invariant.1 (c.in_err-first.ensures.err (refl {a = true}) c.args.depth);
      shorter = turn.no_answer _ failed.result failed.ensures.0;
    }

pub pass_members-returns-in_err-first : goal.pass_members-returns-in_err-first
pass_members-returns-in_err-first t c =
    let failed = c.from_residual in
    record {
      ok = turn.no_answer _ failed.result failed.ensures.0;
      err = λ refused. turn.members_stop c.args.depth c.args.reader.now c.loop-first.reader c.loop-first.invariant.0 c.loop-first.invariant.1 (c.in_err-first.ensures.err (refl {a = true}) c.args.depth);
      shorter = turn.no_answer _ failed.result failed.ensures.0;
    }

pub pass_items-returns-in_err-pass-clause-ok : goal.pass_items-returns-in_err-pass-clause-ok
pass_items-returns-in_err-pass-clause-ok t c = turn.no_answer _ c.from_residual-in_err-pass.result c.from_residual-in_err-pass.ensures.0

pub pass_items-returns-in_err-pass-clause-shorter : goal.pass_items-returns-in_err-pass-clause-shorter
pass_items-returns-in_err-pass-clause-shorter t c = turn.no_answer _ c.from_residual-in_err-pass.result c.from_residual-in_err-pass.ensures.0

pub pass_members-returns-in_err-pass-clause-ok : goal.pass_members-returns-in_err-pass-clause-ok
pass_members-returns-in_err-pass-clause-ok t c = turn.no_answer _ c.from_residual-in_err-pass.result c.from_residual-in_err-pass.ensures.0

pub pass_members-returns-in_err-pass-clause-shorter : goal.pass_members-returns-in_err-pass-clause-shorter
pass_members-returns-in_err-pass-clause-shorter t c = turn.no_answer _ c.from_residual-in_err-pass.result c.from_residual-in_err-pass.ensures.0

pub pass_items-returns-clause-shorter : goal.pass_items-returns-clause-shorter
pass_items-returns-clause-shorter t c = turn.no_more c.loop-first.invariant.1.shorter c.in_ok-first.ensures.shorter

pub pass_items-returns-clause-err : goal.pass_items-returns-clause-err
pass_items-returns-clause-err t c = turn.never_refused

pub pass_items-loop-first-smaller : goal.pass_items-loop-first-smaller
pass_items-loop-first-smaller t c = turn.less_than c.in_ok-pass.ensures.shorter c.in_ok-first.ensures.shorter

pub pass_members-returns-clause-shorter : goal.pass_members-returns-clause-shorter
pass_members-returns-clause-shorter t c = turn.no_more c.loop-first.invariant.1.shorter c.in_ok-first.ensures.shorter

pub pass_members-returns-clause-err : goal.pass_members-returns-clause-err
pass_members-returns-clause-err t c = turn.never_refused

pub pass_members-loop-first-smaller : goal.pass_members-loop-first-smaller
pass_members-loop-first-smaller t c = turn.less_than c.in_ok-pass.ensures.shorter c.in_ok-first.ensures.shorter
