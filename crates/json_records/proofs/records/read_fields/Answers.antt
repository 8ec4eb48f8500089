use Rattle.std.proofs.Common.{◌∷◌, ◌<◌, length, map, Ok, true, false, refl, sym, ap, ◌∙◌, subst}
use Rattle.json.specs.Reads.{token_of}
use Rattle.serde_json.specs.Data.{object, no_members, put}
use Rattle.json_records.specs.Fields.{AreHeld, AreSoFar}
use Rattle.json_records.specs.Reading.{data_of, MembersSoFar}
use Rattle.json_records.proofs.Turns as turn
use Rattle.json_records.proofs.Rows as row
use Rattle.json_records.proofs.records.read_fields.Goals as goal

pub returns-in_err-depth : goal.returns-in_err-depth
returns-in_err-depth g c =
    let failed = c.from_residual in
    record {
      ok = turn.no_answer _ failed.result failed.ensures.0;
      err = λ refused. c.in_err-depth.ensures.err (turn.same_error _ failed.ensures refused);
      shorter = turn.no_answer _ failed.result failed.ensures.0;
    }

pub returns-in_default-clause-err : goal.returns-in_default-clause-err
returns-in_default-clause-err g c = turn.never_refused

pub returns-in_default-clause-shorter : goal.returns-in_default-clause-shorter
returns-in_default-clause-shorter g c = c.in_ok-depth.ensures.shorter

pub loop-fields-init : goal.loop-fields-init
loop-fields-init g c =
    let names = map (λ s. s.now) c.args.names.now in
    let opened = turn.held _ _ c.in-Some.is c.in_ok-depth.ensures.ok in (
      no_members,
      subst (λ ts. MembersSoFar c.in-Some.depth c.args.reader.now ts no_members) (sym opened.2) (turn.members_start c.in-Some.depth c.args.reader.now),
      subst (λ hs. AreHeld names g.F.Fields.tests hs no_members) (sym c.none-fields.ensures) (row.start_held names g.F.Fields.tests),
    )

pub returns-in_err-member : goal.returns-in_err-member
returns-in_err-member g c =
    let l = c.loop-fields in
    let opened = turn.held _ _ c.in-Some.is c.in_ok-depth.ensures.ok in
    let failed = c.from_residual-in_err-member in
    record {
      ok = turn.no_answer _ failed.result failed.ensures.0;
      err = λ refused. turn.object_stop (token_of c.args.first) c.args.depth c.in-Some.depth c.args.reader.now opened.1 opened.0
          (turn.members_stop c.in-Some.depth c.args.reader.now l.reader l.invariant.0 l.invariant.1 (c.in_err-member.ensures.err refl c.in-Some.depth));
      shorter = turn.no_answer _ failed.result failed.ensures.0;
    }

pub returns-in_err-take : goal.returns-in_err-take
returns-in_err-take g c =
    let l = c.loop-fields in
    let opened = turn.held _ _ c.in-Some.is c.in_ok-depth.ensures.ok in
    let m = c.in-Some-2.member in
    let key = turn.held _ _ c.in-Some-2.is c.in_ok-member.ensures.ok in
    let failed = c.from_residual-in_err-take in
    record {
      ok = turn.no_answer _ failed.result failed.ensures.0;
      err = λ refused. turn.object_stop (token_of c.args.first) c.args.depth c.in-Some.depth c.args.reader.now opened.1 opened.0
          (turn.member_stop c.in-Some.depth c.args.reader.now l.reader l.invariant.0 l.invariant.1 m.0.now (token_of m.1 ∷ c.next_member.new.reader) key (c.in_err-take.ensures.err (turn.same_error _ failed.ensures refused)));
      shorter = turn.no_answer _ failed.result failed.ensures.0;
    }

pub returns-in_err-pass : goal.returns-in_err-pass
returns-in_err-pass g c =
    let l = c.loop-fields in
    let opened = turn.held _ _ c.in-Some.is c.in_ok-depth.ensures.ok in
    let m = c.in-Some-2.member in
    let key = turn.held _ _ c.in-Some-2.is c.in_ok-member.ensures.ok in
    let other = (c.in_ok-take.ensures.other (ap Ok c.if-not-branch.true)).1 in
    let failed = c.from_residual-in_err-pass in
    record {
      ok = turn.no_answer _ failed.result failed.ensures.0;
      err = λ refused. turn.object_stop (token_of c.args.first) c.args.depth c.in-Some.depth c.args.reader.now opened.1 opened.0
          (turn.member_stop c.in-Some.depth c.args.reader.now l.reader l.invariant.0 l.invariant.1 m.0.now (token_of m.1 ∷ c.next_member.new.reader) key
          (ap (λ ts. data_of c.in-Some.depth (token_of m.1 ∷ ts)) (sym other) ∙ c.in_err-pass.ensures.err (turn.same_error _ failed.ensures refused)));
      shorter = turn.no_answer _ failed.result failed.ensures.0;
    }

pub loop-fields-preserved-then-not-branch : goal.loop-fields-preserved-then-not-branch
loop-fields-preserved-then-not-branch g c =
    let l = c.loop-fields in
    let names = map (λ s. s.now) c.args.names.now in
    let m = c.in-Some-2.member in
    let key = turn.held _ _ c.in-Some-2.is c.in_ok-member.ensures.ok in
    let other = c.in_ok-take.ensures.other (ap Ok c.if-not-branch.true) in
    let done = c.in_ok-pass.ensures.ok in
    let less : length c.pass.new.reader < length l.reader = turn.less_than c.in_ok-pass.ensures.shorter (turn.less_than c.in_ok-take.ensures.shorter c.in_ok-member.ensures.shorter) in (
      put m.0.now done.0 l.invariant.0,
      turn.member_more c.in-Some.depth c.args.reader.now l.reader l.invariant.0 l.invariant.1 m.0.now (token_of m.1 ∷ c.next_member.new.reader) c.pass.new.reader done.0 key
          (ap (λ ts. data_of c.in-Some.depth (token_of m.1 ∷ ts)) (sym other.1) ∙ done.1) less,
      row.put_stray names m.0.now done.0 l.invariant.0 other.0,
    )

pub loop-fields-preserved : goal.loop-fields-preserved
loop-fields-preserved g c =
    let l = c.loop-fields in
    let names = map (λ s. s.now) c.args.names.now in
    let m = c.in-Some-2.member in
    let key = turn.held _ _ c.in-Some-2.is c.in_ok-member.ensures.ok in
    let done = c.in_ok-take.ensures.taken (ap Ok c.if-not-branch.false) in
    let less : length c.take.new.reader < length l.reader = turn.less_than c.in_ok-take.ensures.shorter c.in_ok-member.ensures.shorter in (
      put m.0.now done.0 l.invariant.0,
      turn.member_more c.in-Some.depth c.args.reader.now l.reader l.invariant.0 l.invariant.1 m.0.now (token_of m.1 ∷ c.next_member.new.reader) c.take.new.reader done.0 key done.1 less,
      row.put_so_far names g.F.Fields.tests m.0.now done.0 (g.F.Fields.held l.fields) (g.F.Fields.held c.take.new.self) l.strays l.invariant.0 c.requires.order done.2 l.invariant.2,
    )

pub returns-then-strays-clause-ok : goal.returns-then-strays-clause-ok
returns-then-strays-clause-ok g c =
    let l = c.loop-fields in
    let names = map (λ s. s.now) c.args.names.now in
    let opened = turn.held _ _ c.in-Some.is c.in_ok-depth.ensures.ok in
    let held : AreSoFar names g.F.Fields.tests (g.F.Fields.held l.fields) true l.invariant.0 = subst (λ b. AreSoFar names g.F.Fields.tests (g.F.Fields.held l.fields) b l.invariant.0) c.if-strays.true l.invariant.2 in (
      object l.invariant.0,
      turn.object_done (token_of c.args.first) c.args.depth c.in-Some.depth c.args.reader.now l.reader c.next_member.new.reader opened.1 l.invariant.0 opened.0 l.invariant.1 (turn.not_held _ _ c.in_default-2.is c.in_ok-member.ensures.ok),
      row.strays_fail names g.F.Fields.tests l.invariant.0 held,
    )

pub returns-clause-ok : goal.returns-clause-ok
returns-clause-ok g c =
    let l = c.loop-fields in
    let names = map (λ s. s.now) c.args.names.now in
    let opened = turn.held _ _ c.in-Some.is c.in_ok-depth.ensures.ok in
    let held : AreSoFar names g.F.Fields.tests (g.F.Fields.held l.fields) false l.invariant.0 = subst (λ b. AreSoFar names g.F.Fields.tests (g.F.Fields.held l.fields) b l.invariant.0) c.if-strays.false l.invariant.2 in (
      object l.invariant.0,
      turn.object_done (token_of c.args.first) c.args.depth c.in-Some.depth c.args.reader.now l.reader c.next_member.new.reader opened.1 l.invariant.0 opened.0 l.invariant.1 (turn.not_held _ _ c.in_default-2.is c.in_ok-member.ensures.ok),
      (l.invariant.0, refl, held),
    )

pub returns-then-strays-clause-err : goal.returns-then-strays-clause-err
returns-then-strays-clause-err g c = turn.never_refused

pub returns-then-strays-clause-shorter : goal.returns-then-strays-clause-shorter
returns-then-strays-clause-shorter g c = turn.no_more c.loop-fields.invariant.1.shorter c.in_ok-member.ensures.shorter

pub returns-clause-err : goal.returns-clause-err
returns-clause-err g c = turn.never_refused

pub returns-clause-shorter : goal.returns-clause-shorter
returns-clause-shorter g c = turn.no_more c.loop-fields.invariant.1.shorter c.in_ok-member.ensures.shorter

pub loop-fields-smaller-then-not-branch : goal.loop-fields-smaller-then-not-branch
loop-fields-smaller-then-not-branch g c = turn.less_than c.in_ok-pass.ensures.shorter (turn.less_than c.in_ok-take.ensures.shorter c.in_ok-member.ensures.shorter)

pub loop-fields-smaller : goal.loop-fields-smaller
loop-fields-smaller g c = turn.less_than c.in_ok-take.ensures.shorter c.in_ok-member.ensures.shorter
