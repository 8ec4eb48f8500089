use Rattle.std.proofs.Common.{◌≡◌, ◌∙◌, refl, arith}
use Rattle.lnorm_streams.proofs.OneRead.{more_read, nothing_read, none_failed, at_ok}
use Rattle.lnorm_streams.proofs.streams.read_whole.Goals as goal

pub loop-preserved : goal.loop-preserved
loop-preserved g c =
    let has_failed = g.R.Source.has_failed in
    let kept : has_failed c.read_some.new.self ≡ has_failed c.loop.reader = search (at_ok, c.read_some.ensures.read) in
    (more_read _ _ _ _ _ _ c.loop.invariant.0 c.in-Ok.ensures.bytes.0 c.in_ok-extend_from_slice-in-Ok.ensures.items, kept ∙ c.loop.invariant.1)

pub returns-in-Ok-eq0-clause-ok : goal.returns-in-Ok-eq0-clause-ok
returns-in-Ok-eq0-clause-ok g c = record {
  given = nothing_read _ _ _ _ c.read_some.new.buffer c.in-Ok-eq0.field-0 c.loop.invariant.0 c.in-Ok-eq0.ensures.bytes.0 c.in-Ok-eq0.field-0-test;
  end = c.in-Ok-eq0.ensures.bytes.1 c.in-Ok-eq0.field-0-test (omega arith);
}

pub returns-in-Ok-eq0-clause-failed : goal.returns-in-Ok-eq0-clause-failed
returns-in-Ok-eq0-clause-failed g c = none_failed _ _ _ _ c.loop.invariant.1 c.in-Ok-eq0.ensures.read

pub returns-in_err-extend_from_slice-in-Ok-clause-failed : goal.returns-in_err-extend_from_slice-in-Ok-clause-failed
returns-in_err-extend_from_slice-in-Ok-clause-failed g c = none_failed _ _ _ _ c.loop.invariant.1 c.in-Ok.ensures.read

pub returns-in-Err-clause-failed : goal.returns-in-Err-clause-failed
returns-in-Err-clause-failed g c = λ _. refl

pub returns-clause-failed : goal.returns-clause-failed
returns-clause-failed g c = λ _. refl
