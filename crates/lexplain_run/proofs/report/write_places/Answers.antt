use Rattle.std.proofs.Common.{rules}
use Rattle.lexplain_run.specs.Stops.{places_text}
use Rattle.lexplain_run.proofs.ReportLemmas.{all_front, all_places, more_places, places_begun}
use Rattle.lexplain_run.proofs.report.write_places.Goals as goal

pub returns-then-not-write_number-clause-front : goal.returns-then-not-write_number-clause-front
returns-then-not-write_number-clause-front g c =
    let at = g.E.Write.contents in
    places_begun (at c.args.faults.now) (at c.loop-place.faults) c.args.path.now c.loop-place.place-index _ c.loop-place.invariant
    (at c.write_number.new.faults) c.loop-place-test.true (search rules) c.write_number.ensures.front

pub loop-place-preserved : goal.loop-place-preserved
loop-place-preserved g c =
    let at = g.E.Write.contents in
    more_places (at c.args.faults.now) (at c.loop-place.faults) c.args.path.now c.loop-place.place-index _ c.loop-place.invariant
    (at c.write_number.new.faults) c.loop-place-test.true (search rules) (c.write_number.ensures.whole c.if-not-write_number.false)

pub returns-clause-front : goal.returns-clause-front
returns-clause-front g c =
    let at = g.E.Write.contents in
    all_front (at c.args.faults.now) (at c.loop-place.faults) (places_text c.args.path.now)
    (all_places (at c.args.faults.now) (at c.loop-place.faults) c.args.path.now c.loop-place.place-index c.loop-place.invariant c.loop-place-test.false)
