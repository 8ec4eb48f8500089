use Rattle.lexplain_run.proofs.ReportLemmas.{ArePlacesTo}
use Rattle.lexplain_run.proofs.report.write_places.Given as goal

abbrev pub invariant-loop-place : goal.invariant-loop-place
invariant-loop-place g l = ArePlacesTo (g.E.Write.contents l.initial.faults) (g.E.Write.contents l.faults) l.path l.place-index
