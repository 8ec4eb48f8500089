use Rattle.std.proofs.Common.{rules}
use Rattle.std.proofs.KnownBytes.{Keeps-refl}
use Rattle.lnorm_run.specs.Settings.{settings_view}
use Rattle.lnorm_run.proofs.HaltLemmas.{halts_explained}
use Rattle.lnorm_run.proofs.run.work.Goals as goal

pub returns-in-Err-clause-err : goal.returns-in-Err-clause-err
returns-in-Err-clause-err g c = halts_explained c.args.printing.form c.in-Err.halt _ (settings_view c.in-Ok.asked) _ _ _ _ _
    (record { asked = c.in-Ok.ensures.ok; whole = search rules }) (Keeps-refl (g.W.Write.contents c.args.output.now)) c.in-Err.ensures.err

pub returns-in-Err-Memory-read_whole-clause-err : goal.returns-in-Err-Memory-read_whole-clause-err
returns-in-Err-Memory-read_whole-clause-err g c = Keeps-refl (g.W.Write.contents c.args.output.now)

pub returns-in-Err-Input-clause-err : goal.returns-in-Err-Input-clause-err
returns-in-Err-Input-clause-err g c = Keeps-refl (g.W.Write.contents c.args.output.now)
