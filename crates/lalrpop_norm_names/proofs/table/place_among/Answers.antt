use Rattle.lalrpop_norm_names.proofs.Places.{place_from_start}
use Rattle.lalrpop_norm_names.proofs.table.place_among.Goals as goal

pub loop-place-init : goal.loop-place-init
loop-place-init c = place_from_start c.args.names.now c.args.name.now
