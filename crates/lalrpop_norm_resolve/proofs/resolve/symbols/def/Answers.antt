use Rattle.std.proofs.Common.{refl}
use Rattle.lalrpop_norm_resolve.specs.NameTables.{sense_in}
use Rattle.lalrpop_norm_resolve.proofs.resolve.symbols.def.Goals as goal

pub returns-then-contains : goal.returns-then-contains
unfolding sense_in
returns-then-contains c = rw (← c.if-contains.ensures) refl
