use Rattle.lalrpop_norm_resolve.proofs.NameLemmas.{count_length}
use Rattle.lalrpop_norm_resolve.proofs.resolve.symbols.check_call.Goals as goal

pub returns : goal.returns
returns c = rw (count_length c.args.inner.now, ← c.def.ensures) c.check_macro.ensures
