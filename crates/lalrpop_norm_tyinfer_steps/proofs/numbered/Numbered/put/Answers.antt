use Rattle.std.proofs.Common.{length, refl}
use Rattle.std.proofs.lemmas.Option.{slice_get_read}
use Rattle.lalrpop_norm_tyinfer_steps.proofs.NumberedLemmas.{puts_type}
use Rattle.lalrpop_norm_tyinfer_steps.proofs.numbered.Numbered.put.Goals as goal

pub returns : goal.returns
returns c =
    let rules = c.args.self.now.rules.items in
    puts_type c.args.self.now _ c.args.number c.index_mut.result.now c.args.ty
    (slice_get_read rules (length rules) c.args.number c.index_mut.result.now refl c.requires c.index_mut.ensures.value) c.requires refl refl refl
