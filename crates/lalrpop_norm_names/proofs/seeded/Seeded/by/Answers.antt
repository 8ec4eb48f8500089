use Rattle.std.proofs.Common.{refl}
use Rattle.std.specs.Hash.{str}
use Rattle.std.proofs.lemmas.List.Folds.{flat_map-map}
use Rattle.lalrpop_norm_names.proofs.seeded.Seeded.by.Goals as goal

pub returns : goal.returns
returns c = rw (flat_map-map str (λ n. n.0) c.args.names.now) (rw (c.after.ensures, c.hash_slice.ensures, c.new-reader.ensures) refl)
