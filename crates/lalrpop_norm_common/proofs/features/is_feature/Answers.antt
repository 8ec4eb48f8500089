use Rattle.lalrpop_norm_common.proofs.FeatureLemmas.{found_in_set}
use Rattle.lalrpop_norm_common.proofs.features.is_feature.Goals as goal

pub returns-in-Some : goal.returns-in-Some
returns-in-Some c =
    let e = found_in_set c.args.name.now c.in-Some.names.keys in
    cc (e, c.contains.ensures)
