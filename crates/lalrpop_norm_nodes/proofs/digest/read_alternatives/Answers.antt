use Rattle.std.proofs.Common.{◌∙◌, map, refl, arith}
use Rattle.std.specs.List.{flat_map}
use Rattle.lalrpop_norm_tree.specs.declared.items.Alternative.{Alternative}
use Rattle.lalrpop_norm_tree.specs.Items.{alternative_view}
use Rattle.lalrpop_norm_nodes.specs.Digests.{alternative_writes}
use Rattle.lalrpop_norm_nodes.proofs.DigestLemmas.{one_read, all_read}
use Rattle.lalrpop_norm_nodes.proofs.digest.read_alternatives.Goals as goal

pub loop-alternative-preserved : goal.loop-alternative-preserved
loop-alternative-preserved c =
    one_read (λ xs. flat_map alternative_writes (map alternative_view xs)) (λ (a : Alternative). alternative_writes (alternative_view a)) (λ x xs. refl)
    c.args.alternatives.now c.loop-alternative.alternative-index c.alternative-item.result c.loop-alternative.reader c.read_alternative.new.reader
    (omega arith) c.alternative-item.is c.read_alternative.ensures
    ∙ c.loop-alternative.invariant

pub returns : goal.returns
returns c =
    all_read (λ xs. flat_map alternative_writes (map alternative_view xs))
    c.args.alternatives.now c.loop-alternative.alternative-index c.loop-alternative.reader (omega arith)
    ∙ c.loop-alternative.invariant
