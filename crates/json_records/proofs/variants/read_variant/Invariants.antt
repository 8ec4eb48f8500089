use Rattle.std.proofs.Common.{length, option_map}
use Rattle.json_records.specs.Variants.{VariantSoFar}
use Rattle.json_records.proofs.variants.read_variant.Given as goal

abbrev pub invariant-loop-read : goal.invariant-loop-read
invariant-loop-read g l = VariantSoFar g.K.Variant.form g.K.Variant.can l.depth l.fn.reader l.reader (option_map (λ s. s.now) l.before) l.strays l.read

abbrev pub decreases-loop-read : goal.decreases-loop-read
decreases-loop-read g l = length l.reader
