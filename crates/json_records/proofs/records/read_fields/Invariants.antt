use Rattle.std.proofs.Common.{length, map}
use Rattle.serde_json.specs.Data.{Members}
use Rattle.json_records.specs.Reading.{MembersSoFar}
use Rattle.json_records.specs.Fields.{AreSoFar}
use Rattle.json_records.proofs.records.read_fields.Given as goal

abbrev pub invariant-loop-fields : goal.invariant-loop-fields
invariant-loop-fields g l = (ms : Members) × MembersSoFar l.depth l.fn.reader l.reader ms × AreSoFar (map (λ s. s.now) l.names) g.F.Fields.tests (g.F.Fields.held l.fields) l.strays ms

abbrev pub decreases-loop-fields : goal.decreases-loop-fields
decreases-loop-fields g l = length l.reader
