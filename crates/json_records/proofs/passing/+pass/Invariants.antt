use Rattle.std.proofs.Common.{◌≡◌, ℕ, ◌+◌, ◌*◌, length, List}
use Rattle.serde_json.specs.Data.{Data, Members}
use Rattle.json_records.specs.Reading.{MembersSoFar, ItemsSoFar}
use Rattle.json_records.proofs.passing.+pass.Given as goal

abbrev pub decreases-pass : goal.decreases-pass
decreases-pass l = 2 * l.depth

abbrev pub decreases-pass_items : goal.decreases-pass_items
decreases-pass_items l = 2 * l.depth + 1

abbrev pub decreases-pass_members : goal.decreases-pass_members
decreases-pass_members l = 2 * l.depth + 1

abbrev pub invariant-pass_items-loop-first : goal.invariant-pass_items-loop-first
invariant-pass_items-loop-first l = (ds : List Data) × ItemsSoFar l.depth l.fn.reader l.reader ds

abbrev pub decreases-pass_items-loop-first : goal.decreases-pass_items-loop-first
decreases-pass_items-loop-first l = length l.reader

abbrev pub invariant-pass_members-loop-first : goal.invariant-pass_members-loop-first
invariant-pass_members-loop-first l = (ms : Members) × MembersSoFar l.depth l.fn.reader l.reader ms

abbrev pub decreases-pass_members-loop-first : goal.decreases-pass_members-loop-first
decreases-pass_members-loop-first l = length l.reader
