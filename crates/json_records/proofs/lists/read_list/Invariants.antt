use Rattle.std.proofs.Common.{length, List}
use Rattle.serde_json.specs.Data.{Data}
use Rattle.json_records.specs.Reading.{ItemsSoFar, AreMade}
use Rattle.json_records.proofs.lists.read_list.Given as goal

abbrev pub invariant-loop-list : goal.invariant-loop-list
invariant-loop-list g l = (ds : List Data) × ItemsSoFar l.depth l.fn.reader l.reader ds × AreMade g.K.Reads.form g.K.Reads.can l.good l.list.items ds

abbrev pub decreases-loop-list : goal.decreases-loop-list
decreases-loop-list g l = length l.reader
