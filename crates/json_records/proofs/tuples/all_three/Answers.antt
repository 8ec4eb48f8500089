use Rattle.std.proofs.Common.{inl, inr}
use Rattle.json_records.proofs.Tupled.{is_none}
use Rattle.json_records.proofs.tuples.all_three.Goals as goal

pub returns-in_default : goal.returns-in_default
returns-in_default g c = inl (is_none c.args.one c.in_default.not-Some)

pub returns-in_default-two : goal.returns-in_default-two
returns-in_default-two g c = inr (inl (is_none c.args.two c.in_default-two.not-Some))

pub returns-in_default-three : goal.returns-in_default-three
returns-in_default-three g c = inr (inr (is_none c.args.three c.in_default-three.not-Some))
