use Rattle.std.proofs.Common.{inl, inr}
use Rattle.json_records.proofs.Tupled.{is_none}
use Rattle.json_records.proofs.tuples.both.Goals as goal

pub returns-in_default : goal.returns-in_default
returns-in_default g c = inl (is_none c.args.one c.in_default.not-Some)

pub returns-in_default-two : goal.returns-in_default-two
returns-in_default-two g c = inr (is_none c.args.two c.in_default-two.not-Some)
