use Rattle.std.proofs.Common.{◌≡◌, None, Some, refl, arith, rules}
use Rattle.json.specs.Json.{read_key}
use Rattle.json_records.proofs.Turns.{no_key, no_value_under}
use Rattle.json_records.proofs.error.next_member.Goals as goal

pub returns-in_err-next_token-in-Ok-Some-clause-err : goal.returns-in_err-next_token-in-Ok-Some-clause-err
returns-in_err-next_token-in-Ok-Some-clause-err c = λ refused n.
    let key : read_key c.args.reader.now ≡ Some (Some c.in-Ok-Some.key.now, c.next_key.new.self) = grind arith in
    no_value_under n c.in-Ok-Some.key.now c.args.reader.now c.next_key.new.self key (c.in_err-next_token-in-Ok-Some.ensures.err refl)

pub returns-in-Err-clause-err : goal.returns-in-Err-clause-err
returns-in-Err-clause-err c = λ refused n. no_key n c.args.reader.now c.in-Err.ensures.value
