use Rattle.std.proofs.Common.{◌≡◌, None, [], refl, ap, ◌∙◌, arith, rules}
use Rattle.json.specs.Json.{after_end_array}
use Rattle.json_records.proofs.Turns.{no_item}
use Rattle.json_records.proofs.error.next_item.Goals as goal

pub returns-in_err-first-clause-err : goal.returns-in_err-first-clause-err
returns-in_err-first-clause-err c = λ refused n.
    let empty = c.in_err-first.ensures.err refl in
    no_item n c.args.reader.now (ap after_end_array empty) empty
