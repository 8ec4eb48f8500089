use Rattle.std.proofs.Common.{◌-◌, ◌<◌, ◌≤◌, length, get_or, Some, arith, rules, sym, ap, ◌∙◌}
use Rattle.serde_json.specs.Data.{unsigned}
use Rattle.json_records.proofs.Digits.{few, end_of_digits, value_more, digits_more, small_more, few_below}
use Rattle.json_records.proofs.numbers.few_digits.Goals as goal

pub returns : goal.returns
returns c =
    let some : 0 < length c.args.bytes.now = search (rules, c.if-is_empty.ensures, c.if-is_empty.false) in
    let end : length c.args.bytes.now ≤ c.loop-byte.byte-index = search (rules, c.loop-byte-test.false) in
    let e = end_of_digits c.args.bytes.now c.loop-byte.n c.loop-byte.byte-index end c.loop-byte.invariant.value c.loop-byte.invariant.digits in
    few c.args.bytes.now some e.1 (search (rules, e.0, c.loop-byte.auto.n-fits)) ∙ ap (λ n. Some (unsigned n)) e.0

pub loop-byte-preserved : goal.loop-byte-preserved
loop-byte-preserved c =
    let l = c.loop-byte in
    let digit = sym c.if-not-is_ascii_digit.ensures.value in
    let more = small_more _ _ (get_or c.args.bytes.now l.byte-index 0 - 48) l.invariant.small (omega (arith, c.if-not-is_ascii_digit.ensures.cases)) in
    record {
      value = value_more c.args.bytes.now l.n l.byte-index c.loop-byte-test.true digit l.invariant.value;
      digits = digits_more c.args.bytes.now l.n l.byte-index c.loop-byte-test.true digit l.invariant.digits;
      small = more;
      few = few_below _ _ more;
    }

pub overflow_sub-n : goal.overflow_sub-n
overflow_sub-n c = c.if-not-is_ascii_digit.ensures.cases.0
