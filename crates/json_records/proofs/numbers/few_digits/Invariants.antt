use Rattle.std.proofs.Common.{◌≡◌, ◌+◌, ◌^◌, ◌<◌, drop}
use Rattle.std.specs.Char.{is_ascii_digit}
use Rattle.std.specs.List.{prefix_len}
use Rattle.std.specs.Str.Parse.{digits_value, digits_value_after}
use Rattle.json_records.proofs.numbers.few_digits.Given as goal

abbrev pub invariant-loop-byte : goal.invariant-loop-byte
invariant-loop-byte l = record {
  value : digits_value 10 l.bytes ≡ digits_value_after 10 l.n (drop l.byte-index l.bytes);
  digits : prefix_len is_ascii_digit l.bytes ≡ l.byte-index + prefix_len is_ascii_digit (drop l.byte-index l.bytes);
  small : l.n < 10 ^ l.byte-index;
  few : l.byte-index < 18 → l.n < 10 ^ 17;
}
