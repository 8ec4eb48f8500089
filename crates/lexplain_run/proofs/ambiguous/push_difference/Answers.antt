use Rattle.std.proofs.Common.{codes, string_bytes}
use Rattle.lexplain_run.specs.Witnesses.{numbers_text}
use Rattle.lexplain_run.proofs.StopLemmas.{three_texts}
use Rattle.lexplain_run.proofs.ambiguous.push_difference.Goals as goal

pub returns : goal.returns
returns c =
    three_texts c.push_str-2.result (string_bytes c.args.text.now) (codes "{\"Differ\":[") (numbers_text c.args.path.now) (codes "]}\n")
    (string_bytes c.push_str.new.self) (string_bytes c.push_numbers.new.text) (string_bytes c.push_str-2.new.self)
    c.in_ok-push_str.ensures.bytes c.in_ok-push_numbers.ensures c.push_str-2.ensures.bytes
