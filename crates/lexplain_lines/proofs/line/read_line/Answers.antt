use Rattle.std.proofs.Common.{◌≡◌, Some, true, false, is_some, subst, refl, ap, ◌∙◌, arith, rules}
use Rattle.json_records.specs.Reading.{data_of}
use Rattle.json_records.proofs.Turns.{no_data}
use Rattle.json_records.proofs.Whole.{read_all, read_more, read_none}
use Rattle.serde_json.specs.Read.{max_depth}
use Rattle.lalrpop_norm_json.proofs.Ends.{token_there, none_there}
use Rattle.lalrpop_norm_json.proofs.Shaped.{told_none, told_some}
use Rattle.lexplain_lines.proofs.line.read_line.Goals as goal

pub returns-in_err-first-clause-not : goal.returns-in_err-first-clause-not
returns-in_err-first-clause-not g c = λ refused d e.
    let none = read_none c.args.line.now c.in-Ok.reader c.in-Ok.ensures.ok (ap (data_of max_depth) (c.in_err-first.ensures.err refl) ∙ no_data max_depth) in
    absurd (cc (none, e))

pub returns-in_err-read-clause-not : goal.returns-in_err-read-clause-not
returns-in_err-read-clause-not g c = λ refused d e.
    let none = read_none c.args.line.now c.in-Ok.reader c.in-Ok.ensures.ok (ap (data_of max_depth) c.in_ok-first.ensures.ok ∙ c.in_err-read.ensures.err (search rules)) in
    absurd (cc (none, e))

pub returns-then-is_some-clause-not : goal.returns-then-is_some-clause-not
returns-then-is_some-clause-not g c = λ refused d e.
    let done = c.in_ok-read.ensures.ok in
    let some : is_some c.next.result ≡ true = grind arith in
    let more = token_there c.next.result c.read_variant.new.reader c.next.new.self some c.next.ensures.value in
    let none = read_more c.args.line.now c.in-Ok.reader c.in-Ok.ensures.ok done.means more.0 c.next.new.self (ap (data_of max_depth) c.in_ok-first.ensures.ok ∙ done.read ∙ ap (λ ts. Some (done.means, ts)) more.1) in
    absurd (cc (none, e))

pub returns-in-Some-clause-ok : goal.returns-in-Some-clause-ok
returns-in-Some-clause-ok g c =
    let done = c.in_ok-read.ensures.ok in
    let none : is_some c.next.result ≡ false = grind arith in
    let end = none_there c.next.result c.read_variant.new.reader c.next.new.self none c.next.ensures.value in
    let all = read_all c.args.line.now c.in-Ok.reader c.in-Ok.ensures.ok done.means (ap (data_of max_depth) c.in_ok-first.ensures.ok ∙ done.read ∙ ap (λ ts. Some (done.means, ts)) end) in
    all ∙ ap (λ d. Some d) (told_some _ _ _ _ c.in-Some.is done.made)

pub returns-clause-not : goal.returns-clause-not
returns-clause-not g c = λ refused d e.
    let done = c.in_ok-read.ensures.ok in
    let none : is_some c.next.result ≡ false = grind arith in
    let end = none_there c.next.result c.read_variant.new.reader c.next.new.self none c.next.ensures.value in
    let all = read_all c.args.line.now c.in-Ok.reader c.in-Ok.ensures.ok done.means (ap (data_of max_depth) c.in_ok-first.ensures.ok ∙ done.read ∙ ap (λ ts. Some (done.means, ts)) end) in
    let same : done.means ≡ d = cc (all, e) in
    subst (λ x. g.K.Variant.can x ≡ false) same (told_none _ _ _ c.in-None.is done.made)
