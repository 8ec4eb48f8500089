use Rattle.std.proofs.Common.{◌++◌, codes, string_bytes, rules, subst}
use Rattle.lalrpop_norm_faults.specs.Faults.{code_of}
use Rattle.lnorm_streams.specs.Streams.{WritesFront, one_line, span_text}
use Rattle.lnorm_streams.proofs.FrontLemmas.{front_here, front_then}
use Rattle.lnorm_streams.proofs.LineLemmas.{line_parts}
use Rattle.lnorm_streams.proofs.halt.say_fault.Goals as goal

pub returns-then-write_site : goal.returns-then-write_site
returns-then-write_site g c =
    let at = g.E.Write.contents in
    let error = c.args.error.now in
    subst (WritesFront (at c.args.faults.now) (at c.end_line-whole.new.faults)) (line_parts error.fault error.span (string_bytes error.message))
    (front_then (at c.args.faults.now) (at c.write_site.new.faults) (at c.end_line-whole.new.faults)
    ((code_of error.fault ++ codes " ") ++ span_text error.span) (one_line (string_bytes error.message) ++ codes "\n") (search rules) (search rules))

pub returns-else-write_site : goal.returns-else-write_site
returns-else-write_site g c =
    let at = g.E.Write.contents in
    let error = c.args.error.now in
    subst (WritesFront (at c.args.faults.now) (at c.write_site.new.faults)) (line_parts error.fault error.span (string_bytes error.message))
    (front_here (at c.args.faults.now) (at c.write_site.new.faults)
    ((code_of error.fault ++ codes " ") ++ span_text error.span) (one_line (string_bytes error.message) ++ codes "\n") (search rules))
