use Rattle.std.proofs.Common.{arith, string_bytes}
use Rattle.lnorm_run.proofs.SymbolLines.{all_symbols}
use Rattle.lnorm_run.proofs.lines.push_symbols.Goals as goal

pub returns : goal.returns
returns c =
    all_symbols (string_bytes c.args.text.now) _ _ c.args.symbols.now c.in-Some.first.now c.in-Some.others.now c.loop-other.other-index
    c.in-Some.ensures.cases.0 (omega arith) c.in_ok-push_symbol.ensures c.loop-other.invariant
