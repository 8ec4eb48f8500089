use Rattle.std.proofs.Common.{◌∙◌, refl, arith}
use Rattle.lalrpop_norm_tree.specs.declared.symbol.ArgPattern.{ArgPattern}
use Rattle.lalrpop_norm_tree.specs.Symbols.{argument_pattern_view, argument_patterns_view}
use Rattle.lalrpop_norm_nodes.specs.Digests.{pattern_writes, patterns_writes}
use Rattle.lalrpop_norm_nodes.proofs.DigestLemmas.{one_read, all_read}
use Rattle.lalrpop_norm_nodes.proofs.digest.+pattern.Goals as goal

pub read_patterns-loop-pattern-preserved : goal.read_patterns-loop-pattern-preserved
read_patterns-loop-pattern-preserved t c =
    one_read (λ ps. patterns_writes (argument_patterns_view ps)) (λ (p : ArgPattern). pattern_writes (argument_pattern_view p)) (λ p ps. refl)
    c.args.several.now c.loop-pattern.pattern-index c.pattern-item.result c.loop-pattern.reader c.read_pattern.new.reader
    (omega arith) c.pattern-item.is c.read_pattern.ensures
    ∙ c.loop-pattern.invariant

pub read_patterns-returns : goal.read_patterns-returns
read_patterns-returns t c =
    c.write_u8.ensures
    ∙ all_read (λ ps. patterns_writes (argument_patterns_view ps))
    c.args.several.now c.loop-pattern.pattern-index c.loop-pattern.reader (omega arith)
    ∙ c.loop-pattern.invariant
