use Rattle.std.proofs.Common.{◌≡◌, ◌∙◌, ◌+◌, ◌++◌, cond, ap, arith, sym, drop, map}
use Rattle.lalrpop_norm_faults.proofs.FaultLemmas.{at_drop_item}
use Rattle.lalrpop_norm_tree.specs.Symbols.{parts_view, symbol_view, argument_pattern_view}
use Rattle.lalrpop_norm_lower.specs.Naming.{patterns_from, argument_patterns}
use Rattle.lalrpop_norm_lower.proofs.ArgumentLemmas.{one_more_pattern, patterns_told}
use Rattle.lalrpop_norm_lower.proofs.arguments.argument_patterns.Goals as goal
use Rattle.lalrpop_norm_lower.proofs.arguments.argument_patterns.Goals.{then-source, else-source}

pub loop-symbol-init : goal.loop-symbol-init
loop-symbol-init c = (
  ap (λ ps. map argument_pattern_view ps ++ patterns_from c.args.prefix.now c.args.sources.some_named c.args.sources.some_chosen 0 (parts_view c.args.symbols.now)) c.in_ok-patterns.ensures.items
      ∙ patterns_told c.args.prefix.now (parts_view c.args.symbols.now) c.args.sources c.requires,
  omega arith,
)

pub loop-symbol-preserved : goal.loop-symbol-preserved
loop-symbol-preserved c =
    let prefix = c.args.prefix.now in
    let named = c.args.sources.some_named in
    let chosen = c.args.sources.some_chosen in
    let source = c.contain-source.result in
    let number = c.loop-symbol.number in
    let before = map argument_pattern_view c.loop-symbol.patterns.items in
    let counted : c.if-source.number ≡ cond source (number + 1) number = elim c.if-source.branch [
      | then-source w ↦ w.number-is ∙ ap (λ b. cond b (number + 1) number) (sym w.if-source.true)
      | else-source w ↦ w.number-is ∙ ap (λ b. cond b (number + 1) number) (sym w.if-source.false)
    ] in (
      one_more_pattern prefix named chosen source (symbol_view c.symbol-item.result) (parts_view (drop (c.loop-symbol.symbol-index + 1) c.args.symbols.now)) number c.contain-source.ensures
          c.if-source.number before (map argument_pattern_view c.add_argument.new.patterns.items) (argument_patterns prefix (parts_view c.args.symbols.now)) counted c.in_ok-add_argument.ensures
          (sym (at_drop_item (λ ys. before ++ patterns_from prefix named chosen number (parts_view ys)) c.args.symbols.now c.loop-symbol.symbol-index c.symbol-item.result c.loop-symbol-test.true c.symbol-item.is)
          ∙ c.loop-symbol.invariant.0),
      elim c.if-source.branch [ then-source w ↦ omega arith | else-source w ↦ omega arith ],
    )
