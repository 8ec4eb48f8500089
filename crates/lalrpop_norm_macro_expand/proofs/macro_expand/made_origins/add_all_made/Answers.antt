use Rattle.std.proofs.Common.{◌++◌, List, refl, ap, ◌∙◌}
use Rattle.std.specs.List.{flat_map}
use Rattle.lalrpop_norm_nodes.specs.Tables.{wholes_in}
use Rattle.lalrpop_norm_origins.specs.Origins.{origin_lists}
use Rattle.lalrpop_norm_macro_expand.specs.declared.macro_expand.make.MadeSymbol.{MadeSymbol}
use Rattle.lalrpop_norm_macro_expand.specs.TracedRules.{list_under, made_list}
use Rattle.lalrpop_norm_macro_expand.proofs.LoopLemmas.{one_further, all_through}
use Rattle.lalrpop_norm_macro_expand.proofs.macro_expand.made_origins.add_all_made.Goals as goal

pub loop-symbol-preserved : goal.loop-symbol-preserved
loop-symbol-preserved c =
    let list = made_list (list_under c.args.macros.now) (wholes_in c.args.expanded.now.table) in
    let m = c.symbol-item.result in
    one_further c.deref-symbol-items.result.now c.loop-symbol.symbol-index (flat_map list) (flat_map list) m m (list m) _ _ _
    c.loop-symbol-test.true c.symbol-item.is refl c.in_ok-add_made.ensures c.loop-symbol.invariant

pub returns : goal.returns
returns c =
    let list = made_list (list_under c.args.macros.now) (wholes_in c.args.expanded.now.table) in
    all_through c.deref-symbol-items.result.now c.loop-symbol.symbol-index (flat_map list) _ _ c.loop-symbol-test.false refl c.loop-symbol.invariant
    ∙ ap (λ (ms : List MadeSymbol). origin_lists c.args.lists.now.items ++ flat_map list ms) c.deref-symbol-items.ensures.value
