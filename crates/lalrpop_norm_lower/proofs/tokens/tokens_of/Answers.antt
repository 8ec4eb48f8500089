use Rattle.std.proofs.Common.{◌∙◌, ◌+◌, ◌++◌, sym, ap, map, drop}
use Rattle.std.specs.Prelude.{flat_map}
use Rattle.std.specs.Map.{keys_of}
use Rattle.lalrpop_norm_faults.proofs.FaultLemmas.{at_drop_item}
use Rattle.lalrpop_norm_tree.specs.Items.{item_view}
use Rattle.lalrpop_norm_tree_patterns.specs.Patterns.{pattern_view}
use Rattle.lalrpop_norm_tree_parts.specs.Reprs.{repr_view}
use Rattle.lalrpop_norm_common.specs.Sessions.{features_view}
use Rattle.lalrpop_norm_repr.specs.Tables.{rows}
use Rattle.lalrpop_norm_lower.specs.Conversions.{sorted_terminals}
use Rattle.lalrpop_norm_lower.specs.Made.{token_rows}
use Rattle.lalrpop_norm_lower.proofs.RowLemmas.{keys_step, sorted_step}
use Rattle.lalrpop_norm_lower.proofs.tokens.tokens_of.Goals as goal

pub loop-item-preserved : goal.loop-item-preserved
loop-item-preserved g c =
    let split = at_drop_item (λ ys. flat_map (token_rows (features_view c.args.session.now.features) c.args.span) (map item_view ys)) c.args.items.now c.loop-item.item-index c.item-item.result c.loop-item-test.true c.item-item.is in
    let here = token_rows (features_view c.args.session.now.features) c.args.span (item_view c.item-item.result) in
    let rest = flat_map (token_rows (features_view c.args.session.now.features) c.args.span) (map item_view (drop (c.loop-item.item-index + 1) c.args.items.now)) in (
      keys_step c.add_item.new.tokens.all.items c.loop-item.tokens.all.items here rest c.in_ok-add_item.ensures.all
          ∙ ap (λ r. c.loop-item.tokens.all.items ++ keys_of r) (sym split) ∙ c.loop-item.invariant.0,
      sorted_step (rows (pattern_view repr_view) c.add_item.new.tokens.patterns) (rows (pattern_view repr_view) c.loop-item.tokens.patterns) here rest c.in_ok-add_item.ensures.patterns
          ∙ ap (sorted_terminals (rows (pattern_view repr_view) c.loop-item.tokens.patterns)) (sym split) ∙ c.loop-item.invariant.1,
    )
