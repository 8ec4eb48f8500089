use Rattle.std.proofs.Common.{◌++◌, List, Option, ap, ◌∙◌}
use Rattle.std.specs.List.{flat_map}
use Rattle.lalrpop_norm_theory.specs.Symbols.{Name}
use Rattle.lalrpop_norm_theory.specs.LoweredTrees.{Origin}
use Rattle.lalrpop_norm_nodes.specs.Tables.{wholes_in}
use Rattle.lalrpop_norm_origins.specs.Origins.{origin_lists}
use Rattle.lalrpop_norm_macro_expand.specs.TracedRules.{made_list}
use Rattle.lalrpop_norm_macro_expand.proofs.macro_expand.traced.plain_lists.Goals as goal

pub returns : goal.returns
returns c =
    c.in_ok-add_all_made.ensures
    ∙ ap (λ (f : Name → Option (List Origin)). origin_lists c.args.lists.plain.items ++ flat_map (made_list f (wholes_in c.args.expanded.now.table)) c.args.expanded.now.made.items)
    c.in_ok-named.ensures
