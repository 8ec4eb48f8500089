use Rattle.std.proofs.Common.{List, sym, subst}
use Rattle.lalrpop_norm_theory.specs.LoweredTrees.{Origin}
use Rattle.lalrpop_norm_tree.specs.Items.{GrammarData, grammar_view}
use Rattle.lalrpop_norm_common.specs.Sessions.{features_view}
use Rattle.lalrpop_norm_origins.specs.Shapes.{IsShaped}
use Rattle.lalrpop_norm_origins.specs.EnabledOrigins.{enabled_origins}
use Rattle.lalrpop_norm_origins.proofs.ShapeLemmas.{shaped_enabled}
use Rattle.lalrpop_norm_prevalidate.proofs.cond_comp.remove_disabled_traced.Goals as goal

pub returns-clause-shaped : goal.returns-clause-shaped
returns-clause-shaped g c =
    let fs = features_view c.args.session.now.features in
    let tree = grammar_view c.args.grammar in
    subst (λ (oss : List (List Origin)). IsShaped (grammar_view c.in_ok-enabled.enabled).items oss) (sym c.in_ok-origins.ensures)
    (subst (λ (h : GrammarData). IsShaped h.items (enabled_origins fs tree)) (sym c.in_ok-enabled.ensures) (shaped_enabled fs tree))
