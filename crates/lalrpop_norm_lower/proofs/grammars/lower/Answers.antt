use Rattle.std.proofs.Common.{◌∙◌, ap, map, subst, sym}
use Rattle.lalrpop_norm_names.specs.Numbers.{IsNumbering}
use Rattle.lalrpop_norm_tree.specs.Items as written
use Rattle.lalrpop_norm_tree.specs.Items.{RuleData, item_view}
use Rattle.lalrpop_norm_common.specs.Sessions.{features_view}
use Rattle.lalrpop_norm_model.specs.Expanded.{IsTyped}
use Rattle.lalrpop_norm_repr.specs.Tables.{TypeTable}
use Rattle.lalrpop_norm_lower.specs.Lowering.{rules_among}
use Rattle.lalrpop_norm_lower.specs.Made.{types_by_name}
use Rattle.lalrpop_norm_lower.proofs.FaultCounts.{rules_listed}
use Rattle.lalrpop_norm_lower.proofs.grammars.lower.Goals as goal

pub lower_shared-requires-clause-names : goal.lower_shared-requires-clause-names
lower_shared-requires-clause-names g c =
    let same = ap (λ is. rules_among (map item_view is)) c.deref.ensures.value ∙ rules_listed (written.grammar_view c.args.grammar).items in
    subst (λ rs. IsNumbering (map (λ (r : RuleData). r.name.0) rs) c.in_ok-names.names) same c.in_ok-names.ensures

pub lower_shared-requires-clause-typed : goal.lower_shared-requires-clause-typed
lower_shared-requires-clause-typed g c =
    subst (λ (t : TypeTable). IsTyped (features_view c.args.session.now.features) (written.grammar_view c.args.grammar) (types_by_name t)) (sym c.in_ok-shared.ensures) c.requires.typed
