use Rattle.std.proofs.Common.{sym, ◌∙◌}
use Rattle.lalrpop_norm_tree.specs.Items.{grammar_view}
use Rattle.lalrpop_norm_repr.specs.Tables.{type_table}
use Rattle.lalrpop_norm_common.specs.Sessions.{features_view}
use Rattle.lalrpop_norm_is_typed.proofs.WholeLemmas.{passes_typed, typed_passes}
use Rattle.lalrpop_norm_is_typed.proofs.is_typed.Goals as goal

pub returns : goal.returns
returns g c =
    let fs = features_view c.args.session.now.features in
    let grammar = grammar_view c.args.grammar.now in
    let table = type_table c.args.types.now in
    (λ e. passes_typed fs grammar table (sym c.is_typed_by.ensures ∙ e), λ t. c.is_typed_by.ensures ∙ typed_passes fs grammar table t)
