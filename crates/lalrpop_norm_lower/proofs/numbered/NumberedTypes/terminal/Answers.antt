use Rattle.std.proofs.Common.{◌≡◌, subst}
use Rattle.std.specs.Prelude.{IfOk}
use mathlib.Core.Logic.{∥∥₁_elim}
use Rattle.lalrpop_norm_repr.specs.Tables.{type_of_terminal}
use Rattle.lalrpop_norm_shared_types.specs.Shared.{shared_view}
use Rattle.lalrpop_norm_shared_types.specs.Table.{shared_table}
use Rattle.lalrpop_norm_lower.specs.TerminalTypes.{type_at_terminal}
use Rattle.lalrpop_norm_lower.proofs.NumberLemmas.{types_are_set}
use Rattle.lalrpop_norm_lower.proofs.numbered.NumberedTypes.terminal.Goals as goal

pub returns : goal.returns
returns c =
    let types = c.args.self.now in
    let typed : type_at_terminal types.terminals c.args.terminal.now ≡ type_of_terminal c.args.terminal.now (shared_table types.table.now) =
    ∥∥₁_elim types.terminals_typed (types_are_set _ _) (λ known. known c.args.terminal.now) in
    subst (λ t. IfOk c.get.result (λ s. shared_view s ≡ t)) typed c.get.ensures
