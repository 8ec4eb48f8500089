use Rattle.std.proofs.Common.{ap, sym, ◌∙◌}
use Rattle.std.specs.Prelude.{option_map}
use Rattle.std.proofs.lemmas.Map.Text.{is_eq-slice_cmp}
use Rattle.lalrpop_norm_repr.proofs.TableLemmas.{found_rows, other_name}
use Rattle.lalrpop_norm_shared_types.specs.Shared.{shared_view}
use Rattle.lalrpop_norm_shared_types.proofs.table.SharedTypes.add_type.Goals as goal

pub returns-clause-added : goal.returns-clause-added
returns-clause-added c =
    sym (found_rows shared_view c.args.name _) ∙ ap (option_map shared_view) c.in_ok-insert.ensures.updates.1

pub returns-clause-others : goal.returns-clause-others
returns-clause-others c =
    λ other apart.
    sym (found_rows shared_view other _)
    ∙ ap (option_map shared_view) (c.in_ok-insert.ensures.updates.2 other (is_eq-slice_cmp c.args.name.0 other.0 ∙ other_name c.args.name other apart))
    ∙ found_rows shared_view other _
