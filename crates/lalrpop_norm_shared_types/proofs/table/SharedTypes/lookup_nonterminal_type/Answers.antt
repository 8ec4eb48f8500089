use Rattle.std.proofs.Common.{ap, ◌∙◌}
use Rattle.std.specs.Prelude.{option_map}
use Rattle.lalrpop_norm_repr.proofs.TableLemmas.{found_rows}
use Rattle.lalrpop_norm_shared_types.specs.Shared.{shared_view}
use Rattle.lalrpop_norm_shared_types.proofs.MadeRows.{seen_behind}
use Rattle.lalrpop_norm_shared_types.proofs.table.SharedTypes.lookup_nonterminal_type.Goals as goal

pub returns : goal.returns
returns c =
    seen_behind shared_view c.get.result
    ∙ ap (option_map shared_view) c.get.ensures.value
    ∙ found_rows shared_view c.args.name.now c.args.self.now.nonterminals.entries
