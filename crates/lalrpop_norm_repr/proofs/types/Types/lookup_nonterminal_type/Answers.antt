use Rattle.std.proofs.Common.{ap, ◌∙◌}
use Rattle.std.specs.Prelude.{option_map}
use Rattle.lalrpop_norm_tree_parts.specs.Reprs.{repr_view}
use Rattle.lalrpop_norm_repr.proofs.TableLemmas.{found_rows}
use Rattle.lalrpop_norm_repr.proofs.SeenTypes.{seen_through}
use Rattle.lalrpop_norm_repr.proofs.types.Types.lookup_nonterminal_type.Goals as goal

pub returns : goal.returns
returns c =
    seen_through c.get.result
    ∙ ap (option_map repr_view) c.get.ensures.value
    ∙ found_rows repr_view c.args.name.now c.args.self.now.nonterminal_types.entries
