use Rattle.std.proofs.Common.{ap, sym, ◌∙◌, Option, IsSome, subst}
use Rattle.std.specs.Prelude.{option_map}
use Rattle.lalrpop_norm_tree_parts.specs.Reprs.{repr_view, ReprData}
use Rattle.lalrpop_norm_repr.proofs.TableLemmas.{found_rows, some_of_map}
use Rattle.lalrpop_norm_repr.proofs.types.Types.nonterminal_type.Goals as goal

pub index-requires : goal.index-requires
index-requires c =
    some_of_map repr_view _ (subst (λ (o : Option ReprData). IsSome o) (sym (found_rows repr_view c.args.name.now c.args.self.now.nonterminal_types.entries)) c.requires)

pub returns : goal.returns
returns c =
    ap (option_map repr_view) (sym c.index.ensures) ∙ found_rows repr_view c.args.name.now c.args.self.now.nonterminal_types.entries
