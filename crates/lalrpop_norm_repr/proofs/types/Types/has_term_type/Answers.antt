use Rattle.std.proofs.Common.{sym, ◌∙◌, IsSome, Option, subst}
use Rattle.lalrpop_norm_tree_parts.specs.Reprs.{repr_view, ReprData}
use Rattle.lalrpop_norm_repr.proofs.TableLemmas.{found_terminal_rows, some_of_map, some_map}
use Rattle.lalrpop_norm_repr.proofs.TerminalOrder.{terminal_ties}
use Rattle.lalrpop_norm_repr.proofs.types.Types.has_term_type.Goals as goal

pub returns : goal.returns
returns c =
    let same = found_terminal_rows repr_view c.args.terminal.now _ (λ q. terminal_ties c.args.terminal.now q) c.args.self.now.terminal_types.entries in (
      λ h. subst (λ (o : Option ReprData). IsSome o) same (some_map repr_view _ (sym c.contains_key.ensures ∙ h)),
      λ h. c.contains_key.ensures ∙ some_of_map repr_view _ (subst (λ (o : Option ReprData). IsSome o) (sym same) h),
    )
