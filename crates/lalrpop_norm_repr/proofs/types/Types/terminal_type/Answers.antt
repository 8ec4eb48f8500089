use Rattle.std.proofs.Common.{ap, sym, ◌∙◌, Option, unwrap_or}
use Rattle.std.specs.Prelude.{option_map}
use Rattle.std.specs.Option.{option_copied}
use denote.Ref.{Bor}
use Rattle.lalrpop_norm_tree_parts.specs.declared.lowered.TypeRepr.{TypeRepr}
use Rattle.lalrpop_norm_tree_parts.specs.Reprs.{repr_view, ReprData}
use Rattle.lalrpop_norm_repr.proofs.TableLemmas.{found_terminal_rows}
use Rattle.lalrpop_norm_repr.proofs.TerminalOrder.{terminal_ties}
use Rattle.lalrpop_norm_repr.proofs.types.Types.terminal_type.Goals as goal

pub returns-in-Some : goal.returns-in-Some
returns-in-Some c =
    ap (λ (o : Option ReprData). unwrap_or o (repr_view c.args.self.now.terminal_token_type))
    (ap (λ (o : Option (Bor TypeRepr)). option_map repr_view (option_copied o)) (sym c.in-Some.is)
    ∙ ap (option_map repr_view) c.get.ensures.value
    ∙ found_terminal_rows repr_view c.args.terminal.now _ (λ q. terminal_ties c.args.terminal.now q) c.args.self.now.terminal_types.entries)

pub returns-in-None : goal.returns-in-None
returns-in-None c =
    ap (λ (o : Option ReprData). unwrap_or o (repr_view c.args.self.now.terminal_token_type))
    (ap (λ (o : Option (Bor TypeRepr)). option_map repr_view (option_copied o)) (sym c.in-None.is)
    ∙ ap (option_map repr_view) c.get.ensures.value
    ∙ found_terminal_rows repr_view c.args.terminal.now _ (λ q. terminal_ties c.args.terminal.now q) c.args.self.now.terminal_types.entries)
