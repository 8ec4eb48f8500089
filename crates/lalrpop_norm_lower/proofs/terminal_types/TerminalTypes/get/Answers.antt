use Rattle.std.proofs.Common.{◌≡◌, ◌∙◌, Option, Some, None, ap, refl, unwrap_or}
use Rattle.std.specs.Prelude.{option_map}
use Rattle.std.specs.Option.{option_copied}
use denote.Ref.{Bor}
use Rattle.lalrpop_norm_tree_parts.specs.Reprs.{ReprData}
use Rattle.lalrpop_norm_repr.proofs.TableLemmas.{found_terminal_rows}
use Rattle.lalrpop_norm_repr.proofs.TerminalOrder.{terminal_ties}
use Rattle.lalrpop_norm_shared_types.specs.Shared.{shared_view}
use Rattle.lalrpop_norm_shared_types.specs.declared.shared.SharedType.{SharedType}
use Rattle.lalrpop_norm_lower.proofs.terminal_types.TerminalTypes.get.Goals as goal

-- a type behind a reference, or another, seen as data
seen_or : (o : Option (Bor SharedType)) (t : Bor SharedType) → shared_view (unwrap_or o t).now ≡ unwrap_or (option_map shared_view (option_copied o)) (shared_view t.now)
seen_or None t = refl
seen_or (Some s) t = refl

pub returns : goal.returns
returns c =
    let types = c.args.self.now in
    c.in_ok-clone.ensures.cases ∙ ap (λ (t : Bor SharedType). shared_view t.now) c.unwrap_or-ty.ensures ∙ seen_or c.get.result _
    ∙ ap (λ (o : Option ReprData). unwrap_or o (shared_view types.token))
    (ap (option_map shared_view) c.get.ensures.value
    ∙ found_terminal_rows shared_view c.args.terminal.now _ (λ q. terminal_ties c.args.terminal.now q) types.listed.entries)
