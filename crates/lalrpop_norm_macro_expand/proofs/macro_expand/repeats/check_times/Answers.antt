use Rattle.std.proofs.Common.{◌≡◌, Bool, true, false, List, sym, ap, ◌∙◌, subst}
use Rattle.lalrpop_norm_tree.specs.declared.symbol.RepeatOp.{RepeatOp}
use Rattle.lalrpop_norm_tree.specs.Symbols.{Part, symbol_view}
use Rattle.lalrpop_norm_faults.specs.declared.kind.FaultKind.TheVariants.{NamedInTimes}
use Rattle.lalrpop_norm_faults.specs.Faults.{Fault, IsFirst, fault_if}
use Rattle.lalrpop_norm_model.specs.MadeRules.{names_value}
use Rattle.lalrpop_norm_macro_expand.specs.Expansion.{unmade_repeat}
use Rattle.lalrpop_norm_macro_expand.proofs.macro_expand.repeats.check_times.Goals as goal

pub returns-then-named : goal.returns-then-named
returns-then-named c =
    let p : Part = symbol_view c.args.symbol.now in
    let named : names_value p ≡ true = sym c.names_value-named.ensures ∙ c.if-named.true in
    subst (λ (fs : List Fault). IsFirst fs c.refusal.result)
    (sym (ap (λ (op : RepeatOp). unmade_repeat c.args.span op p) c.in-Times.is ∙ ap (λ (b : Bool). fault_if b (NamedInTimes, c.args.span)) named))
    c.refusal.ensures.first

pub returns-else-named : goal.returns-else-named
returns-else-named c =
    let p : Part = symbol_view c.args.symbol.now in
    let unnamed : names_value p ≡ false = sym c.names_value-named.ensures ∙ c.if-named.false in
    ap (λ (op : RepeatOp). unmade_repeat c.args.span op p) c.in-Times.is ∙ ap (λ (b : Bool). fault_if b (NamedInTimes, c.args.span)) unnamed
