use Rattle.std.proofs.Common.{rules, ◌≡◌, ◌∙◌, IfOk, refl, sym, ap, subst}
use Rattle.lalrpop_norm_tree.specs.Symbols.{terminal, nonterminal, error_terminal, kind_view}
use Rattle.lalrpop_norm_repr.specs.declared.symbol.Symbol.TheVariants.{Nonterminal, Terminal}
use Rattle.lalrpop_norm_lower.proofs.WrappedLemmas.{lowered_under, named_by_text}
use Rattle.lalrpop_norm_lower.proofs.symbols.lowered_symbol.Goals as goal

pub returns-in_ok-clone-in-Some-Terminal : goal.returns-in_ok-clone-in-Some-Terminal
returns-in_ok-clone-in-Some-Terminal c =
    let same : c.in_ok-clone-in-Some-Terminal.field-0 ≡ c.in-Some-Terminal.terminal.now = search rules in
    ap (λ t. Terminal t) same
    ∙ sym (lowered_under c.args.symbol.now c.unwrapped.result.now c.unwrapped.ensures (terminal c.in-Some-Terminal.terminal.now) (rw c.in-Some-Terminal.field-0-is at c.in-Some-Terminal.ensures.is))

pub returns-in_ok-clone-in-Some-Nonterminal : goal.returns-in_ok-clone-in-Some-Nonterminal
returns-in_ok-clone-in-Some-Nonterminal c =
    let same : c.in_ok-clone-in-Some-Nonterminal.field-0 ≡ c.in-Some-Nonterminal.name.now = search rules in
    ap (λ n. Nonterminal n) same
    ∙ sym (lowered_under c.args.symbol.now c.unwrapped.result.now c.unwrapped.ensures (nonterminal c.in-Some-Nonterminal.name.now.0) (rw c.in-Some-Nonterminal.field-0-is at c.in-Some-Nonterminal.ensures.is))

pub returns-in-Some-Error : goal.returns-in-Some-Error
returns-in-Some-Error c =
    sym (lowered_under c.args.symbol.now c.unwrapped.result.now c.unwrapped.ensures error_terminal (rw c.in-Some-Error.field-0-is at c.in-Some-Error.ensures.is))

pub returns-in-None : goal.returns-in-None
returns-in-None c =
    let kind = kind_view c.unwrapped.result.now.kind in
    subst (λ y. IfOk c.named_by_text.result (λ s. s ≡ y)) (sym (lowered_under c.args.symbol.now c.unwrapped.result.now c.unwrapped.ensures kind refl ∙ named_by_text kind c.in-None.ensures.none)) c.named_by_text.ensures
