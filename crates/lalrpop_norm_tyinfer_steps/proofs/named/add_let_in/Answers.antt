use Rattle.std.proofs.Common.{◌≡◌, ◌++◌, OnOk, subst, sym, ◌∙◌}
use Rattle.lalrpop_norm_tree.specs.Items.{grammar_view}
use Rattle.lalrpop_norm_model.specs.Terminals.{terminals_used}
use Rattle.lalrpop_norm_tyinfer_steps.proofs.LiteralLemmas.{kept, literals_let}
use Rattle.lalrpop_norm_tyinfer_steps.proofs.named.add_let_in.Goals as goal

pub returns : goal.returns
returns c = kept _ (sym c.lets_in.ensures ∙ c.if-lets_in.false) c.args.names.now.items (terminals_used (grammar_view c.args.grammar.now))

pub returns-then-lets_in : goal.returns-then-lets_in
returns-then-lets_in c =
    subst (λ ts. OnOk c.add_literals.result (c.add_literals.new.names.items ≡ c.args.names.now.items ++ ts))
    (literals_let _ (sym c.lets_in.ensures ∙ c.if-lets_in.true) c.deref-then-lets_in.result.now (grammar_view c.args.grammar.now) (cc (c.deref-then-lets_in.ensures.value, c.deref.ensures.value, c.in_ok-uses.ensures)))
    c.add_literals.ensures
