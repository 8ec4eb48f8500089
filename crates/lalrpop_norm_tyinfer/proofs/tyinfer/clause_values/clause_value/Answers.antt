use Rattle.std.proofs.Common.{ℕ, Bor, map, ◌∙◌}
use Rattle.lalrpop_norm_tree.specs.declared.symbol.Symbol.{Symbol}
use Rattle.lalrpop_norm_tree.specs.Symbols.{kind_view}
use Rattle.lalrpop_norm_tyinfer_steps.specs.Numbered.{numbered_table}
use Rattle.lalrpop_norm_tyinfer_steps.proofs.ClauseLemmas.{sources_mean}
use Rattle.lalrpop_norm_tyinfer_steps.proofs.StopLemmas.{if_ok}
use Rattle.lalrpop_norm_tyinfer.proofs.tyinfer.clause_values.clause_value.Goals as goal

pub returns-in-Sources : goal.returns-in-Sources
returns-in-Sources c =
    let ks = map (λ (t : ℕ × Bor Symbol). kind_view t.1.now.kind) c.in-Sources.sources.items in
    rw c.in-Sources.is (if_ok c.sources_value.result (rw c.deref.ensures.value at c.sources_value.ensures) (λ o is ps. is ∙ sources_mean ps (numbered_table c.args.types.now) ks))
