use Rattle.std.proofs.Common.{Bor, ◌++◌, ℕ, List, map, sym, ap, ◌∙◌}
use Rattle.std.proofs.lemmas.Result.{on_ok_weaker}
use Rattle.lalrpop_norm_tree.specs.declared.symbol.Symbol.{Symbol}
use Rattle.lalrpop_norm_tree.specs.Symbols.{kind_view}
use Rattle.lalrpop_norm_names.specs.Numbers.{number_in_table}
use Rattle.lalrpop_norm_tyinfer_steps.proofs.NeededLemmas.{needed_of_sources}
use Rattle.lalrpop_norm_tyinfer_steps.proofs.needs.add_clause.Goals as goal

pub returns-in-Sources : goal.returns-in-Sources
returns-in-Sources c =
    let kinds = map (λ (t : ℕ × Bor Symbol). kind_view t.1.now.kind) c.in-Sources.sources.items in
    let added = λ (ns : List (List ℕ)). c.args.numbers.now.items ++ map (number_in_table c.args.names.now) ns in
    rw c.in-Sources.is (on_ok_weaker c.add_sources.result (λ are ps. are ∙ ap added (sym (needed_of_sources ps kinds))) (rw c.deref.ensures.value at c.add_sources.ensures))
