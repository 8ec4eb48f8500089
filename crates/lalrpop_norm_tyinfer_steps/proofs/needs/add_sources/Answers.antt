use Rattle.std.proofs.Common.{Bor, ℕ, List, map}
use Rattle.std.specs.List.{flat_map}
use Rattle.std.proofs.lemmas.List.{map-append}
use Rattle.lalrpop_norm_tree.specs.declared.symbol.Symbol.{Symbol}
use Rattle.lalrpop_norm_tree.specs.Symbols.{kind_view}
use Rattle.lalrpop_norm_model.specs.Expanded.{names_in_kind}
use Rattle.lalrpop_norm_common.proofs.ListLemmas.{next_collected}
use Rattle.lalrpop_norm_names.specs.Numbers.{number_in_table}
use Rattle.lalrpop_norm_tyinfer_steps.proofs.needs.add_sources.Goals as goal

pub loop-source-preserved : goal.loop-source-preserved
loop-source-preserved c =
    let f = number_in_table c.args.names.now in
    let seen : List (ℕ × Bor Symbol) → List (List ℕ) = λ ts. flat_map names_in_kind (map (λ (t : ℕ × Bor Symbol). kind_view t.1.now.kind) ts) in
    next_collected (λ (ts : List (ℕ × Bor Symbol)). map f (seen ts)) (λ (t : ℕ × Bor Symbol). map f (names_in_kind (kind_view t.1.now.kind))) (λ t ts. map-append f (names_in_kind (kind_view t.1.now.kind)) (seen ts))
    c.args.sources.now c.loop-source.source-index c.source-item.result c.loop-source.numbers.items c.add_kind.new.numbers.items _
    c.loop-source-test.true c.source-item.is c.in_ok-add_kind.ensures c.loop-source.invariant
