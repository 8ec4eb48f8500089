use Rattle.std.proofs.Common.{List, Bor, ℕ, map, refl, arith, ap, ◌∙◌}
use Rattle.lalrpop_norm_tree.specs.declared.symbol.Symbol.{Symbol}
use Rattle.lalrpop_norm_tree.specs.Symbols.{kind_view}
use Rattle.lalrpop_norm_tyinfer_steps.specs.Numbered.{numbered_table}
use Rattle.lalrpop_norm_tyinfer_steps.specs.Clauses.{kinds_in}
use Rattle.lalrpop_norm_tyinfer_steps.specs.TableValues.{kind_in}
use Rattle.lalrpop_norm_tyinfer_steps.proofs.ValueLemmas.{next_value, last_value, before, before_nothing}
use Rattle.std.specs.Prelude.{option_map}
use Rattle.std.proofs.lemmas.Result.{IfOk-from_err}
use borrow.Author.Count.{falls}
use Rattle.lalrpop_norm_shared_types.specs.Shared.{shared_view}
use Rattle.lalrpop_norm_tyinfer.proofs.Loops.{lacks_value}
use Rattle.lalrpop_norm_tyinfer.proofs.tyinfer.clause_values.all_values.Goals as goal

pub loop-source-preserved : goal.loop-source-preserved
loop-source-preserved c =
    let tt = numbered_table c.args.types.now in
    rw c.in_ok-push-in-Some.ensures.items
    (next_value (λ (ts : List (ℕ × Bor Symbol)). kinds_in tt (map (λ (t : ℕ × Bor Symbol). kind_view t.1.now.kind) ts)) (λ (t : ℕ × Bor Symbol). kind_in tt (kind_view t.1.now.kind)) (λ t ts. refl)
    c.args.sources.now c.loop-source.source-index c.source-item.result c.loop-source.values.items c.in-Some.ty _
    (omega arith) c.source-item.is (rw c.in-Some.is at c.in_ok-ty.ensures) c.loop-source.invariant)

pub returns : goal.returns
returns c =
    let tt = numbered_table c.args.types.now in
    last_value (λ (ts : List (ℕ × Bor Symbol)). kinds_in tt (map (λ (t : ℕ × Bor Symbol). kind_view t.1.now.kind) ts)) (λ (t : ℕ × Bor Symbol). kind_in tt (kind_view t.1.now.kind)) refl
    c.args.sources.now c.loop-source.source-index c.loop-source.values.items _ c.loop-source-test.false c.loop-source.invariant

pub loop-source-init : goal.loop-source-init
loop-source-init c =
    let all = kinds_in (numbered_table c.args.types.now) (map (λ (t : ℕ × Bor Symbol). kind_view t.1.now.kind) c.args.sources.now) in
    ap (λ vs. option_map (before (map shared_view vs)) all) c.in_ok-values.ensures.items ∙ before_nothing all

pub loop-source-smaller : goal.loop-source-smaller
loop-source-smaller c = falls _ _ c.loop-source-test.true

pub returns-in-None : goal.returns-in-None
returns-in-None c =
    let tt = numbered_table c.args.types.now in
    lacks_value (λ (ts : List (ℕ × Bor Symbol)). kinds_in tt (map (λ (t : ℕ × Bor Symbol). kind_view t.1.now.kind) ts)) (λ (t : ℕ × Bor Symbol). kind_in tt (kind_view t.1.now.kind)) (λ t ts. refl)
    c.args.sources.now c.loop-source.source-index c.source-item.result (map shared_view c.loop-source.values.items) _ c.loop-source-test.true c.source-item.is (rw c.in-None.is at c.in_ok-ty.ensures) c.loop-source.invariant

pub returns-in_err-values : goal.returns-in_err-values
returns-in_err-values c = IfOk-from_err _ _ c.from_residual.ensures.0
