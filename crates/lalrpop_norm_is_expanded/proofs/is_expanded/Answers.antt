use Rattle.std.proofs.Common.{sym, ◌∙◌}
use Rattle.lalrpop_norm_tree.specs.Items.{grammar_view}
use Rattle.lalrpop_norm_is_expanded.proofs.WholeLemmas.{expanded_if, plain_of, sources_of}
use Rattle.lalrpop_norm_is_expanded.proofs.is_expanded.Goals as goal

pub returns-then-are_sources_apart : goal.returns-then-are_sources_apart
returns-then-are_sources_apart c =
    let g = grammar_view c.args.grammar.now in
    let apart = rw c.deref.ensures.value at c.are_sources_apart.ensures in
    (λ e. expanded_if g (apart.0 c.if-are_sources_apart.true) (sym c.are_parts_plain.ensures ∙ e), λ x. c.are_parts_plain.ensures ∙ plain_of g x)

pub returns-else-are_sources_apart : goal.returns-else-are_sources_apart
returns-else-are_sources_apart c =
    let apart = rw c.deref.ensures.value at c.are_sources_apart.ensures in
    let passed_over = c.if-are_sources_apart.false in
    (λ e. absurd cc, λ x. let passed = apart.1 (sources_of (grammar_view c.args.grammar.now) x) in cc)
