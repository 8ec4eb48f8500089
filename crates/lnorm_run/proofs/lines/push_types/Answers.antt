use Rattle.std.proofs.Common.{◌∙◌, ◌++◌, List, ℕ, string_bytes, subst, sym}
use Rattle.std.specs.List.{flat_map}
use Rattle.std.specs.Map.Iter.{TakesFirst, deref, deref_pair}
use Rattle.lalrpop_norm_repr.specs.Productions.{nonterminal_data_view}
use Rattle.lalrpop_norm_repr.specs.Tables.{rows}
use Rattle.lnorm_run.specs.Lines.{line_among}
use Rattle.lnorm_run.proofs.MergedLines.{IsAt, begins, both_go, ends, name_goes, row_goes}
use Rattle.lnorm_run.proofs.lines.push_types.Goals as goal

pub loop-name-init : goal.loop-name-init
loop-name-init g c =
    begins g.T.LoweredType.as_repr nonterminal_data_view c.args.nonterminals.now.entries c.args.types.now.entries (string_bytes c.args.text.now)
    c.keys-names.ensures.ordered c.iter-rows.ensures.ordered
    _ _ (subst (λ ns. TakesFirst deref ns c.next-name.result c.next-name.new.self) c.keys-names.ensures.rest c.next-name.ensures.steps)
    _ _ (subst (λ rs. TakesFirst deref_pair rs c.next-row.result c.next-row.new.self) c.iter-rows.ensures.rest c.next-row.ensures.steps)

pub loop-name-preserved-in-Less : goal.loop-name-preserved-in-Less
loop-name-preserved-in-Less g c =
    name_goes g.T.LoweredType.as_repr _ _ c.loop-name.name c.loop-name.names c.loop-name.row c.loop-name.rows c.in-Some-Some.asked c.in-Some-Some.typed c.in-Some-Some.ty
    c.in-Some-Some.is-0 c.in-Some-Some.is-1 c.loop-name.invariant (sym c.cmp.ensures ∙ c.in-Less.is)
    _ _ c.next-name-in-Less.ensures.steps

pub loop-name-preserved-in_ok-push_type-in-Equal :
    goal.loop-name-preserved-in_ok-push_type-in-Equal
loop-name-preserved-in_ok-push_type-in-Equal g c =
    let whole : List ℕ = string_bytes c.args.text.now ++ flat_map (line_among (rows g.T.LoweredType.as_repr c.args.types.now)) (rows nonterminal_data_view c.args.nonterminals.now) in
    subst (λ text. IsAt g.T.LoweredType.as_repr whole text c.next-name-in-Equal.result c.next-name-in-Equal.new.self c.next-row-in-Equal.result c.next-row-in-Equal.new.self)
    (sym c.in_ok-push_type-in-Equal.ensures)
    (both_go g.T.LoweredType.as_repr whole (string_bytes c.loop-name.text) c.loop-name.name c.loop-name.names c.loop-name.row c.loop-name.rows c.in-Some-Some.asked c.in-Some-Some.typed c.in-Some-Some.ty
    c.in-Some-Some.is-0 c.in-Some-Some.is-1 c.loop-name.invariant (sym c.cmp.ensures ∙ c.in-Equal.is)
    _ _ c.next-name-in-Equal.ensures.steps _ _ c.next-row-in-Equal.ensures.steps)

pub loop-name-preserved : goal.loop-name-preserved
loop-name-preserved g c =
    row_goes g.T.LoweredType.as_repr _ _ c.loop-name.name c.loop-name.names c.loop-name.row c.loop-name.rows c.in-Some-Some.asked c.in-Some-Some.typed c.in-Some-Some.ty
    c.in-Some-Some.is-0 c.in-Some-Some.is-1 c.loop-name.invariant (sym c.cmp.ensures ∙ c.in-Greater.is)
    _ _ c.next-row-in-Greater.ensures.steps

pub returns-in_default : goal.returns-in_default
returns-in_default g c =
    ends g.T.LoweredType.as_repr _ (string_bytes c.loop-name.text) c.loop-name.name c.loop-name.names c.loop-name.row c.loop-name.rows c.in_default.is-1 c.loop-name.invariant
