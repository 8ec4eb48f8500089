-- Answers on references: the record, and a member of it.
use Rattle.std.proofs.Common.{[], ◌∷◌, None, refl, inl, inr}
use Rattle.std.specs.Prelude.{codes}
use Rattle.json.specs.Reads.{token_of}
use Rattle.serde_json.specs.Data.{Data, boolean}
use Rattle.json_records.specs.Reading.{maybe_form}
use Rattle.lalrpop_norm_tree.specs.Types.{type_view}
use Rattle.lalrpop_norm_json.specs.Forms.{lifetime_form}
use Rattle.lalrpop_norm_json.specs.TypeForms.{type_form}
use Rattle.lalrpop_norm_json.specs.Shapes as shape
use Rattle.lalrpop_norm_json.specs.Shapes.{one, maybe}
use Rattle.lalrpop_norm_json.proofs.Shaped.{told_none, told_some}
use Rattle.json_records.proofs.Turns as turn
use Rattle.lalrpop_norm_json.proofs.Loops as loop
use Rattle.lalrpop_norm_json.proofs.Taken as taken
use Rattle.lalrpop_norm_json.proofs.Steps as step
use Rattle.lalrpop_norm_json.proofs.TypesRead.{reference_read}
use Rattle.lalrpop_norm_json.proofs.tree.types.+type_ref.Goals as goal

pub reference_type-returns-in_err-depth : goal.reference_type-returns-in_err-depth
reference_type-returns-in_err-depth t c = step.fails _ _ _ c.from_residual.ensures c.in_err-depth.ensures.err

pub reference_type-returns-in_default : goal.reference_type-returns-in_default
reference_type-returns-in_default t c =
    step.answers
    (loop.no_variant_of _ _ (λ (d : Data). d) _ _ _ _ _ (codes "Ref") None refl refl
    (loop.no_object ((codes "lifetime", maybe shape.text) ∷ (codes "mutable", one shape.truth) ∷ (codes "referent", one shape.type) ∷ [])
    (λ (d : Data). d) c.args.depth _ c.open_object.new.reader (told_none _ _ _ c.in_default.is c.in_ok-depth.ensures.ok))
    (λ d e. e))
    c.in_ok-depth.ensures.shorter

pub reference_type-loop-fields-init : goal.reference_type-loop-fields-init
reference_type-loop-fields-init t c =
    loop.record_start _ c.in-Some.depth c.args.reader.now c.open_object.new.reader
    (told_some _ _ _ _ c.in-Some.is c.in_ok-depth.ensures.ok).2

pub reference_type-returns-in_err-member : goal.reference_type-returns-in_err-member
reference_type-returns-in_err-member t c =
    step.stops _ _ c.from_residual-in_err-member.ensures.0
    (loop.no_member _ _ _ _ _ _ _ (told_some _ _ _ _ c.in-Some.is c.in_ok-depth.ensures.ok) c.loop-fields.invariant.so_far
    (c.in_err-member.ensures.err refl c.in-Some.depth))

pub reference_type-returns-in_err-reference_field : goal.reference_type-returns-in_err-reference_field
reference_type-returns-in_err-reference_field t c =
    step.fails _ _ _ c.from_residual-in_err-reference_field.ensures
    (λ same. loop.no_value _ _ _ _ _ _ _ (told_some _ _ _ _ c.in-Some.is c.in_ok-depth.ensures.ok) c.loop-fields.invariant.so_far _ _
    (told_some _ _ _ _ c.in-Some-2.is c.in_ok-member.ensures.ok) (c.in_err-reference_field.ensures.err same))

pub reference_type-loop-fields-preserved-then-not-branch : goal.reference_type-loop-fields-preserved-then-not-branch
reference_type-loop-fields-preserved-then-not-branch t c =
    taken.record_unknown _ c.in-Some.depth c.args.reader.now c.loop-fields.reader _ c.loop-fields.strays c.loop-fields.invariant _ _
    c.reference_field.new.reader _ _ refl (told_some _ _ _ _ c.in-Some-2.is c.in_ok-member.ensures.ok) c.in_ok-reference_field.ensures.ok
    (turn.less_than c.in_ok-reference_field.ensures.shorter c.in_ok-member.ensures.shorter) c.if-not-branch.true

pub reference_type-loop-fields-preserved : goal.reference_type-loop-fields-preserved
reference_type-loop-fields-preserved t c =
    taken.record_known _ c.in-Some.depth c.args.reader.now c.loop-fields.reader _ c.loop-fields.strays c.loop-fields.invariant _ _
    c.reference_field.new.reader _ _ refl (told_some _ _ _ _ c.in-Some-2.is c.in_ok-member.ensures.ok) c.in_ok-reference_field.ensures.ok
    (turn.less_than c.in_ok-reference_field.ensures.shorter c.in_ok-member.ensures.shorter) c.if-not-branch.false

pub reference_type-loop-fields-smaller-then-not-branch : goal.reference_type-loop-fields-smaller-then-not-branch
reference_type-loop-fields-smaller-then-not-branch t c =
    turn.less_than c.in_ok-reference_field.ensures.shorter c.in_ok-member.ensures.shorter

pub reference_type-loop-fields-smaller : goal.reference_type-loop-fields-smaller
reference_type-loop-fields-smaller t c = turn.less_than c.in_ok-reference_field.ensures.shorter c.in_ok-member.ensures.shorter

pub reference_type-returns-in_ok-new-in-Some-three_values : goal.reference_type-returns-in_ok-new-in-Some-three_values
reference_type-returns-in_ok-new-in-Some-three_values t c =
    step.answers
    (loop.variant_of _ _ _ _ _ _ _ _ (codes "Ref") _
    (c.in-Some-three_values.lifetime, c.in-Some-three_values.mutable, c.in-Some-three_values.referent) _ refl
    c.in-Some-three_values.is
    (taken.read_three ((codes "lifetime", maybe shape.text) ∷ (codes "mutable", one shape.truth) ∷ (codes "referent", one shape.type) ∷ [])
    (token_of c.args.first) c.args.depth
    c.in-Some.depth _ c.args.reader.now c.loop-fields.reader c.next_member.new.reader c.loop-fields.strays
    (told_some _ _ _ _ c.in-Some.is c.in_ok-depth.ensures.ok)
    (told_none _ _ _ c.in_default-2.is c.in_ok-member.ensures.ok) refl (maybe_form lifetime_form) boolean (λ t. type_form (type_view t))
    c.loop-fields.fields.first
    c.loop-fields.fields.rest.first c.loop-fields.fields.rest.rest.first c.three_values.result c.three_values.ensures
    c.loop-fields.invariant)
    (reference_read c.in-Some-three_values.lifetime c.in-Some-three_values.mutable c.in_ok-new-in-Some-three_values.field-0
    c.in-Some-three_values.referent c.in_ok-new-in-Some-three_values.ensures.ok))
    (turn.no_more c.loop-fields.invariant.so_far.shorter c.in_ok-member.ensures.shorter)

pub reference_type-returns-in_err-new-in-Some-three_values-clause-ok : goal.reference_type-returns-in_err-new-in-Some-three_values-clause-ok
reference_type-returns-in_err-new-in-Some-three_values-clause-ok t c =
    loop.not_ok _ _ c.from_residual-in_err-new-in-Some-three_values.ensures.0

pub reference_type-returns-in_err-new-in-Some-three_values-clause-shorter : goal.reference_type-returns-in_err-new-in-Some-three_values-clause-shorter
reference_type-returns-in_err-new-in-Some-three_values-clause-shorter t c =
    loop.no_answer _ _ c.from_residual-in_err-new-in-Some-three_values.ensures.0

pub reference_type-returns-in-None : goal.reference_type-returns-in-None
reference_type-returns-in-None t c =
    step.answers
    (loop.no_variant_of _ _ _ _ _ _ _ _ (codes "Ref") _ refl c.in-None.is
    (taken.read_three ((codes "lifetime", maybe shape.text) ∷ (codes "mutable", one shape.truth) ∷ (codes "referent", one shape.type) ∷ [])
    (token_of c.args.first) c.args.depth
    c.in-Some.depth _ c.args.reader.now c.loop-fields.reader c.next_member.new.reader c.loop-fields.strays
    (told_some _ _ _ _ c.in-Some.is c.in_ok-depth.ensures.ok)
    (told_none _ _ _ c.in_default-2.is c.in_ok-member.ensures.ok) refl (maybe_form lifetime_form) boolean (λ t. type_form (type_view t))
    c.loop-fields.fields.first
    c.loop-fields.fields.rest.first c.loop-fields.fields.rest.rest.first c.three_values.result c.three_values.ensures
    c.loop-fields.invariant)
    (λ d e. e))
    (turn.no_more c.loop-fields.invariant.so_far.shorter c.in_ok-member.ensures.shorter)

pub reference_field-returns-in_err-fields-in-lifetime : goal.reference_field-returns-in_err-fields-in-lifetime
reference_field-returns-in_err-fields-in-lifetime t c = step.fails _ _ _ c.from_residual.ensures c.in_err-fields-in-lifetime.ensures.err

pub reference_field-returns-in_ok-fields-in-lifetime : goal.reference_field-returns-in_ok-fields-in-lifetime
reference_field-returns-in_ok-fields-in-lifetime t c =
    step.answers (taken.is_taken _ _ _ _ _ _ _ _ c.in_ok-fields-in-lifetime.field-0 _ _ c.in_ok-fields-in-lifetime.ensures.ok
    (λ made. inl (c.in-lifetime.is, made, refl)))
    c.in_ok-fields-in-lifetime.ensures.shorter

pub reference_field-returns-in_err-fields-in-mutable : goal.reference_field-returns-in_err-fields-in-mutable
reference_field-returns-in_err-fields-in-mutable t c =
    step.fails _ _ _ c.from_residual-in_err-fields-in-mutable.ensures c.in_err-fields-in-mutable.ensures.err

pub reference_field-returns-in_ok-fields-in-mutable : goal.reference_field-returns-in_ok-fields-in-mutable
reference_field-returns-in_ok-fields-in-mutable t c =
    step.answers (taken.is_taken _ _ _ _ _ _ _ _ c.in_ok-fields-in-mutable.field-0 _ _ c.in_ok-fields-in-mutable.ensures.ok
    (λ made. inr (refl, inl (c.in-mutable.is, made, refl))))
    c.in_ok-fields-in-mutable.ensures.shorter

pub reference_field-returns-in_err-fields-in-referent : goal.reference_field-returns-in_err-fields-in-referent
reference_field-returns-in_err-fields-in-referent t c =
    step.fails _ _ _ c.from_residual-in_err-fields-in-referent.ensures c.in_err-fields-in-referent.ensures.err

pub reference_field-returns-in_ok-fields-in-referent : goal.reference_field-returns-in_ok-fields-in-referent
reference_field-returns-in_ok-fields-in-referent t c =
    step.answers
    (taken.is_taken _ _ _ _ _ _ _ _ c.in_ok-fields-in-referent.field-0 _ _ c.in_ok-fields-in-referent.ensures.ok
    (λ made. inr (refl, inr (refl, inl (c.in-referent.is, made, refl)))))
    c.in_ok-fields-in-referent.ensures.shorter

pub reference_field-returns-in_ok-pass-in_default : goal.reference_field-returns-in_ok-pass-in_default
reference_field-returns-in_ok-pass-in_default t c =
    step.answers (taken.not_taken _ _ _ _ _ _ _ (c.in_default.not-lifetime, (c.in_default.not-mutable, (c.in_default.not-referent, tt)))
    c.in_ok-pass-in_default.ensures.ok)
    c.in_ok-pass-in_default.ensures.shorter

pub reference_field-returns-in_err-pass-in_default : goal.reference_field-returns-in_err-pass-in_default
reference_field-returns-in_err-pass-in_default t c =
    step.fails _ _ _ c.from_residual-in_err-pass-in_default.ensures c.in_err-pass-in_default.ensures.err
