-- Answers on written types: the object with one member, the value under each name, a slice, and a type that may be null.
use Rattle.std.proofs.Common.{◌∷◌, refl, sym, ap, ◌∙◌}
use Rattle.std.specs.Prelude.{codes}
use Rattle.json.specs.Reads.{token_of}
use Rattle.serde_json.specs.Data.{null}
use Rattle.json_records.specs.Reading.{data_of}
use Rattle.lalrpop_norm_json.specs.Shapes as shape
use Rattle.lalrpop_norm_json.specs.Shapes.{is, one, many}
use Rattle.lalrpop_norm_json.proofs.Shaped.{slot_is, told_none, told_some}
use Rattle.json_records.proofs.Turns as turn
use Rattle.lalrpop_norm_json.proofs.Loops as loop
use Rattle.lalrpop_norm_json.proofs.Steps as step
use Rattle.lalrpop_norm_json.proofs.TypesRead.{tuple_read, nominal_read, trait_object_read, lifetime_read, id_read, of_symbol_read}
use Rattle.lalrpop_norm_json.proofs.tree.types.+type_ref.Goals as goal

pub type_ref-returns-in_err-depth : goal.type_ref-returns-in_err-depth
type_ref-returns-in_err-depth t c = step.fails _ _ _ c.from_residual.ensures c.in_err-depth.ensures.err

pub type_ref-loop-read-init : goal.type_ref-loop-read-init
type_ref-loop-read-init t c =
    loop.variant_start _ _ _ c.in-Some.depth c.args.reader.now c.open_object.new.reader
    (told_some _ _ _ _ c.in-Some.is c.in_ok-depth.ensures.ok).2

pub type_ref-returns-in_default : goal.type_ref-returns-in_default
type_ref-returns-in_default t c =
    step.answers (loop.only_object _ _ c.args.depth _ c.open_object.new.reader (told_none _ _ _ c.in_default.is c.in_ok-depth.ensures.ok))
    c.in_ok-depth.ensures.shorter

pub type_ref-returns-in_err-name : goal.type_ref-returns-in_err-name
type_ref-returns-in_err-name t c =
    step.stops _ _ c.from_residual-in_err-name.ensures.0
    (loop.no_member _ _ _ _ _ _ _ (told_some _ _ _ _ c.in-Some.is c.in_ok-depth.ensures.ok) c.loop-read.invariant.so_far
    (c.in_err-name.ensures.err refl c.in-Some.depth))

pub type_ref-returns-in_err-pass : goal.type_ref-returns-in_err-pass
type_ref-returns-in_err-pass t c =
    step.fails _ _ _ c.from_residual-in_err-pass.ensures
    (λ same. loop.no_value _ _ _ _ _ _ _ (told_some _ _ _ _ c.in-Some.is c.in_ok-depth.ensures.ok) c.loop-read.invariant.so_far _ _
    (told_some _ _ _ _ c.in-Some-2.is c.in_ok-name.ensures.ok) (c.in_err-pass.ensures.err same))

pub type_ref-returns-in_err-read : goal.type_ref-returns-in_err-read
type_ref-returns-in_err-read t c =
    step.fails _ _ _ c.from_residual-in_err-read.ensures
    (λ same. loop.no_value _ _ _ _ _ _ _ (told_some _ _ _ _ c.in-Some.is c.in_ok-depth.ensures.ok) c.loop-read.invariant.so_far _ _
    (told_some _ _ _ _ c.in-Some-2.is c.in_ok-name.ensures.ok) (c.in_err-read.ensures.err same))

pub type_ref-loop-read-preserved-then-is_other : goal.type_ref-loop-read-preserved-then-is_other
type_ref-loop-read-preserved-then-is_other t c =
    loop.variant_other _ _ _ c.in-Some.depth c.args.reader.now c.loop-read.reader c.loop-read.before c.loop-read.strays c.loop-read.read
    c.loop-read.invariant c.in-Some-2.name.now
    _ c.pass.new.reader (sym c.is_other.ensures ∙ c.if-is_other.true) (told_some _ _ _ _ c.in-Some-2.is c.in_ok-name.ensures.ok)
    c.in_ok-pass.ensures.ok (turn.less_than c.in_ok-pass.ensures.shorter c.in_ok-name.ensures.shorter)

pub type_ref-loop-read-preserved : goal.type_ref-loop-read-preserved
type_ref-loop-read-preserved t c =
    loop.variant_same _ _ _ c.in-Some.depth c.args.reader.now c.loop-read.reader c.loop-read.before c.loop-read.strays c.loop-read.read
    c.loop-read.invariant c.in-Some-2.name.now _
    c.type_of.new.reader c.in_ok-read.read (sym c.is_other.ensures ∙ c.if-is_other.false)
    (told_some _ _ _ _ c.in-Some-2.is c.in_ok-name.ensures.ok) c.in_ok-read.ensures.ok
    (turn.less_than c.in_ok-read.ensures.shorter c.in_ok-name.ensures.shorter)

pub type_ref-returns-then-strays : goal.type_ref-returns-then-strays
type_ref-returns-then-strays t c =
    step.answers
    (loop.variant_strays _ _ _ _ _ _ _ _ _ _ _ c.loop-read.strays c.loop-read.read (told_some _ _ _ _ c.in-Some.is c.in_ok-depth.ensures.ok)
    c.loop-read.invariant (told_none _ _ _ c.in_default-2.is c.in_ok-name.ensures.ok) c.if-strays.true)
    (turn.no_more c.loop-read.invariant.so_far.shorter c.in_ok-name.ensures.shorter)

pub type_ref-returns : goal.type_ref-returns
type_ref-returns t c =
    step.answers
    (loop.variant_whole _ _ _ _ _ _ _ _ _ _ _ c.loop-read.strays c.loop-read.read (told_some _ _ _ _ c.in-Some.is c.in_ok-depth.ensures.ok)
    c.loop-read.invariant (told_none _ _ _ c.in_default-2.is c.in_ok-name.ensures.ok) c.if-strays.false)
    (turn.no_more c.loop-read.invariant.so_far.shorter c.in_ok-name.ensures.shorter)

pub type_ref-loop-read-smaller-then-is_other : goal.type_ref-loop-read-smaller-then-is_other
type_ref-loop-read-smaller-then-is_other t c = turn.less_than c.in_ok-pass.ensures.shorter c.in_ok-name.ensures.shorter

pub type_ref-loop-read-smaller : goal.type_ref-loop-read-smaller
type_ref-loop-read-smaller t c = turn.less_than c.in_ok-read.ensures.shorter c.in_ok-name.ensures.shorter

pub type_ref-type_of-requires : goal.type_ref-type_of-requires
type_ref-type_of-requires t c = (step.thrice_two c.in_ok-name.ensures.shorter c.loop-read.invariant.so_far.shorter c.decreases, tt)

pub type_of-returns-in-Some : goal.type_of-returns-in-Some
type_of-returns-in-Some t c =
    step.answers (loop.variant_of _ _ _ _ _ _ _ _ _ _ c.in-Some.read _ c.in-Tuple.is c.in-Some.is c.in_ok-read-in-Tuple.ensures.ok
    (tuple_read c.in-Some.read))
    c.in_ok-read-in-Tuple.ensures.shorter

pub type_of-returns-in-None : goal.type_of-returns-in-None
type_of-returns-in-None t c =
    step.answers (loop.no_variant_of _ _ _ _ _ _ _ _ _ _ c.in-Tuple.is c.in-None.is c.in_ok-read-in-Tuple.ensures.ok
    (λ d e. slot_is (many shape.type) d ∙ e))
    c.in_ok-read-in-Tuple.ensures.shorter

pub type_of-returns-in-Some-2 : goal.type_of-returns-in-Some-2
type_of-returns-in-Some-2 t c =
    step.answers
    (loop.variant_of _ _ _ _ _ _ _ _ _ _ (c.in-Some-2.path, c.in-Some-2.types) _ c.in-Nominal.is c.in-Some-2.is
    c.in_ok-path-in-Nominal.ensures.ok (nominal_read c.in-Some-2.path c.in-Some-2.types))
    c.in_ok-path-in-Nominal.ensures.shorter

pub type_of-returns-in-Some-3 : goal.type_of-returns-in-Some-3
type_of-returns-in-Some-3 t c =
    step.answers
    (loop.variant_of _ _ _ _ _ _ _ _ _ _ (c.in-Some-3.path, c.in-Some-3.types) _ c.in-TraitObject.is c.in-Some-3.is
    c.in_ok-path-in-TraitObject.ensures.ok (trait_object_read c.in-Some-3.path c.in-Some-3.types))
    c.in_ok-path-in-TraitObject.ensures.shorter

pub type_of-returns-in_err-read-in-Tuple : goal.type_of-returns-in_err-read-in-Tuple
type_of-returns-in_err-read-in-Tuple t c = step.fails _ _ _ c.from_residual.ensures c.in_err-read-in-Tuple.ensures.err

pub type_of-returns-in_err-path-in-Nominal : goal.type_of-returns-in_err-path-in-Nominal
type_of-returns-in_err-path-in-Nominal t c =
    step.fails _ _ _ c.from_residual-in_err-path-in-Nominal.ensures c.in_err-path-in-Nominal.ensures.err

pub type_of-returns-in_err-path-in-TraitObject : goal.type_of-returns-in_err-path-in-TraitObject
type_of-returns-in_err-path-in-TraitObject t c =
    step.fails _ _ _ c.from_residual-in_err-path-in-TraitObject.ensures c.in_err-path-in-TraitObject.ensures.err

pub type_of-returns-in_err-read-in-Lifetime : goal.type_of-returns-in_err-read-in-Lifetime
type_of-returns-in_err-read-in-Lifetime t c =
    step.fails _ _ _ c.from_residual-in_err-read-in-Lifetime.ensures c.in_err-read-in-Lifetime.ensures.err

pub type_of-returns-in_err-read-in-Id : goal.type_of-returns-in_err-read-in-Id
type_of-returns-in_err-read-in-Id t c = step.fails _ _ _ c.from_residual-in_err-read-in-Id.ensures c.in_err-read-in-Id.ensures.err

pub type_of-returns-in_err-read-in-OfSymbol : goal.type_of-returns-in_err-read-in-OfSymbol
type_of-returns-in_err-read-in-OfSymbol t c =
    step.fails _ _ _ c.from_residual-in_err-read-in-OfSymbol.ensures c.in_err-read-in-OfSymbol.ensures.err

pub type_of-returns-in_err-pass-in_default : goal.type_of-returns-in_err-pass-in_default
type_of-returns-in_err-pass-in_default t c =
    step.fails _ _ _ c.from_residual-in_err-pass-in_default.ensures c.in_err-pass-in_default.ensures.err

pub type_of-returns-in-None-2 : goal.type_of-returns-in-None-2
type_of-returns-in-None-2 t c =
    step.answers (loop.no_variant_of _ _ _ _ _ _ _ _ _ _ c.in-Nominal.is c.in-None-2.is c.in_ok-path-in-Nominal.ensures.ok (λ d e. e))
    c.in_ok-path-in-Nominal.ensures.shorter

pub type_of-returns-in-None-3 : goal.type_of-returns-in-None-3
type_of-returns-in-None-3 t c =
    step.answers (loop.no_variant_of _ _ _ _ _ _ _ _ _ _ c.in-TraitObject.is c.in-None-3.is c.in_ok-path-in-TraitObject.ensures.ok
    (λ d e. e))
    c.in_ok-path-in-TraitObject.ensures.shorter

pub type_of-returns-in-Some-4 : goal.type_of-returns-in-Some-4
type_of-returns-in-Some-4 t c =
    step.answers (loop.variant_of _ _ _ _ _ _ _ _ _ _ c.in-Some-4.read _ c.in-Lifetime.is c.in-Some-4.is c.in_ok-read-in-Lifetime.ensures.ok
    (lifetime_read c.in-Some-4.read))
    c.in_ok-read-in-Lifetime.ensures.shorter

pub type_of-returns-in-None-4 : goal.type_of-returns-in-None-4
type_of-returns-in-None-4 t c =
    step.answers (loop.no_variant_of _ _ _ _ _ _ _ _ _ _ c.in-Lifetime.is c.in-None-4.is c.in_ok-read-in-Lifetime.ensures.ok
    (λ d e. slot_is (one shape.text) d ∙ e))
    c.in_ok-read-in-Lifetime.ensures.shorter

pub type_of-returns-in-Some-5 : goal.type_of-returns-in-Some-5
type_of-returns-in-Some-5 t c =
    step.answers (loop.variant_of _ _ _ _ _ _ _ _ _ _ c.in-Some-5.read _ c.in-Id.is c.in-Some-5.is c.in_ok-read-in-Id.ensures.ok
    (id_read c.in-Some-5.read))
    c.in_ok-read-in-Id.ensures.shorter

pub type_of-returns-in-None-5 : goal.type_of-returns-in-None-5
type_of-returns-in-None-5 t c =
    step.answers (loop.no_variant_of _ _ _ _ _ _ _ _ _ _ c.in-Id.is c.in-None-5.is c.in_ok-read-in-Id.ensures.ok
    (λ d e. slot_is (one shape.text) d ∙ e))
    c.in_ok-read-in-Id.ensures.shorter

pub type_of-returns-in-Some-6 : goal.type_of-returns-in-Some-6
type_of-returns-in-Some-6 t c =
    step.answers (loop.variant_of _ _ _ _ _ _ _ _ _ _ c.in-Some-6.read _ c.in-OfSymbol.is c.in-Some-6.is c.in_ok-read-in-OfSymbol.ensures.ok
    (of_symbol_read c.in-Some-6.read))
    c.in_ok-read-in-OfSymbol.ensures.shorter

pub type_of-returns-in-None-6 : goal.type_of-returns-in-None-6
type_of-returns-in-None-6 t c =
    step.answers (loop.no_variant_of _ _ _ _ _ _ _ _ _ _ c.in-OfSymbol.is c.in-None-6.is c.in_ok-read-in-OfSymbol.ensures.ok
    (λ d e. slot_is (one shape.kind) d ∙ e))
    c.in_ok-read-in-OfSymbol.ensures.shorter

pub type_of-returns-in-Slice : goal.type_of-returns-in-Slice
type_of-returns-in-Slice t c = record {
  ok = rw c.in-Slice.is c.slice_type.ensures.ok;
  err = c.slice_type.ensures.err;
  shorter = c.slice_type.ensures.shorter;
}

pub type_of-returns-in-Ref : goal.type_of-returns-in-Ref
type_of-returns-in-Ref t c = record {
  ok = rw c.in-Ref.is c.reference_type.ensures.ok;
  err = c.reference_type.ensures.err;
  shorter = c.reference_type.ensures.shorter;
}

pub type_of-returns-in-Fn : goal.type_of-returns-in-Fn
type_of-returns-in-Fn t c = record {
  ok = rw c.in-Fn.is c.function_type.ensures.ok;
  err = c.function_type.ensures.err;
  shorter = c.function_type.ensures.shorter;
}

pub type_of-returns-in_ok-pass-in_default : goal.type_of-returns-in_ok-pass-in_default
type_of-returns-in_ok-pass-in_default t c =
    step.answers
    (loop.no_variant_there _ _ _ _ _ _ _
    (c.in_default.not-Tuple, (c.in_default.not-Slice, (c.in_default.not-Nominal, (c.in_default.not-Ref, (c.in_default.not-TraitObject, (c.in_default.not-Lifetime, (c.in_default.not-Id, (c.in_default.not-OfSymbol, (c.in_default.not-Fn, tt)))))))))
    c.in_ok-pass-in_default.ensures.ok)
    c.in_ok-pass-in_default.ensures.shorter

pub slice_type-returns-in_err-of : goal.slice_type-returns-in_err-of
slice_type-returns-in_err-of t c = step.fails _ _ _ c.from_residual.ensures c.in_err-of.ensures.err

pub slice_type-returns-in-None : goal.slice_type-returns-in-None
slice_type-returns-in-None t c =
    step.answers (loop.no_variant_of _ _ _ _ _ _ _ _ (codes "Slice") _ refl c.in-None.is c.in_ok-of.ensures.ok
    (λ d e. slot_is (one shape.type) d ∙ e)) c.in_ok-of.ensures.shorter

pub slice_type-returns-in_err-new-in-Some-clause-ok : goal.slice_type-returns-in_err-new-in-Some-clause-ok
slice_type-returns-in_err-new-in-Some-clause-ok t c = loop.not_ok _ _ c.from_residual-in_err-new-in-Some.ensures.0

pub slice_type-returns-in_err-new-in-Some-clause-shorter : goal.slice_type-returns-in_err-new-in-Some-clause-shorter
slice_type-returns-in_err-new-in-Some-clause-shorter t c = loop.no_answer _ _ c.from_residual-in_err-new-in-Some.ensures.0

pub slice_type-returns-in_ok-new-in-Some-clause-err : goal.slice_type-returns-in_ok-new-in-Some-clause-err
slice_type-returns-in_ok-new-in-Some-clause-err t c = turn.never_refused

pub slice_type-returns-in_ok-new-in-Some-clause-shorter : goal.slice_type-returns-in_ok-new-in-Some-clause-shorter
slice_type-returns-in_ok-new-in-Some-clause-shorter t c = c.in_ok-of.ensures.shorter

pub slice_type-type_ref-requires : goal.slice_type-type_ref-requires
slice_type-type_ref-requires t c = (step.one_down c.decreases, tt)

pub maybe_type_ref-returns-in-Null-clause-ok : goal.maybe_type_ref-returns-in-Null-clause-ok
maybe_type_ref-returns-in-Null-clause-ok t c = record {
  means = null;
  read = ap (λ k. data_of c.args.depth (token_of k ∷ c.args.reader.now)) c.in-Null.is ∙ turn.null_said c.args.depth c.args.reader.now;
  made = refl;
}

pub maybe_type_ref-returns-in-None : goal.maybe_type_ref-returns-in-None
maybe_type_ref-returns-in-None t c =
    let done = c.in_ok-of.ensures.ok in
    let fails = told_none _ _ _ c.in-None.is done.made in
    let other =
    turn.no_null (is shape.type) c.args.first done.means c.in_default.not-Null
    (turn.starts c.args.depth (token_of c.args.first) c.args.reader.now _ done.means done.read) fails in
    record {
      ok = record { means = done.means; read = done.read; made = other };
      err = turn.never_refused;
      shorter = c.in_ok-of.ensures.shorter;
    }

pub maybe_type_ref-returns-in_err-of : goal.maybe_type_ref-returns-in_err-of
maybe_type_ref-returns-in_err-of t c = step.fails _ _ _ c.from_residual.ensures c.in_err-of.ensures.err

pub maybe_type_ref-type_ref-requires : goal.maybe_type_ref-type_ref-requires
maybe_type_ref-type_ref-requires t c = (step.one_down c.decreases, tt)
