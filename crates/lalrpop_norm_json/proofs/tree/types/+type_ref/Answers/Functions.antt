-- Answers on the types of functions.
use Rattle.std.proofs.Common.{[], ◌∷◌, map, None, refl, ap, inl, inr, option_map}
use Rattle.std.specs.Prelude.{codes}
use Rattle.serde_json.specs.Data.{Data}
use Rattle.json_records.specs.Reading.{list_form, maybe_form}
use Rattle.lalrpop_norm_tree_parts.specs.Paths.{path_view}
use Rattle.lalrpop_norm_tree.specs.Types.{type_view}
use Rattle.lalrpop_norm_json.specs.Forms.{type_parameter_form, path_form}
use Rattle.lalrpop_norm_json.specs.TypeForms.{type_form}
use Rattle.lalrpop_norm_json.specs.Shapes as shape
use Rattle.lalrpop_norm_json.specs.Shapes.{one, maybe, many}
use Rattle.lalrpop_norm_json.proofs.Shaped.{told_none, told_some}
use Rattle.json_records.proofs.Turns as turn
use Rattle.lalrpop_norm_json.proofs.Loops as loop
use Rattle.lalrpop_norm_json.proofs.Steps as step
use Rattle.lalrpop_norm_json.proofs.TypesRead.{less_left, function_read}
use Rattle.lalrpop_norm_json.proofs.tree.types.+type_ref.Goals as goal

pub function_type-returns-in_err-depth : goal.function_type-returns-in_err-depth
function_type-returns-in_err-depth t c = step.fails _ _ _ c.from_residual.ensures c.in_err-depth.ensures.err

pub function_type-returns-in_default : goal.function_type-returns-in_default
function_type-returns-in_default t c =
    step.answers
    (loop.no_variant_of _ _ (λ (d : Data). d) _ _ _ _ _ (codes "Fn") None refl refl
    (loop.no_object ((codes "forall", many shape.type_parameter) ∷ (codes "parameters", many shape.type) ∷ (codes "path", one shape.path)
    ∷ (codes "ret", maybe shape.type) ∷ [])
    (λ (d : Data). d) c.args.depth _ c.open_object.new.reader (told_none _ _ _ c.in_default.is c.in_ok-depth.ensures.ok))
    (λ d e. e))
    c.in_ok-depth.ensures.shorter

pub function_type-loop-ret-init : goal.function_type-loop-ret-init
function_type-loop-ret-init t c =
    loop.record_start _ c.in-Some.depth c.args.reader.now c.open_object.new.reader
    (told_some _ _ _ _ c.in-Some.is c.in_ok-depth.ensures.ok).2

pub function_type-returns-in_err-key : goal.function_type-returns-in_err-key
function_type-returns-in_err-key t c =
    step.stops _ _ c.from_residual-in_err-key.ensures.0
    (loop.no_member _ _ _ _ _ _ _ (told_some _ _ _ _ c.in-Some.is c.in_ok-depth.ensures.ok) c.loop-ret.invariant.so_far
    (c.in_err-key.ensures.err refl c.in-Some.depth))

pub function_type-returns-then-strays : goal.function_type-returns-then-strays
function_type-returns-then-strays t c =
    step.answers
    (loop.no_variant_of _ _ (λ (d : Data). d) _ _ _ _ _ (codes "Fn") _ refl refl
    (loop.record_strays _ _ _ _ _ _ _ _ _ _ c.loop-ret.strays (told_some _ _ _ _ c.in-Some.is c.in_ok-depth.ensures.ok) c.loop-ret.invariant
    (told_none _ _ _ c.in_default-2.is c.in_ok-key.ensures.ok) c.if-strays.true)
    (λ d e. e))
    (turn.no_more c.loop-ret.invariant.so_far.shorter c.in_ok-key.ensures.shorter)

pub function_type-returns-in_err-forall-in-forall : goal.function_type-returns-in_err-forall-in-forall
function_type-returns-in_err-forall-in-forall t c =
    step.fails _ _ _ c.from_residual-in_err-forall-in-forall.ensures
    (λ same. loop.no_value _ _ _ _ _ _ _ (told_some _ _ _ _ c.in-Some.is c.in_ok-depth.ensures.ok) c.loop-ret.invariant.so_far _ _
    (told_some _ _ _ _ c.in-Some-2.is c.in_ok-key.ensures.ok) (c.in_err-forall-in-forall.ensures.err same))

pub function_type-returns-in_err-parameters-in-parameters : goal.function_type-returns-in_err-parameters-in-parameters
function_type-returns-in_err-parameters-in-parameters t c =
    step.fails _ _ _ c.from_residual-in_err-parameters-in-parameters.ensures
    (λ same. loop.no_value _ _ _ _ _ _ _ (told_some _ _ _ _ c.in-Some.is c.in_ok-depth.ensures.ok) c.loop-ret.invariant.so_far _ _
    (told_some _ _ _ _ c.in-Some-2.is c.in_ok-key.ensures.ok) (c.in_err-parameters-in-parameters.ensures.err same))

pub function_type-returns-in_err-path-in-path : goal.function_type-returns-in_err-path-in-path
function_type-returns-in_err-path-in-path t c =
    step.fails _ _ _ c.from_residual-in_err-path-in-path.ensures
    (λ same. loop.no_value _ _ _ _ _ _ _ (told_some _ _ _ _ c.in-Some.is c.in_ok-depth.ensures.ok) c.loop-ret.invariant.so_far _ _
    (told_some _ _ _ _ c.in-Some-2.is c.in_ok-key.ensures.ok) (c.in_err-path-in-path.ensures.err same))

pub function_type-returns-in_err-ret-in-ret : goal.function_type-returns-in_err-ret-in-ret
function_type-returns-in_err-ret-in-ret t c =
    step.fails _ _ _ c.from_residual-in_err-ret-in-ret.ensures
    (λ same. loop.no_value _ _ _ _ _ _ _ (told_some _ _ _ _ c.in-Some.is c.in_ok-depth.ensures.ok) c.loop-ret.invariant.so_far _ _
    (told_some _ _ _ _ c.in-Some-2.is c.in_ok-key.ensures.ok) (c.in_err-ret-in-ret.ensures.err same))

pub function_type-returns-in_err-pass-in_default-key : goal.function_type-returns-in_err-pass-in_default-key
function_type-returns-in_err-pass-in_default-key t c =
    step.fails _ _ _ c.from_residual-in_err-pass-in_default-key.ensures
    (λ same. loop.no_value _ _ _ _ _ _ _ (told_some _ _ _ _ c.in-Some.is c.in_ok-depth.ensures.ok) c.loop-ret.invariant.so_far _ _
    (told_some _ _ _ _ c.in-Some-2.is c.in_ok-key.ensures.ok) (c.in_err-pass-in_default-key.ensures.err same))

pub function_type-loop-ret-preserved-then-str_eq : goal.function_type-loop-ret-preserved-then-str_eq
function_type-loop-ret-preserved-then-str_eq t c =
    loop.record_field _ c.in-Some.depth c.args.reader.now c.loop-ret.reader _ c.loop-ret.strays c.loop-ret.invariant _ _ c.in-Some-2.key.now
    _ _ c.in_ok-forall-in-forall.forall _ refl (told_some _ _ _ _ c.in-Some-2.is c.in_ok-key.ensures.ok) c.in_ok-forall-in-forall.ensures.ok
    (less_left _ _ _ c.in_ok-forall-in-forall.ensures.shorter c.in_ok-key.ensures.shorter) (λ made. inl (c.in-forall.is, made, refl))

pub function_type-loop-ret-preserved-then-str_eq-2 : goal.function_type-loop-ret-preserved-then-str_eq-2
function_type-loop-ret-preserved-then-str_eq-2 t c =
    loop.record_field _ c.in-Some.depth c.args.reader.now c.loop-ret.reader _ c.loop-ret.strays c.loop-ret.invariant _ _ c.in-Some-2.key.now
    _ _
    c.in_ok-parameters-in-parameters.parameters _ refl (told_some _ _ _ _ c.in-Some-2.is c.in_ok-key.ensures.ok)
    c.in_ok-parameters-in-parameters.ensures.ok
    (less_left _ _ _ c.in_ok-parameters-in-parameters.ensures.shorter c.in_ok-key.ensures.shorter)
    (λ made. inr (refl, inl (c.in-parameters.is, made, refl)))

pub function_type-loop-ret-preserved-then-str_eq-3 : goal.function_type-loop-ret-preserved-then-str_eq-3
function_type-loop-ret-preserved-then-str_eq-3 t c =
    loop.record_field _ c.in-Some.depth c.args.reader.now c.loop-ret.reader _ c.loop-ret.strays c.loop-ret.invariant _ _ c.in-Some-2.key.now
    _ _ c.in_ok-path-in-path.path _ refl
    (told_some _ _ _ _ c.in-Some-2.is c.in_ok-key.ensures.ok) c.in_ok-path-in-path.ensures.ok
    (less_left _ _ _ c.in_ok-path-in-path.ensures.shorter c.in_ok-key.ensures.shorter)
    (λ made. inr (refl, inr (refl, inl (c.in-path.is, made, refl))))

pub function_type-loop-ret-preserved-then-str_eq-4 : goal.function_type-loop-ret-preserved-then-str_eq-4
function_type-loop-ret-preserved-then-str_eq-4 t c =
    loop.record_field _ c.in-Some.depth c.args.reader.now c.loop-ret.reader _ c.loop-ret.strays c.loop-ret.invariant _ _ c.in-Some-2.key.now
    _ _ c.in_ok-ret-in-ret.ret _ refl
    (told_some _ _ _ _ c.in-Some-2.is c.in_ok-key.ensures.ok) c.in_ok-ret-in-ret.ensures.ok
    (less_left _ _ _ c.in_ok-ret-in-ret.ensures.shorter c.in_ok-key.ensures.shorter)
    (λ made. inr (refl, inr (refl, inr (refl, inl (c.in-ret.is, made, refl)))))

pub function_type-loop-ret-preserved : goal.function_type-loop-ret-preserved
function_type-loop-ret-preserved t c =
    loop.record_stray _ c.in-Some.depth c.args.reader.now c.loop-ret.reader _ c.loop-ret.strays c.loop-ret.invariant c.in-Some-2.key.now _ _
    (c.in_default-key.not-forall, (c.in_default-key.not-parameters, (c.in_default-key.not-path, (c.in_default-key.not-ret, tt))))
    (told_some _ _ _ _ c.in-Some-2.is c.in_ok-key.ensures.ok) c.in_ok-pass-in_default-key.ensures.ok
    (less_left _ _ _ c.in_ok-pass-in_default-key.ensures.shorter c.in_ok-key.ensures.shorter)

pub function_type-returns-in_default-forall : goal.function_type-returns-in_default-forall
function_type-returns-in_default-forall t c =
    step.answers
    (loop.no_variant_of _ _ (λ (d : Data). d) _ _ _ _ _ (codes "Fn") _ refl refl
    (loop.record_lacks _ _ _ _ _ _ _ _ _ _ c.loop-ret.strays (told_some _ _ _ _ c.in-Some.is c.in_ok-depth.ensures.ok) c.loop-ret.invariant
    (told_none _ _ _ c.in_default-2.is c.in_ok-key.ensures.ok) refl c.if-strays.false
    (inl (ap (option_map (λ xs. list_form (map type_parameter_form xs.items))) c.in_default-forall.is)))
    (λ d e. e))
    (turn.no_more c.loop-ret.invariant.so_far.shorter c.in_ok-key.ensures.shorter)

pub function_type-returns-in_default-parameters : goal.function_type-returns-in_default-parameters
function_type-returns-in_default-parameters t c =
    step.answers
    (loop.no_variant_of _ _ (λ (d : Data). d) _ _ _ _ _ (codes "Fn") _ refl refl
    (loop.record_lacks _ _ _ _ _ _ _ _ _ _ c.loop-ret.strays (told_some _ _ _ _ c.in-Some.is c.in_ok-depth.ensures.ok) c.loop-ret.invariant
    (told_none _ _ _ c.in_default-2.is c.in_ok-key.ensures.ok) refl c.if-strays.false
    (inr (inl (ap (option_map (λ xs. list_form (map (λ t. type_form (type_view t)) xs.items))) c.in_default-parameters.is))))
    (λ d e. e))
    (turn.no_more c.loop-ret.invariant.so_far.shorter c.in_ok-key.ensures.shorter)

pub function_type-returns-in_default-path : goal.function_type-returns-in_default-path
function_type-returns-in_default-path t c =
    step.answers
    (loop.no_variant_of _ _ (λ (d : Data). d) _ _ _ _ _ (codes "Fn") _ refl refl
    (loop.record_lacks _ _ _ _ _ _ _ _ _ _ c.loop-ret.strays (told_some _ _ _ _ c.in-Some.is c.in_ok-depth.ensures.ok) c.loop-ret.invariant
    (told_none _ _ _ c.in_default-2.is c.in_ok-key.ensures.ok) refl c.if-strays.false
    (inr (inr (inl (ap (option_map (λ p. path_form (path_view p))) c.in_default-path.is)))))
    (λ d e. e))
    (turn.no_more c.loop-ret.invariant.so_far.shorter c.in_ok-key.ensures.shorter)

pub function_type-returns-in_default-ret : goal.function_type-returns-in_default-ret
function_type-returns-in_default-ret t c =
    step.answers
    (loop.no_variant_of _ _ (λ (d : Data). d) _ _ _ _ _ (codes "Fn") _ refl refl
    (loop.record_lacks _ _ _ _ _ _ _ _ _ _ c.loop-ret.strays (told_some _ _ _ _ c.in-Some.is c.in_ok-depth.ensures.ok) c.loop-ret.invariant
    (told_none _ _ _ c.in_default-2.is c.in_ok-key.ensures.ok) refl c.if-strays.false
    (inr (inr (inr (inl (ap (option_map (maybe_form (λ b. type_form (type_view b.value)))) c.in_default-ret.is))))))
    (λ d e. e))
    (turn.no_more c.loop-ret.invariant.so_far.shorter c.in_ok-key.ensures.shorter)

pub function_type-returns : goal.function_type-returns
function_type-returns t c =
    step.answers
    (loop.variant_of _ _ (λ (d : Data). d) _ _ _ _ _ (codes "Fn") _ _ _ refl refl
    (loop.record_whole _ _ _ _ _ _ _ _ _ _ c.loop-ret.strays (told_some _ _ _ _ c.in-Some.is c.in_ok-depth.ensures.ok) c.loop-ret.invariant
    (told_none _ _ _ c.in_default-2.is c.in_ok-key.ensures.ok)
    (list_form (map type_parameter_form c.in-Some-forall.forall.items)
    ∷ list_form (map (λ t. type_form (type_view t)) c.in-Some-parameters.parameters.items) ∷ path_form (path_view c.in-Some-path.path)
    ∷ maybe_form (λ b. type_form (type_view b.value)) c.in-Some-ret.ret ∷ [])
    _ c.if-strays.false (rw (c.in-Some-forall.is, c.in-Some-parameters.is, c.in-Some-path.is, c.in-Some-ret.is) refl) refl)
    (function_read c.in-Some-forall.forall c.in-Some-path.path c.in-Some-parameters.parameters c.in-Some-ret.ret))
    (turn.no_more c.loop-ret.invariant.so_far.shorter c.in_ok-key.ensures.shorter)

pub function_type-loop-ret-smaller-then-str_eq : goal.function_type-loop-ret-smaller-then-str_eq
function_type-loop-ret-smaller-then-str_eq t c = turn.less_than c.in_ok-forall-in-forall.ensures.shorter c.in_ok-key.ensures.shorter

pub function_type-loop-ret-smaller-then-str_eq-2 : goal.function_type-loop-ret-smaller-then-str_eq-2
function_type-loop-ret-smaller-then-str_eq-2 t c =
    turn.less_than c.in_ok-parameters-in-parameters.ensures.shorter c.in_ok-key.ensures.shorter

pub function_type-loop-ret-smaller-then-str_eq-3 : goal.function_type-loop-ret-smaller-then-str_eq-3
function_type-loop-ret-smaller-then-str_eq-3 t c = turn.less_than c.in_ok-path-in-path.ensures.shorter c.in_ok-key.ensures.shorter

pub function_type-loop-ret-smaller-then-str_eq-4 : goal.function_type-loop-ret-smaller-then-str_eq-4
function_type-loop-ret-smaller-then-str_eq-4 t c = turn.less_than c.in_ok-ret-in-ret.ensures.shorter c.in_ok-key.ensures.shorter

pub function_type-loop-ret-smaller : goal.function_type-loop-ret-smaller
function_type-loop-ret-smaller t c = turn.less_than c.in_ok-pass-in_default-key.ensures.shorter c.in_ok-key.ensures.shorter

pub function_type-type_refs-requires : goal.function_type-type_refs-requires
function_type-type_refs-requires t c = (step.thrice c.in_ok-key.ensures.shorter c.loop-ret.invariant.so_far.shorter c.decreases, tt)

pub function_type-maybe_type_ref-requires : goal.function_type-maybe_type_ref-requires
function_type-maybe_type_ref-requires t c =
    (step.thrice_one c.in_ok-key.ensures.shorter c.loop-ret.invariant.so_far.shorter c.decreases, tt)
