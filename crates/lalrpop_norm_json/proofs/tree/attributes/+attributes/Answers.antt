use Rattle.std.proofs.Common.{rules, arith, ◌≡◌, ◌≤◌, ◌<◌, [], ◌∷◌, length, map, None, Some, true, false, refl, sym, ap, ◌∙◌, inl, inr, option_map, Vec, Global}
use Rattle.std.specs.Prelude.{codes}
use Rattle.json.specs.Reads.{token_of}
use Rattle.serde_json.specs.Data.{string, array}
use Rattle.json_records.specs.Reading.{list_form, under}
use Rattle.lalrpop_norm_tree_parts.specs.declared.attribute.Attribute.{Attribute}
use Rattle.lalrpop_norm_tree_parts.specs.declared.attribute.AttributeArg.TheFolds.{fold-roll-AttributeArg}
use Rattle.lalrpop_norm_tree_parts.specs.declared.attribute.AttributeArg.TheOpen.{AttributeArg-F}
use Rattle.lalrpop_norm_tree_parts.specs.declared.attribute.AttributeArg.TheVariants as arg
use Rattle.lalrpop_norm_tree_parts.specs.declared.attribute.AttributeArg.TheViews.{rolls-Paren}
use Rattle.lalrpop_norm_tree_parts.specs.Attributes.{Argument, AttributeData, paren, argument_step, attribute_step, argument_view, attribute_view, attributes_view}
use Rattle.lalrpop_norm_tree_parts.proofs.AttributeViews.{attribute_seen}
use Rattle.lalrpop_norm_json.specs.Forms.{argument_form, attribute_form, span_form}
use Rattle.lalrpop_norm_json.specs.Shapes as shape
use Rattle.lalrpop_norm_json.specs.Shapes.{is, one, many, field}
use Rattle.lalrpop_norm_json.proofs.FormLemmas.{attributes_items}
use Rattle.lalrpop_norm_json.proofs.Shaped.{slot_is, told_none, told_some}
use Rattle.lalrpop_norm_json.proofs.Loops as loop
use Rattle.lalrpop_norm_json.proofs.tree.attributes.+attributes.Goals as goal

-- ---- argument

pub argument-returns-in-String-clause-ok : goal.argument-returns-in-String-clause-ok
argument-returns-in-String-clause-ok t c = loop.text_read _ _ c.args.depth (token_of c.args.first) c.in-String.name.now c.args.reader.now c.bare_argument.result (ap token_of c.in-String.is) c.bare_argument.ensures

pub argument-returns-in_default-2 : goal.argument-returns-in_default-2
argument-returns-in_default-2 t c = record {
  ok = loop.no_text_no_object _ _ _ c.args.depth c.args.first c.args.reader.now c.open_object.new.reader c.in_default.not-String (told_none _ _ _ c.in_default-2.is c.in_ok-depth.ensures.ok);
  err = λ refused. cc;
  shorter = c.in_ok-depth.ensures.shorter;
}

pub argument-returns-in_err-name : goal.argument-returns-in_err-name
argument-returns-in_err-name t c =
    let v = c.loop-read.invariant in
    record {
      ok = loop.not_ok _ _ c.from_residual-in_err-name.ensures.0;
      err = λ refused. loop.no_member _ _ _ _ _ _ _ (told_some _ _ _ _ c.in-Some.is c.in_ok-depth.ensures.ok) v.so_far (c.in_err-name.ensures.err refl c.in-Some.depth);
      shorter = loop.no_answer _ _ c.from_residual-in_err-name.ensures.0;
    }

pub argument-returns-in_err-pass : goal.argument-returns-in_err-pass
argument-returns-in_err-pass t c =
    let v = c.loop-read.invariant in
    record {
      ok = loop.not_ok _ _ c.from_residual-in_err-pass.ensures.0;
      err = λ refused. loop.no_value _ _ _ _ _ _ _ (told_some _ _ _ _ c.in-Some.is c.in_ok-depth.ensures.ok) v.so_far _ _ (told_some _ _ _ _ c.in-Some-2.is c.in_ok-name.ensures.ok) (c.in_err-pass.ensures.err (search rules));
      shorter = loop.no_answer _ _ c.from_residual-in_err-pass.ensures.0;
    }

pub argument-returns-in_err-read : goal.argument-returns-in_err-read
argument-returns-in_err-read t c =
    let v = c.loop-read.invariant in
    record {
      ok = loop.not_ok _ _ c.from_residual-in_err-read.ensures.0;
      err = λ refused. loop.no_value _ _ _ _ _ _ _ (told_some _ _ _ _ c.in-Some.is c.in_ok-depth.ensures.ok) v.so_far _ _ (told_some _ _ _ _ c.in-Some-2.is c.in_ok-name.ensures.ok) (c.in_err-read.ensures.err (search rules));
      shorter = loop.no_answer _ _ c.from_residual-in_err-read.ensures.0;
    }

pub argument-loop-read-preserved-then-is_other : goal.argument-loop-read-preserved-then-is_other
argument-loop-read-preserved-then-is_other t c =
    let l = c.loop-read in
    let less : length c.pass.new.reader < length l.reader = omega (arith, c.in_ok-pass.ensures.shorter, c.in_ok-name.ensures.shorter) in
    loop.variant_other _ _ _ c.in-Some.depth c.args.reader.now l.reader l.before l.strays l.read l.invariant c.in-Some-2.name.now _ c.pass.new.reader
    (sym c.is_other.ensures ∙ c.if-is_other.true) (told_some _ _ _ _ c.in-Some-2.is c.in_ok-name.ensures.ok) c.in_ok-pass.ensures.ok less

pub argument-loop-read-preserved : goal.argument-loop-read-preserved
argument-loop-read-preserved t c =
    let l = c.loop-read in
    let less : length c.argument_of.new.reader < length l.reader = omega (arith, c.in_ok-read.ensures.shorter, c.in_ok-name.ensures.shorter) in
    loop.variant_same _ _ _ c.in-Some.depth c.args.reader.now l.reader l.before l.strays l.read l.invariant c.in-Some-2.name.now _ c.argument_of.new.reader c.in_ok-read.read
    (sym c.is_other.ensures ∙ c.if-is_other.false) (told_some _ _ _ _ c.in-Some-2.is c.in_ok-name.ensures.ok) c.in_ok-read.ensures.ok less

pub argument-returns-then-strays : goal.argument-returns-then-strays
argument-returns-then-strays t c =
    let l = c.loop-read in
    record {
      ok = loop.variant_strays _ _ _ _ _ _ _ _ _ _ _ l.strays l.read (told_some _ _ _ _ c.in-Some.is c.in_ok-depth.ensures.ok) l.invariant (told_none _ _ _ c.in_default-3.is c.in_ok-name.ensures.ok) c.if-strays.true;
      err = λ refused. cc;
      shorter = omega (arith, l.invariant.so_far.shorter, c.in_ok-name.ensures.shorter);
    }

pub argument-returns : goal.argument-returns
argument-returns t c =
    let l = c.loop-read in
    record {
      ok = loop.variant_whole _ _ _ _ _ _ _ _ _ _ _ l.strays l.read (told_some _ _ _ _ c.in-Some.is c.in_ok-depth.ensures.ok) l.invariant (told_none _ _ _ c.in_default-3.is c.in_ok-name.ensures.ok) c.if-strays.false;
      err = λ refused. cc;
      shorter = omega (arith, l.invariant.so_far.shorter, c.in_ok-name.ensures.shorter);
    }

-- ---- argument_of

-- one level of the view
paren_seen : (v : Vec Attribute Global) → argument_view (arg.Paren v) ≡ paren (attributes_view v.items)
paren_seen v = ap argument_view (sym (rolls-Paren v)) ∙ fold-roll-AttributeArg Argument AttributeData argument_step attribute_step (AttributeArg-F.Paren v)

pub argument_of-returns-in-Some-clause-ok : goal.argument_of-returns-in-Some-clause-ok
argument_of-returns-in-Some-clause-ok t c =
    loop.variant_of _ _ _ _ _ _ _ _ _ _ c.in-Some.read (arg.Paren c.in-Some.read) c.in-Paren.is c.in-Some.is c.in_ok-read-in-Paren.ensures.ok (ap (λ ds. under (codes "Paren") (array ds)) (attributes_items c.in-Some.read.items) ∙ ap argument_form (sym (paren_seen c.in-Some.read)))

pub argument_of-returns-in-None-clause-ok : goal.argument_of-returns-in-None-clause-ok
argument_of-returns-in-None-clause-ok t c =
    loop.no_variant_of _ _ _ _ _ _ _ _ _ _ c.in-Paren.is c.in-None.is c.in_ok-read-in-Paren.ensures.ok (λ d e. slot_is (many shape.attribute) d ∙ e)

-- ---- attribute

pub attribute-loop-id-init : goal.attribute-loop-id-init
attribute-loop-id-init t c = loop.record_start _ c.in-Some.depth c.args.reader.now c.open_object.new.reader (told_some _ _ _ _ c.in-Some.is c.in_ok-depth.ensures.ok).2

pub attribute-returns-in_err-key-clause-err : goal.attribute-returns-in_err-key-clause-err
attribute-returns-in_err-key-clause-err t c refused =
    loop.no_member _ _ _ _ _ _ _ (told_some _ _ _ _ c.in-Some.is c.in_ok-depth.ensures.ok) c.loop-id.invariant.so_far (c.in_err-key.ensures.err refl c.in-Some.depth)

pub attribute-returns-then-strays-clause-ok : goal.attribute-returns-then-strays-clause-ok
attribute-returns-then-strays-clause-ok t c =
    let l = c.loop-id in
    loop.record_strays _ _ _ _ _ _ _ _ _ _ l.strays (told_some _ _ _ _ c.in-Some.is c.in_ok-depth.ensures.ok) l.invariant (told_none _ _ _ c.in_default-2.is c.in_ok-key.ensures.ok) c.if-strays.true

pub attribute-returns-in_err-arg-in-arg-clause-err : goal.attribute-returns-in_err-arg-in-arg-clause-err
attribute-returns-in_err-arg-in-arg-clause-err t c refused =
    loop.no_value _ _ _ _ _ _ _ (told_some _ _ _ _ c.in-Some.is c.in_ok-depth.ensures.ok) c.loop-id.invariant.so_far _ _ (told_some _ _ _ _ c.in-Some-2.is c.in_ok-key.ensures.ok) (c.in_err-arg-in-arg.ensures.err (search rules))

pub attribute-returns-in_err-id-in-id-clause-err : goal.attribute-returns-in_err-id-in-id-clause-err
attribute-returns-in_err-id-in-id-clause-err t c refused =
    loop.no_value _ _ _ _ _ _ _ (told_some _ _ _ _ c.in-Some.is c.in_ok-depth.ensures.ok) c.loop-id.invariant.so_far _ _ (told_some _ _ _ _ c.in-Some-2.is c.in_ok-key.ensures.ok) (c.in_err-id-in-id.ensures.err (search rules))

pub attribute-returns-in_err-id_span-in-id_span-clause-err : goal.attribute-returns-in_err-id_span-in-id_span-clause-err
attribute-returns-in_err-id_span-in-id_span-clause-err t c refused =
    loop.no_value _ _ _ _ _ _ _ (told_some _ _ _ _ c.in-Some.is c.in_ok-depth.ensures.ok) c.loop-id.invariant.so_far _ _ (told_some _ _ _ _ c.in-Some-2.is c.in_ok-key.ensures.ok) (c.in_err-id_span-in-id_span.ensures.err (search rules))

pub attribute-returns-in_err-pass-in_default-key-clause-err : goal.attribute-returns-in_err-pass-in_default-key-clause-err
attribute-returns-in_err-pass-in_default-key-clause-err t c refused =
    loop.no_value _ _ _ _ _ _ _ (told_some _ _ _ _ c.in-Some.is c.in_ok-depth.ensures.ok) c.loop-id.invariant.so_far _ _ (told_some _ _ _ _ c.in-Some-2.is c.in_ok-key.ensures.ok) (c.in_err-pass-in_default-key.ensures.err (search rules))

pub attribute-loop-id-preserved-then-str_eq : goal.attribute-loop-id-preserved-then-str_eq
attribute-loop-id-preserved-then-str_eq t c =
    let l = c.loop-id in
    let done = c.in_ok-arg-in-arg.ensures in
    let less : length c.argument.new.reader < length l.reader = omega (arith, done.shorter, c.in_ok-key.ensures.shorter) in
    loop.record_field _ c.in-Some.depth c.args.reader.now l.reader _ l.strays l.invariant _ _ c.in-Some-2.key.now _ c.argument.new.reader c.in_ok-arg-in-arg.arg _ refl
    (told_some _ _ _ _ c.in-Some-2.is c.in_ok-key.ensures.ok) done.ok less (λ made. inl (c.in-arg.is, made, refl))

pub attribute-loop-id-preserved-then-str_eq-2 : goal.attribute-loop-id-preserved-then-str_eq-2
attribute-loop-id-preserved-then-str_eq-2 t c =
    let l = c.loop-id in
    let done = c.in_ok-id-in-id.ensures in
    let less : length c.read.new.reader < length l.reader = omega (arith, done.shorter, c.in_ok-key.ensures.shorter) in
    loop.record_field _ c.in-Some.depth c.args.reader.now l.reader _ l.strays l.invariant _ _ c.in-Some-2.key.now _ c.read.new.reader c.in_ok-id-in-id.id _ refl
    (told_some _ _ _ _ c.in-Some-2.is c.in_ok-key.ensures.ok) done.ok less (λ made. inr (refl, inl (c.in-id.is, made, refl)))

pub attribute-loop-id-preserved-then-str_eq-3 : goal.attribute-loop-id-preserved-then-str_eq-3
attribute-loop-id-preserved-then-str_eq-3 t c =
    let l = c.loop-id in
    let done = c.in_ok-id_span-in-id_span.ensures in
    let less : length c.read-in-id_span.new.reader < length l.reader = omega (arith, done.shorter, c.in_ok-key.ensures.shorter) in
    loop.record_field _ c.in-Some.depth c.args.reader.now l.reader _ l.strays l.invariant _ _ c.in-Some-2.key.now _ c.read-in-id_span.new.reader c.in_ok-id_span-in-id_span.id_span _ refl
    (told_some _ _ _ _ c.in-Some-2.is c.in_ok-key.ensures.ok) done.ok less (λ made. inr (refl, inr (refl, inl (c.in-id_span.is, made, refl))))

pub attribute-loop-id-preserved : goal.attribute-loop-id-preserved
attribute-loop-id-preserved t c =
    let l = c.loop-id in
    let done = c.in_ok-pass-in_default-key.ensures in
    let less : length c.pass.new.reader < length l.reader = omega (arith, done.shorter, c.in_ok-key.ensures.shorter) in
    loop.record_stray _ c.in-Some.depth c.args.reader.now l.reader _ l.strays l.invariant c.in-Some-2.key.now _ c.pass.new.reader
    (c.in_default-key.not-arg, (c.in_default-key.not-id, (c.in_default-key.not-id_span, tt))) (told_some _ _ _ _ c.in-Some-2.is c.in_ok-key.ensures.ok) done.ok less

pub attribute-returns-in_default-arg-clause-ok : goal.attribute-returns-in_default-arg-clause-ok
attribute-returns-in_default-arg-clause-ok t c =
    let l = c.loop-id in
    loop.record_lacks _ _ _ _ _ _ _ _ _ _ l.strays (told_some _ _ _ _ c.in-Some.is c.in_ok-depth.ensures.ok) l.invariant (told_none _ _ _ c.in_default-2.is c.in_ok-key.ensures.ok) refl c.if-strays.false (inl (ap (option_map (λ g. argument_form (argument_view g))) c.in_default-arg.is))

pub attribute-returns-in_default-id-clause-ok : goal.attribute-returns-in_default-id-clause-ok
attribute-returns-in_default-id-clause-ok t c =
    let l = c.loop-id in
    loop.record_lacks _ _ _ _ _ _ _ _ _ _ l.strays (told_some _ _ _ _ c.in-Some.is c.in_ok-depth.ensures.ok) l.invariant (told_none _ _ _ c.in_default-2.is c.in_ok-key.ensures.ok) refl c.if-strays.false (inr (inl (ap (option_map string) c.in_default-id.is)))

pub attribute-returns-in_default-id_span-clause-ok : goal.attribute-returns-in_default-id_span-clause-ok
attribute-returns-in_default-id_span-clause-ok t c =
    let l = c.loop-id in
    loop.record_lacks _ _ _ _ _ _ _ _ _ _ l.strays (told_some _ _ _ _ c.in-Some.is c.in_ok-depth.ensures.ok) l.invariant (told_none _ _ _ c.in_default-2.is c.in_ok-key.ensures.ok) refl c.if-strays.false (inr (inr (inl (ap (option_map span_form) c.in_default-id_span.is))))

pub attribute-returns-clause-ok : goal.attribute-returns-clause-ok
attribute-returns-clause-ok t c =
    let l = c.loop-id in
    loop.record_whole _ _ _ _ _ _ _ _ _ _ l.strays (told_some _ _ _ _ c.in-Some.is c.in_ok-depth.ensures.ok) l.invariant (told_none _ _ _ c.in_default-2.is c.in_ok-key.ensures.ok) (argument_form (argument_view c.in-Some-arg.arg) ∷ string c.in-Some-id.id ∷ span_form c.in-Some-id_span.id_span ∷ []) _ c.if-strays.false (rw (c.in-Some-arg.is, c.in-Some-id.is, c.in-Some-id_span.is) refl) (ap attribute_form (sym (attribute_seen c.in-Some-id_span.id_span c.in-Some-id.id c.in-Some-arg.arg)))

-- ---- attributes

pub attributes-returns-in_err-first-clause-err : goal.attributes-returns-in_err-first-clause-err
attributes-returns-in_err-first-clause-err t c refused =
    loop.no_item _ _ _ _ _ _ _ _ _ _ (told_some _ _ _ _ c.in-Some.is c.in_ok-depth.ensures.ok) c.loop-list.invariant (c.in_err-first.ensures.err refl c.in-Some.depth)

pub attributes-returns-in_err-item-clause-err : goal.attributes-returns-in_err-item-clause-err
attributes-returns-in_err-item-clause-err t c refused =
    loop.item_fails _ _ _ _ _ _ _ _ _ _ (told_some _ _ _ _ c.in-Some.is c.in_ok-depth.ensures.ok) c.loop-list.invariant _ (told_some _ _ _ _ c.in-Some-2.is c.in_ok-first.ensures.ok) (c.in_err-item.ensures.err (search rules))

pub attributes-loop-list-preserved-in_ok-push-in-Some-3 : goal.attributes-loop-list-preserved-in_ok-push-in-Some-3
attributes-loop-list-preserved-in_ok-push-in-Some-3 t c =
    let l = c.loop-list in
    let done = c.in_ok-item.ensures in
    let less : length c.attribute.new.reader < length l.reader = omega (arith, done.shorter, c.in_ok-first.ensures.shorter) in
    loop.list_item _ _ c.in-Some.depth c.args.reader.now l.reader l.good l.list.items l.invariant _ c.attribute.new.reader c.in-Some-3.item _
    (told_some _ _ _ _ c.in-Some-2.is c.in_ok-first.ensures.ok) (loop.read_as _ _ _ _ _ _ _ c.in-Some-3.is done.ok) less c.in_ok-push-in-Some-3.ensures.ok

pub attributes-loop-list-preserved : goal.attributes-loop-list-preserved
attributes-loop-list-preserved t c =
    let l = c.loop-list in
    let done = c.in_ok-item.ensures in
    let less : length c.attribute.new.reader < length l.reader = omega (arith, done.shorter, c.in_ok-first.ensures.shorter) in
    loop.list_bad _ _ c.in-Some.depth c.args.reader.now l.reader l.good l.list.items l.invariant _ c.attribute.new.reader
    (told_some _ _ _ _ c.in-Some-2.is c.in_ok-first.ensures.ok) (loop.read_as _ _ _ _ _ _ _ c.in-None.is done.ok) less

pub attributes-returns-in_ok-fitted-clause-ok : goal.attributes-returns-in_ok-fitted-clause-ok
attributes-returns-in_ok-fitted-clause-ok t c =
    let l = c.loop-list in
    loop.list_whole _ _ _ _ _ _ _ _ l.good l.list.items (told_some _ _ _ _ c.in-Some.is c.in_ok-depth.ensures.ok) l.invariant _ _ _ c.if-good.true
    (ap (λ xs. list_form (map (λ a. attribute_form (attribute_view a)) xs)) (sym c.in_ok-fitted.ensures.ok)) (told_none _ _ _ c.in_default-2.is c.in_ok-first.ensures.ok)

pub attributes-returns-else-good-clause-ok : goal.attributes-returns-else-good-clause-ok
attributes-returns-else-good-clause-ok t c =
    let l = c.loop-list in
    loop.list_refused _ _ _ _ _ _ _ _ l.good l.list.items (told_some _ _ _ _ c.in-Some.is c.in_ok-depth.ensures.ok) l.invariant _ _ c.if-good.false (told_none _ _ _ c.in_default-2.is c.in_ok-first.ensures.ok)
