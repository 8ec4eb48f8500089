-- Answers on records: a pattern with its span, and the pattern of a field.
use Rattle.std.proofs.Common.{rules, arith, ◌<◌, [], ◌∷◌, length, option_map, refl, sym, ap, inl, inr}
use Rattle.serde_json.specs.Data.{string}
use Rattle.lalrpop_norm_tree.specs.Types.{type_view}
use Rattle.lalrpop_norm_tree_patterns.specs.Patterns.{pattern_kind_view, pattern_view}
use Rattle.lalrpop_norm_tree_patterns.proofs.PatternViews.{pattern_seen}
use Rattle.lalrpop_norm_json.specs.Forms.{span_form}
use Rattle.lalrpop_norm_json.specs.PatternForms.{pattern_kind_form, pattern_form, field_form}
use Rattle.lalrpop_norm_json.proofs.Shaped.{told_none, told_some}
use Rattle.lalrpop_norm_json.proofs.Loops as loop
use Rattle.lalrpop_norm_json.proofs.PatternLemmas.{field_seen}
use Rattle.lalrpop_norm_json.proofs.tree.patterns.+pattern.Goals as goal

pub pattern-loop-kind-init : goal.pattern-loop-kind-init
pattern-loop-kind-init t c =
    loop.record_start _ c.in-Some.depth c.args.reader.now c.open_object.new.reader
    (told_some _ _ _ _ c.in-Some.is c.in_ok-depth.ensures.ok).2

pub pattern-returns-in_err-key-clause-err : goal.pattern-returns-in_err-key-clause-err
pattern-returns-in_err-key-clause-err t c refused =
    loop.no_member _ _ _ _ _ _ _ (told_some _ _ _ _ c.in-Some.is c.in_ok-depth.ensures.ok) c.loop-kind.invariant.so_far
    (c.in_err-key.ensures.err refl c.in-Some.depth)

pub pattern-returns-in_err-kind-in-kind-clause-err : goal.pattern-returns-in_err-kind-in-kind-clause-err
pattern-returns-in_err-kind-in-kind-clause-err t c refused =
    loop.no_value _ _ _ _ _ _ _ (told_some _ _ _ _ c.in-Some.is c.in_ok-depth.ensures.ok) c.loop-kind.invariant.so_far _ _
    (told_some _ _ _ _ c.in-Some-2.is c.in_ok-key.ensures.ok) (c.in_err-kind-in-kind.ensures.err (search rules))

pub pattern-returns-in_err-span-in-span-clause-err : goal.pattern-returns-in_err-span-in-span-clause-err
pattern-returns-in_err-span-in-span-clause-err t c refused =
    loop.no_value _ _ _ _ _ _ _ (told_some _ _ _ _ c.in-Some.is c.in_ok-depth.ensures.ok) c.loop-kind.invariant.so_far _ _
    (told_some _ _ _ _ c.in-Some-2.is c.in_ok-key.ensures.ok) (c.in_err-span-in-span.ensures.err (search rules))

pub pattern-returns-in_err-pass-in_default-key-clause-err : goal.pattern-returns-in_err-pass-in_default-key-clause-err
pattern-returns-in_err-pass-in_default-key-clause-err t c refused =
    loop.no_value _ _ _ _ _ _ _ (told_some _ _ _ _ c.in-Some.is c.in_ok-depth.ensures.ok) c.loop-kind.invariant.so_far _ _
    (told_some _ _ _ _ c.in-Some-2.is c.in_ok-key.ensures.ok) (c.in_err-pass-in_default-key.ensures.err (search rules))

pub pattern-loop-kind-preserved-then-str_eq : goal.pattern-loop-kind-preserved-then-str_eq
pattern-loop-kind-preserved-then-str_eq t c =
    let l = c.loop-kind in
    let done = c.in_ok-kind-in-kind.ensures in
    let less : length c.pattern_kind.new.reader < length l.reader = omega (arith, done.shorter, c.in_ok-key.ensures.shorter) in
    loop.record_field _ c.in-Some.depth c.args.reader.now l.reader _ l.strays l.invariant _ _ c.in-Some-2.key.now _
    c.pattern_kind.new.reader c.in_ok-kind-in-kind.kind _ refl
    (told_some _ _ _ _ c.in-Some-2.is c.in_ok-key.ensures.ok) done.ok less (λ made. inl (c.in-kind.is, made, refl))

pub pattern-loop-kind-preserved-then-str_eq-2 : goal.pattern-loop-kind-preserved-then-str_eq-2
pattern-loop-kind-preserved-then-str_eq-2 t c =
    let l = c.loop-kind in
    let done = c.in_ok-span-in-span.ensures in
    let less : length c.read.new.reader < length l.reader = omega (arith, done.shorter, c.in_ok-key.ensures.shorter) in
    loop.record_field _ c.in-Some.depth c.args.reader.now l.reader _ l.strays l.invariant _ _ c.in-Some-2.key.now _ c.read.new.reader
    c.in_ok-span-in-span.span _ refl
    (told_some _ _ _ _ c.in-Some-2.is c.in_ok-key.ensures.ok) done.ok less (λ made. inr (refl, inl (c.in-span.is, made, refl)))

pub pattern-loop-kind-preserved : goal.pattern-loop-kind-preserved
pattern-loop-kind-preserved t c =
    let l = c.loop-kind in
    let done = c.in_ok-pass-in_default-key.ensures in
    let less : length c.pass.new.reader < length l.reader = omega (arith, done.shorter, c.in_ok-key.ensures.shorter) in
    loop.record_stray _ c.in-Some.depth c.args.reader.now l.reader _ l.strays l.invariant c.in-Some-2.key.now _ c.pass.new.reader
    (c.in_default-key.not-kind, (c.in_default-key.not-span, tt)) (told_some _ _ _ _ c.in-Some-2.is c.in_ok-key.ensures.ok) done.ok less

pub pattern-returns-then-strays-clause-ok : goal.pattern-returns-then-strays-clause-ok
pattern-returns-then-strays-clause-ok t c =
    let l = c.loop-kind in
    loop.record_strays _ _ _ _ _ _ _ _ _ _ l.strays (told_some _ _ _ _ c.in-Some.is c.in_ok-depth.ensures.ok) l.invariant
    (told_none _ _ _ c.in_default-2.is c.in_ok-key.ensures.ok) c.if-strays.true

pub pattern-returns-in_default-kind-clause-ok : goal.pattern-returns-in_default-kind-clause-ok
pattern-returns-in_default-kind-clause-ok t c =
    let l = c.loop-kind in
    loop.record_lacks _ _ _ _ _ _ _ _ _ _ l.strays (told_some _ _ _ _ c.in-Some.is c.in_ok-depth.ensures.ok) l.invariant
    (told_none _ _ _ c.in_default-2.is c.in_ok-key.ensures.ok) refl c.if-strays.false
    (inl (ap (option_map (λ k. pattern_kind_form (pattern_kind_view type_view k))) c.in_default-kind.is))

pub pattern-returns-in_default-span-clause-ok : goal.pattern-returns-in_default-span-clause-ok
pattern-returns-in_default-span-clause-ok t c =
    let l = c.loop-kind in
    loop.record_lacks _ _ _ _ _ _ _ _ _ _ l.strays (told_some _ _ _ _ c.in-Some.is c.in_ok-depth.ensures.ok) l.invariant
    (told_none _ _ _ c.in_default-2.is c.in_ok-key.ensures.ok) refl c.if-strays.false
    (inr (inl (ap (option_map span_form) c.in_default-span.is)))

pub pattern-returns-clause-ok : goal.pattern-returns-clause-ok
pattern-returns-clause-ok t c =
    let l = c.loop-kind in
    loop.record_whole _ _ _ _ _ _ _ _ _ _ l.strays (told_some _ _ _ _ c.in-Some.is c.in_ok-depth.ensures.ok) l.invariant
    (told_none _ _ _ c.in_default-2.is c.in_ok-key.ensures.ok)
    (pattern_kind_form (pattern_kind_view type_view c.in-Some-kind.kind) ∷ span_form c.in-Some-span.span ∷ []) _ c.if-strays.false
    (rw (c.in-Some-kind.is, c.in-Some-span.is) refl)
    (ap pattern_form (sym (pattern_seen type_view c.in-Some-span.span c.in-Some-kind.kind)))

pub field_pattern-loop-of-init : goal.field_pattern-loop-of-init
field_pattern-loop-of-init t c =
    loop.record_start _ c.in-Some.depth c.args.reader.now c.open_object.new.reader
    (told_some _ _ _ _ c.in-Some.is c.in_ok-depth.ensures.ok).2

pub field_pattern-returns-in_err-key-clause-err : goal.field_pattern-returns-in_err-key-clause-err
field_pattern-returns-in_err-key-clause-err t c refused =
    loop.no_member _ _ _ _ _ _ _ (told_some _ _ _ _ c.in-Some.is c.in_ok-depth.ensures.ok) c.loop-of.invariant.so_far
    (c.in_err-key.ensures.err refl c.in-Some.depth)

pub field_pattern-returns-in_err-field_name-in-field_name-clause-err : goal.field_pattern-returns-in_err-field_name-in-field_name-clause-err
field_pattern-returns-in_err-field_name-in-field_name-clause-err t c refused =
    loop.no_value _ _ _ _ _ _ _ (told_some _ _ _ _ c.in-Some.is c.in_ok-depth.ensures.ok) c.loop-of.invariant.so_far _ _
    (told_some _ _ _ _ c.in-Some-2.is c.in_ok-key.ensures.ok) (c.in_err-field_name-in-field_name.ensures.err (search rules))

pub field_pattern-returns-in_err-field_span-in-field_span-clause-err : goal.field_pattern-returns-in_err-field_span-in-field_span-clause-err
field_pattern-returns-in_err-field_span-in-field_span-clause-err t c refused =
    loop.no_value _ _ _ _ _ _ _ (told_some _ _ _ _ c.in-Some.is c.in_ok-depth.ensures.ok) c.loop-of.invariant.so_far _ _
    (told_some _ _ _ _ c.in-Some-2.is c.in_ok-key.ensures.ok) (c.in_err-field_span-in-field_span.ensures.err (search rules))

pub field_pattern-returns-in_err-of-in-pattern-clause-err : goal.field_pattern-returns-in_err-of-in-pattern-clause-err
field_pattern-returns-in_err-of-in-pattern-clause-err t c refused =
    loop.no_value _ _ _ _ _ _ _ (told_some _ _ _ _ c.in-Some.is c.in_ok-depth.ensures.ok) c.loop-of.invariant.so_far _ _
    (told_some _ _ _ _ c.in-Some-2.is c.in_ok-key.ensures.ok) (c.in_err-of-in-pattern.ensures.err (search rules))

pub field_pattern-returns-in_err-pass-in_default-key-clause-err : goal.field_pattern-returns-in_err-pass-in_default-key-clause-err
field_pattern-returns-in_err-pass-in_default-key-clause-err t c refused =
    loop.no_value _ _ _ _ _ _ _ (told_some _ _ _ _ c.in-Some.is c.in_ok-depth.ensures.ok) c.loop-of.invariant.so_far _ _
    (told_some _ _ _ _ c.in-Some-2.is c.in_ok-key.ensures.ok) (c.in_err-pass-in_default-key.ensures.err (search rules))

pub field_pattern-loop-of-preserved-then-str_eq : goal.field_pattern-loop-of-preserved-then-str_eq
field_pattern-loop-of-preserved-then-str_eq t c =
    let l = c.loop-of in
    let done = c.in_ok-field_name-in-field_name.ensures in
    let less : length c.read.new.reader < length l.reader = omega (arith, done.shorter, c.in_ok-key.ensures.shorter) in
    loop.record_field _ c.in-Some.depth c.args.reader.now l.reader _ l.strays l.invariant _ _ c.in-Some-2.key.now _ c.read.new.reader
    c.in_ok-field_name-in-field_name.field_name _ refl
    (told_some _ _ _ _ c.in-Some-2.is c.in_ok-key.ensures.ok) done.ok less (λ made. inl (c.in-field_name.is, made, refl))

pub field_pattern-loop-of-preserved-then-str_eq-2 : goal.field_pattern-loop-of-preserved-then-str_eq-2
field_pattern-loop-of-preserved-then-str_eq-2 t c =
    let l = c.loop-of in
    let done = c.in_ok-field_span-in-field_span.ensures in
    let less : length c.read-in-field_span.new.reader < length l.reader = omega (arith, done.shorter, c.in_ok-key.ensures.shorter) in
    loop.record_field _ c.in-Some.depth c.args.reader.now l.reader _ l.strays l.invariant _ _ c.in-Some-2.key.now _
    c.read-in-field_span.new.reader c.in_ok-field_span-in-field_span.field_span _ refl
    (told_some _ _ _ _ c.in-Some-2.is c.in_ok-key.ensures.ok) done.ok less (λ made. inr (refl, inl (c.in-field_span.is, made, refl)))

pub field_pattern-loop-of-preserved-then-str_eq-3 : goal.field_pattern-loop-of-preserved-then-str_eq-3
field_pattern-loop-of-preserved-then-str_eq-3 t c =
    let l = c.loop-of in
    let done = c.in_ok-of-in-pattern.ensures in
    let less : length c.pattern.new.reader < length l.reader = omega (arith, done.shorter, c.in_ok-key.ensures.shorter) in
    loop.record_field _ c.in-Some.depth c.args.reader.now l.reader _ l.strays l.invariant _ _ c.in-Some-2.key.now _ c.pattern.new.reader
    c.in_ok-of-in-pattern.of _ refl
    (told_some _ _ _ _ c.in-Some-2.is c.in_ok-key.ensures.ok) done.ok less
    (λ made. inr (refl, inr (refl, inl (c.in-pattern.is, made, refl))))

pub field_pattern-loop-of-preserved : goal.field_pattern-loop-of-preserved
field_pattern-loop-of-preserved t c =
    let l = c.loop-of in
    let done = c.in_ok-pass-in_default-key.ensures in
    let less : length c.pass.new.reader < length l.reader = omega (arith, done.shorter, c.in_ok-key.ensures.shorter) in
    loop.record_stray _ c.in-Some.depth c.args.reader.now l.reader _ l.strays l.invariant c.in-Some-2.key.now _ c.pass.new.reader
    (c.in_default-key.not-field_name, (c.in_default-key.not-field_span, (c.in_default-key.not-pattern, tt)))
    (told_some _ _ _ _ c.in-Some-2.is c.in_ok-key.ensures.ok) done.ok less

pub field_pattern-returns-then-strays-clause-ok : goal.field_pattern-returns-then-strays-clause-ok
field_pattern-returns-then-strays-clause-ok t c =
    let l = c.loop-of in
    loop.record_strays _ _ _ _ _ _ _ _ _ _ l.strays (told_some _ _ _ _ c.in-Some.is c.in_ok-depth.ensures.ok) l.invariant
    (told_none _ _ _ c.in_default-2.is c.in_ok-key.ensures.ok) c.if-strays.true

pub field_pattern-returns-in_default-field_name-clause-ok : goal.field_pattern-returns-in_default-field_name-clause-ok
field_pattern-returns-in_default-field_name-clause-ok t c =
    let l = c.loop-of in
    loop.record_lacks _ _ _ _ _ _ _ _ _ _ l.strays (told_some _ _ _ _ c.in-Some.is c.in_ok-depth.ensures.ok) l.invariant
    (told_none _ _ _ c.in_default-2.is c.in_ok-key.ensures.ok) refl c.if-strays.false
    (inl (ap (option_map string) c.in_default-field_name.is))

pub field_pattern-returns-in_default-field_span-clause-ok : goal.field_pattern-returns-in_default-field_span-clause-ok
field_pattern-returns-in_default-field_span-clause-ok t c =
    let l = c.loop-of in
    loop.record_lacks _ _ _ _ _ _ _ _ _ _ l.strays (told_some _ _ _ _ c.in-Some.is c.in_ok-depth.ensures.ok) l.invariant
    (told_none _ _ _ c.in_default-2.is c.in_ok-key.ensures.ok) refl c.if-strays.false
    (inr (inl (ap (option_map span_form) c.in_default-field_span.is)))

pub field_pattern-returns-in_default-of-clause-ok : goal.field_pattern-returns-in_default-of-clause-ok
field_pattern-returns-in_default-of-clause-ok t c =
    let l = c.loop-of in
    loop.record_lacks _ _ _ _ _ _ _ _ _ _ l.strays (told_some _ _ _ _ c.in-Some.is c.in_ok-depth.ensures.ok) l.invariant
    (told_none _ _ _ c.in_default-2.is c.in_ok-key.ensures.ok) refl c.if-strays.false
    (inr (inr (inl (ap (option_map (λ p. pattern_form (pattern_view type_view p))) c.in_default-of.is))))

pub field_pattern-returns-clause-ok : goal.field_pattern-returns-clause-ok
field_pattern-returns-clause-ok t c =
    let l = c.loop-of in
    loop.record_whole _ _ _ _ _ _ _ _ _ _ l.strays (told_some _ _ _ _ c.in-Some.is c.in_ok-depth.ensures.ok) l.invariant
    (told_none _ _ _ c.in_default-2.is c.in_ok-key.ensures.ok)
    (string c.in-Some-field_name.field_name ∷ span_form c.in-Some-field_span.field_span
    ∷ pattern_form (pattern_view type_view c.in-Some-of.of) ∷ []) _ c.if-strays.false
    (rw (c.in-Some-field_name.is, c.in-Some-field_span.is, c.in-Some-of.is) refl)
    (ap field_form (sym (field_seen c.in-Some-field_span.field_span c.in-Some-field_name.field_name c.in-Some-of.of)))
