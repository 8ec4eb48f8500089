-- Answers on the kinds of patterns: the object with one member, and the value under each name.
use Rattle.std.proofs.Common.{rules, arith, ◌<◌, [], ◌∷◌, length, refl, sym, ap, ◌∙◌}
use Rattle.json.specs.Reads.{token_of}
use Rattle.lalrpop_norm_json.specs.Shapes as shape
use Rattle.lalrpop_norm_json.specs.Shapes.{one, many}
use Rattle.lalrpop_norm_json.proofs.Shaped.{slot_is, told_none, told_some}
use Rattle.lalrpop_norm_json.proofs.Loops as loop
use Rattle.lalrpop_norm_json.proofs.RowLoops as rows
use Rattle.lalrpop_norm_json.proofs.PatternLemmas as built
use Rattle.lalrpop_norm_json.proofs.tree.patterns.+pattern.Goals as goal

pub pattern_kind-returns-in-String-clause-ok : goal.pattern_kind-returns-in-String-clause-ok
pattern_kind-returns-in-String-clause-ok t c =
    loop.text_read _ _ c.args.depth (token_of c.args.first) c.in-String.name.now c.args.reader.now c.bare_kind.result
    (ap token_of c.in-String.is) c.bare_kind.ensures

pub pattern_kind-returns-in_default-2 : goal.pattern_kind-returns-in_default-2
pattern_kind-returns-in_default-2 t c = record {
  ok = loop.no_text_no_object _ _ _ c.args.depth c.args.first c.args.reader.now c.open_object.new.reader c.in_default.not-String
      (told_none _ _ _ c.in_default-2.is c.in_ok-depth.ensures.ok);
  err = λ refused. cc;
  shorter = c.in_ok-depth.ensures.shorter;
}

pub pattern_kind-returns-in_err-name : goal.pattern_kind-returns-in_err-name
pattern_kind-returns-in_err-name t c =
    let v = c.loop-read.invariant in
    record {
      ok = search rules;
      err = λ refused. loop.no_member _ _ _ _ _ _ _ (told_some _ _ _ _ c.in-Some.is c.in_ok-depth.ensures.ok) v.so_far
          (c.in_err-name.ensures.err refl c.in-Some.depth);
      shorter = search rules;
    }

pub pattern_kind-returns-in_err-pass : goal.pattern_kind-returns-in_err-pass
pattern_kind-returns-in_err-pass t c =
    let v = c.loop-read.invariant in
    record {
      ok = search rules;
      err = λ refused. loop.no_value _ _ _ _ _ _ _ (told_some _ _ _ _ c.in-Some.is c.in_ok-depth.ensures.ok) v.so_far _ _
          (told_some _ _ _ _ c.in-Some-2.is c.in_ok-name.ensures.ok) (c.in_err-pass.ensures.err (search rules));
      shorter = search rules;
    }

pub pattern_kind-returns-in_err-read : goal.pattern_kind-returns-in_err-read
pattern_kind-returns-in_err-read t c =
    let v = c.loop-read.invariant in
    record {
      ok = search rules;
      err = λ refused. loop.no_value _ _ _ _ _ _ _ (told_some _ _ _ _ c.in-Some.is c.in_ok-depth.ensures.ok) v.so_far _ _
          (told_some _ _ _ _ c.in-Some-2.is c.in_ok-name.ensures.ok) (c.in_err-read.ensures.err (search rules));
      shorter = search rules;
    }

pub pattern_kind-loop-read-preserved-then-is_other : goal.pattern_kind-loop-read-preserved-then-is_other
pattern_kind-loop-read-preserved-then-is_other t c =
    let l = c.loop-read in
    let less : length c.pass.new.reader < length l.reader = omega (arith, c.in_ok-pass.ensures.shorter, c.in_ok-name.ensures.shorter) in
    loop.variant_other _ _ _ c.in-Some.depth c.args.reader.now l.reader l.before l.strays l.read l.invariant c.in-Some-2.name.now _
    c.pass.new.reader
    (sym c.is_other.ensures ∙ c.if-is_other.true) (told_some _ _ _ _ c.in-Some-2.is c.in_ok-name.ensures.ok) c.in_ok-pass.ensures.ok less

pub pattern_kind-loop-read-preserved : goal.pattern_kind-loop-read-preserved
pattern_kind-loop-read-preserved t c =
    let l = c.loop-read in
    let less : length c.pattern_kind_of.new.reader < length l.reader = omega
    (arith, c.in_ok-read.ensures.shorter, c.in_ok-name.ensures.shorter) in
    loop.variant_same _ _ _ c.in-Some.depth c.args.reader.now l.reader l.before l.strays l.read l.invariant c.in-Some-2.name.now _
    c.pattern_kind_of.new.reader c.in_ok-read.read
    (sym c.is_other.ensures ∙ c.if-is_other.false) (told_some _ _ _ _ c.in-Some-2.is c.in_ok-name.ensures.ok) c.in_ok-read.ensures.ok less

pub pattern_kind-returns-then-strays : goal.pattern_kind-returns-then-strays
pattern_kind-returns-then-strays t c =
    let l = c.loop-read in
    record {
      ok = loop.variant_strays _ _ _ _ _ _ _ _ _ _ _ l.strays l.read (told_some _ _ _ _ c.in-Some.is c.in_ok-depth.ensures.ok) l.invariant
          (told_none _ _ _ c.in_default-3.is c.in_ok-name.ensures.ok) c.if-strays.true;
      err = λ refused. cc;
      shorter = omega (arith, l.invariant.so_far.shorter, c.in_ok-name.ensures.shorter);
    }

pub pattern_kind-returns : goal.pattern_kind-returns
pattern_kind-returns t c =
    let l = c.loop-read in
    record {
      ok = loop.variant_whole _ _ _ _ _ _ _ _ _ _ _ l.strays l.read (told_some _ _ _ _ c.in-Some.is c.in_ok-depth.ensures.ok) l.invariant
          (told_none _ _ _ c.in_default-3.is c.in_ok-name.ensures.ok) c.if-strays.false;
      err = λ refused. cc;
      shorter = omega (arith, l.invariant.so_far.shorter, c.in_ok-name.ensures.shorter);
    }

pub pattern_kind_of-returns-in-Some-clause-ok : goal.pattern_kind_of-returns-in-Some-clause-ok
pattern_kind_of-returns-in-Some-clause-ok t c =
    loop.variant_of _ _ _ _ _ _ _ _ _ _ (c.in-Some.path, c.in-Some.patterns) _ c.in-Enum.is c.in-Some.is c.in_ok-path-in-Enum.ensures.ok
    (built.enum_form c.in-Some.path c.in-Some.patterns)

pub pattern_kind_of-returns-in-None-clause-ok : goal.pattern_kind_of-returns-in-None-clause-ok
pattern_kind_of-returns-in-None-clause-ok t c =
    loop.no_variant_of _ _ _ _ _ _ _ _ _ _ c.in-Enum.is c.in-None.is c.in_ok-path-in-Enum.ensures.ok
    (λ d e. rows.row_is (one shape.path ∷ many shape.pattern ∷ []) d ∙ e)

pub pattern_kind_of-returns-in-Some-2-clause-ok : goal.pattern_kind_of-returns-in-Some-2-clause-ok
pattern_kind_of-returns-in-Some-2-clause-ok t c =
    loop.variant_of _ _ _ _ _ _ _ _ _ _ c.in-Some-2.read _ c.in-Path.is c.in-Some-2.is c.in_ok-read-in-Path.ensures.ok
    (built.path_kind_form c.in-Some-2.read)

pub pattern_kind_of-returns-in-None-2-clause-ok : goal.pattern_kind_of-returns-in-None-2-clause-ok
pattern_kind_of-returns-in-None-2-clause-ok t c =
    loop.no_variant_of _ _ _ _ _ _ _ _ _ _ c.in-Path.is c.in-None-2.is c.in_ok-read-in-Path.ensures.ok
    (λ d e. slot_is (one shape.path) d ∙ e)

pub pattern_kind_of-returns-in-Some-3-clause-ok : goal.pattern_kind_of-returns-in-Some-3-clause-ok
pattern_kind_of-returns-in-Some-3-clause-ok t c =
    loop.variant_of _ _ _ _ _ _ _ _ _ _ c.in-Some-3.read _ c.in-Tuple.is c.in-Some-3.is c.in_ok-read-in-Tuple.ensures.ok
    (built.tuple_form c.in-Some-3.read)

pub pattern_kind_of-returns-in-None-3-clause-ok : goal.pattern_kind_of-returns-in-None-3-clause-ok
pattern_kind_of-returns-in-None-3-clause-ok t c =
    loop.no_variant_of _ _ _ _ _ _ _ _ _ _ c.in-Tuple.is c.in-None-3.is c.in_ok-read-in-Tuple.ensures.ok
    (λ d e. slot_is (many shape.pattern) d ∙ e)

pub pattern_kind_of-returns-in-Some-4-clause-ok : goal.pattern_kind_of-returns-in-Some-4-clause-ok
pattern_kind_of-returns-in-Some-4-clause-ok t c =
    loop.variant_of _ _ _ _ _ _ _ _ _ _ (c.in-Some-4.path, c.in-Some-4.patterns) _ c.in-TupleStruct.is c.in-Some-4.is
    c.in_ok-path-in-TupleStruct.ensures.ok (built.tuple_struct_form c.in-Some-4.path c.in-Some-4.patterns)

pub pattern_kind_of-returns-in-None-4-clause-ok : goal.pattern_kind_of-returns-in-None-4-clause-ok
pattern_kind_of-returns-in-None-4-clause-ok t c =
    loop.no_variant_of _ _ _ _ _ _ _ _ _ _ c.in-TupleStruct.is c.in-None-4.is c.in_ok-path-in-TupleStruct.ensures.ok
    (λ d e. rows.row_is (one shape.path ∷ many shape.pattern ∷ []) d ∙ e)

pub pattern_kind_of-returns-in-Some-5-clause-ok : goal.pattern_kind_of-returns-in-Some-5-clause-ok
pattern_kind_of-returns-in-Some-5-clause-ok t c =
    loop.variant_of _ _ _ _ _ _ _ _ _ _ c.in-Some-5.read _ c.in-Usize.is c.in-Some-5.is c.in_ok-read-in-Usize.ensures.ok
    (built.number_form c.in-Some-5.read)

pub pattern_kind_of-returns-in-None-5-clause-ok : goal.pattern_kind_of-returns-in-None-5-clause-ok
pattern_kind_of-returns-in-None-5-clause-ok t c =
    loop.no_variant_of _ _ _ _ _ _ _ _ _ _ c.in-Usize.is c.in-None-5.is c.in_ok-read-in-Usize.ensures.ok
    (λ d e. slot_is (one shape.natural) d ∙ e)

pub pattern_kind_of-returns-in-Some-6-clause-ok : goal.pattern_kind_of-returns-in-Some-6-clause-ok
pattern_kind_of-returns-in-Some-6-clause-ok t c =
    loop.variant_of _ _ _ _ _ _ _ _ _ _ c.in-Some-6.read _ c.in-Choose.is c.in-Some-6.is c.in_ok-read-in-Choose.ensures.ok
    (built.chosen_form c.in-Some-6.read)

pub pattern_kind_of-returns-in-None-6-clause-ok : goal.pattern_kind_of-returns-in-None-6-clause-ok
pattern_kind_of-returns-in-None-6-clause-ok t c =
    loop.no_variant_of _ _ _ _ _ _ _ _ _ _ c.in-Choose.is c.in-None-6.is c.in_ok-read-in-Choose.ensures.ok
    (λ d e. slot_is (one shape.type) d ∙ e)

pub pattern_kind_of-returns-in-Some-7-clause-ok : goal.pattern_kind_of-returns-in-Some-7-clause-ok
pattern_kind_of-returns-in-Some-7-clause-ok t c =
    loop.variant_of _ _ _ _ _ _ _ _ _ _ c.in-Some-7.read _ c.in-CharLiteral.is c.in-Some-7.is c.in_ok-read-in-CharLiteral.ensures.ok
    (built.character_form c.in-Some-7.read)

pub pattern_kind_of-returns-in-None-7-clause-ok : goal.pattern_kind_of-returns-in-None-7-clause-ok
pattern_kind_of-returns-in-None-7-clause-ok t c =
    loop.no_variant_of _ _ _ _ _ _ _ _ _ _ c.in-CharLiteral.is c.in-None-7.is c.in_ok-read-in-CharLiteral.ensures.ok
    (λ d e. slot_is (one shape.text) d ∙ e)

pub pattern_kind_of-returns-in-Some-8-clause-ok : goal.pattern_kind_of-returns-in-Some-8-clause-ok
pattern_kind_of-returns-in-Some-8-clause-ok t c =
    loop.variant_of _ _ _ _ _ _ _ _ _ _ c.in-Some-8.read _ c.in-String.is c.in-Some-8.is c.in_ok-read-in-String.ensures.ok
    (built.string_form c.in-Some-8.read)

pub pattern_kind_of-returns-in-None-8-clause-ok : goal.pattern_kind_of-returns-in-None-8-clause-ok
pattern_kind_of-returns-in-None-8-clause-ok t c =
    loop.no_variant_of _ _ _ _ _ _ _ _ _ _ c.in-String.is c.in-None-8.is c.in_ok-read-in-String.ensures.ok
    (λ d e. slot_is (one shape.text) d ∙ e)
