-- Answers on the kinds of symbols: the object with one member, the value under each name, and a selected symbol.
use Rattle.std.proofs.Common.{refl, sym, ap, ◌∙◌}
use Rattle.std.specs.Prelude.{codes}
use Rattle.json.specs.Reads.{token_of}
use Rattle.lalrpop_norm_json.specs.Shapes as shape
use Rattle.lalrpop_norm_json.specs.Shapes.{one}
use Rattle.lalrpop_norm_json.proofs.Loops as loop
use Rattle.json_records.proofs.Turns as turn
use Rattle.lalrpop_norm_json.proofs.Steps as step
use Rattle.lalrpop_norm_json.proofs.Shaped.{slot_is, told_none, told_some}
use Rattle.lalrpop_norm_json.proofs.tree.symbols.+symbol.Goals as goal

pub kind-returns-in_err-depth : goal.kind-returns-in_err-depth
kind-returns-in_err-depth t c = step.fails _ _ _ c.from_residual.ensures c.in_err-depth.ensures.err

pub kind-loop-read-init : goal.kind-loop-read-init
kind-loop-read-init t c =
    loop.variant_start _ _ _ c.in-Some.depth c.args.reader.now c.open_object.new.reader
    (told_some _ _ _ _ c.in-Some.is c.in_ok-depth.ensures.ok).2

pub kind-returns-in-String-clause-ok : goal.kind-returns-in-String-clause-ok
kind-returns-in-String-clause-ok t c =
    loop.text_read _ _ c.args.depth (token_of c.args.first) c.in-String.name.now c.args.reader.now c.bare_kind.result
    (ap token_of c.in-String.is) c.bare_kind.ensures

pub kind-returns-in_default-2 : goal.kind-returns-in_default-2
kind-returns-in_default-2 t c =
    step.answers
    (loop.no_text_no_object _ _ _ c.args.depth c.args.first c.args.reader.now c.open_object.new.reader c.in_default.not-String
    (told_none _ _ _ c.in_default-2.is c.in_ok-depth.ensures.ok))
    c.in_ok-depth.ensures.shorter

pub kind-returns-in_err-name : goal.kind-returns-in_err-name
kind-returns-in_err-name t c =
    step.stops _ _ c.from_residual-in_err-name.ensures.0
    (loop.no_member _ _ _ _ _ _ _ (told_some _ _ _ _ c.in-Some.is c.in_ok-depth.ensures.ok) c.loop-read.invariant.so_far
    (c.in_err-name.ensures.err refl c.in-Some.depth))

pub kind-returns-in_err-pass : goal.kind-returns-in_err-pass
kind-returns-in_err-pass t c =
    step.fails _ _ _ c.from_residual-in_err-pass.ensures
    (λ same. loop.no_value _ _ _ _ _ _ _ (told_some _ _ _ _ c.in-Some.is c.in_ok-depth.ensures.ok) c.loop-read.invariant.so_far _ _
    (told_some _ _ _ _ c.in-Some-2.is c.in_ok-name.ensures.ok) (c.in_err-pass.ensures.err same))

pub kind-returns-in_err-read : goal.kind-returns-in_err-read
kind-returns-in_err-read t c =
    step.fails _ _ _ c.from_residual-in_err-read.ensures
    (λ same. loop.no_value _ _ _ _ _ _ _ (told_some _ _ _ _ c.in-Some.is c.in_ok-depth.ensures.ok) c.loop-read.invariant.so_far _ _
    (told_some _ _ _ _ c.in-Some-2.is c.in_ok-name.ensures.ok) (c.in_err-read.ensures.err same))

pub kind-loop-read-preserved-then-is_other : goal.kind-loop-read-preserved-then-is_other
kind-loop-read-preserved-then-is_other t c =
    loop.variant_other _ _ _ c.in-Some.depth c.args.reader.now c.loop-read.reader c.loop-read.before c.loop-read.strays c.loop-read.read
    c.loop-read.invariant c.in-Some-2.name.now
    _ c.pass.new.reader (sym c.is_other.ensures ∙ c.if-is_other.true) (told_some _ _ _ _ c.in-Some-2.is c.in_ok-name.ensures.ok)
    c.in_ok-pass.ensures.ok (turn.less_than c.in_ok-pass.ensures.shorter c.in_ok-name.ensures.shorter)

pub kind-loop-read-preserved : goal.kind-loop-read-preserved
kind-loop-read-preserved t c =
    loop.variant_same _ _ _ c.in-Some.depth c.args.reader.now c.loop-read.reader c.loop-read.before c.loop-read.strays c.loop-read.read
    c.loop-read.invariant c.in-Some-2.name.now _
    c.kind_of.new.reader c.in_ok-read.read (sym c.is_other.ensures ∙ c.if-is_other.false)
    (told_some _ _ _ _ c.in-Some-2.is c.in_ok-name.ensures.ok) c.in_ok-read.ensures.ok
    (turn.less_than c.in_ok-read.ensures.shorter c.in_ok-name.ensures.shorter)

pub kind-returns-then-strays : goal.kind-returns-then-strays
kind-returns-then-strays t c =
    step.answers
    (loop.variant_strays _ _ _ _ _ _ _ _ _ _ _ c.loop-read.strays c.loop-read.read (told_some _ _ _ _ c.in-Some.is c.in_ok-depth.ensures.ok)
    c.loop-read.invariant (told_none _ _ _ c.in_default-3.is c.in_ok-name.ensures.ok) c.if-strays.true)
    (turn.no_more c.loop-read.invariant.so_far.shorter c.in_ok-name.ensures.shorter)

pub kind-returns : goal.kind-returns
kind-returns t c =
    step.answers
    (loop.variant_whole _ _ _ _ _ _ _ _ _ _ _ c.loop-read.strays c.loop-read.read (told_some _ _ _ _ c.in-Some.is c.in_ok-depth.ensures.ok)
    c.loop-read.invariant (told_none _ _ _ c.in_default-3.is c.in_ok-name.ensures.ok) c.if-strays.false)
    (turn.no_more c.loop-read.invariant.so_far.shorter c.in_ok-name.ensures.shorter)

pub kind_of-returns-in_err-read-in-Expr : goal.kind_of-returns-in_err-read-in-Expr
kind_of-returns-in_err-read-in-Expr t c = step.fails _ _ _ c.from_residual.ensures c.in_err-read-in-Expr.ensures.err

pub kind_of-returns-in_err-read-in-AmbiguousId : goal.kind_of-returns-in_err-read-in-AmbiguousId
kind_of-returns-in_err-read-in-AmbiguousId t c =
    step.fails _ _ _ c.from_residual-in_err-read-in-AmbiguousId.ensures c.in_err-read-in-AmbiguousId.ensures.err

pub kind_of-returns-in_err-read-in-Terminal : goal.kind_of-returns-in_err-read-in-Terminal
kind_of-returns-in_err-read-in-Terminal t c =
    step.fails _ _ _ c.from_residual-in_err-read-in-Terminal.ensures c.in_err-read-in-Terminal.ensures.err

pub kind_of-returns-in_err-read-in-Nonterminal : goal.kind_of-returns-in_err-read-in-Nonterminal
kind_of-returns-in_err-read-in-Nonterminal t c =
    step.fails _ _ _ c.from_residual-in_err-read-in-Nonterminal.ensures c.in_err-read-in-Nonterminal.ensures.err

pub kind_of-returns-in_err-pass-in_default : goal.kind_of-returns-in_err-pass-in_default
kind_of-returns-in_err-pass-in_default t c =
    step.fails _ _ _ c.from_residual-in_err-pass-in_default.ensures c.in_err-pass-in_default.ensures.err

pub kind_of-returns-in-None : goal.kind_of-returns-in-None
kind_of-returns-in-None t c =
    step.answers (loop.no_variant_of _ _ _ _ _ _ _ _ _ _ c.in-Expr.is c.in-None.is c.in_ok-read-in-Expr.ensures.ok
    (λ d e. slot_is (one shape.group) d ∙ e))
    c.in_ok-read-in-Expr.ensures.shorter

pub kind_of-returns-in-None-2 : goal.kind_of-returns-in-None-2
kind_of-returns-in-None-2 t c =
    step.answers (loop.no_variant_of _ _ _ _ _ _ _ _ _ _ c.in-AmbiguousId.is c.in-None-2.is c.in_ok-read-in-AmbiguousId.ensures.ok
    (λ d e. slot_is (one shape.text) d ∙ e))
    c.in_ok-read-in-AmbiguousId.ensures.shorter

pub kind_of-returns-in-None-3 : goal.kind_of-returns-in-None-3
kind_of-returns-in-None-3 t c =
    step.answers (loop.no_variant_of _ _ _ _ _ _ _ _ _ _ c.in-Terminal.is c.in-None-3.is c.in_ok-read-in-Terminal.ensures.ok
    (λ d e. slot_is (one shape.terminal) d ∙ e))
    c.in_ok-read-in-Terminal.ensures.shorter

pub kind_of-returns-in-Macro : goal.kind_of-returns-in-Macro
kind_of-returns-in-Macro t c = record {
  ok = rw c.in-Macro.is c.called.ensures.ok;
  err = c.called.ensures.err;
  shorter = c.called.ensures.shorter;
}

pub kind_of-returns-in-Repeat : goal.kind_of-returns-in-Repeat
kind_of-returns-in-Repeat t c = record {
  ok = rw c.in-Repeat.is c.repeated.ensures.ok;
  err = c.repeated.ensures.err;
  shorter = c.repeated.ensures.shorter;
}

pub kind_of-returns-in-Choose : goal.kind_of-returns-in-Choose
kind_of-returns-in-Choose t c = record {
  ok = rw c.in-Choose.is c.chosen.ensures.ok;
  err = c.chosen.ensures.err;
  shorter = c.chosen.ensures.shorter;
}

pub kind_of-returns-in-Name : goal.kind_of-returns-in-Name
kind_of-returns-in-Name t c = record {
  ok = rw c.in-Name.is c.named.ensures.ok;
  err = c.named.ensures.err;
  shorter = c.named.ensures.shorter;
}

pub kind_of-returns-in-Tuple : goal.kind_of-returns-in-Tuple
kind_of-returns-in-Tuple t c = record {
  ok = rw c.in-Tuple.is c.tupled.ensures.ok;
  err = c.tupled.ensures.err;
  shorter = c.tupled.ensures.shorter;
}

pub kind_of-returns-in_ok-pass-in_default : goal.kind_of-returns-in_ok-pass-in_default
kind_of-returns-in_ok-pass-in_default t c =
    step.answers
    (loop.no_variant_there _ _ _ _ _ _ _
    (c.in_default.not-Expr, (c.in_default.not-AmbiguousId, (c.in_default.not-Terminal, (c.in_default.not-Nonterminal, (c.in_default.not-Macro, (c.in_default.not-Repeat, (c.in_default.not-Choose, (c.in_default.not-Name, (c.in_default.not-Tuple, tt)))))))))
    c.in_ok-pass-in_default.ensures.ok)
    c.in_ok-pass-in_default.ensures.shorter

pub chosen-returns-in_err-symbol : goal.chosen-returns-in_err-symbol
chosen-returns-in_err-symbol t c = step.fails _ _ _ c.from_residual.ensures c.in_err-symbol.ensures.err

pub chosen-returns-in-None : goal.chosen-returns-in-None
chosen-returns-in-None t c =
    step.answers (loop.no_variant_of _ _ _ _ _ _ _ _ (codes "Choose") _ refl c.in-None.is c.in_ok-symbol.ensures.ok
    (λ d e. slot_is (one shape.symbol) d ∙ e))
    c.in_ok-symbol.ensures.shorter

pub chosen-returns-in_err-new-in-Some-clause-ok : goal.chosen-returns-in_err-new-in-Some-clause-ok
chosen-returns-in_err-new-in-Some-clause-ok t c = loop.not_ok _ _ c.from_residual-in_err-new-in-Some.ensures.0
