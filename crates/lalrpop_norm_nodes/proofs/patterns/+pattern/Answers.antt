use Rattle.std.proofs.Common.{[], refl, ap, sym, subst, ◌∙◌}
use Rattle.std.specs.Result.{IfOk}
use borrow.Author.Count.{falls}
use Rattle.lalrpop_norm_tree.specs.Symbols.{argument_pattern_view}
use Rattle.lalrpop_norm_nodes.specs.Wholes.{Whole, one_pattern, StandsFor}
use Rattle.lalrpop_norm_nodes.proofs.PatternReads.{name_seen, is_pattern, several_for, to_patterns, to_pattern}
use Rattle.lalrpop_norm_nodes.proofs.MeetingLemmas.{on_ok_more}
use Rattle.lalrpop_norm_nodes.specs.Tables.{wholes_in, own_text_in}
use Rattle.lalrpop_norm_nodes.proofs.MeetLemmas.{meets_both}
use Rattle.lalrpop_norm_nodes.proofs.RowItems.{patterns_more, are_patterns, stands_later}
use Rattle.std.proofs.lemmas.Result.{IfOk-from_err}
use Rattle.lalrpop_norm_nodes.proofs.patterns.+pattern.Goals as goal

pub enter_patterns-loop-pattern-preserved : goal.enter_patterns-loop-pattern-preserved
enter_patterns-loop-pattern-preserved t c =
    let v = c.loop-pattern.invariant in
    let n = c.in_ok-number.ensures in
    let r = c.in_ok-row-2.ensures in
    record {
      meets = meets_both c.args.table.now c.enter_pattern.new.table c.enter-in-loop-pattern.new.self [] []
          (meets_both c.args.table.now c.loop-pattern.table c.enter_pattern.new.table [] [] v.meets n.meets) r.meets;
      counted = r.counted ∙ n.counted ∙ v.counted;
      waiting = r.waiting ∙ n.waiting ∙ v.waiting;
      row = patterns_more (wholes_in c.loop-pattern.table) (wholes_in c.enter_pattern.new.table) (wholes_in c.enter-in-loop-pattern.new.self)
          c.loop-pattern.row c.in_ok-number.number c.in_ok-row-2.row c.args.several.now c.loop-pattern.pattern-index c.pattern-item.result
          c.loop-pattern-test.true c.pattern-item.is v.row n.meets.grows n.number r.number;
    }

pub enter_pattern-returns-in_err-name_node-in-Name : goal.enter_pattern-returns-in_err-name_node-in-Name
enter_pattern-returns-in_err-name_node-in-Name t c =
    let f = c.from_residual.ensures in
    record {
      meets = IfOk-from_err _ _ f.0;
      counted = IfOk-from_err _ _ f.0;
      waiting = IfOk-from_err _ _ f.0;
      number = IfOk-from_err _ _ f.0;
    }

pub enter_pattern-returns-in_err-row-in-Tuple : goal.enter_pattern-returns-in_err-row-in-Tuple
enter_pattern-returns-in_err-row-in-Tuple t c =
    let f = c.from_residual-in_err-row-in-Tuple.ensures in
    record {
      meets = IfOk-from_err _ _ f.0;
      counted = IfOk-from_err _ _ f.0;
      waiting = IfOk-from_err _ _ f.0;
      number = IfOk-from_err _ _ f.0;
    }

pub enter_patterns-returns-in_err-row : goal.enter_patterns-returns-in_err-row
enter_patterns-returns-in_err-row t c =
    let f = c.from_residual.ensures in
    record {
      meets = IfOk-from_err _ _ f.0;
      counted = IfOk-from_err _ _ f.0;
      waiting = IfOk-from_err _ _ f.0;
      number = IfOk-from_err _ _ f.0;
    }

pub enter_patterns-returns-in_err-number : goal.enter_patterns-returns-in_err-number
enter_patterns-returns-in_err-number t c =
    let f = c.from_residual-in_err-number.ensures in
    record {
      meets = IfOk-from_err _ _ f.0;
      counted = IfOk-from_err _ _ f.0;
      waiting = IfOk-from_err _ _ f.0;
      number = IfOk-from_err _ _ f.0;
    }

pub enter_patterns-returns-in_err-row-2 : goal.enter_patterns-returns-in_err-row-2
enter_patterns-returns-in_err-row-2 t c =
    let f = c.from_residual-in_err-row-2.ensures in
    record {
      meets = IfOk-from_err _ _ f.0;
      counted = IfOk-from_err _ _ f.0;
      waiting = IfOk-from_err _ _ f.0;
      number = IfOk-from_err _ _ f.0;
    }

pub enter_pattern-enter_patterns-requires : goal.enter_pattern-enter_patterns-requires
enter_pattern-enter_patterns-requires t c = (to_patterns t c.args.pattern.now _ _ c.in-Tuple.is c.deref.ensures.value c.decreases, c.requires)

pub enter_patterns-enter_pattern-requires : goal.enter_patterns-enter_pattern-requires
enter_patterns-enter_pattern-requires t c = (to_pattern t c.args.several.now _ _ c.loop-pattern-test.true c.pattern-item.is c.decreases, c.loop-pattern.invariant.meets.table)

pub enter_patterns-loop-pattern-init : goal.enter_patterns-loop-pattern-init
enter_patterns-loop-pattern-init t c =
    let r = c.in_ok-row.ensures in
    record { meets = r.meets; counted = r.counted; waiting = r.waiting; row = r.number }

pub enter_patterns-loop-pattern-smaller : goal.enter_patterns-loop-pattern-smaller
enter_patterns-loop-pattern-smaller t c = falls _ _ c.loop-pattern-test.true

pub enter_patterns-enter-requires : goal.enter_patterns-enter-requires
enter_patterns-enter-requires t c = record { table = c.requires; fits = tt; plain = refl }

pub enter_patterns-enter-requires-in-loop-pattern : goal.enter_patterns-enter-requires-in-loop-pattern
enter_patterns-enter-requires-in-loop-pattern t c =
    let n = c.in_ok-number.ensures in
    let ws = wholes_in c.enter_pattern.new.table in
    record {
      table = n.meets.table;
      fits = (are_patterns ws c.loop-pattern.row _ (stands_later (wholes_in c.loop-pattern.table) ws c.loop-pattern.row _ n.meets.grows c.loop-pattern.invariant.row), is_pattern ws c.in_ok-number.number _ n.number);
      plain = refl;
    }

pub enter_pattern-enter-requires : goal.enter_pattern-enter-requires
enter_pattern-enter-requires t c =
    let n = c.in_ok-name_node-in-Name.ensures (wholes_in c.args.table.now) in
    record { table = c.requires; fits = n.0; plain = ap own_text_in n.1 }

pub enter_pattern-enter-requires-in-Tuple : goal.enter_pattern-enter-requires-in-Tuple
enter_pattern-enter-requires-in-Tuple t c =
    let r = c.in_ok-row-in-Tuple.ensures in
    record { table = r.meets.table; fits = are_patterns (wholes_in c.enter_patterns.new.table) c.in_ok-row-in-Tuple.row _ r.number; plain = refl }

pub enter_pattern-returns-in_ok-name_node-in-Name : goal.enter_pattern-returns-in_ok-name_node-in-Name
enter_pattern-returns-in_ok-name_node-in-Name t c =
    let r = c.enter.ensures in
    let n = c.in_ok-name_node-in-Name.ensures (wholes_in c.args.table.now) in
    record {
      meets = r.meets;
      counted = r.counted;
      waiting = r.waiting;
      number = subst (λ (w : Whole). IfOk c.enter.result (λ i. StandsFor (wholes_in c.enter.new.self) i w))
          (n.1 ∙ ap one_pattern (sym (ap argument_pattern_view c.in-Name.is ∙ name_seen c.in-Name.name))) r.number;
    }

pub enter_pattern-returns-in_ok-row-in-Tuple : goal.enter_pattern-returns-in_ok-row-in-Tuple
enter_pattern-returns-in_ok-row-in-Tuple t c =
    let r = c.enter-in-Tuple.ensures in
    let m = c.in_ok-row-in-Tuple.ensures in
    record {
      meets = on_ok_more c.enter-in-Tuple.result _ _ (meets_both c.args.table.now c.enter_patterns.new.table c.enter-in-Tuple.new.self [] [] m.meets) r.meets;
      counted = on_ok_more c.enter-in-Tuple.result _ _ (λ h. h ∙ m.counted) r.counted;
      waiting = on_ok_more c.enter-in-Tuple.result _ _ (λ h. h ∙ m.waiting) r.waiting;
      number = subst (λ (w : Whole). IfOk c.enter-in-Tuple.result (λ i. StandsFor (wholes_in c.enter-in-Tuple.new.self) i w))
          (several_for (wholes_in c.enter_patterns.new.table) c.args.pattern.now c.in-Tuple.tuple _ c.in_ok-row-in-Tuple.row c.in-Tuple.is c.deref.ensures.value m.number) r.number;
    }
