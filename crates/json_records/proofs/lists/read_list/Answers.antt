use Rattle.std.proofs.Common.{◌≡◌, ◌∷◌, ◌++◌, ◌<◌, [], length, map, true, false, refl, sym, ap, ◌∙◌, subst, rules}
use Rattle.json.specs.Reads.{token_of}
use Rattle.serde_json.specs.Data.{array, no_items}
use Rattle.json_records.specs.Reading.{data_of, items_before, list_form, AreMade, ItemsSoFar}
use Rattle.json_records.proofs.Turns as turn
use Rattle.json_records.proofs.lists.read_list.Goals as goal

pub returns-in_err-depth : goal.returns-in_err-depth
returns-in_err-depth g c =
    let failed = c.from_residual in
    record {
      ok = turn.no_answer _ failed.result failed.ensures.0;
      err = λ refused. c.in_err-depth.ensures.err (turn.same_error _ failed.ensures refused);
      shorter = turn.no_answer _ failed.result failed.ensures.0;
    }

pub returns-in_default-clause-err : goal.returns-in_default-clause-err
returns-in_default-clause-err g c = turn.never_refused

pub returns-in_default-clause-shorter : goal.returns-in_default-clause-shorter
returns-in_default-clause-shorter g c = c.in_ok-depth.ensures.shorter

pub returns-in_err-first : goal.returns-in_err-first
returns-in_err-first g c =
    let l = c.loop-list in
    let opened = turn.held _ _ c.in-Some.is c.in_ok-depth.ensures.ok in
    let failed = c.from_residual-in_err-first in
    record {
      ok = turn.no_answer _ failed.result failed.ensures.0;
      err = λ refused. turn.array_stop (token_of c.args.first) c.args.depth c.in-Some.depth c.args.reader.now opened.1 opened.0 (turn.items_stop c.in-Some.depth c.args.reader.now l.reader l.invariant.0 l.invariant.1 (c.in_err-first.ensures.err (refl {a = true}) c.in-Some.depth));
      shorter = turn.no_answer _ failed.result failed.ensures.0;
    }

pub returns-in_err-item : goal.returns-in_err-item
returns-in_err-item g c =
    let l = c.loop-list in
    let opened = turn.held _ _ c.in-Some.is c.in_ok-depth.ensures.ok in
    let going = turn.held _ _ c.in-Some-2.is c.in_ok-first.ensures.ok in
    let failed = c.from_residual-in_err-item in
    record {
      ok = turn.no_answer _ failed.result failed.ensures.0;
      err = λ refused. turn.array_stop (token_of c.args.first) c.args.depth c.in-Some.depth c.args.reader.now opened.1 opened.0
          (turn.item_stop c.in-Some.depth c.args.reader.now l.reader l.invariant.0 l.invariant.1 going.0 (ap (data_of c.in-Some.depth) going.1 ∙ c.in_err-item.ensures.err (turn.same_error _ failed.ensures refused)));
      shorter = turn.no_answer _ failed.result failed.ensures.0;
    }

pub loop-list-preserved-in_ok-push-in-Some-3 : goal.loop-list-preserved-in_ok-push-in-Some-3
loop-list-preserved-in_ok-push-in-Some-3 g c =
    let l = c.loop-list in
    let going = turn.held _ _ c.in-Some-2.is c.in_ok-first.ensures.ok in
    let done = c.in_ok-item.ensures.ok in
    let less : length c.read.new.reader < length l.reader = turn.less_than c.in_ok-item.ensures.shorter c.in_ok-first.ensures.shorter in
    let is : done.means ≡ g.K.Reads.form c.in-Some-3.item = search rules in (
      l.invariant.0 ++ done.means ∷ [],
      turn.item_more c.in-Some.depth c.args.reader.now l.reader l.invariant.0 l.invariant.1 c.read.new.reader done.means going.0 (ap (data_of c.in-Some.depth) going.1 ∙ done.read) less,
      subst (λ xs. AreMade g.K.Reads.form g.K.Reads.can l.good xs (l.invariant.0 ++ done.means ∷ [])) (sym c.in_ok-push-in-Some-3.ensures.ok)
          (turn.made_more g.K.Reads.form g.K.Reads.can l.good l.list.items c.in-Some-3.item l.invariant.0 done.means is l.invariant.2),
    )

pub loop-list-preserved : goal.loop-list-preserved
loop-list-preserved g c =
    let l = c.loop-list in
    let going = turn.held _ _ c.in-Some-2.is c.in_ok-first.ensures.ok in
    let done = c.in_ok-item.ensures.ok in
    let less : length c.read.new.reader < length l.reader = turn.less_than c.in_ok-item.ensures.shorter c.in_ok-first.ensures.shorter in
    let fails : g.K.Reads.can done.means ≡ false = search rules in (
      l.invariant.0 ++ done.means ∷ [],
      turn.item_more c.in-Some.depth c.args.reader.now l.reader l.invariant.0 l.invariant.1 c.read.new.reader done.means going.0 (ap (data_of c.in-Some.depth) going.1 ∙ done.read) less,
      turn.made_bad g.K.Reads.form g.K.Reads.can l.list.items l.invariant.0 done.means fails,
    )

pub returns-in_ok-fitted : goal.returns-in_ok-fitted
returns-in_ok-fitted g c =
    let l = c.loop-list in
    let opened = turn.held _ _ c.in-Some.is c.in_ok-depth.ensures.ok in
    let made : AreMade g.K.Reads.form g.K.Reads.can true l.list.items l.invariant.0 = subst (λ b. AreMade g.K.Reads.form g.K.Reads.can b l.list.items l.invariant.0) c.if-good.true l.invariant.2 in
    record {
      ok = record {
        means = array (items_before l.invariant.0 no_items);
        read = turn.array_done (token_of c.args.first) c.args.depth c.in-Some.depth c.args.reader.now l.reader c.next_item.new.reader opened.1 l.invariant.0 opened.0 l.invariant.1 (turn.not_held _ _ c.in_default-2.is c.in_ok-first.ensures.ok);
        made = ap array (turn.to_items_is l.invariant.0) ∙ ap list_form (made ∙ ap (map g.K.Reads.form) (sym c.in_ok-fitted.ensures.ok));
      };
      err = turn.never_refused;
      shorter = turn.no_more l.invariant.1.shorter c.in_ok-first.ensures.shorter;
    }

pub returns-else-good : goal.returns-else-good
returns-else-good g c =
    let l = c.loop-list in
    let opened = turn.held _ _ c.in-Some.is c.in_ok-depth.ensures.ok in
    let made : AreMade g.K.Reads.form g.K.Reads.can false l.list.items l.invariant.0 = subst (λ b. AreMade g.K.Reads.form g.K.Reads.can b l.list.items l.invariant.0) c.if-good.false l.invariant.2 in
    record {
      ok = record {
        means = array (items_before l.invariant.0 no_items);
        read = turn.array_done (token_of c.args.first) c.args.depth c.in-Some.depth c.args.reader.now l.reader c.next_item.new.reader opened.1 l.invariant.0 opened.0 l.invariant.1 (turn.not_held _ _ c.in_default-2.is c.in_ok-first.ensures.ok);
        made = turn.all_or_not g.K.Reads.can l.invariant.0 ∙ made;
      };
      err = turn.never_refused;
      shorter = turn.no_more l.invariant.1.shorter c.in_ok-first.ensures.shorter;
    }

pub loop-list-smaller : goal.loop-list-smaller
loop-list-smaller g c = turn.less_than c.in_ok-item.ensures.shorter c.in_ok-first.ensures.shorter

pub loop-list-smaller-in_ok-push-in-Some-3 : goal.loop-list-smaller-in_ok-push-in-Some-3
loop-list-smaller-in_ok-push-in-Some-3 g c = turn.less_than c.in_ok-item.ensures.shorter c.in_ok-first.ensures.shorter

pub loop-list-init : goal.loop-list-init
loop-list-init g c =
    let opened = turn.held _ _ c.in-Some.is c.in_ok-depth.ensures.ok in (
      [],
      subst (λ ts. ItemsSoFar c.in-Some.depth c.args.reader.now ts []) (sym opened.2) (turn.items_start c.in-Some.depth c.args.reader.now),
      ap (map g.K.Reads.form) (sym c.new-list.ensures.items),
    )

pub returns-in_default-clause-ok : goal.returns-in_default-clause-ok
returns-in_default-clause-ok g c =
    let other = turn.not_held _ _ c.in_default.is c.in_ok-depth.ensures.ok in
    record { means = other.0; read = other.1; made = turn.no_list g.K.Reads.can other.0 other.2 }

pub returns-in_err-push-in-Some-3 : goal.returns-in_err-push-in-Some-3
returns-in_err-push-in-Some-3 g c =
    let failed = c.from_residual-in_err-push-in-Some-3 in
    record {
      ok = turn.no_answer _ failed.result failed.ensures.0;
      err = λ refused. absurd (c.in_err-push-in-Some-3.ensures.err (turn.same_error _ failed.ensures refused));
      shorter = turn.no_answer _ failed.result failed.ensures.0;
    }

pub returns-in_err-fitted : goal.returns-in_err-fitted
returns-in_err-fitted g c =
    let failed = c.from_residual-in_err-fitted in
    record {
      ok = turn.no_answer _ failed.result failed.ensures.0;
      err = λ refused. absurd (c.in_err-fitted.ensures.err (turn.same_error _ failed.ensures refused));
      shorter = turn.no_answer _ failed.result failed.ensures.0;
    }
