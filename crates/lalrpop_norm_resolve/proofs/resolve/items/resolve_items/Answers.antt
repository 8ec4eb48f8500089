use Rattle.std.proofs.Common.{map, refl}
use Rattle.std.specs.List.{flat_map}
use borrow.Author.Count.{falls}
use Rattle.lalrpop_norm_tree.specs.Items.{item_view}
use Rattle.lalrpop_norm_resolve.specs.NameTables.{item_faults_in, resolved_item_in}
use Rattle.lalrpop_norm_resolve.proofs.InPlace.{left_more, mapped_more, sound_more, exit_more, all_done, none_left}
use Rattle.lalrpop_norm_resolve.proofs.resolve.items.resolve_items.Goals as goal

pub loop-item-init : goal.loop-item-init
loop-item-init c = record {
  rest = λ k d h. refl;
  done = refl;
  sound = refl;
}

pub loop-item-preserved : goal.loop-item-preserved
loop-item-preserved c =
    let m = c.args.globals.now in
    let was = c.args.items.now in
    let now = c.loop-item.items in
    let i = c.loop-item.item-index in
    let within = c.loop-item-test.true in
    let long = c.loop-item.auto.items in
    let new = c.resolve_item.new.item in
    let told = c.in_ok-resolve_item.ensures in
    let v = c.loop-item.invariant in
    record {
      rest = left_more was now i within long v.rest new;
      done = mapped_more was now i within long v.rest item_view (resolved_item_in m) new c.item-item.result told.resolves v.done;
      sound = sound_more was now i within long v.rest (λ ys. flat_map (item_faults_in m) (map item_view ys)) (λ y. item_faults_in m (item_view y)) (λ y ys. refl) c.item-item.result told.refuses v.sound;
    }

pub loop-item-smaller : goal.loop-item-smaller
loop-item-smaller c = falls _ _ c.loop-item-test.true

pub returns-in_err-resolve_item-clause-refuses : goal.returns-in_err-resolve_item-clause-refuses
returns-in_err-resolve_item-clause-refuses c =
    let m = c.args.globals.now in
    exit_more c.args.items.now c.loop-item.items c.loop-item.item-index c.loop-item-test.true c.loop-item.auto.items c.loop-item.invariant.rest
    (λ ys. flat_map (item_faults_in m) (map item_view ys)) (λ y. item_faults_in m (item_view y)) (λ y ys. refl) c.item-item.result
    _ _ c.from_residual.ensures.1 c.in_err-resolve_item.ensures.refuses c.loop-item.invariant.sound

pub returns : goal.returns
returns c =
    let m = c.args.globals.now in
    let was = c.args.items.now in
    let now = c.loop-item.items in
    let i = c.loop-item.item-index in
    record {
      refuses = none_left was now i c.loop-item-test.false c.loop-item.auto.items (λ ys. flat_map (item_faults_in m) (map item_view ys)) refl c.loop-item.invariant.sound;
      resolves = all_done was now i c.loop-item-test.false c.loop-item.auto.items item_view (resolved_item_in m) c.loop-item.invariant.done;
    }
