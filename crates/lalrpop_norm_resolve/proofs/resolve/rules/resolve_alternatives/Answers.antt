use Rattle.std.proofs.Common.{map, refl}
use Rattle.std.specs.List.{flat_map}
use borrow.Author.Count.{falls}
use Rattle.lalrpop_norm_tree.specs.Items.{alternative_view}
use Rattle.lalrpop_norm_model.specs.Scopes.{resolved_alternative}
use Rattle.lalrpop_norm_resolve.specs.NameFaults.{alternative_name_faults}
use Rattle.lalrpop_norm_resolve.specs.NameTables.{sense_in}
use Rattle.lalrpop_norm_resolve.proofs.InPlace.{left_more, mapped_more, sound_more, exit_more, all_done, none_left}
use Rattle.lalrpop_norm_resolve.proofs.resolve.rules.resolve_alternatives.Goals as goal

pub loop-alternative-init : goal.loop-alternative-init
loop-alternative-init c = record {
  rest = λ k d h. refl;
  done = refl;
  sound = refl;
}

pub loop-alternative-preserved : goal.loop-alternative-preserved
loop-alternative-preserved c =
    let sense = sense_in c.args.globals.now c.args.args.now in
    let was = c.args.alternatives.now in
    let now = c.loop-alternative.alternatives in
    let i = c.loop-alternative.alternative-index in
    let within = c.loop-alternative-test.true in
    let long = c.loop-alternative.auto.alternatives in
    let new = c.resolve_alternative.new.alternative in
    let told = c.in_ok-resolve_alternative.ensures in
    let v = c.loop-alternative.invariant in
    record {
      rest = left_more was now i within long v.rest new;
      done = mapped_more was now i within long v.rest alternative_view (resolved_alternative sense) new c.alternative-item.result told.resolves v.done;
      sound = sound_more was now i within long v.rest (λ ys. flat_map (alternative_name_faults sense) (map alternative_view ys)) (λ y. alternative_name_faults sense (alternative_view y)) (λ y ys. refl) c.alternative-item.result told.refuses v.sound;
    }

pub loop-alternative-smaller : goal.loop-alternative-smaller
loop-alternative-smaller c = falls _ _ c.loop-alternative-test.true

pub returns-in_err-resolve_alternative-clause-refuses : goal.returns-in_err-resolve_alternative-clause-refuses
returns-in_err-resolve_alternative-clause-refuses c =
    let sense = sense_in c.args.globals.now c.args.args.now in
    exit_more c.args.alternatives.now c.loop-alternative.alternatives c.loop-alternative.alternative-index c.loop-alternative-test.true c.loop-alternative.auto.alternatives c.loop-alternative.invariant.rest
    (λ ys. flat_map (alternative_name_faults sense) (map alternative_view ys)) (λ y. alternative_name_faults sense (alternative_view y)) (λ y ys. refl) c.alternative-item.result
    _ _ c.from_residual.ensures.1 c.in_err-resolve_alternative.ensures.refuses c.loop-alternative.invariant.sound

pub returns : goal.returns
returns c =
    let sense = sense_in c.args.globals.now c.args.args.now in
    let was = c.args.alternatives.now in
    let now = c.loop-alternative.alternatives in
    let i = c.loop-alternative.alternative-index in
    record {
      refuses = none_left was now i c.loop-alternative-test.false c.loop-alternative.auto.alternatives (λ ys. flat_map (alternative_name_faults sense) (map alternative_view ys)) refl c.loop-alternative.invariant.sound;
      resolves = all_done was now i c.loop-alternative-test.false c.loop-alternative.auto.alternatives alternative_view (resolved_alternative sense) c.loop-alternative.invariant.done;
    }
