use Rattle.std.proofs.Common.{◌≡◌, ℕ, length, map, sym, subst, ◌∙◌}
use Rattle.std.proofs.lemmas.List.{length-map}
use Rattle.lalrpop_norm_names.specs.Numbers.{number_in_table}
use Rattle.lalrpop_norm_theory.specs.Rounds.{In}
use Rattle.lalrpop_norm_tyinfer_steps.specs.declared.needs.Need.{Need}
use Rattle.lalrpop_norm_tyinfer_steps.specs.Numbered.{numbered_table}
use Rattle.lalrpop_norm_tyinfer_steps.specs.Stops.{NeedsBelow, AreUntyped, BeginsUntyped}
use Rattle.lalrpop_norm_tyinfer_steps.specs.Visits.{rule_seen}
use Rattle.lalrpop_norm_tyinfer_steps.proofs.NeedLemmas.{need_fits}
use Rattle.lalrpop_norm_tyinfer_steps.proofs.RoundLemmas.{begins_watching, begins_waiting}
use Rattle.lalrpop_norm_tyinfer.proofs.tyinfer.rounds.run_rounds.Goals as goal

pub begin-requires-clause-untyped : goal.begin-requires-clause-untyped
begin-requires-clause-untyped c = subst (AreUntyped c.in_ok-stops.stops) (sym c.in_ok-stops.ensures.count) c.in_ok-stops.ensures

pub begin-requires-clause-fits : goal.begin-requires-clause-fits
begin-requires-clause-fits c =
    let count = length-map c.args.rules.now rule_seen ∙ sym c.in_ok-stops.ensures.count in
    let fit : (n : Need) → In n c.in_ok-needs.needs.items → NeedsBelow (length c.in_ok-stops.stops.typed.items) n = λ n h.
    subst (λ k. NeedsBelow k n) count
    (need_fits (number_in_table c.args.types.now.names) c.args.parameters.now (map rule_seen c.args.rules.now) c.in_ok-needs.needs.items c.requires.numbered.numbers c.in_ok-needs.ensures n h) in
    rw c.deref.ensures.value fit

pub rounds_from-requires : goal.rounds_from-requires
rounds_from-requires c =
    let number = number_in_table c.args.types.now.names in
    let ps = c.args.parameters.now in
    let tt = numbered_table c.args.types.now in
    let ss = map rule_seen c.args.rules.now in
    let needs = c.in_ok-needs.needs.items in
    let stops = c.begin.new.self in
    let ready = c.in_ok-ready.ready.items in
    let numbers = c.requires.numbered.numbers in
    let count = c.in_ok-stops.ensures.count ∙ sym (length-map c.args.rules.now rule_seen) in
    let begun = subst (λ k. BeginsUntyped stops k needs ready) count (rw c.deref.ensures.value at c.in_ok-ready.ensures) in
    record {
      distinct = c.requires.distinct;
      numbered = c.requires.numbered;
      watches = begins_watching number ps tt ss needs stops ready numbers c.in_ok-needs.ensures begun c.requires.untyped;
      waits = begins_waiting number ps tt ss needs stops ready numbers c.in_ok-needs.ensures begun c.requires.untyped
          c.in_ok-first.first (rw c.deref-2.ensures.value at c.in_ok-first.ensures.all) (rw c.deref-2.ensures.value at c.in_ok-first.ensures.only);
    }
