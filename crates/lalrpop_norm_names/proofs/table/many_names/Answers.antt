use Rattle.std.proofs.Common.{◌≡◌, ◌<◌, ◌+◌, ◌-◌, map, length, get_or, sym, ap, ◌∙◌, bytes_eq, cond, Some, arith}
use Rattle.std.proofs.lemmas.List.{get_or-map, length-map}
use Rattle.lalrpop_norm_names.proofs.Places.{place_at_end, place_before, place_from, place_from_start, number_without}
use Rattle.lalrpop_norm_names.proofs.table.many_names.Goals as goal

pub loop-place-init : goal.loop-place-init
loop-place-init c = λ name.
    let texts = map (λ n. n.0) c.args.names.now in
    rw (c.in_ok-many.ensures.empty, ← length-map c.args.names.now (λ n. n.0)) (sym (place_at_end texts name))

pub loop-place-preserved : goal.loop-place-preserved
loop-place-preserved c = λ name.
    let names = c.args.names.now in
    let texts = map (λ n. n.0) names in
    let i = c.loop-place.place - 1 in
    let key = c.again.result in
    let within : i < length names = omega arith in
    let in_texts : i < length texts = rw (length-map names (λ n. n.0)) within in
    let read = c.index-names-place.result in
    let here : get_or texts i key ≡ key =
    get_or-map (λ n. n.0) names i read key within ∙ sym c.again.ensures in
    let next : i + 1 ≡ c.loop-place.place = omega arith in
    c.in_ok-insert.ensures.updates.0 name
    ∙ ap (cond (bytes_eq key name) (Some i)) (c.loop-place.invariant name ∙ ap (λ j. place_from texts j name) (sym next))
    ∙ ap (λ k. cond (bytes_eq k name) (Some i) (place_from texts (i + 1) name)) (sym here)
    ∙ sym (place_before texts i key name in_texts)

pub returns : goal.returns
returns c = λ name.
    let start : c.loop-place.place ≡ 0 = omega arith in
    let texts = map (λ n. n.0) c.args.names.now in
    number_without _ _ name (ap length c.new.ensures.items) ∙ c.loop-place.invariant name ∙ ap (λ j. place_from texts j name) start ∙ place_from_start texts name
