use Rattle.std.proofs.Common.{rules, ◌≡◌, ◌<◌, ◌≤◌, ◌++◌, ℕ, List, Option, map, length, get_or, drop, append-nil, arith, ap, sym, ◌∙◌, subst}
use Rattle.std.proofs.lemmas.List.{length-map, get_or_default, take_all, drop_all}
use Rattle.std.specs.List.{flat_map}
use Rattle.lalrpop_norm_tree.specs.Symbols.{Kind, Part, parts_of, symbol_view}
use Rattle.lalrpop_norm_model.specs.PlainRules.{met}
use Rattle.lalrpop_norm_nodes.specs.Filled.{filled}
use Rattle.lalrpop_norm_nodes.specs.Given.{read_whole, read_shown, whole_for, shown_for}
use Rattle.lalrpop_norm_nodes.specs.Tables.{wholes_in, TableMeets, refused_in}
use Rattle.lalrpop_norm_nodes.specs.Waits.{shown_met}
use Rattle.lalrpop_norm_nodes.proofs.GivenLemmas.{wholes_stay, all_given_stay}
use Rattle.lalrpop_norm_nodes.proofs.InPlace.{still, partly_more, partly_met, partly_quiet, partly_exit}
use Rattle.lalrpop_norm_nodes.proofs.MeetLemmas.{meets_nothing}
use Rattle.lalrpop_norm_nodes.proofs.RowReads.{met_one_by_one, shown_one_by_one, first_same}
use Rattle.lalrpop_norm_nodes.proofs.WaitLemmas.{waits_nothing}
use Rattle.lalrpop_norm_nodes.proofs.WaitReads.{shown_met_one_by_one, partly_waits}
use Rattle.lalrpop_norm_macro_expand_rules.proofs.reading.read_symbols.Goals as goal

pub returns-in_err-read_in_place-clause-refuses : goal.returns-in_err-read_in_place-clause-refuses
returns-in_err-read_in_place-clause-refuses c =
    let a = c.args.table.now in
    let b = c.loop-i.table in
    let e = c.args.environment.now in
    let m = λ (p : Part). met (read_whole (wholes_in a) e p) in
    let vs = map symbol_view c.args.symbols.now in
    let here : c.loop-i.i < length vs = omega (arith, length-map c.args.symbols.now symbol_view) in
    let inside : c.loop-i.i < length c.loop-i.symbols = omega arith in
    let x = get_or c.loop-i.symbols c.loop-i.i c.index-symbols-i.result in
    let at = get_or_default c.loop-i.symbols c.loop-i.i c.index-symbols-i.result x inside in
    let same = still symbol_view (read_shown e) c.loop-i.symbols vs c.loop-i.i x here inside c.loop-i.invariant.value at in
    let stay = wholes_stay (wholes_in a) (wholes_in b) e c.loop-i.invariant.meets.grows c.requires.given in
    rw (met_one_by_one (whole_for (wholes_in a) e) vs)
    (partly_exit m vs c.loop-i.i (symbol_view x) here same a b _ _ c.loop-i.invariant.meets c.loop-i.invariant.refuses
    c.from_residual.ensures.1
    (first_same _ _ _ (ap (λ (f : List ℕ → Option Kind). refused_in b (met (filled f (symbol_view x)))) stay) c.in_err-read_in_place.ensures.refuses))

pub loop-i-init : goal.loop-i-init
loop-i-init c = record {
  value = search rules;
  refuses = search rules;
  meets = meets_nothing c.args.table.now c.requires.table;
  waits = waits_nothing c.args.table.now;
  counted = c.requires.counted;
  given = c.requires.given;
}

pub loop-i-preserved : goal.loop-i-preserved
loop-i-preserved c =
    let a = c.args.table.now in
    let b = c.loop-i.table in
    let d = c.read_in_place.new.table in
    let e = c.args.environment.now in
    let v = c.loop-i.invariant in
    let n = c.in_ok-read_in_place.ensures in
    let m = λ (p : Part). met (read_whole (wholes_in a) e p) in
    let vs = map symbol_view c.args.symbols.now in
    let here : c.loop-i.i < length vs = omega (arith, length-map c.args.symbols.now symbol_view) in
    let inside : c.loop-i.i < length c.loop-i.symbols = omega arith in
    let x = get_or c.loop-i.symbols c.loop-i.i c.index-symbols-i.result in
    let at = get_or_default c.loop-i.symbols c.loop-i.i c.index-symbols-i.result x inside in
    let same = still symbol_view (read_shown e) c.loop-i.symbols vs c.loop-i.i x here inside v.value at in
    let stay = wholes_stay (wholes_in a) (wholes_in b) e v.meets.grows c.requires.given in
    let reads = subst (λ (f : List ℕ → Option Kind). TableMeets b d (met (filled f (symbol_view x)))) stay n.meets in
    let meets = partly_met m vs c.loop-i.i (symbol_view x) here same a b d v.meets reads in
    record {
      value = partly_more symbol_view (read_shown e) c.loop-i.symbols vs c.loop-i.i x c.read_in_place.new.symbol here inside v.value at n.value;
      refuses = partly_quiet m vs c.loop-i.i (symbol_view x) here same a b v.meets v.refuses
          (ap (λ (f : List ℕ → Option Kind). refused_in b (met (filled f (symbol_view x)))) (sym stay) ∙ n.refuses);
      meets = meets;
      waits = partly_waits (shown_met e) vs c.loop-i.i (symbol_view x) here same a b d v.waits n.waits;
      counted = n.counted;
      given = all_given_stay (wholes_in a) (wholes_in d) e meets.grows c.requires.given;
    }

pub read_in_place-requires : goal.read_in_place-requires
read_in_place-requires c =
    let v = c.loop-i.invariant in
    record { table = v.meets.table; counted = v.counted; given = v.given }

pub returns-clause-value : goal.returns-clause-value
returns-clause-value c =
    let e = c.args.environment.now in
    let vs = map symbol_view c.args.symbols.now in
    let long : length vs ≤ c.loop-i.i = omega (arith, length-map c.args.symbols.now symbol_view) in
    ap parts_of
    (c.loop-i.invariant.value
    ∙ ap (λ ws. map (read_shown e) ws ++ drop c.loop-i.i vs) (take_all c.loop-i.i vs long)
    ∙ ap (λ ws. map (read_shown e) vs ++ ws) (drop_all c.loop-i.i vs long)
    ∙ append-nil (map (read_shown e) vs))
    ∙ sym (shown_one_by_one (shown_for e) vs)

pub returns-clause-meets : goal.returns-clause-meets
returns-clause-meets c =
    let vs = map symbol_view c.args.symbols.now in
    let long : length vs ≤ c.loop-i.i = omega (arith, length-map c.args.symbols.now symbol_view) in
    let h = c.loop-i.invariant.meets in
    rw (met_one_by_one (whole_for (wholes_in c.args.table.now) c.args.environment.now) vs) (rw (take_all c.loop-i.i vs long) at h)

pub returns-clause-refuses : goal.returns-clause-refuses
returns-clause-refuses c =
    let f = whole_for (wholes_in c.args.table.now) c.args.environment.now in
    let vs = map symbol_view c.args.symbols.now in
    let long : length vs ≤ c.loop-i.i = omega (arith, length-map c.args.symbols.now symbol_view) in
    ap (refused_in c.args.table.now) (met_one_by_one f vs ∙ ap (λ ws. flat_map (λ (p : Part). met (filled f p)) ws) (sym (take_all c.loop-i.i vs long)))
    ∙ c.loop-i.invariant.refuses

pub returns-clause-waits : goal.returns-clause-waits
returns-clause-waits c =
    let vs = map symbol_view c.args.symbols.now in
    let long : length vs ≤ c.loop-i.i = omega (arith, length-map c.args.symbols.now symbol_view) in
    let h = c.loop-i.invariant.waits in
    rw (shown_met_one_by_one (shown_for c.args.environment.now) vs) (rw (take_all c.loop-i.i vs long) at h)
