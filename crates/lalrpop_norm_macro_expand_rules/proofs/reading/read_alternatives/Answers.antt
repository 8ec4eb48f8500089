use Rattle.std.proofs.Common.{rules, ◌<◌, ℕ, List, Option, map, length, get_or, arith, ap, sym, ◌∙◌, subst}
use Rattle.std.proofs.lemmas.List.{length-map, get_or_default}
use Rattle.lalrpop_norm_tree.specs.Symbols.{Kind}
use Rattle.lalrpop_norm_tree.specs.Items.{alternative_view}
use Rattle.lalrpop_norm_nodes.specs.Given.{whole_for, shown_for}
use Rattle.lalrpop_norm_nodes.specs.Tables.{wholes_in, TableMeets, refused_in}
use Rattle.lalrpop_norm_nodes.proofs.GivenLemmas.{wholes_stay, all_given_stay}
use Rattle.lalrpop_norm_nodes.proofs.InPlace.{still, partly_more, partly_met, partly_quiet, partly_exit}
use Rattle.lalrpop_norm_nodes.proofs.MeetLemmas.{meets_nothing}
use Rattle.lalrpop_norm_nodes.proofs.RowReads.{first_same}
use Rattle.lalrpop_norm_nodes.proofs.WaitLemmas.{waits_nothing}
use Rattle.lalrpop_norm_nodes.proofs.WaitReads.{partly_waits}
use Rattle.lalrpop_norm_macro_expand_rules.specs.Generated.{met_filled, shown_filled, read_filled}
use Rattle.lalrpop_norm_macro_expand_rules.proofs.reading.read_alternatives.Goals as goal

pub returns-in_err-read_alternative-clause-refuses : goal.returns-in_err-read_alternative-clause-refuses
returns-in_err-read_alternative-clause-refuses c =
    let a = c.args.table.now in
    let b = c.loop-i.table in
    let e = c.args.environment.now in
    let m = met_filled (whole_for (wholes_in a) e) in
    let vs = map alternative_view c.args.alternatives.now in
    let here : c.loop-i.i < length vs = omega (arith, length-map c.args.alternatives.now alternative_view) in
    let inside : c.loop-i.i < length c.loop-i.alternatives = omega arith in
    let x = get_or c.loop-i.alternatives c.loop-i.i c.index-alternatives-i.result in
    let at = get_or_default c.loop-i.alternatives c.loop-i.i c.index-alternatives-i.result x inside in
    let same = still alternative_view (read_filled (shown_for e)) c.loop-i.alternatives vs c.loop-i.i x here inside c.loop-i.invariant.value at in
    let stay = wholes_stay (wholes_in a) (wholes_in b) e c.loop-i.invariant.meets.grows c.requires.given in
    partly_exit m vs c.loop-i.i (alternative_view x) here same a b _ _ c.loop-i.invariant.meets c.loop-i.invariant.refuses
    c.from_residual.ensures.1
    (first_same _ _ _ (ap (λ (f : List ℕ → Option Kind). refused_in b (met_filled f (alternative_view x))) stay) c.in_err-read_alternative.ensures.refuses)

pub loop-i-init : goal.loop-i-init
loop-i-init c = record {
  value = search rules;
  refuses = search rules;
  meets = meets_nothing c.args.table.now c.requires.table;
  waits = waits_nothing c.args.table.now;
  counted = c.requires.counted;
  given = c.requires.given;
}

pub loop-i-preserved : goal.loop-i-preserved
loop-i-preserved c =
    let a = c.args.table.now in
    let b = c.loop-i.table in
    let d = c.read_alternative.new.table in
    let e = c.args.environment.now in
    let v = c.loop-i.invariant in
    let n = c.in_ok-read_alternative.ensures in
    let m = met_filled (whole_for (wholes_in a) e) in
    let vs = map alternative_view c.args.alternatives.now in
    let here : c.loop-i.i < length vs = omega (arith, length-map c.args.alternatives.now alternative_view) in
    let inside : c.loop-i.i < length c.loop-i.alternatives = omega arith in
    let x = get_or c.loop-i.alternatives c.loop-i.i c.index-alternatives-i.result in
    let at = get_or_default c.loop-i.alternatives c.loop-i.i c.index-alternatives-i.result x inside in
    let same = still alternative_view (read_filled (shown_for e)) c.loop-i.alternatives vs c.loop-i.i x here inside v.value at in
    let stay = wholes_stay (wholes_in a) (wholes_in b) e v.meets.grows c.requires.given in
    let reads = subst (λ (f : List ℕ → Option Kind). TableMeets b d (met_filled f (alternative_view x))) stay n.meets in
    let meets = partly_met m vs c.loop-i.i (alternative_view x) here same a b d v.meets reads in
    record {
      value = partly_more alternative_view (read_filled (shown_for e)) c.loop-i.alternatives vs c.loop-i.i x c.read_alternative.new.alternative here inside v.value at n.value;
      refuses = partly_quiet m vs c.loop-i.i (alternative_view x) here same a b v.meets v.refuses
          (ap (λ (f : List ℕ → Option Kind). refused_in b (met_filled f (alternative_view x))) (sym stay) ∙ n.refuses);
      meets = meets;
      waits = partly_waits (shown_filled (shown_for e)) vs c.loop-i.i (alternative_view x) here same a b d v.waits n.waits;
      counted = n.counted;
      given = all_given_stay (wholes_in a) (wholes_in d) e meets.grows c.requires.given;
    }

pub read_alternative-requires : goal.read_alternative-requires
read_alternative-requires c =
    let v = c.loop-i.invariant in
    record { table = v.meets.table; counted = v.counted; given = v.given }
