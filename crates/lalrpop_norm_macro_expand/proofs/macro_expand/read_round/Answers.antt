use Rattle.std.proofs.Common.{◌≡◌, ◌++◌, ◌-◌, ◌+◌, ℕ, List, length, map, drop, reverse, arith, refl, sym, ap, ap₂, ◌∙◌, subst}
use Rattle.std.specs.List.{flat_map}
use Rattle.std.proofs.lemmas.List.{with_items_is, length-append, length-drop, length-map, take_all}
use borrow.Rule.Slice.PartMut.{put_mid, mid_of}
use Rattle.lalrpop_norm_tree.specs.declared.items.GrammarItem.{GrammarItem}
use Rattle.lalrpop_norm_tree.specs.Items.{item_view}
use Rattle.lalrpop_norm_faults.specs.declared.failure.NormFailure.TheVariants.{Memory}
use Rattle.lalrpop_norm_faults.specs.Faults.{Fault}
use Rattle.lalrpop_norm_faults.proofs.FaultLemmas.{exit_at}
use Rattle.lalrpop_norm_nodes.proofs.EnterLemmas.{err_same}
use Rattle.lalrpop_norm_nodes.proofs.MeetingLemmas.{err_refuses}
use Rattle.lalrpop_norm_nodes.specs.Tables.{wholes_in, TableMeets, refused_in}
use Rattle.lalrpop_norm_nodes.specs.Waits.{LeavesWaiting}
use Rattle.lalrpop_norm_macro_expand_rules.specs.Macros.{macros_in}
use Rattle.lalrpop_norm_macro_expand_rules.specs.Generated.{GeneratedData, item_of, filling_of, met_in_generated, shown_in_generated, generated_read, filling_view}
use Rattle.lalrpop_norm_macro_expand.specs.Made.{made_view}
use Rattle.lalrpop_norm_macro_expand.specs.Making.{generated_for}
use Rattle.lalrpop_norm_macro_expand.proofs.BehindLemmas.{last_filled, still_long, read_behind}
use Rattle.lalrpop_norm_macro_expand.proofs.ExitLemmas.{no_change}
use Rattle.lalrpop_norm_macro_expand.proofs.macro_expand.read_round.Goals as goal

-- of the rules behind those of the rounds before there are as many as were made
as_many : (old all : List GrammarItem) (first many : ℕ) (ps : List GeneratedData) → first ≡ length old → map item_view all ≡ map item_view old ++ map item_of ps →
    many ≡ length ps → many ≡ length (mid_of first (length all - first) all)
as_many old all first many ps before rules e =
    let long : length all ≡ first + length ps =
    omega (arith, before, ap length rules, length-map all item_view, length-map old item_view, length-map ps item_of, length-append (map item_view old) (map item_of ps)) in
    let last : length (mid_of first (length all - first) all) ≡ length (drop first all) = ap length (take_all (length all - first) (drop first all) (omega (arith, length-drop first all))) in
    omega (arith, long, e, last, length-drop first all)

pub read_generated-requires-clause-readable : goal.read_generated-requires-clause-readable
read_generated-requires-clause-readable c = c.in_ok-fillings.ensures.readable

pub read_generated-requires-clause-long : goal.read_generated-requires-clause-long
read_generated-requires-clause-long c =
    let ws = wholes_in c.args.table.now in
    let ps : List GeneratedData = flat_map (generated_for ws (macros_in c.args.makers.now.macros)) (reverse c.args.waiting.items) in
    let old : List GrammarItem = c.args.done.now.items in
    as_many old c.deref_mut.result.now c.len-first.result (length c.in_ok-fillings.fillings.items) ps (omega (arith, c.len-first.ensures, c.args.done.now.ok.0))
    (ap (map item_view) c.deref_mut.ensures.value ∙ c.in_ok-fillings.ensures.rules ∙ ap (λ (xs : List GrammarItem). map item_view xs ++ map item_of ps) c.in_ok-make_room.ensures)
    (sym (length-map c.in_ok-fillings.fillings.items (filling_view ws)) ∙ ap length c.in_ok-fillings.ensures.fillings ∙ length-map ps filling_of)

pub returns-in_err-make_room : goal.returns-in_err-make_room
returns-in_err-make_room c =
    let from = c.from_residual.ensures.1 in
    let gone = no_change _ _ from in
    record { refuses = err_refuses _ Memory _ from tt; meets = gone _; counted = gone _; waits = gone _; value = gone _; made = gone _ }

pub returns-in_err-fillings : goal.returns-in_err-fillings
returns-in_err-fillings c =
    let from = c.from_residual-in_err-fillings.ensures.1 in
    let gone = no_change _ _ from in
    record { refuses = exit_at _ _ _ _ _ from c.in_err-fillings.ensures.refuses refl; meets = gone _; counted = gone _; waits = gone _; value = gone _; made = gone _ }

pub returns-in_err-reserve : goal.returns-in_err-reserve
returns-in_err-reserve c =
    let from = c.from_residual-in_err-reserve.ensures.1 in
    let gone = no_change _ _ from in
    record { refuses = err_refuses _ Memory _ from tt; meets = gone _; counted = gone _; waits = gone _; value = gone _; made = gone _ }

pub returns-in_err-read_generated : goal.returns-in_err-read_generated
returns-in_err-read_generated c =
    let ws = wholes_in c.args.table.now in
    let ps : List GeneratedData = flat_map (generated_for ws (macros_in c.args.makers.now.macros)) (reverse c.args.waiting.items) in
    let old : List GrammarItem = c.args.done.now.items in
    let all : List GrammarItem = c.deref_mut.result.now in
    let before : c.len-first.result ≡ length old = omega (arith, c.len-first.ensures, c.args.done.now.ok.0) in
    let rules : map item_view all ≡ map item_view old ++ map item_of ps =
    ap (map item_view) c.deref_mut.ensures.value ∙ c.in_ok-fillings.ensures.rules ∙ ap (λ (xs : List GrammarItem). map item_view xs ++ map item_of ps) c.in_ok-make_room.ensures in
    let are = last_filled old all c.len-first.result ps before rules (map (filling_view ws) c.in_ok-fillings.fillings.items) c.in_ok-fillings.ensures.fillings in
    let gone = no_change _ _ c.from_residual-in_err-read_generated.ensures.1 in
    record {
      refuses =
          err_same _ _ _ _
          (ap₂ (λ (fs : List Fault) (qs : List GeneratedData). fs ++ refused_in c.args.table.now (flat_map met_in_generated qs)) c.in_ok-fillings.ensures.refuses (sym are))
          c.from_residual-in_err-read_generated.ensures.1 c.in_err-read_generated.ensures.refuses;
      meets = gone _;
      counted = gone _;
      waits = gone _;
      value = gone _;
      made = gone _;
    }

pub returns-clause-refuses : goal.returns-clause-refuses
returns-clause-refuses c =
    let ws = wholes_in c.args.table.now in
    let ps : List GeneratedData = flat_map (generated_for ws (macros_in c.args.makers.now.macros)) (reverse c.args.waiting.items) in
    let old : List GrammarItem = c.args.done.now.items in
    let all : List GrammarItem = c.deref_mut.result.now in
    let before : c.len-first.result ≡ length old = omega (arith, c.len-first.ensures, c.args.done.now.ok.0) in
    let rules : map item_view all ≡ map item_view old ++ map item_of ps =
    ap (map item_view) c.deref_mut.ensures.value ∙ c.in_ok-fillings.ensures.rules ∙ ap (λ (xs : List GrammarItem). map item_view xs ++ map item_of ps) c.in_ok-make_room.ensures in
    let are = last_filled old all c.len-first.result ps before rules (map (filling_view ws) c.in_ok-fillings.fillings.items) c.in_ok-fillings.ensures.fillings in
    ap₂ (λ (fs : List Fault) (qs : List GeneratedData). fs ++ refused_in c.args.table.now (flat_map met_in_generated qs)) c.in_ok-fillings.ensures.refuses (sym are)
    ∙ c.in_ok-read_generated.ensures.refuses

pub returns-clause-meets : goal.returns-clause-meets
returns-clause-meets c =
    let ws = wholes_in c.args.table.now in
    let ps : List GeneratedData = flat_map (generated_for ws (macros_in c.args.makers.now.macros)) (reverse c.args.waiting.items) in
    let old : List GrammarItem = c.args.done.now.items in
    let all : List GrammarItem = c.deref_mut.result.now in
    let before : c.len-first.result ≡ length old = omega (arith, c.len-first.ensures, c.args.done.now.ok.0) in
    let rules : map item_view all ≡ map item_view old ++ map item_of ps =
    ap (map item_view) c.deref_mut.ensures.value ∙ c.in_ok-fillings.ensures.rules ∙ ap (λ (xs : List GrammarItem). map item_view xs ++ map item_of ps) c.in_ok-make_room.ensures in
    let are = last_filled old all c.len-first.result ps before rules (map (filling_view ws) c.in_ok-fillings.fillings.items) c.in_ok-fillings.ensures.fillings in
    subst (λ (qs : List GeneratedData). TableMeets c.args.table.now c.read_generated.new.table (flat_map met_in_generated qs)) are c.in_ok-read_generated.ensures.meets

pub returns-clause-waits : goal.returns-clause-waits
returns-clause-waits c =
    let ws = wholes_in c.args.table.now in
    let ps : List GeneratedData = flat_map (generated_for ws (macros_in c.args.makers.now.macros)) (reverse c.args.waiting.items) in
    let old : List GrammarItem = c.args.done.now.items in
    let all : List GrammarItem = c.deref_mut.result.now in
    let before : c.len-first.result ≡ length old = omega (arith, c.len-first.ensures, c.args.done.now.ok.0) in
    let rules : map item_view all ≡ map item_view old ++ map item_of ps =
    ap (map item_view) c.deref_mut.ensures.value ∙ c.in_ok-fillings.ensures.rules ∙ ap (λ (xs : List GrammarItem). map item_view xs ++ map item_of ps) c.in_ok-make_room.ensures in
    let are = last_filled old all c.len-first.result ps before rules (map (filling_view ws) c.in_ok-fillings.fillings.items) c.in_ok-fillings.ensures.fillings in
    subst (λ (qs : List GeneratedData). LeavesWaiting c.args.table.now c.read_generated.new.table (flat_map shown_in_generated qs)) are c.in_ok-read_generated.ensures.waits

pub returns-clause-value : goal.returns-clause-value
returns-clause-value c =
    let ws = wholes_in c.args.table.now in
    let ps : List GeneratedData = flat_map (generated_for ws (macros_in c.args.makers.now.macros)) (reverse c.args.waiting.items) in
    let old : List GrammarItem = c.args.done.now.items in
    let all : List GrammarItem = c.deref_mut.result.now in
    let before : c.len-first.result ≡ length old = omega (arith, c.len-first.ensures, c.args.done.now.ok.0) in
    let rules : map item_view all ≡ map item_view old ++ map item_of ps =
    ap (map item_view) c.deref_mut.ensures.value ∙ c.in_ok-fillings.ensures.rules ∙ ap (λ (xs : List GrammarItem). map item_view xs ++ map item_of ps) c.in_ok-make_room.ensures in
    let are = last_filled old all c.len-first.result ps before rules (map (filling_view ws) c.in_ok-fillings.fillings.items) c.in_ok-fillings.ensures.fillings in
    let new : List GrammarItem = c.read_generated.new.rules in
    let long = still_long old all c.len-first.result ps before rules new c.read_generated.auto.rules in
    ap (map item_view) (with_items_is c.make_rules.new.done (put_mid c.len-first.result (length all - c.len-first.result) all new) (long ∙ c.deref_mut.ensures.len))
    ∙ read_behind old all c.len-first.result ps before rules new (c.in_ok-read_generated.ensures.value ∙ ap (map generated_read) are)

pub returns-clause-counted : goal.returns-clause-counted
returns-clause-counted c = c.in_ok-read_generated.ensures.counted

pub returns-clause-made : goal.returns-clause-made
returns-clause-made c = ap (map made_view) c.in_ok-reserve.ensures.items ∙ c.in_ok-fillings.ensures.made
