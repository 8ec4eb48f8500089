use Rattle.std.proofs.Common.{◌≡◌, ◌∷◌, ◌++◌, ◌+◌, ◌<◌, ℕ, List, [], Option, length, map, get_or, take, drop, set, append-nil, append_assoc, arith, refl, sym, ap, ◌∙◌, subst}
use Rattle.std.specs.List.{flat_map}
use Rattle.std.proofs.lemmas.List.{take_all, take_more_set, length-set, map-append}
use Rattle.lalrpop_norm_tree.specs.declared.items.GrammarItem.{GrammarItem}
use Rattle.lalrpop_norm_tree.specs.Items.{ItemData, item_view}
use Rattle.lalrpop_norm_faults.specs.Faults.{IsFirst}
use Rattle.lalrpop_norm_nodes.proofs.MeetingLemmas.{refuses_same}
use Rattle.lalrpop_norm_nodes.specs.Tables.{wholes_in, TableMeets, refused_in}
use Rattle.lalrpop_norm_nodes.specs.Waits.{LeavesWaiting}
use Rattle.lalrpop_norm_nodes.proofs.InPlace.{exit_first}
use Rattle.lalrpop_norm_nodes.proofs.MeetLemmas.{grows_both, meets_both, refused_later, meets_nothing}
use Rattle.lalrpop_norm_nodes.proofs.WaitLemmas.{waits_both, waits_nothing}
use Rattle.lalrpop_norm_macro_expand_rules.specs.declared.generated.Filling.{Filling}
use Rattle.lalrpop_norm_macro_expand_rules.specs.Generated.{generated_in, GeneratedData, FillingData, met_in_generated, shown_in_generated, generated_read, filling_view, filled_item, IsReadable, AreReadable}
use Rattle.lalrpop_norm_macro_expand_rules.proofs.GeneratedLemmas.{filling_stays, readable_stays, generated_next, generated_later}
use Rattle.lalrpop_norm_macro_expand_rules.proofs.generated.read_generated.Goals as goal

no_items : {A : Type 0} (xs : List A) → length xs ≡ 0 → xs ≡ []
no_items [] e = refl
no_items (x ∷ xs) e = absurd (omega arith)

pub loop-place-init : goal.loop-place-init
loop-place-init c =
    let it = c.into_iter-place-iterator.result in
    let whole : it.iter.rest.items ≡ c.args.fillings.items = cc in
    let start : it.count ≡ 0 = cc in
    record {
      table = c.requires.table;
      counted = c.requires.counted;
      grows = ([], sym (append-nil (wholes_in c.args.table.now)));
      long = omega (arith, ap length whole, start, c.requires.long);
      readable = rw whole c.requires.readable;
      refuses = rw (whole, start) refl;
      meets = rw (whole, start) (λ d h. h);
      waits = rw (whole, start) (λ d h. h);
      value = rw (whole, start) refl;
    }

pub read_item-requires-clause-readable : goal.read_item-requires-clause-readable
read_item-requires-clause-readable c =
    let a = c.args.table.now in
    let v = c.loop-place.invariant in
    let split : c.loop-place.place-iterator.iter.rest.items ≡ c.in-Some.filling ∷ c.next.new.self.iter.rest.items = c.in-Some.ensures.steps.0.0 in
    let ready : IsReadable (wholes_in a) c.in-Some.filling × AreReadable (wholes_in a) c.next.new.self.iter.rest.items = rw split at v.readable in
    readable_stays (wholes_in a) (wholes_in c.loop-place.table) c.in-Some.filling v.grows ready.0

pub returns-in_err-read_item-clause-refuses : goal.returns-in_err-read_item-clause-refuses
returns-in_err-read_item-clause-refuses c =
    let a = c.args.table.now in
    let b = c.loop-place.table in
    let v = c.loop-place.invariant in
    let f : Option Filling = c.in-Some.filling in
    let rest : List (Option Filling) = c.next.new.self.iter.rest.items in
    let items : List GrammarItem = c.loop-place.rules in
    let split : c.loop-place.place-iterator.iter.rest.items ≡ f ∷ rest = c.in-Some.ensures.steps.0.0 in
    let here : c.in-Some.place ≡ c.loop-place.place-iterator.count = c.in-Some.ensures.steps.1 in
    let inside : c.in-Some.place < length items = omega (arith, v.long, ap length split) in
    let x : GrammarItem = get_or items c.in-Some.place c.index-rules-place.result in
    let ready : IsReadable (wholes_in a) f × AreReadable (wholes_in a) rest = rw split at v.readable in
    let p : GeneratedData = filled_item (filling_view (wholes_in a) f) (item_view x) in
    let more : List GeneratedData = generated_in (wholes_in a) rest (drop (c.in-Some.place + 1) items) in
    let next = generated_next (wholes_in a) items c.loop-place.place-iterator.count c.in-Some.place rest c.loop-place.place-iterator.iter.rest.items f c.index-rules-place.result inside here split in
    let first = subst (λ (o : FillingData). IsFirst (refused_in b (met_in_generated (filled_item o (item_view x)))) c.in_err-read_item.field-0.0)
    (filling_stays (wholes_in a) (wholes_in b) f v.grows ready.0) c.in_err-read_item.ensures.refuses in
    refuses_same _ (refused_in b (met_in_generated p ++ flat_map met_in_generated more)) _
    (sym (v.refuses ∙ ap (λ (ps : List GeneratedData). refused_in b (flat_map met_in_generated ps)) next))
    (exit_first b (met_in_generated p) (flat_map met_in_generated more) _ _ c.from_residual.ensures.1 first)

pub loop-place-preserved : goal.loop-place-preserved
loop-place-preserved c =
    let a = c.args.table.now in
    let b = c.loop-place.table in
    let z = c.read_item.new.table in
    let v = c.loop-place.invariant in
    let n = c.in_ok-read_item.ensures in
    let f : Option Filling = c.in-Some.filling in
    let rest : List (Option Filling) = c.next.new.self.iter.rest.items in
    let items : List GrammarItem = c.loop-place.rules in
    let place : ℕ = c.in-Some.place in
    let count : ℕ = c.loop-place.place-iterator.count in
    let y : GrammarItem = c.read_item.new.item in
    let split : c.loop-place.place-iterator.iter.rest.items ≡ f ∷ rest = c.in-Some.ensures.steps.0.0 in
    let here : place ≡ count = c.in-Some.ensures.steps.1 in
    let later : c.next.new.self.count ≡ place + 1 = omega (arith, here, c.in-Some.ensures.steps.2) in
    let inside : place < length items = omega (arith, v.long, ap length split) in
    let x : GrammarItem = get_or items place c.index-rules-place.result in
    let ready : IsReadable (wholes_in a) f × AreReadable (wholes_in a) rest = rw split at v.readable in
    let p : GeneratedData = filled_item (filling_view (wholes_in a) f) (item_view x) in
    let more : List GeneratedData = generated_in (wholes_in a) rest (drop (place + 1) items) in
    let next = generated_next (wholes_in a) items count place rest c.loop-place.place-iterator.iter.rest.items f c.index-rules-place.result inside here split in
    let left = generated_later (wholes_in a) items c.next.new.self.count place rest y later in
    let same = filling_stays (wholes_in a) (wholes_in b) f v.grows ready.0 in
    let meets : TableMeets b z (met_in_generated p) = subst (λ (o : FillingData). TableMeets b z (met_in_generated (filled_item o (item_view x)))) same n.meets in
    let none : refused_in b (met_in_generated p) ≡ [] = ap (λ (o : FillingData). refused_in b (met_in_generated (filled_item o (item_view x)))) (sym same) ∙ n.refuses in
    let waits : LeavesWaiting b z (shown_in_generated p) = subst (λ (o : FillingData). LeavesWaiting b z (shown_in_generated (filled_item o (item_view x)))) same n.waits in
    let read : item_view y ≡ generated_read p = n.value ∙ ap (λ (o : FillingData). generated_read (filled_item o (item_view x))) same in
    record {
      table = n.meets.table;
      counted = n.counted;
      grows = grows_both (wholes_in a) (wholes_in b) (wholes_in z) v.grows n.meets.grows;
      long = omega (arith, v.long, ap length split, here, later, length-set items place y);
      readable = ready.1;
      refuses =
          v.refuses ∙ ap (λ (ps : List GeneratedData). refused_in b (flat_map met_in_generated ps)) next
          ∙ refused_later b z (met_in_generated p) (flat_map met_in_generated more) meets none
          ∙ ap (λ (ps : List GeneratedData). refused_in z (flat_map met_in_generated ps)) left;
      meets = λ d h. v.meets d (rw next (meets_both b z d (met_in_generated p) (flat_map met_in_generated more) meets (rw left h)));
      waits = λ d h. v.waits d (rw next (waits_both b z d (shown_in_generated p) (flat_map shown_in_generated more) waits (rw left h)));
      value =
          ap (λ (ps : List GeneratedData). map item_view (take c.next.new.self.count (set items place y)) ++ map generated_read ps) (sym left)
          ∙ ap (λ (is : List GrammarItem). map item_view is ++ map generated_read more)
          (ap (λ (k : ℕ). take k (set items place y)) later ∙ take_more_set items place y inside ∙ ap (λ (k : ℕ). take k items ++ y ∷ []) here)
          ∙ ap (λ (is : List ItemData). is ++ map generated_read more) (map-append item_view (take count items) (y ∷ []) ∙ ap (λ (j : ItemData). map item_view (take count items) ++ j ∷ []) read)
          ∙ append_assoc (map item_view (take count items)) (generated_read p ∷ []) (map generated_read more)
          ∙ ap (λ (ps : List GeneratedData). map item_view (take count items) ++ map generated_read ps) (sym next)
          ∙ v.value;
    }

pub returns-clause-meets : goal.returns-clause-meets
returns-clause-meets c =
    let none : c.loop-place.place-iterator.iter.rest.items ≡ [] = no_items c.loop-place.place-iterator.iter.rest.items (omega (arith, c.in-None.ensures.steps.0.0)) in
    c.loop-place.invariant.meets c.loop-place.table (rw none (meets_nothing c.loop-place.table c.loop-place.invariant.table))

pub returns-clause-waits : goal.returns-clause-waits
returns-clause-waits c =
    let none : c.loop-place.place-iterator.iter.rest.items ≡ [] = no_items c.loop-place.place-iterator.iter.rest.items (omega (arith, c.in-None.ensures.steps.0.0)) in
    c.loop-place.invariant.waits c.loop-place.table (rw none (waits_nothing c.loop-place.table))

pub returns-clause-refuses : goal.returns-clause-refuses
returns-clause-refuses c =
    let none : c.loop-place.place-iterator.iter.rest.items ≡ [] = no_items c.loop-place.place-iterator.iter.rest.items (omega (arith, c.in-None.ensures.steps.0.0)) in
    c.loop-place.invariant.refuses
    ∙ ap (λ (fs : List (Option Filling)). refused_in c.loop-place.table (flat_map met_in_generated (generated_in (wholes_in c.args.table.now) fs (drop c.loop-place.place-iterator.count c.loop-place.rules)))) none

pub returns-clause-value : goal.returns-clause-value
returns-clause-value c =
    let items : List GrammarItem = c.loop-place.rules in
    let i : ℕ = c.loop-place.place-iterator.count in
    let none : c.loop-place.place-iterator.iter.rest.items ≡ [] = no_items c.loop-place.place-iterator.iter.rest.items (omega (arith, c.in-None.ensures.steps.0.0)) in
    let all : take i items ≡ items = take_all i items (omega (arith, c.loop-place.invariant.long, ap length none)) in
    ap (map item_view) (sym all) ∙ sym (append-nil (map item_view (take i items)))
    ∙ ap (λ (fs : List (Option Filling)). map item_view (take i items) ++ map generated_read (generated_in (wholes_in c.args.table.now) fs (drop i items))) (sym none)
    ∙ c.loop-place.invariant.value
