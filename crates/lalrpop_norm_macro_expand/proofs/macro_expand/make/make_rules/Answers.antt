use Rattle.std.proofs.Common.{◌≡◌, ◌∷◌, ◌++◌, ℕ, List, [], Option, map, append-nil, append_assoc, arith, refl, sym, ap, ◌∙◌, subst}
use Rattle.std.specs.Prelude.{reverse, option_to_list}
use Rattle.std.specs.List.{flat_map}
use Rattle.std.proofs.lemmas.List.{map-append}
use Rattle.lalrpop_norm_tree.specs.Symbols.{symbol_view}
use Rattle.lalrpop_norm_tree.specs.Items.{ItemData, item_view}
use Rattle.lalrpop_norm_faults.specs.Faults.{Fault}
use Rattle.lalrpop_norm_faults.proofs.FaultLemmas.{exit_at}
use Rattle.lalrpop_norm_nodes.specs.declared.table.Waiting.{Waiting}
use Rattle.lalrpop_norm_nodes.specs.NodeParts.{AreWaiting}
use Rattle.lalrpop_norm_nodes.specs.Tables.{wholes_in}
use Rattle.lalrpop_norm_macro_expand_rules.specs.declared.generated.Filling.{Filling}
use Rattle.lalrpop_norm_macro_expand_rules.specs.Macros.{macros_in}
use Rattle.lalrpop_norm_macro_expand_rules.specs.Generated.{GeneratedData, FillingData, item_of, filling_of, filling_view, AreReadable}
use Rattle.lalrpop_norm_macro_expand.specs.Expansion.{unmade}
use Rattle.lalrpop_norm_macro_expand.specs.Made.{made_view, made_for}
use Rattle.lalrpop_norm_macro_expand.specs.Making.{generated_for}
use Rattle.lalrpop_norm_macro_expand.proofs.WaitingLists.{none_left, waiting_back, one_rule, one_filling, readable_more}
use Rattle.lalrpop_norm_macro_expand.proofs.macro_expand.make.make_rules.Goals as goal

pub loop-symbol-init : goal.loop-symbol-init
loop-symbol-init c =
    let whole : c.into_iter-symbol-iterator.result.rest.items ≡ reverse c.args.waiting.items = cc in
    record {
      waiting = rw whole (waiting_back (wholes_in c.args.table.now) c.args.waiting.items c.requires.waiting);
      refuses = rw whole refl;
      rules = rw whole refl;
      fillings = rw (whole, c.in_ok-fillings.ensures.items) refl;
      readable = rw c.in_ok-fillings.ensures.items tt;
      made = rw whole refl;
    }

pub generated_rule-requires-clause-waiting : goal.generated_rule-requires-clause-waiting
generated_rule-requires-clause-waiting c =
    let ready : AreWaiting (wholes_in c.args.table.now) (c.in-Some.symbol ∷ c.next.new.self.rest.items) = rw c.in-Some.ensures.steps.0 at c.loop-symbol.invariant.waiting in
    ready.0

pub returns-in_err-making-clause-refuses : goal.returns-in_err-making-clause-refuses
returns-in_err-making-clause-refuses c =
    let unmade_of : List Waiting → List Fault = flat_map (λ w. unmade (macros_in c.args.makers.now.macros) (symbol_view w.symbol)) in
    exit_at _ _ (unmade (macros_in c.args.makers.now.macros) (symbol_view c.in-Some.symbol.symbol)) (unmade_of c.next.new.self.rest.items) (unmade_of (reverse c.args.waiting.items))
    c.from_residual-in_err-making.ensures.1 c.in_err-making.ensures.refuses
    (sym c.loop-symbol.invariant.refuses ∙ ap unmade_of c.in-Some.ensures.steps.0)

pub loop-symbol-preserved : goal.loop-symbol-preserved
loop-symbol-preserved c =
    let ws = wholes_in c.args.table.now in
    let ms = macros_in c.args.makers.now.macros in
    let v = c.loop-symbol.invariant in
    let n = c.in_ok-add_rule.ensures in
    let w : Waiting = c.in-Some.symbol in
    let rest : List Waiting = c.next.new.self.rest.items in
    let split : c.loop-symbol.symbol-iterator.rest.items ≡ w ∷ rest = c.in-Some.ensures.steps.0 in
    let unmade_of : List Waiting → List Fault = flat_map (λ x. unmade ms (symbol_view x.symbol)) in
    let generated_by : List Waiting → List GeneratedData = flat_map (generated_for ws ms) in
    let ready : AreWaiting ws (w ∷ rest) = rw split at v.waiting in
    let o = c.in_ok-making.making.generated in
    let one = c.in_ok-making.ensures.generated in
    let done : List ItemData = map item_view c.loop-symbol.done.items in
    let filled : List FillingData = map (filling_view ws) c.loop-symbol.fillings.items in
    let now = generated_for ws ms w in
    record {
      waiting = ready.1;
      refuses = ap (λ (fs : List Fault). fs ++ unmade_of rest) (sym c.in_ok-making.ensures.refuses) ∙ ap unmade_of (sym split) ∙ v.refuses;
      rules =
          ap (λ (is : List ItemData). is ++ map item_of (generated_by rest)) (n.rule ∙ ap (λ (is : List ItemData). done ++ is) (one_rule ws o ∙ ap (map item_of) one))
          ∙ append_assoc done (map item_of now) (map item_of (generated_by rest))
          ∙ ap (λ (is : List ItemData). done ++ is) (sym (map-append item_of now (generated_by rest)))
          ∙ ap (λ (xs : List Waiting). done ++ map item_of (generated_by xs)) (sym split)
          ∙ v.rules;
      fillings =
          ap (λ (fs : List FillingData). fs ++ map filling_of (generated_by rest))
          (ap (map (filling_view ws)) n.filling ∙ map-append (filling_view ws) c.loop-symbol.fillings.items (map (λ p. p.filling) (option_to_list o))
          ∙ ap (λ (fs : List FillingData). filled ++ fs) (one_filling ws o ∙ ap (map filling_of) one))
          ∙ append_assoc filled (map filling_of now) (map filling_of (generated_by rest))
          ∙ ap (λ (fs : List FillingData). filled ++ fs) (sym (map-append filling_of now (generated_by rest)))
          ∙ ap (λ (xs : List Waiting). filled ++ map filling_of (generated_by xs)) (sym split)
          ∙ v.fillings;
      readable =
          subst (λ (fs : List (Option Filling)). AreReadable ws fs) (sym n.filling)
          (readable_more ws c.loop-symbol.fillings.items o v.readable c.in_ok-making.ensures.readable);
      made =
          ap (λ (xs : List (ℕ × List ℕ)). xs ++ map (made_for ms) rest) (n.made ∙ ap (λ (ks : List ℕ). map made_view c.loop-symbol.made.items ++ (w.number, ks) ∷ []) c.in_ok-making.ensures.kept)
          ∙ append_assoc (map made_view c.loop-symbol.made.items) (made_for ms w ∷ []) (map (made_for ms) rest)
          ∙ ap (λ (xs : List Waiting). map made_view c.loop-symbol.made.items ++ map (made_for ms) xs) (sym split)
          ∙ v.made;
    }

pub returns-clause-refuses : goal.returns-clause-refuses
returns-clause-refuses c =
    let none : c.loop-symbol.symbol-iterator.rest.items ≡ [] = none_left c.loop-symbol.symbol-iterator.rest.items (omega (arith, c.in-None.ensures.steps.0)) in
    sym c.loop-symbol.invariant.refuses ∙ ap (flat_map (λ (w : Waiting). unmade (macros_in c.args.makers.now.macros) (symbol_view w.symbol))) none

pub returns-clause-rules : goal.returns-clause-rules
returns-clause-rules c =
    let none : c.loop-symbol.symbol-iterator.rest.items ≡ [] = none_left c.loop-symbol.symbol-iterator.rest.items (omega (arith, c.in-None.ensures.steps.0)) in
    sym (append-nil (map item_view c.loop-symbol.done.items))
    ∙ ap (λ (ws : List Waiting). map item_view c.loop-symbol.done.items ++ map item_of (flat_map (generated_for (wholes_in c.args.table.now) (macros_in c.args.makers.now.macros)) ws)) (sym none)
    ∙ c.loop-symbol.invariant.rules

pub returns-clause-fillings : goal.returns-clause-fillings
returns-clause-fillings c =
    let none : c.loop-symbol.symbol-iterator.rest.items ≡ [] = none_left c.loop-symbol.symbol-iterator.rest.items (omega (arith, c.in-None.ensures.steps.0)) in
    sym (append-nil (map (filling_view (wholes_in c.args.table.now)) c.loop-symbol.fillings.items))
    ∙ ap (λ (ws : List Waiting). map (filling_view (wholes_in c.args.table.now)) c.loop-symbol.fillings.items ++ map filling_of (flat_map (generated_for (wholes_in c.args.table.now) (macros_in c.args.makers.now.macros)) ws)) (sym none)
    ∙ c.loop-symbol.invariant.fillings

pub returns-clause-made : goal.returns-clause-made
returns-clause-made c =
    let none : c.loop-symbol.symbol-iterator.rest.items ≡ [] = none_left c.loop-symbol.symbol-iterator.rest.items (omega (arith, c.in-None.ensures.steps.0)) in
    sym (append-nil (map made_view c.loop-symbol.made.items))
    ∙ ap (λ (ws : List Waiting). map made_view c.loop-symbol.made.items ++ map (made_for (macros_in c.args.makers.now.macros)) ws) (sym none)
    ∙ c.loop-symbol.invariant.made
