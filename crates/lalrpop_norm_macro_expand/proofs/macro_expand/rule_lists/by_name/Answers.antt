use Rattle.std.proofs.Common.{◌≡◌, ◌∷◌, [], List, bytes_eq, map, refl, sym, ap, ◌∙◌, arith, nat_cmp}
use Rattle.std.proofs.Math.Path.{fun_ext}
use Rattle.std.specs.BTreeMap.{get}
use Rattle.std.specs.Cmp.Lexicographic.{slice_cmp}
use Rattle.std.specs.Prelude.{option_map}
use Rattle.lalrpop_norm_tree.specs.Accessors.{or_else}
use Rattle.lalrpop_norm_model.proofs.HandedLemmas.{or_else_none}
use Rattle.lalrpop_norm_macro_expand.specs.declared.macro_expand.rule_lists.MacroList.{MacroList}
use Rattle.lalrpop_norm_macro_expand.specs.TracedRules.{list_view, first_list_of, list_under, list_in}
use Rattle.lalrpop_norm_macro_expand.proofs.WaitingLists.{none_left}
use Rattle.lalrpop_norm_macro_expand.proofs.TracedLemmas.{next_named}
use Rattle.lalrpop_norm_macro_expand.proofs.macro_expand.rule_lists.by_name.Goals as goal

pub loop-list-init : goal.loop-list-init
loop-list-init c =
    let whole : c.into_iter-list-iterator.result.rest.items ≡ c.args.macros.items = c.into_iter-list-iterator.ensures.into_iter_gives.0 in
    λ n. rw (whole, c.new-named.ensures.empty) refl

pub loop-list-preserved : goal.loop-list-preserved
loop-list-preserved c =
    let rest : List MacroList = c.next.new.self.rest.items in
    let split : c.loop-list.list-iterator.rest.items ≡ c.in-Some.list ∷ rest = c.in-Some.ensures.steps.0 in
    λ n.
    ap (λ o. or_else (option_map list_in o) (first_list_of (map list_view rest) n)) (c.in_ok-note.ensures n)
    ∙ next_named (get (slice_cmp nat_cmp) c.loop-list.named n) (bytes_eq c.in-Some.list.name n) c.in-Some.list.origins (first_list_of (map list_view rest) n)
    ∙ ap (λ (ls : List MacroList). or_else (list_under c.loop-list.named n) (first_list_of (map list_view ls) n)) (sym split)
    ∙ c.loop-list.invariant n

pub returns : goal.returns
returns c =
    let none : c.loop-list.list-iterator.rest.items ≡ [] = none_left c.loop-list.list-iterator.rest.items (omega (arith, c.in-None.ensures.steps.0)) in
    fun_ext (λ n.
    sym (or_else_none (list_under c.loop-list.named n))
    ∙ ap (λ (ls : List MacroList). or_else (list_under c.loop-list.named n) (first_list_of (map list_view ls) n)) (sym none)
    ∙ c.loop-list.invariant n)
