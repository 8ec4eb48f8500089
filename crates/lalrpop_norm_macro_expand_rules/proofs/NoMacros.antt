-- Items of which none is a macro.
use Rattle.std.proofs.Common.{◌≡◌, false, List, [], ◌∷◌, ◌++◌, length, nat_lt, refl, ap₂, arith}
use Rattle.std.proofs.lemmas.Bool.Decides.{nat_tests}
use Rattle.std.specs.Prelude.{if◌then◌else◌}
use Rattle.std.specs.List.{flat_map, list_any}
use Rattle.lalrpop_norm_tree_names.specs.declared.names.NonterminalString.{NonterminalString}
use Rattle.lalrpop_norm_tree.specs.Accessors.{is_macro_item}
use Rattle.lalrpop_norm_tree.specs.Items.{ItemData, RuleData, match_item, extern_item, intern_item, rule_item, use_item}
use Rattle.lalrpop_norm_theory.proofs.BoolLemmas.{left_false, right_false}
use Rattle.lalrpop_norm_model.specs.Grammars.{is_nil}
use Rattle.lalrpop_norm_macro_expand_rules.specs.Items.{macro_in, without_macro}

stays_alone : (i : ItemData) → is_macro_item i ≡ false → without_macro i ≡ i ∷ []
stays_alone (rule_item r) h = by r.args h
  where
    by : (names : List NonterminalString) → nat_lt 0 (length names) ≡ false → (if is_nil names then rule_item r ∷ [] else []) ≡ rule_item r ∷ []
    by [] h = refl
    by (n ∷ ns) h = absurd (grind (arith, nat_tests, h))
stays_alone (match_item m) h = refl
stays_alone (extern_item t) h = refl
stays_alone (intern_item t) h = refl
stays_alone (use_item u) h = refl

adds_none : (i : ItemData) → is_macro_item i ≡ false → macro_in i ≡ []
adds_none (rule_item r) h = by r.args h
  where
    by : (names : List NonterminalString) → nat_lt 0 (length names) ≡ false → (if is_nil names then [] else r ∷ []) ≡ []
    by [] h = refl
    by (n ∷ ns) h = absurd (grind (arith, nat_tests, h))
adds_none (match_item m) h = refl
adds_none (extern_item t) h = refl
adds_none (intern_item t) h = refl
adds_none (use_item u) h = refl

pub all_others : (is : List ItemData) → list_any is_macro_item is ≡ false → flat_map without_macro is ≡ is
all_others [] h = refl
all_others (i ∷ is) h =
    ap₂ ◌++◌ (stays_alone i (left_false (is_macro_item i) (list_any is_macro_item is) h))
    (all_others is (right_false (is_macro_item i) (list_any is_macro_item is) h))

pub no_macros : (is : List ItemData) → list_any is_macro_item is ≡ false → flat_map macro_in is ≡ []
no_macros [] h = refl
no_macros (i ∷ is) h =
    ap₂ ◌++◌ (adds_none i (left_false (is_macro_item i) (list_any is_macro_item is) h))
    (no_macros is (right_false (is_macro_item i) (list_any is_macro_item is) h))
