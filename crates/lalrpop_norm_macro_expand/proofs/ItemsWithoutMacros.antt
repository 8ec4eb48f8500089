-- The items of a grammar without its macros: what is reached in them, and what they become.
use Rattle.std.proofs.Common.{◌≡◌, ℕ, List, [], ◌∷◌, ◌++◌, Bool, true, false, cond, map, refl, sym, ap, ◌∙◌}
use Rattle.std.specs.Prelude.{not, filter, flat_map}
use Rattle.std.proofs.lemmas.List.{map-append}
use Rattle.lalrpop_norm_tree.specs.Symbols.{Part}
use Rattle.lalrpop_norm_tree.specs.Items.{RuleData, ItemData, GrammarData, match_item, extern_item, intern_item, rule_item, use_item}
use Rattle.lalrpop_norm_model.specs.Grammars.{is_nil}
use Rattle.lalrpop_norm_model.specs.PlainRules.{met_in_rule, rule_of_item, plain_item, replaced_rule}
use Rattle.lalrpop_norm_conditions.specs.Conditions.{comparison}
use Rattle.lalrpop_norm_nodes.specs.Waits.{parts_replaced}
use Rattle.lalrpop_norm_nodes.proofs.ShallowMeetings.{MeetAlike, alike_none, alike_one, alike_both}
use Rattle.lalrpop_norm_macro_expand_rules.specs.Items.{replaced_item, met_in_item, shown_in_item, without_macro, macro_in}
use Rattle.lalrpop_norm_macro_expand.specs.Expansion.{meetings}

abbrev pub replaced_rules : List RuleData → List ItemData
replaced_rules rs = map (λ r. rule_item (replaced_rule r)) rs

-- ---- the items of a grammar, without macros

others_met : (is : List ItemData) → flat_map met_in_item (flat_map without_macro is) ≡ flat_map met_in_rule (filter (λ r. is_nil r.args) (flat_map rule_of_item is))
others_met [] = refl
others_met (rule_item r ∷ is) = by (is_nil r.args) (others_met is)
  where
    by : (b : Bool) → flat_map met_in_item (flat_map without_macro is) ≡ flat_map met_in_rule (filter (λ r. is_nil r.args) (flat_map rule_of_item is)) →
        flat_map met_in_item (cond b (rule_item r ∷ []) [] ++ flat_map without_macro is)
        ≡ flat_map met_in_rule (cond b (r ∷ filter (λ r. is_nil r.args) (flat_map rule_of_item is)) (filter (λ r. is_nil r.args) (flat_map rule_of_item is)))
    by true deeper = ap (λ ps. met_in_rule r ++ ps) deeper
    by false deeper = deeper
others_met (match_item m ∷ is) = others_met is
others_met (extern_item t ∷ is) = others_met is
others_met (intern_item t ∷ is) = others_met is
others_met (use_item u ∷ is) = others_met is

pub others_plain : (is : List ItemData) → map replaced_item (flat_map without_macro is) ≡ flat_map plain_item is
others_plain [] = refl
others_plain (rule_item r ∷ is) = by (is_nil r.args) (others_plain is)
  where
    by : (b : Bool) → map replaced_item (flat_map without_macro is) ≡ flat_map plain_item is →
        map replaced_item (cond b (rule_item r ∷ []) [] ++ flat_map without_macro is) ≡ cond b (rule_item (replaced_rule r) ∷ []) [] ++ flat_map plain_item is
    by true deeper = ap (λ rs. rule_item (replaced_rule r) ∷ rs) deeper
    by false deeper = deeper
others_plain (match_item m ∷ is) = ap (λ rs. match_item m ∷ rs) (others_plain is)
others_plain (extern_item t ∷ is) = ap (λ rs. extern_item t ∷ rs) (others_plain is)
others_plain (intern_item t ∷ is) = ap (λ rs. intern_item t ∷ rs) (others_plain is)
others_plain (use_item u ∷ is) = ap (λ rs. use_item u ∷ rs) (others_plain is)

pub macros_are : (is : List ItemData) → flat_map macro_in is ≡ filter (λ r. not (is_nil r.args)) (flat_map rule_of_item is)
macros_are [] = refl
macros_are (rule_item r ∷ is) = by (is_nil r.args) (macros_are is)
  where
    by : (b : Bool) → flat_map macro_in is ≡ filter (λ r. not (is_nil r.args)) (flat_map rule_of_item is) →
        cond b [] (r ∷ []) ++ flat_map macro_in is
        ≡ cond (not b) (r ∷ filter (λ r. not (is_nil r.args)) (flat_map rule_of_item is)) (filter (λ r. not (is_nil r.args)) (flat_map rule_of_item is))
    by true deeper = deeper
    by false deeper = ap (λ rs. r ∷ rs) deeper
macros_are (match_item m ∷ is) = macros_are is
macros_are (extern_item t ∷ is) = macros_are is
macros_are (intern_item t ∷ is) = macros_are is
macros_are (use_item u ∷ is) = macros_are is

-- ---- symbols that are reached with all that is in them

alike_same : (names : List ℕ → Bool) (start xs : List Part) → MeetAlike names start (map parts_replaced xs) xs xs
alike_same names start [] = alike_none names start
alike_same names start (x ∷ xs) =
    alike_both names start (parts_replaced x ∷ []) (x ∷ []) (x ∷ []) _ _ _ (alike_one names start (parts_replaced x) x x refl refl refl) (alike_same names start xs)

shown_items : (is : List ItemData) → flat_map shown_in_item is ≡ map parts_replaced (flat_map met_in_item is)
shown_items [] = refl
shown_items (i ∷ is) =
    ap (λ ps. map parts_replaced (met_in_item i) ++ ps) (shown_items is) ∙ sym (map-append parts_replaced (met_in_item i) (flat_map met_in_item is))

pub grammar_alike : (names : List ℕ → Bool) (g : GrammarData) →
    MeetAlike names [] (flat_map shown_in_item (flat_map without_macro g.items)) (flat_map met_in_item (flat_map without_macro g.items)) (meetings comparison g 0)
grammar_alike names g = rw (shown_items (flat_map without_macro g.items), others_met g.items) (alike_same names [] (meetings comparison g 0))
