-- The names that are declared, one item after another.
use Rattle.std.proofs.Common.{◌≡◌, ℕ, Bool, true, false, cond, List, [], ◌∷◌, ◌++◌, map, refl, sym, ap, ◌∙◌, bytes_eq}
use Rattle.std.specs.Prelude.{◌||◌, flat_map}
use Rattle.std.specs.HashSet.{HashSet}
use Rattle.std.proofs.Math.Path.{fun_ext}
use Rattle.std.proofs.lemmas.List.Folds.{list_any-append}
use Rattle.lalrpop_norm_names.specs.declared.seeded.Seeded.{Seeded}
use Rattle.lalrpop_norm_tree.specs.Items.{RuleData, ItemData, GrammarData, match_item, extern_item, intern_item, rule_item, use_item}
use Rattle.lalrpop_norm_model.specs.Expanded.{rule_names}
use Rattle.lalrpop_norm_model.specs.PlainRules.{rule_of_item}
use Rattle.lalrpop_norm_nodes.specs.Meeting.{has_key}
use Rattle.lalrpop_norm_macro_expand_rules.specs.Names.{is_declared_name, item_names, with_names}
use Rattle.lalrpop_norm_theory.proofs.SameLemmas.{text_turned}

either : (a b : Bool) → (a || b) ≡ (b || a)
either true true = refl
either true false = refl
either false true = refl
either false false = refl

chosen : (a b : Bool) → cond a true b ≡ ((a || false) || b)
chosen true b = refl
chosen false b = refl

-- a name that is inserted
pub name_inserted : (before later : HashSet (List ℕ) Seeded) (n : List ℕ) → ((t : List ℕ) → has_key later t ≡ cond (bytes_eq n t) true (has_key before t)) →
    has_key later ≡ with_names (has_key before) (n ∷ [])
name_inserted before later n h = fun_ext (λ t. h t ∙ chosen (bytes_eq n t) (has_key before t) ∙ ap (λ b. (b || false) || has_key before t) (text_turned n t))

-- names behind names
pub with_both : (ns ms : List (List ℕ)) → with_names (is_declared_name ns) ms ≡ is_declared_name (ns ++ ms)
with_both ns ms = fun_ext (λ t. either (is_declared_name ms t) (is_declared_name ns t) ∙ sym (list_any-append (bytes_eq t) ns ms))

pub rule_names_are : (g : GrammarData) → flat_map item_names g.items ≡ rule_names g
rule_names_are g = by g.items
  where
    by : (is : List ItemData) → flat_map item_names is ≡ map (λ (r : RuleData). r.name.0) (flat_map rule_of_item is)
    by [] = refl
    by (rule_item r ∷ is) = ap (λ ns. r.name.0 ∷ ns) (by is)
    by (match_item m ∷ is) = by is
    by (extern_item t ∷ is) = by is
    by (intern_item t ∷ is) = by is
    by (use_item u ∷ is) = by is
