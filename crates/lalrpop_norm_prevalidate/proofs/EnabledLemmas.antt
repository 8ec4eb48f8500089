-- The enabled grammar in two steps.
use Rattle.std.proofs.Common.{◌≡◌, Bool, true, false, List, [], ◌∷◌, ◌++◌, map, refl, ap}
use Rattle.std.specs.Prelude.{filter, flat_map, if◌then◌else◌}
use Rattle.lalrpop_norm_tree.specs.Items.{RuleData, ItemData, match_item, extern_item, intern_item, rule_item, use_item}
use Rattle.lalrpop_norm_model.specs.Features.{Features, is_active}
use Rattle.lalrpop_norm_model.specs.Enabled.{enabled_rule, enabled_extern, enabled_item}
use Rattle.lalrpop_norm_prevalidate.specs.EnabledItems.{stays, trimmed}

rule_kept : (fs : Features) (r : RuleData) (b : Bool) (xs ys : List ItemData) → xs ≡ map (trimmed fs) ys →
    (if b then rule_item (enabled_rule fs r) ∷ [] else []) ++ xs ≡ map (trimmed fs) (if b then rule_item r ∷ ys else ys)
rule_kept fs r true xs ys e = ap (λ zs. rule_item (enabled_rule fs r) ∷ zs) e
rule_kept fs r false xs ys e = e

-- the items of the enabled grammar are those that stay, trimmed
pub items_enabled : (fs : Features) (xs : List ItemData) → flat_map (enabled_item fs) xs ≡ map (trimmed fs) (filter (stays fs) xs)
items_enabled fs [] = refl
items_enabled fs (rule_item r ∷ xs) = rule_kept fs r (is_active fs r.attributes) (flat_map (enabled_item fs) xs) (filter (stays fs) xs) (items_enabled fs xs)
items_enabled fs (match_item m ∷ xs) = ap (λ zs. match_item m ∷ zs) (items_enabled fs xs)
items_enabled fs (extern_item t ∷ xs) = ap (λ zs. extern_item (enabled_extern fs t) ∷ zs) (items_enabled fs xs)
items_enabled fs (intern_item t ∷ xs) = ap (λ zs. intern_item t ∷ zs) (items_enabled fs xs)
items_enabled fs (use_item u ∷ xs) = ap (λ zs. use_item u ∷ zs) (items_enabled fs xs)
