-- The origins of the enabled grammar's alternatives, rule by rule: each comes from its written index.
use Rattle.std.specs.Prelude.{ℕ, suc, List, [], ◌∷◌, flat_map, Option, Some, None, if◌then◌else◌}
use Rattle.lalrpop_norm_tree.specs.Items.{RuleData, ItemData, GrammarData, rule_item, match_item, extern_item, intern_item}
use Rattle.lalrpop_norm_tree.specs.Items.{use_item}
use Rattle.lalrpop_norm_theory.specs.Symbols.{Name}
use Rattle.lalrpop_norm_theory.specs.LoweredTrees as theory
use Rattle.lalrpop_norm_theory.specs.LoweredTrees.{written}
use Rattle.lalrpop_norm_model.specs.Features.{Features, is_active}
use Rattle.lalrpop_norm_model.specs.Enabled.{enabled_places}

-- the origin of the alternative at index k, if there is one, before those of the rest
abbrev pub place_and : {A : Type 0} → Name → ℕ → Option A → List theory.Origin → List theory.Origin
place_and n k None rest = rest
place_and n k (Some a) rest = written n k ∷ rest

-- those of the indices from k on at which there is an alternative
abbrev pub places_from : {A : Type 0} → Name → ℕ → List (Option A) → List theory.Origin
places_from n k [] = []
places_from n k (p ∷ ps) = place_and n k p (places_from n (suc k) ps)

-- of a rule
abbrev pub enabled_rule_origins : Features → RuleData → List theory.Origin
enabled_rule_origins fs r = places_from r.name.0 0 (enabled_places fs r)

-- of an item: those of a rule that is active
abbrev pub enabled_item_origins : Features → ItemData → List (List theory.Origin)
enabled_item_origins fs (rule_item r) = if is_active fs r.attributes then enabled_rule_origins fs r ∷ [] else []
enabled_item_origins fs (match_item m) = []
enabled_item_origins fs (extern_item t) = []
enabled_item_origins fs (intern_item t) = []
enabled_item_origins fs (use_item u) = []

-- One list for each rule of the enabled grammar, in item order.
abbrev pub enabled_origins : Features → GrammarData → List (List theory.Origin)
enabled_origins fs g = flat_map (enabled_item_origins fs) g.items
