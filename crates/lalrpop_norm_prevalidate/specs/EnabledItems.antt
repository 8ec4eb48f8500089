-- The enabled grammar in two steps, as the code goes: whole items first, then the parts of each item.
use Rattle.std.specs.Prelude.{Bool, true, List, filter}
use Rattle.lalrpop_norm_tree.specs.Items.{ConversionData, ItemData, match_item, extern_item, intern_item}
use Rattle.lalrpop_norm_tree.specs.Items.{rule_item, use_item}
use Rattle.lalrpop_norm_model.specs.Features.{Features, is_active}
use Rattle.lalrpop_norm_model.specs.Enabled.{enabled_rule, enabled_extern}

-- the conversions that are active
abbrev pub active_conversions : Features → List ConversionData → List ConversionData
active_conversions fs cs = filter (λ c. is_active fs c.attributes) cs

-- a rule stays if it is active, all else always
abbrev pub stays : Features → ItemData → Bool
stays fs (rule_item r) = is_active fs r.attributes
stays fs (match_item m) = true
stays fs (extern_item t) = true
stays fs (intern_item t) = true
stays fs (use_item u) = true

-- an item without the alternatives and conversions that are not active
abbrev pub trimmed : Features → ItemData → ItemData
trimmed fs (rule_item r) = rule_item (enabled_rule fs r)
trimmed fs (extern_item t) = extern_item (enabled_extern fs t)
trimmed fs (match_item m) = match_item m
trimmed fs (intern_item t) = intern_item t
trimmed fs (use_item u) = use_item u
