-- The enabled grammar: the written one without the rules, alternatives and conversions whose attributes are not active.
use Rattle.std.specs.Prelude.{List, [], ◌∷◌, map, flat_map, filter, Option, Some, None, option_map, if◌then◌else◌}
use Rattle.lalrpop_norm_tree.specs.Items.{AlternativeData, RuleData, EnumTokenData, ExternTokenData, ItemData, GrammarData}
use Rattle.lalrpop_norm_tree.specs.Items.{match_item, extern_item, intern_item, rule_item, use_item}
use Rattle.lalrpop_norm_model.specs.Features.{Features, is_active}

-- The alternatives of a rule by their written indices, from 0: at each index the alternative, if it is enabled.
abbrev pub PlacedAlternatives : Type 0
PlacedAlternatives = List (Option AlternativeData)

abbrev pub if_active : Features → AlternativeData → Option AlternativeData
if_active fs a = if is_active fs a.attributes then Some a else None

-- the enabled alternatives at their written indices
abbrev pub enabled_places : Features → RuleData → PlacedAlternatives
enabled_places fs r = map (if_active fs) r.alternatives

-- each alternative at its index, whatever its attributes say
abbrev pub all_places : RuleData → PlacedAlternatives
all_places r = map Some r.alternatives

-- those that are there, in order
abbrev pub present : {A : Type 0} → List (Option A) → List A
present [] = []
present (None ∷ xs) = present xs
present (Some x ∷ xs) = x ∷ present xs

abbrev pub enabled_rule : Features → RuleData → RuleData
enabled_rule fs r = record r { alternatives = present (enabled_places fs r) }

abbrev pub enabled_enum : Features → EnumTokenData → EnumTokenData
enabled_enum fs e = record e { conversions = filter (λ c. is_active fs c.attributes) e.conversions }

abbrev pub enabled_extern : Features → ExternTokenData → ExternTokenData
enabled_extern fs t = record t { enum_token = option_map (enabled_enum fs) t.enum_token }

-- what is left of an item: a rule that is not active is dropped
abbrev pub enabled_item : Features → ItemData → List ItemData
enabled_item fs (rule_item r) = if is_active fs r.attributes then rule_item (enabled_rule fs r) ∷ [] else []
enabled_item fs (extern_item t) = extern_item (enabled_extern fs t) ∷ []
enabled_item fs (match_item m) = match_item m ∷ []
enabled_item fs (intern_item t) = intern_item t ∷ []
enabled_item fs (use_item u) = use_item u ∷ []

abbrev pub enabled_grammar : Features → GrammarData → GrammarData
enabled_grammar fs g = record g { items = flat_map (enabled_item fs) g.items }
