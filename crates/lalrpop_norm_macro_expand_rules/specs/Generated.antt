-- Generated rules, and what is still to be read in them: internal definitions, which no public contract clause mentions.
use Rattle.std.specs.Prelude.{◌≡◌, ⊤, ℕ, List, [], ◌∷◌, map, flat_map, Option, Some, None, option_map, option_and_then, slice_get}
use Rattle.lalrpop_norm_tree.specs.Symbols.{Kind, Part, kind_view}
use Rattle.lalrpop_norm_tree.specs.declared.items.GrammarItem.{GrammarItem}
use Rattle.lalrpop_norm_tree.specs.Items.{AlternativeData, RuleData, ItemData, rule_item, match_item, extern_item, intern_item, use_item, item_view, rule_view}
use Rattle.lalrpop_norm_names.specs.Numbers.{number_in_table}
use Rattle.lalrpop_norm_names.specs.declared.table.Names.{Names}
use Rattle.lalrpop_norm_model.specs.PlainRules.{all_met}
use Rattle.lalrpop_norm_model.specs.Replaced.{all_replaced}
use Rattle.lalrpop_norm_nodes.specs.declared.given.Given.{Given}
use Rattle.lalrpop_norm_nodes.specs.Filled.{all_filled}
use Rattle.lalrpop_norm_nodes.specs.declared.given.Environment.{Environment}
use Rattle.lalrpop_norm_nodes.specs.declared.table.Table.{Table}
use Rattle.lalrpop_norm_nodes.specs.Given.{whole_for, shown_for, IsGiven}
use Rattle.lalrpop_norm_nodes.specs.Tables.{wholes_in}
use Rattle.lalrpop_norm_nodes.specs.Waits.{parts_replaced}
use Rattle.lalrpop_norm_nodes.specs.Wholes.{Whole, kind_at}
use Rattle.lalrpop_norm_macro_expand_rules.specs.declared.generated.Filling.{Filling}
use Rattle.lalrpop_norm_macro_expand_rules.specs.declared.generated.GeneratedRule.{GeneratedRule}

-- ---- alternatives that are read in an environment

-- what is reached in one, and the same symbols with their parts rewritten
abbrev pub met_filled : (List ℕ → Option Kind) → AlternativeData → List Part
met_filled f a = all_met (all_filled f a.parts)

abbrev pub shown_filled : (List ℕ → Option Kind) → AlternativeData → List Part
shown_filled f a = map parts_replaced (all_met (all_filled f a.parts))

-- what it is once it is read
abbrev pub read_filled : (List ℕ → Option Kind) → AlternativeData → AlternativeData
read_filled f a = record a { parts = all_replaced (all_filled f a.parts) }

-- the same of an alternative that is read in the environment of that table
abbrev pub met_there : Table → Environment → AlternativeData → List Part
met_there t e = met_filled (whole_for (wholes_in t) e)

abbrev pub shown_there : Environment → AlternativeData → List Part
shown_there e = shown_filled (shown_for e)

abbrev pub read_there : Environment → AlternativeData → AlternativeData
read_there e = read_filled (shown_for e)

-- ---- rules

-- an item with nothing left to be read, or a rule in an environment: substituted, up to spans, and rewritten
pub data GeneratedData : Type 0 where
  finished_item : ItemData → GeneratedData
  unread_rule : RuleData → (List ℕ → Option Kind) → (List ℕ → Option Kind) → GeneratedData

abbrev pub finished_rule : RuleData → GeneratedData
finished_rule r = finished_item (rule_item r)

abbrev pub met_in_generated : GeneratedData → List Part
met_in_generated (finished_item i) = []
met_in_generated (unread_rule r whole shown) = flat_map (met_filled whole) r.alternatives

abbrev pub shown_in_generated : GeneratedData → List Part
shown_in_generated (finished_item i) = []
shown_in_generated (unread_rule r whole shown) = flat_map (shown_filled shown) r.alternatives

abbrev pub generated_read : GeneratedData → ItemData
generated_read (finished_item i) = i
generated_read (unread_rule r whole shown) = rule_item (record r { alternatives = map (read_filled shown) r.alternatives })

-- ---- items, and what is still to be read in them, side by side

abbrev pub FillingData : Type 0
FillingData = Option ((List ℕ → Option Kind) × (List ℕ → Option Kind))

abbrev pub filled_item : FillingData → ItemData → GeneratedData
filled_item None i = finished_item i
filled_item (Some f) (rule_item r) = unread_rule r f.0 f.1
filled_item (Some f) (match_item m) = finished_item (match_item m)
filled_item (Some f) (extern_item t) = finished_item (extern_item t)
filled_item (Some f) (intern_item t) = finished_item (intern_item t)
filled_item (Some f) (use_item u) = finished_item (use_item u)

abbrev pub filled_items : List FillingData → List ItemData → List GeneratedData
filled_items (f ∷ fs) (i ∷ is) = filled_item f i ∷ filled_items fs is
filled_items _ _ = []

abbrev pub item_of : GeneratedData → ItemData
item_of (finished_item i) = i
item_of (unread_rule r whole shown) = rule_item r

abbrev pub filling_of : GeneratedData → FillingData
filling_of (finished_item i) = None
filling_of (unread_rule r whole shown) = Some (whole, shown)

-- ---- what names stand for

-- what is bound at the index of a name, and what the name stands for there: up to spans, and rewritten
abbrev pub given_numbered : Names → List Given → List ℕ → Option Given
given_numbered table given n = option_and_then (λ i. slice_get given i) (number_in_table table n)

abbrev pub whole_numbered : List Whole → Names → List Given → List ℕ → Option Kind
whole_numbered ws table given n = option_map (λ g. kind_at ws g.number) (given_numbered table given n)

abbrev pub shown_numbered : Names → List Given → List ℕ → Option Kind
shown_numbered table given n = option_map (λ g. kind_view g.symbol.kind) (given_numbered table given n)

abbrev pub filling_view : List Whole → Option Filling → FillingData
filling_view ws None = None
filling_view ws (Some f) = Some (whole_numbered ws f.numbers.now f.given.items, shown_numbered f.numbers.now f.given.items)

abbrev pub filled_rule : List Whole → Filling → RuleData → GeneratedData
filled_rule ws f r = unread_rule r (whole_numbered ws f.numbers.now f.given.items) (shown_numbered f.numbers.now f.given.items)

abbrev pub generated_view : List Whole → GeneratedRule → GeneratedData
generated_view ws p = filled_item (filling_view ws p.filling) (rule_item (rule_view p.rule))

-- rules and their environments, side by side
abbrev pub generated_in : List Whole → List (Option Filling) → List GrammarItem → List GeneratedData
generated_in ws fs is = filled_items (map (filling_view ws) fs) (map item_view is)

-- the environment stands for symbols
abbrev pub IsFilling : List Whole → Filling → Type 0
IsFilling ws f = (n : List ℕ) (g : Given) → given_numbered f.numbers.now f.given.items n ≡ Some g → IsGiven ws g

abbrev pub IsReadable : List Whole → Option Filling → Type 0
IsReadable ws None = ⊤
IsReadable ws (Some f) = IsFilling ws f

abbrev pub AreReadable : List Whole → List (Option Filling) → Type 0
AreReadable ws [] = ⊤
AreReadable ws (f ∷ rest) = IsReadable ws f × AreReadable ws rest
