-- Internal definitions: faults along a list, where what came before is passed on. By indices they are those of GrammarFaults.
use Rattle.std.specs.Prelude.{ℕ, Bool, ◌||◌, List, [], ◌∷◌, ◌++◌}
use Rattle.lalrpop_norm_tree_names.specs.declared.names.Span.{Span}
use Rattle.lalrpop_norm_tree_parts.specs.Attributes.{Attributes, no_attributes, attribute_and}
use Rattle.lalrpop_norm_tree.specs.Items.{AssociatedTypeData, ItemData}
use Rattle.lalrpop_norm_faults.specs.Faults.{Fault}
use Rattle.lalrpop_norm_prevalidate.specs.declared.prevalidate.Surroundings.{Surroundings}
use Rattle.lalrpop_norm_prevalidate.specs.declared.prevalidate.Blocks.{Blocks}
use Rattle.lalrpop_norm_prevalidate.specs.GrammarFaults.{attribute_name, rule_attribute_faults, associated_faults, is_match, is_extern}
use Rattle.lalrpop_norm_prevalidate.specs.GrammarFaults.{item_faults}

-- after the names of some attributes
abbrev pub attributes_along : Bool → List (List ℕ) → Attributes → List Fault
attributes_along public before no_attributes = []
attributes_along public before (attribute_and a rest) =
    rule_attribute_faults public before a ++ attributes_along public (before ++ attribute_name a ∷ []) rest

-- after the names of some associated types
abbrev pub types_along : List (List ℕ) → List AssociatedTypeData → List Fault
types_along before [] = []
types_along before (t ∷ ts) = associated_faults before t ++ types_along (before ++ t.type_name ∷ []) ts

-- after a match block and an extern block or not
abbrev pub items_along : Surroundings → Blocks → Span → Bool → Bool → List ItemData → List Fault
items_along c b s m e [] = []
items_along c b s m e (i ∷ is) = item_faults c b s m e i ++ items_along c b s (m || is_match i) (e || is_extern i) is
