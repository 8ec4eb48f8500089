-- Plain rules (those of an expanded grammar), and names that have one rule, as tests of the items of a grammar.
use Rattle.std.specs.Prelude.{ℕ, Bool, true, false, ◌&&◌, not, List, [], ◌∷◌, Option, Some, None, bytes_eq, is_none}
use Rattle.std.specs.List.{list_all, list_any}
use Rattle.lalrpop_norm_tree.specs.Items.{AlternativeData, RuleData, ItemData, rule_item}
use Rattle.lalrpop_norm_tree.specs.Symbols.{Kind, Part, Parts, no_parts, part_and}
use Rattle.lalrpop_norm_tree.specs.Types.{TypeData, TypesData, MaybeType, tuple, slice, nominal, reference, trait_object}
use Rattle.lalrpop_norm_tree.specs.Types.{of_lifetime, id, of_symbol, function, no_types, type_and, no_type, returns}
use Rattle.lalrpop_norm_tree.specs.Traversal.{wrapped_kind, wrapped_part}
use Rattle.lalrpop_norm_model.specs.Expanded.{is_plain_leaf}
use Rattle.lalrpop_norm_model.specs.Grammars.{is_nil}

-- ---- names

abbrev pub is_rule_named : List ℕ → ItemData → Bool
is_rule_named n (rule_item r) = bytes_eq r.name.0 n
is_rule_named n _ = false

-- an item is a rule of that name
abbrev pub is_rule_there : List ItemData → List ℕ → Bool
is_rule_there items n = list_any (is_rule_named n) items

-- the item is a rule with the name of one of the others
abbrev pub is_named_again : ItemData → List ItemData → Bool
is_named_again (rule_item r) others = is_rule_there others r.name.0
is_named_again _ others = false

abbrev pub is_no_name_twice : List ItemData → Bool
is_no_name_twice [] = true
is_no_name_twice (i ∷ items) = not (is_named_again i items) && is_no_name_twice items

-- ---- symbols

-- a plain symbol, and the nonterminal in it has a rule
abbrev pub is_usable_kind : List ItemData → Kind → Bool
is_usable_kind items k = is_plain_leaf (is_rule_there items) (wrapped_kind k)

abbrev pub is_usable : List ItemData → Part → Bool
is_usable items p = is_plain_leaf (is_rule_there items) (wrapped_part p)

abbrev pub are_usable : List ItemData → Parts → Bool
are_usable items no_parts = true
are_usable items (part_and p ps) = is_usable items p && are_usable items ps

-- ---- types

-- each symbol in a type is such a one
abbrev mutual
  pub is_usable_in : List ItemData → TypeData → Bool
  is_usable_in items (of_symbol k) = is_usable_kind items k
  is_usable_in items (tuple ts) = are_usable_in items ts
  is_usable_in items (slice t) = is_usable_in items t
  is_usable_in items (nominal p ts) = are_usable_in items ts
  is_usable_in items (reference l m t) = is_usable_in items t
  is_usable_in items (trait_object p ts) = are_usable_in items ts
  is_usable_in items (of_lifetime l) = true
  is_usable_in items (id a) = true
  is_usable_in items (function fs p ts r) = are_usable_in items ts && is_usable_return items r

  pub are_usable_in : List ItemData → TypesData → Bool
  are_usable_in items no_types = true
  are_usable_in items (type_and t ts) = is_usable_in items t && are_usable_in items ts

  pub is_usable_return : List ItemData → MaybeType → Bool
  is_usable_return items no_type = true
  is_usable_return items (returns t) = is_usable_in items t

abbrev pub is_usable_declared : List ItemData → Option TypeData → Bool
is_usable_declared items None = true
is_usable_declared items (Some t) = is_usable_in items t

-- ---- rules

abbrev pub is_usable_alternative : List ItemData → AlternativeData → Bool
is_usable_alternative items a = is_none a.condition && are_usable items a.parts

-- a rule that is no macro, whose alternatives have no condition, and whose symbols are plain and have rules
abbrev pub is_usable_rule : List ItemData → RuleData → Bool
is_usable_rule items r =
    is_nil r.args && (is_usable_declared items r.type_decl && list_all (is_usable_alternative items) r.alternatives)

abbrev pub is_usable_item : List ItemData → ItemData → Bool
is_usable_item items (rule_item r) = is_usable_rule items r
is_usable_item items _ = true
