-- The grammar with levels: each level of a rule as a rule of its own, in place of the rule.
use Rattle.std.specs.Prelude.{ℕ, ◌+◌, Bool, List, [], ◌∷◌, ◌++◌, map, flat_map, Option, Some, None, codes, nat_eq}
use Rattle.std.specs.Prelude.{if◌then◌else◌}
use Rattle.lalrpop_norm_tree_names.specs.declared.names.Span.{Span}
use Rattle.lalrpop_norm_tree_parts.specs.Attributes.{Attributes, no_attributes, attribute_and}
use Rattle.lalrpop_norm_tree.specs.Symbols.{Kind, Part, Parts, group, nonterminal, call, repeated, chosen, named, tupled}
use Rattle.lalrpop_norm_tree.specs.Symbols.{at, no_parts, part_and}
use Rattle.lalrpop_norm_tree.specs.Items.{AlternativeData, RuleData, ItemData, GrammarData, match_item, extern_item, intern_item}
use Rattle.lalrpop_norm_tree.specs.Items.{rule_item, use_item}
use Rattle.std.specs.Prelude.{bytes_eq, ◌&&◌}
use Rattle.lalrpop_norm_model.specs.Enabled.{all_places, present}
use Rattle.lalrpop_norm_model.specs.Levels.{Leveled, is_named, has_levels, with_levels, levels_of, highest_level, previous_level}
use Rattle.lalrpop_norm_model.specs.Occurrences.{count_part, count_parts, own_bound}
use Rattle.lalrpop_norm_model.specs.Grammars.{is_nil}
use Rattle.lalrpop_norm_model.specs.ClosedTexts.{level_name}

-- the attributes without the first one of a name
abbrev pub without_first : List ℕ → Attributes → Attributes
without_first name no_attributes = no_attributes
without_first name (attribute_and a rest) = if is_named name a then rest else attribute_and a (without_first name rest)

-- A symbol with what `level` gives in place of each recursive occurrence (`own`), by how many there are before and after it; all
-- else stays.
abbrev mutual
  pub leveled_kind : (List ℕ → Bool) → (ℕ → ℕ → Kind) → ℕ → ℕ → Kind → Kind
  leveled_kind own level before after (nonterminal n) = if own n then level before after else nonterminal n
  leveled_kind own level before after (group ps) = group (leveled_parts own level before after ps)
  leveled_kind own level before after (call n ps) = call n (leveled_parts own level before after ps)
  leveled_kind own level before after (repeated op p) = repeated op (leveled_part own level before after p)
  leveled_kind own level before after (chosen p) = chosen (leveled_part own level before after p)
  leveled_kind own level before after (named n p) = named n (leveled_part own level before after p)
  leveled_kind own level before after (tupled ns p) = tupled ns (leveled_part own level before after p)
  leveled_kind own level before after k = k

  pub leveled_part : (List ℕ → Bool) → (ℕ → ℕ → Kind) → ℕ → ℕ → Part → Part
  leveled_part own level before after (at s k) = at s (leveled_kind own level before after k)

  pub leveled_parts : (List ℕ → Bool) → (ℕ → ℕ → Kind) → ℕ → ℕ → Parts → Parts
  leveled_parts own level before after no_parts = no_parts
  leveled_parts own level before after (part_and p ps) =
      part_and (leveled_part own level before (after + count_parts own ps) p)
      (leveled_parts own level (before + count_part own p) after ps)

-- the name that `level` gives, as a symbol
abbrev pub level_nonterminal : (ℕ → ℕ → List ℕ) → ℕ → ℕ → Kind
level_nonterminal level before after = nonterminal (level before after)

-- the name of a level of a rule
abbrev pub level_of_rule : RuleData → List (Option Leveled) → ℕ → List ℕ
level_of_rule r ps l = level_name r.name.0 (highest_level ps) l

-- a recursive occurrence: a reference of a rule, which is no macro, to itself
abbrev pub is_own : RuleData → List ℕ → Bool
is_own r n = is_nil r.args && bytes_eq n r.name.0

-- an alternative of a level: each recursive occurrence as the level of its bound, without the `precedence` and the `assoc` read
abbrev pub level_alternative : RuleData → List (Option Leveled) → Leveled → AlternativeData
level_alternative r ps a = record a.alternative {
  parts = leveled_parts (is_own r)
      (level_nonterminal (λ before after. level_of_rule r ps (own_bound a.side a.level (previous_level ps a.level) before after)))
      0 0 a.alternative.parts;
  attributes = without_first (codes "assoc") (without_first (codes "precedence") a.alternative.attributes);
}

-- the step to another rule: only its name, at the rule's span, without action code
abbrev pub step_alternative : Span → List ℕ → AlternativeData
step_alternative s n =
    record {
      span = s;
      parts = part_and (at s (nonterminal n)) no_parts;
      condition = None;
      action = None;
      attributes = no_attributes;
    }

abbrev pub step_alternatives : RuleData → List (Option Leveled) → Option ℕ → List AlternativeData
step_alternatives r ps None = []
step_alternatives r ps (Some l) = step_alternative r.span (level_of_rule r ps l) ∷ []

-- the alternatives of a level
abbrev pub of_level : ℕ → List Leveled → List Leveled
of_level l [] = []
of_level l (a ∷ rest) = if nat_eq a.level l then a ∷ of_level l rest else of_level l rest

-- the rule of a level: its own alternatives in order, then the step to the level below; its head is that of the written rule
abbrev pub level_rule : RuleData → List (Option Leveled) → ℕ → RuleData
level_rule r ps l = record r {
  name = record { 0 = level_of_rule r ps l };
  alternatives = map (level_alternative r ps) (of_level l (present ps)) ++ step_alternatives r ps (previous_level ps l);
}

-- the rules of the levels of a rule, rising; a rule without levels as it is
abbrev pub level_rules : RuleData → List RuleData
level_rules r =
    if has_levels (all_places r) then map (level_rule r (with_levels (all_places r)))
    (levels_of (with_levels (all_places r))) else r ∷ []

abbrev pub level_items : ItemData → List ItemData
level_items (rule_item r) = map rule_item (level_rules r)
level_items (match_item m) = match_item m ∷ []
level_items (extern_item t) = extern_item t ∷ []
level_items (intern_item t) = intern_item t ∷ []
level_items (use_item u) = use_item u ∷ []

-- the grammar with levels, made of a grammar whose names are resolved. What is read of the latter, its levels still within its
-- rules, is `leveled_rules`.
abbrev pub leveled_grammar : GrammarData → GrammarData
leveled_grammar g = record g { items = flat_map level_items g.items }
