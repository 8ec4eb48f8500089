-- The levels of a rule are numbers of 32 bits.
use Rattle.std.proofs.Common.{◌≡◌, inl, inr, ℕ, zero, suc, ◌<◌, ◌^◌, Bool, true, false, List, [], ◌∷◌, ◌++◌, length, map, refl, sym, ap, ◌∙◌, subst, arith, bytes_eq, lit<}
use Rattle.std.specs.Prelude.{Option, Some, None, unwrap_or, option_and_then, option_map, nat_lt, ◌&&◌, ◌⊎◌, if◌then◌else◌, codes}
use Rattle.std.specs.Str.Parse.{digits_value, without_leading_plus}
use Rattle.std.proofs.lemmas.Bool.{ltb-true, and_parts}
use Rattle.lalrpop_norm_tree_parts.specs.Attributes.{Attributes}
use Rattle.lalrpop_norm_tree.specs.Accessors.{or_else}
use Rattle.lalrpop_norm_tree.specs.Items.{AlternativeData, RuleData, ItemData, GrammarData, match_item, extern_item, intern_item, rule_item, use_item}
use Rattle.lalrpop_norm_theory.specs.Symbols.{Name, ClosedSymbol, reference}
use Rattle.lalrpop_norm_theory.specs.Rounds.{In}
use Rattle.lalrpop_norm_theory.proofs.RoundsLemmas.{in_cases}
use Rattle.lalrpop_norm_model.specs.Features.{Features, is_active}
use Rattle.lalrpop_norm_model.specs.Enabled.{PlacedAlternatives, present, enabled_places, enabled_grammar}
use Rattle.lalrpop_norm_model.specs.Scopes.{Global, globals}
use Rattle.lalrpop_norm_model.specs.Levels.{Leveled, all_digits, number_in, number_of, value_under, first_named, stated_level, level_stated, last_stated, up_to, level_at, leveled_at, map_numbered, with_levels, levels_of, greatest, highest_level}
use Rattle.lalrpop_norm_model.specs.WrittenRules.{WrittenRule, resolved_places, written_rule_with_levels, rules_through, written_rules, rule_named}
use Rattle.lalrpop_norm_model.specs.Grammars.{has_arguments, depth_of, level_within, references, rule_references, roots}
use Rattle.lalrpop_norm_model.proofs.LevelLemmas.{of_map, of_present, of_rising, greatest_is}

-- ---- numbers

below_bound : (bound v l : ℕ) (a b : Bool) → (b ≡ true → v < bound) → (if a && b then Some v else None) ≡ Some l → l < bound
below_bound bound v l true true h e = let same : v ≡ l = cc in let less : v < bound = h refl in rw (← same) less
below_bound bound v l true false h e = absurd (cc e)
below_bound bound v l false b h e = absurd (cc e)

number_below : (bound : ℕ) (digits : List ℕ) (l : ℕ) → number_in bound digits ≡ Some l → l < bound
number_below bound digits l e =
    below_bound bound (digits_value 10 digits) l (nat_lt 0 (length digits)) (all_digits digits && nat_lt (digits_value 10 digits) bound)
    (λ h. ltb-true (digits_value 10 digits) bound (and_parts (all_digits digits) (nat_lt (digits_value 10 digits) bound) h).1) e

text_below : (bound : ℕ) (o : Option (List ℕ)) (l : ℕ) → option_and_then (number_of bound) o ≡ Some l → l < bound
text_below bound None l e = absurd (cc e)
text_below bound (Some text) l e = number_below bound (without_leading_plus text) l e

stated_below : (attributes : Attributes) (l : ℕ) → stated_level attributes ≡ Some l → l < 2 ^ 32
stated_below attributes l e = text_below (2 ^ 32) (option_and_then (value_under (codes "level")) (first_named (codes "precedence") attributes)) l e

-- ---- indices

last_in : {A : Type 0} (xs : List (Option A)) (x : A) → last_stated xs ≡ Some x → In (Some x) xs
last_in [] x e = absurd (cc e)
last_in {A} (y ∷ xs) x e = by (last_stated xs) (λ h. last_in xs x h) e
  where
    by : (o : Option A) → (o ≡ Some x → In (Some x) xs) → or_else o y ≡ Some x → In (Some x) (y ∷ xs)
    by None h f = inl (sym f)
    by (Some z) h f = inr (h f)

place_below : (p : Option AlternativeData) (l : ℕ) → level_stated p ≡ Some l → l < 2 ^ 32
place_below None l e = absurd (cc e)
place_below (Some a) l e = stated_below a.attributes l e

last_below : (ps : PlacedAlternatives) (o : Option ℕ) → last_stated (map level_stated ps) ≡ o → unwrap_or o 0 < 2 ^ 32
last_below ps None e = lit< tt
last_below ps (Some l) e =
    let (p, i, same) = of_map level_stated (Some l) ps (last_in (map level_stated ps) l e) in
    place_below p l (sym same)

level_below : (ps : PlacedAlternatives) (k : ℕ) → level_at ps k < 2 ^ 32
level_below ps k = last_below (up_to k ps) (last_stated (map level_stated (up_to k ps))) refl

leveled_below : (ps : PlacedAlternatives) (k : ℕ) (p : Option AlternativeData) (a : Leveled) → Some a ≡ leveled_at ps k p → a.level < 2 ^ 32
leveled_below ps k None a e = absurd (cc e)
leveled_below ps k (Some d) a e =
    let same : level_at ps k ≡ a.level = sym (ap (λ (o : Option Leveled). unwrap_or (option_map (λ (x : Leveled). x.level) o) 0) e) in
    rw (← same) (level_below ps k)

numbered_below : (ps : PlacedAlternatives) (k : ℕ) (qs : PlacedAlternatives) (a : Leveled) → In (Some a) (map_numbered (leveled_at ps) k qs) → a.level < 2 ^ 32
numbered_below ps k [] a h = absurd h
numbered_below ps k (q ∷ qs) a (inl e) = leveled_below ps k q a e
numbered_below ps k (q ∷ qs) a (inr h) = numbered_below ps (suc k) qs a h

levels_below : (ps : PlacedAlternatives) (l : ℕ) → In l (levels_of (with_levels ps)) → l < 2 ^ 32
levels_below ps l h =
    let (a, i, same) = of_map (λ (x : Leveled). x.level) l (present (with_levels ps)) (of_rising l _ h) in
    rw same (numbered_below ps 0 ps a (of_present a (with_levels ps) i))

greatest_below : (ps : PlacedAlternatives) (o : Option ℕ) → greatest (levels_of (with_levels ps)) ≡ o → unwrap_or o 0 < 2 ^ 32
greatest_below ps None e = lit< tt
greatest_below ps (Some m) e = levels_below ps m (greatest_is (levels_of (with_levels ps)) m e).0

highest_below : (ps : PlacedAlternatives) → highest_level (with_levels ps) < 2 ^ 32
highest_below ps = greatest_below ps (greatest (levels_of (with_levels ps))) refl

-- ---- rules

-- a rule whose levels are those that its alternatives state
abbrev IsLeveledRule : WrittenRule → Type 0
IsLeveledRule r = (ps : PlacedAlternatives) × (r.places ≡ with_levels ps)

-- each rule taken is one of those that f gives
through : (f : RuleData → List WrittenRule) (R : WrittenRule → Type 0) → ((d : RuleData) (r : WrittenRule) → In r (f d) → R r) →
    (items : List ItemData) (r : WrittenRule) → In r (rules_through f items) → R r
through f R h [] r i = absurd i
through f R h (rule_item d ∷ items) r i = elim (in_cases r (f d) (rules_through f items) i) [ inl j ↦ h d r j | inr j ↦ through f R h items r j ]
through f R h (match_item m ∷ items) r i = through f R h items r i
through f R h (extern_item t ∷ items) r i = through f R h items r i
through f R h (intern_item t ∷ items) r i = through f R h items r i
through f R h (use_item u ∷ items) r i = through f R h items r i

taken : (ds : List Global) (d : RuleData) (ps : PlacedAlternatives) (b : Bool) (r : WrittenRule) →
    In r (if b then written_rule_with_levels ds d ps ∷ [] else []) → IsLeveledRule r
taken ds d ps true r (inl e) = (resolved_places ds d ps, ap (λ (x : WrittenRule). x.places) e)
taken ds d ps true r (inr i) = absurd i
taken ds d ps false r i = absurd i

written_leveled : (fs : Features) (g : GrammarData) (r : WrittenRule) → In r (written_rules fs g) → IsLeveledRule r
written_leveled fs g r i =
    through (λ d. if is_active fs d.attributes then written_rule_with_levels (globals (enabled_grammar fs g)) d (enabled_places fs d) ∷ [] else [])
    IsLeveledRule (λ d s j. taken (globals (enabled_grammar fs g)) d (enabled_places fs d) (is_active fs d.attributes) s j) g.items r i

named_in : (rs : List WrittenRule) (n : Name) (r : WrittenRule) → rule_named rs n ≡ Some r → In r rs
named_in [] n r e = absurd (cc e)
named_in (s ∷ rs) n r e = by (bytes_eq s.name n) (λ f. named_in rs n r f) e
  where
    by : (b : Bool) → (rule_named rs n ≡ Some r → In r rs) → (if b then Some s else rule_named rs n) ≡ Some r → In r (s ∷ rs)
    by true h f = inl (let same : r ≡ s = cc in same)
    by false h f = inr (h f)

-- a bounded reference is to a level of a rule
leveled_in : (r : WrittenRule) (n : Name) (l : ℕ) (ls : List ℕ) → In (reference n (Some l)) (map (λ m. reference r.name (Some m)) ls) → In l ls
leveled_in r n l [] h = absurd h
leveled_in r n l (m ∷ ls) (inl e) = inl (let same : l ≡ m = cc in same)
leveled_in r n l (m ∷ ls) (inr h) = inr (leveled_in r n l ls h)

rule_reference_level : (r : WrittenRule) (n : Name) (l : ℕ) (a b : Bool) →
    In (reference n (Some l)) (if a then [] else (if b then map (λ m. reference r.name (Some m)) (levels_of r.places) else reference r.name None ∷ [])) →
    In l (levels_of r.places)
rule_reference_level r n l true b h = absurd h
rule_reference_level r n l false true h = leveled_in r n l (levels_of r.places) h
rule_reference_level r n l false false (inl e) = absurd (cc e)
rule_reference_level r n l false false (inr h) = absurd h

abbrev HasItsLevel : List WrittenRule → ℕ → Type 0
HasItsLevel rs l = (r : WrittenRule) × In r rs × In l (levels_of r.places)

reference_level : (rs : List WrittenRule) (n : Name) (l : ℕ) → In (reference n (Some l)) (references rs) → HasItsLevel rs l
reference_level [] n l h = absurd h
reference_level (r ∷ rs) n l h = elim (in_cases (reference n (Some l)) (rule_references r) (references rs) h) [
  | inl i ↦ (r, inl refl, rule_reference_level r n l (has_arguments r) r.has_levels i)
  | inr i ↦ (let (s, j, k) = reference_level rs n l i in (s, inr j, k))
]

no_level_of : (n m : Name) (l : ℕ) (b : Bool) (rest : List ClosedSymbol) → (In (reference n (Some l)) rest → ⊥) →
    In (reference n (Some l)) ((if b then [] else reference m None ∷ []) ++ rest) → ⊥
no_level_of n m l true rest h i = h i
no_level_of n m l false rest h (inl e) = cc e
no_level_of n m l false rest h (inr i) = h i

no_root_level : (rs : List WrittenRule) (n : Name) (l : ℕ) → In (reference n (Some l)) (roots rs) → ⊥
no_root_level [] n l h = h
no_root_level (r ∷ rs) n l h = no_level_of n r.name l (has_arguments r) (roots rs) (λ i. no_root_level rs n l i) h

-- ---- the depth of a reference

module _ (fs : Features) (g : GrammarData) (n : Name) where
  whole_depth : (o : Option WrittenRule) → rule_named (written_rules fs g) n ≡ o → depth_of o None < 2 ^ 32
  whole_depth None e = lit< tt
  whole_depth (Some r) e =
      let (ps, same) = written_leveled fs g r (named_in (written_rules fs g) n r e) in
      rw same (highest_below ps)

  level_depth : (l : ℕ) (o : Option WrittenRule) → l < 2 ^ 32 → depth_of o (Some l) < 2 ^ 32
  level_depth l None h = lit< tt
  level_depth l (Some r) h = h

  pub depth_narrow : (b : Option ℕ) → In (reference n b) (roots (written_rules fs g) ++ references (written_rules fs g)) →
      depth_of (rule_named (written_rules fs g) n) b < 2 ^ 32
  depth_narrow None h = whole_depth (rule_named (written_rules fs g) n) refl
  depth_narrow (Some l) h = elim (in_cases (reference n (Some l)) (roots (written_rules fs g)) (references (written_rules fs g)) h) [
    | inl i ↦ absurd (no_root_level (written_rules fs g) n l i)
    | inr i ↦ (let (r, j, k) = reference_level (written_rules fs g) n l i in
        let (ps, same) = written_leveled fs g r j in
        level_depth l (rule_named (written_rules fs g) n) (levels_below ps l (subst (λ (qs : List (Option Leveled)). In l (levels_of qs)) same k)))
  ]
