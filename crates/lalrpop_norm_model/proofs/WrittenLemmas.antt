-- What a written grammar is read as: of its rules only the names are to be looked at.
use Rattle.std.proofs.Common.{◌≡◌, inl, inr, ℕ, suc, ◌<◌, ◌≤◌, List, [], ◌∷◌, length, Option, Some, None, Bool, true, false, refl, sym, ap, ◌∙◌, subst, arith}
use Rattle.std.specs.Prelude.{slice_get, option_map, option_and_then, is_some, codes, ◌^◌, if◌then◌else◌}
use Rattle.std.proofs.lemmas.Bool.{or_parts}
use Rattle.lalrpop_norm_tree_parts.specs.Attributes.{AttributeData}
use Rattle.lalrpop_norm_tree.specs.Items.{AlternativeData, RuleData, ItemData, GrammarData, match_item, extern_item, intern_item, rule_item, use_item}
use Rattle.lalrpop_norm_theory.specs.Rounds.{In}
use Rattle.lalrpop_norm_model.specs.Features.{is_active}
use Rattle.lalrpop_norm_model.specs.Enabled.{PlacedAlternatives, enabled_places, all_places, enabled_grammar}
use Rattle.lalrpop_norm_model.specs.Scopes.{Global, globals, sense_of, resolved_alternative}
use Rattle.lalrpop_norm_model.specs.Levels.{every, Leveled, first_named, value_under, number_of, has_level_attribute, stated_level, level_stated, has_levels, leveled_at, level_at, map_numbered, with_levels, without_levels, levels_of}
use Rattle.lalrpop_norm_model.specs.WrittenRules.{WrittenRule, resolved_places, written_rule_with_levels, flat_rule, rules_through, leveled_rules}
use Rattle.lalrpop_norm_model.specs.Stated.{IsRising, HasLevel}
use Rattle.lalrpop_norm_model.specs.Scoped.{NamesAreScoped, IsScoped}
use Rattle.lalrpop_norm_model.specs.Laws.{AreScopedByNames, ScopedAsWritten}
use Rattle.lalrpop_norm_theory.proofs.RoundsLemmas.{in_cases}
use Rattle.lalrpop_norm_model.proofs.LevelLemmas.{in_map, of_map, at_in, level_had, had_level, levels_are_listed}
use Rattle.lalrpop_norm_model.proofs.StatedLemmas.{levels_are_stated}

-- ---- lists

pub of_numbered : {A B : Type 0} (f : ℕ → A → B) (j : ℕ) (xs : List A) (y : B) → In y (map_numbered f j xs) → (k : ℕ) × (x : A) × In x xs × (y ≡ f k x)
of_numbered f j [] y h = absurd h
of_numbered f j (x ∷ xs) y (inl e) = (j, x, inl refl, e)
of_numbered f j (x ∷ xs) y (inr h) = let (k, z, i, e) = of_numbered f (suc j) xs y h in (k, z, inr i, e)

pub in_numbered : {A B : Type 0} (f : ℕ → A → B) (j : ℕ) (xs : List A) (x : A) → In x xs → (k : ℕ) × In (f k x) (map_numbered f j xs)
in_numbered f j [] x h = absurd h
in_numbered f j (z ∷ xs) x (inl e) = (j, inl (ap (f j) e))
in_numbered f j (z ∷ xs) x (inr h) = let (k, i) = in_numbered f (suc j) xs x h in (k, inr i)

-- a rule among those taken comes from a rule of the grammar
pub of_rules : (f : RuleData → List WrittenRule) (items : List ItemData) (r : WrittenRule) → In r (rules_through f items) →
    (d : RuleData) × In (rule_item d) items × In r (f d)
of_rules f [] r h = absurd h
of_rules f (rule_item d ∷ items) r h = elim (in_cases r (f d) (rules_through f items) h) [
  | inl i ↦ (d, inl refl, i)
  | inr i ↦ (let (e, j, k) = of_rules f items r i in (e, inr j, k))
]
of_rules f (match_item m ∷ items) r h = let (e, j, k) = of_rules f items r h in (e, inr j, k)
of_rules f (extern_item t ∷ items) r h = let (e, j, k) = of_rules f items r h in (e, inr j, k)
of_rules f (intern_item t ∷ items) r h = let (e, j, k) = of_rules f items r h in (e, inr j, k)
of_rules f (use_item u ∷ items) r h = let (e, j, k) = of_rules f items r h in (e, inr j, k)

-- ---- levels of one rule

-- a list of numbers in which nothing but 0 is, rising, has one at most
one_at_most : (ls : List ℕ) → IsRising ls → ((l : ℕ) → In l ls → l ≡ 0) → length ls ≤ 1
one_at_most [] r z = omega arith
one_at_most (l ∷ []) r z = omega arith
one_at_most (l ∷ m ∷ ls) r z =
    let less : l < m = r.0 m (inl refl) in
    let zero : m ≡ 0 = z m (inr (inl refl)) in
    absurd (omega arith)

some_number : (l : ℕ) (ls : List ℕ) → In l ls → 0 < length ls
some_number l [] h = absurd h
some_number l (m ∷ ls) h = omega arith

no_two : (ps : List (Option Leveled)) → ((l : ℕ) → HasLevel ps l → l ≡ 0) → length (levels_of ps) ≤ 1
no_two ps z = one_at_most (levels_of ps) (levels_are_listed ps).0 (λ l h. z l (level_had ps l h))

has_some : (ps : PlacedAlternatives) → has_levels ps ≡ true → (a : AlternativeData) × In (Some a) ps
has_some [] h = absurd (cc h)
has_some (None ∷ ps) h = let (a, i) = has_some ps h in (a, inr i)
has_some (Some a ∷ ps) h = (a, inl refl)

has_none : (ps : PlacedAlternatives) (a : AlternativeData) → has_levels ps ≡ false → In (Some a) ps → has_level_attribute a ≡ false
has_none [] a h i = absurd i
has_none (None ∷ ps) a h (inl e) = absurd (grind arith)
has_none (None ∷ ps) a h (inr i) = has_none ps a h i
has_none (Some b ∷ ps) a h (inl e) =
    let same : a ≡ b = cc e in subst (λ (c : AlternativeData). has_level_attribute c ≡ false) (sym same) (or_parts (has_level_attribute b) (has_levels ps) h).0
has_none (Some b ∷ ps) a h (inr i) = has_none ps a (or_parts (has_level_attribute b) (has_levels ps) h).1 i

pub not_there : (o : Option AttributeData) → is_some o ≡ false → o ≡ None
not_there None e = refl
not_there (Some x) e = absurd (cc e)

-- an alternative without these attributes states no level
states_none : (a : AlternativeData) → has_level_attribute a ≡ false → stated_level a.attributes ≡ None
states_none a h =
    let first = first_named (codes "precedence") a.attributes in
    let none : first ≡ None = not_there first (or_parts (is_some first) (is_some (first_named (codes "assoc") a.attributes)) h).0 in
    ap (λ (o : Option AttributeData). option_and_then (number_of (2 ^ 32)) (option_and_then (value_under (codes "level")) o)) none

abbrev level_in : Option Leveled → ℕ
level_in None = 0
level_in (Some a) = a.level

module _ (ds : List Global) (d : RuleData) (ps : PlacedAlternatives) where
  abbrev qs : PlacedAlternatives
  qs = resolved_places ds d ps

  resolved_none : has_levels ps ≡ false → (q : Option AlternativeData) → In q qs → level_stated q ≡ None
  resolved_none h q i =
      let (p, j, e) = of_map (option_map (resolved_alternative (sense_of ds d.args))) q ps i in
      rw e (by p j)
    where
      by : (p : Option AlternativeData) → In p ps → level_stated (option_map (resolved_alternative (sense_of ds d.args)) p) ≡ None
      by None j = refl
      by (Some a) j = states_none a (has_none ps a h j)

  level_zero : has_levels ps ≡ false → (k : ℕ) → level_at qs k ≡ 0
  level_zero h k = elim (levels_are_stated qs k) [
    | inl s ↦ absurd (none s.0 (level_at qs k) (slice_get qs s.0) refl s.2)
    | inr s ↦ s.1
  ]
    where
      none : (j l : ℕ) (o : Option (Option AlternativeData)) → slice_get qs j ≡ o → option_and_then level_stated o ≡ Some l → ⊥
      none j l None e i = grind arith
      none j l (Some q) e i = let n : level_stated q ≡ None = resolved_none h q (at_in qs j q e) in grind arith

  all_zero : has_levels ps ≡ false → (l : ℕ) → HasLevel (with_levels qs) l → l ≡ 0
  all_zero h l (a, i, e) =
      let (k, x, j, is) = of_numbered (leveled_at qs) 0 qs (Some a) i in
      by k x is
    where
      by : (k : ℕ) (x : Option AlternativeData) → Some a ≡ leveled_at qs k x → l ≡ 0
      by k None is = absurd (grind arith)
      by k (Some b) is =
          sym e ∙ ap level_in is ∙ level_zero h k

  leveled_one : (written_rule_with_levels ds d ps).has_levels ≡ false → length (levels_of (written_rule_with_levels ds d ps).places) ≤ 1
  leveled_one h = no_two (with_levels qs) (all_zero h)

  pub leveled_some : (written_rule_with_levels ds d ps).has_levels ≡ true → 0 < length (levels_of (written_rule_with_levels ds d ps).places)
  leveled_some h =
      let (a, i) = has_some ps h in
      let j = in_map (option_map (resolved_alternative (sense_of ds d.args))) (Some a) ps i in
      let (k, m) = in_numbered (leveled_at qs) 0 qs _ j in
      some_number _ (levels_of (with_levels qs)) (had_level (with_levels qs) _ (_, m, refl))

  flat_one : length (levels_of (flat_rule ds d ps).places) ≤ 1
  flat_one = no_two (without_levels qs) zero
    where
      zero : (l : ℕ) → HasLevel (without_levels qs) l → l ≡ 0
      zero l (a, i, e) = let (q, j, is) = of_map _ (Some a) qs i in by q is
        where
          by : (q : Option AlternativeData) → Some a ≡ option_map (λ b. record { level = 0; side = every; alternative = b }) q → l ≡ 0
          by None is = absurd (grind arith)
          by (Some b) is = sym e ∙ ap level_in is

-- ---- the rules of a grammar

scoped_by : (rs : List WrittenRule) → ((r : WrittenRule) → In r rs → r.has_levels ≡ true → 0 < length (levels_of r.places)) →
    ((r : WrittenRule) → In r rs → r.has_levels ≡ false → length (levels_of r.places) ≤ 1) → AreScopedByNames rs
scoped_by rs some one = ((λ names. record { names = names; some_level = some }), one)

-- a rule that is one of one
abbrev LeveledFit : WrittenRule → Type 0
LeveledFit r = (r.has_levels ≡ true → 0 < length (levels_of r.places)) × (r.has_levels ≡ false → length (levels_of r.places) ≤ 1)

leveled_fit : (ds : List Global) (d : RuleData) (ps : PlacedAlternatives) (r : WrittenRule) → In r (written_rule_with_levels ds d ps ∷ []) → LeveledFit r
leveled_fit ds d ps r (inl e) = subst LeveledFit (sym e) (leveled_some ds d ps, leveled_one ds d ps)
leveled_fit ds d ps r (inr h) = absurd h

active_fit : (ds : List Global) (d : RuleData) (ps : PlacedAlternatives) (r : WrittenRule) (b : Bool) → In r (if b then written_rule_with_levels ds d ps ∷ [] else []) → LeveledFit r
active_fit ds d ps r true h = leveled_fit ds d ps r h
active_fit ds d ps r false h = absurd h

flat_fit : (ds : List Global) (d : RuleData) (ps : PlacedAlternatives) (r : WrittenRule) → In r (flat_rule ds d ps ∷ []) → LeveledFit r
flat_fit ds d ps r (inl e) = subst LeveledFit (sym e) ((λ h. absurd (cc h)), λ h. flat_one ds d ps)
flat_fit ds d ps r (inr h) = absurd h

through_fit : (f : RuleData → List WrittenRule) (items : List ItemData) → ((d : RuleData) (r : WrittenRule) → In r (f d) → LeveledFit r) →
    AreScopedByNames (rules_through f items)
through_fit f items fit =
    scoped_by (rules_through f items)
    (λ r h. (fit (of_rules f items r h).0 r (of_rules f items r h).2).0)
    (λ r h. (fit (of_rules f items r h).0 r (of_rules f items r h).2).1)

pub scoped_as_written : ScopedAsWritten
scoped_as_written fs g = (
  through_fit (λ d. if is_active fs d.attributes then written_rule_with_levels (globals (enabled_grammar fs g)) d (enabled_places fs d) ∷ [] else []) g.items
      (λ d r h. active_fit (globals (enabled_grammar fs g)) d (enabled_places fs d) r (is_active fs d.attributes) h),
  through_fit (λ d. written_rule_with_levels (globals g) d (all_places d) ∷ []) g.items (λ d r h. leveled_fit (globals g) d (all_places d) r h),
  through_fit (λ d. flat_rule (globals g) d (all_places d) ∷ []) g.items (λ d r h. flat_fit (globals g) d (all_places d) r h),
)

pub scoped_by_names : (g : GrammarData) → NamesAreScoped (leveled_rules g) → IsScoped (leveled_rules g)
scoped_by_names g names =
    (through_fit (λ d. written_rule_with_levels (globals g) d (all_places d) ∷ []) g.items (λ d r h. leveled_fit (globals g) d (all_places d) r h)).0 names
