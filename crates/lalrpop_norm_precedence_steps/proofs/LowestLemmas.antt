-- If no fault of levels holds, alternatives of the lowest level have the associativity `all`.
use Rattle.std.proofs.Common.{◌≡◌, ◌⊎◌, inl, inr, ℕ, ◌<◌, ◌≤◌, Bool, true, false, ◌||◌, List, [], ◌∷◌, ◌++◌, map, Option, Some, None, refl, sym, ap, subst, ◌∙◌, arith}
use Rattle.std.specs.Prelude.{flat_map, option_and_then, unwrap_or, is_some, nat_lt, nat_eq, codes, if◌then◌else◌}
use Rattle.std.proofs.lemmas.Bool.{cases_Bool, ltb-true, ltb-false, eq-eqb}
use Rattle.lalrpop_norm_tree_parts.specs.Attributes.{AttributeData}
use Rattle.lalrpop_norm_tree.specs.Accessors.{or_else}
use Rattle.lalrpop_norm_tree.specs.Items.{AlternativeData, RuleData, GrammarData, rule_item}
use Rattle.lalrpop_norm_faults.specs.declared.kind.FaultKind.TheVariants.{SideOnLowest}
use Rattle.lalrpop_norm_theory.specs.Rounds.{In}
use Rattle.lalrpop_norm_model.specs.Features.{Features}
use Rattle.lalrpop_norm_model.specs.Enabled.{PlacedAlternatives, all_places, present, enabled_grammar}
use Rattle.lalrpop_norm_model.specs.Scopes.{globals}
use Rattle.lalrpop_norm_model.specs.Levels.{Side, left, right, neither, every, Leveled, first_named, value_under, side_named, stated_level, stated_side, with_levels, greatest, below, previous_level}
use Rattle.lalrpop_norm_model.specs.Stated.{level_after, side_after, with_stated, handed_on}
use Rattle.lalrpop_norm_model.specs.WrittenRules.{WrittenRule, written_rule_with_levels, written_rules, leveled_rules}
use Rattle.lalrpop_norm_model.specs.Renumbered.{prepared_grammar, closed_up}
use Rattle.lalrpop_norm_model.proofs.LevelLemmas.{in_map, in_present, in_rising, has_previous}
use Rattle.lalrpop_norm_model.proofs.HandedLemmas.{levels_are_handed_on}
use Rattle.lalrpop_norm_model.proofs.ResolvedLemmas.{resolved_once}
use Rattle.lalrpop_norm_model.proofs.WrittenLemmas.{of_rules}
use Rattle.lalrpop_norm_model.proofs.LevelRuleLemmas.{resolved_rule_places}
use Rattle.lalrpop_norm_model.proofs.RenumberedLemmas.{disabled_are_left_out, levels_closed}
use Rattle.lalrpop_norm_model.proofs.InferenceLemmas.{none_made, both_empty}
use Rattle.lalrpop_norm_model.proofs.BoundLemmas.{bounds_on_every_side}
use Rattle.lalrpop_norm_faults.proofs.FaultLemmas.{not_fault}
use Rattle.lalrpop_norm_precedence_steps.specs.LevelFaults.{name_span, missing_level_faults, level_attribute_faults, lesser_level, least, lowest_level, is_narrow, is_barred, barred_faults, lowest_faults, lowest_level_faults, level_faults, item_level_faults, grammar_level_faults}
use Rattle.lalrpop_norm_precedence_steps.specs.Laws.{LowestLevelsBoundThemselves}

-- ---- the least

-- m is in the list, and none is less
abbrev IsLeast : ℕ → List ℕ → Type 0
IsLeast m ls = In m ls × ((n : ℕ) → In n ls → m ≤ n)

lesser_at : (l m : ℕ) (ls : List ℕ) (b : Bool) → nat_lt m l ≡ b → IsLeast m ls → IsLeast (if b then m else l) (l ∷ ls)
lesser_at l m ls true e h = (inr h.0, all)
  where
    all : (n : ℕ) → In n (l ∷ ls) → m ≤ n
    all n (inl i) = let less : m < l = ltb-true m l e in omega arith
    all n (inr i) = h.1 n i
lesser_at l m ls false e h = (inl refl, all)
  where
    all : (n : ℕ) → In n (l ∷ ls) → l ≤ n
    all n (inl i) = omega arith
    all n (inr i) = let most : m ≤ n = h.1 n i in let less : l ≤ m = ltb-false m l e in omega arith

-- nothing is in a list without a least
no_least : (ls : List ℕ) (n : ℕ) → least ls ≡ None → In n ls → ⊥
no_least [] n e h = h
no_least (l ∷ ls) n e h = grind arith

least_of : (l : ℕ) (ls : List ℕ) (o : Option ℕ) → least ls ≡ o → ((m : ℕ) → o ≡ Some m → IsLeast m ls) → IsLeast (lesser_level l o) (l ∷ ls)
least_of l ls None e f = (inl refl, all)
  where
    all : (n : ℕ) → In n (l ∷ ls) → l ≤ n
    all n (inl i) = omega arith
    all n (inr i) = absurd (no_least ls n e i)
least_of l ls (Some m) e f = lesser_at l m ls (nat_lt m l) refl (f m refl)

least_is : (ls : List ℕ) (m : ℕ) → least ls ≡ Some m → IsLeast m ls
least_is [] m e = absurd (grind arith)
least_is (l ∷ ls) m e =
    let same : lesser_level l (least ls) ≡ m = cc e in
    subst (λ (k : ℕ). IsLeast k (l ∷ ls)) same (least_of l ls (least ls) refl (λ k i. least_is ls k i))

none_some : {A : Type 0} {o : Option A} {x : A} → o ≡ None → o ≡ Some x → ⊥
none_some d e = grind arith

abbrev levels_in : List (Option Leveled) → List ℕ
levels_in ps = map (λ (a : Leveled). a.level) (present ps)

-- a level that has none below it is the lowest
is_lowest : (ps : List (Option Leveled)) (a : Leveled) → In (Some a) ps → previous_level ps a.level ≡ None → a.level ≡ lowest_level ps
is_lowest ps a i none = by (least (levels_in ps)) refl
  where
    here : In a.level (levels_in ps)
    here = in_map (λ (b : Leveled). b.level) a (present ps) (in_present a ps i)

    by : (o : Option ℕ) → least (levels_in ps) ≡ o → a.level ≡ unwrap_or o 0
    by None e = absurd (no_least (levels_in ps) a.level e here)
    by (Some m) e =
        let h = least_is (levels_in ps) m e in
        let most : m ≤ a.level = h.1 a.level here in
        elim (cases_Bool (nat_lt m a.level)) [
          | inl t ↦ (let lower = has_previous ps a.level m (in_rising m (levels_in ps) h.0) (ltb-true m a.level t) in absurd (none_some none lower.1))
          | inr t ↦ (let less : a.level ≤ m = ltb-false m a.level t in omega arith)
        ]

-- ---- what is barred at the lowest level

not_barred : (lowest level : ℕ) (a : AlternativeData) → level ≡ lowest → lowest_faults lowest level a ≡ [] →
    barred_faults a (first_named (codes "assoc") a.attributes) ≡ []
unfolding lowest_faults
not_barred lowest level a same e =
    let here : nat_eq level lowest ≡ true = eq-eqb level lowest same in
    subst (λ (b : Bool). (if b then barred_faults a (first_named (codes "assoc") a.attributes) else []) ≡ []) here e

neither_one : (b c : Bool) → (b || c) ≡ false → (b ≡ false) × (c ≡ false)
neither_one true c e = absurd (cc e)
neither_one false c e = (refl, e)

-- it states no associativity, or a wide one and no level
abbrev IsWide : Option ℕ → Option Side → Type 0
IsWide o s = (s ≡ None) ⊎ ((is_some o ≡ false) × (is_narrow s ≡ false))

wide_of : (a : AlternativeData) (x : Option AttributeData) → first_named (codes "assoc") a.attributes ≡ x → barred_faults a x ≡ [] →
    IsWide (stated_level a.attributes) (stated_side a.attributes)
wide_of a None e h = inl (ap (λ (y : Option AttributeData). option_and_then side_named (option_and_then (value_under (codes "side")) y)) e)
wide_of a (Some x) e h =
    inr (neither_one (is_some (stated_level a.attributes)) (is_narrow (stated_side a.attributes)) (not_fault (is_barred a) (SideOnLowest, name_span x) h))

wide_after : (s side : Option Side) → is_narrow s ≡ false → unwrap_or side every ≡ every → unwrap_or (or_else s side) every ≡ every
wide_after None side e h = h
wide_after (Some left) side e h = absurd (cc e)
wide_after (Some right) side e h = absurd (cc e)
wide_after (Some neither) side e h = absurd (cc e)
wide_after (Some every) side e h = refl

-- ---- from index to index

module _ (lowest : ℕ) where
  -- if the inherited level is the lowest, the associativity inherited with it is `all`
  abbrev IsOpen : Option ℕ → Option Side → Type 0
  IsOpen level side = unwrap_or level 0 ≡ lowest → unwrap_or side every ≡ every

  open_by : (level : Option ℕ) (side : Option Side) → IsOpen level side → (o : Option ℕ) (s : Option Side) → IsWide o s →
      unwrap_or (or_else o level) 0 ≡ lowest → unwrap_or (if is_some o then s else or_else s side) every ≡ every
  open_by level side h (Some l) s (inl none) same = ap (λ (t : Option Side). unwrap_or t every) none
  open_by level side h (Some l) s (inr w) same = absurd (cc w.0)
  open_by level side h None s (inl none) same = ap (λ (t : Option Side). unwrap_or (or_else t side) every) none ∙ h same
  open_by level side h None s (inr w) same = wide_after s side w.1 (h same)

  open_after : (level : Option ℕ) (side : Option Side) (a : AlternativeData) → IsOpen level side →
      lowest_faults lowest (unwrap_or (level_after level (Some a)) 0) a ≡ [] → IsOpen (level_after level (Some a)) (side_after side (Some a))
  open_after level side a h e same =
      open_by level side h (stated_level a.attributes) (stated_side a.attributes)
      (wide_of a (first_named (codes "assoc") a.attributes) refl (not_barred lowest (unwrap_or (level_after level (Some a)) 0) a same e)) same

  open_case : (level : Option ℕ) (side : Option Side) (x : AlternativeData) (rest : List (Option Leveled)) → IsOpen level side →
      ((a : Leveled) → In (Some a) rest → a.level ≡ lowest → a.side ≡ every) →
      (a : Leveled) → In (Some a) (Some (with_stated level side x) ∷ rest) → a.level ≡ lowest → a.side ≡ every
  open_case level side x rest h later a (inl is) same =
      let here : a ≡ with_stated level side x = cc is in
      ap (λ (b : Leveled). b.side) here ∙ h (sym (ap (λ (b : Leveled). b.level) here) ∙ same)
  open_case level side x rest h later a (inr i) same = later a i same

  open_sides : (level : Option ℕ) (side : Option Side) (ps : PlacedAlternatives) → IsOpen level side →
      flat_map (λ (b : Leveled). lowest_faults lowest b.level b.alternative) (present (handed_on level side ps)) ≡ [] →
      (a : Leveled) → In (Some a) (handed_on level side ps) → a.level ≡ lowest → a.side ≡ every
  open_sides level side [] h e a i same = absurd i
  open_sides level side (None ∷ ps) h e a (inl is) same = absurd (cc is)
  open_sides level side (None ∷ ps) h e a (inr i) same = open_sides level side ps h e a i same
  open_sides level side (Some x ∷ ps) h e a i same =
      let rest = handed_on (level_after level (Some x)) (side_after side (Some x)) ps in
      let none = both_empty (lowest_faults lowest (unwrap_or (level_after level (Some x)) 0) x)
      (flat_map (λ (b : Leveled). lowest_faults lowest b.level b.alternative) (present rest)) e in
      let next = open_after level side x h none.0 in
      open_case (level_after level (Some x)) (side_after side (Some x)) x rest next
      (open_sides (level_after level (Some x)) (side_after side (Some x)) ps next none.1) a i same

-- an alternative of the lowest level has the associativity `all`
side_on_lowest : (ps : PlacedAlternatives) → lowest_level_faults (with_levels ps) ≡ [] → (a : Leveled) → In (Some a) (with_levels ps) →
    previous_level (with_levels ps) a.level ≡ None → a.side ≡ every
side_on_lowest ps e a i none =
    let lowest = lowest_level (with_levels ps) in
    open_sides lowest None None ps (λ same. refl)
    (subst (λ qs. flat_map (λ (b : Leveled). lowest_faults lowest b.level b.alternative) (present qs) ≡ []) (levels_are_handed_on ps) e)
    a (subst (λ qs. In (Some a) qs) (levels_are_handed_on ps) i) (is_lowest (with_levels ps) a i none)

-- ---- of a grammar

lowest_of_rule : (d : RuleData) → level_faults d ≡ [] → lowest_level_faults (with_levels (all_places d)) ≡ []
lowest_of_rule d e =
    (both_empty (missing_level_faults d.alternatives ++ flat_map level_attribute_faults d.alternatives) (lowest_level_faults (with_levels (all_places d))) e).1

the_one : {A : Type 0} {x y : A} → In x (y ∷ []) → x ≡ y
the_one (inl is) = is
the_one (inr h) = absurd h

side_of_written : (fs : Features) (g : GrammarData) → grammar_level_faults (prepared_grammar fs g) ≡ [] → (r : WrittenRule) → In r (written_rules fs g) →
    (a : Leveled) → In (Some a) r.places → previous_level r.places a.level ≡ None → a.side ≡ every
side_of_written fs g e r i a j none =
    let p = prepared_grammar fs g in
    let listed : In (closed_up r) (leveled_rules p) = subst (λ rs. In (closed_up r) rs) (sym (disabled_are_left_out fs g)) (in_map closed_up r (written_rules fs g) i) in
    let (d, k, from) = of_rules (λ (q : RuleData). written_rule_with_levels (globals p) q (all_places q) ∷ []) p.items (closed_up r) listed in
    let places : (closed_up r).places ≡ with_levels (all_places d) =
    ap (λ (w : WrittenRule). w.places) (the_one from) ∙ ap with_levels (resolved_rule_places p (resolved_once (enabled_grammar fs g)) d k) in
    let faultless : level_faults d ≡ [] = none_made item_level_faults p.items e (rule_item d) k in
    side_on_lowest (all_places d) (lowest_of_rule d faultless) a
    (subst (λ qs. In (Some a) qs) places (in_map Some a (present r.places) (in_present a r.places j)))
    (subst (λ qs. previous_level qs a.level ≡ None) places (ap (λ ls. greatest (below a.level ls)) (levels_closed r) ∙ none))

pub lowest_levels_bound_themselves : LowestLevelsBoundThemselves
lowest_levels_bound_themselves fs g e r i a j none =
    let side = side_of_written fs g e r i a j none in
    (side, λ levels scoped. bounds_on_every_side (written_rules fs g) r a levels side scoped)
