-- The rules that are made are the rules of the levels.
use Rattle.std.proofs.Common.{◌≡◌, inl, inr, ℕ, suc, ◌<◌, ◌≤◌, List, [], ◌∷◌, ◌++◌, length, map, cond, Option, Some, None, Bool, true, false, Decides, refl, sym, ap, ap₂, ◌∙◌, subst, arith, append_assoc}
use Rattle.std.specs.Prelude.{nat_eq, nat_lt, option_map, unwrap_or, if◌then◌else◌}
use Rattle.std.proofs.lemmas.Bool.Decides.{Decides-eqb, Decides-ltb}
use Rattle.std.proofs.lemmas.List.{length-map}
use Rattle.lalrpop_norm_theory.specs.Rounds.{In}
use Rattle.lalrpop_norm_tree.specs.Items.{AlternativeData, RuleData, alternative_view}
use Rattle.lalrpop_norm_tree.specs.Symbols.{nonterminal}
use Rattle.lalrpop_norm_model.specs.Enabled.{all_places, present}
use Rattle.lalrpop_norm_model.specs.Levels.{Side, every, Leveled, greatest, greater, below, has_levels, with_levels, levels_of, highest_level, previous_level}
use Rattle.lalrpop_norm_model.specs.Stated.{IsRising, level_after, side_after, handed_on}
use Rattle.lalrpop_norm_model.specs.Occurrences.{own_bound}
use Rattle.lalrpop_norm_model.specs.ClosedTexts.{level_name}
use Rattle.lalrpop_norm_model.specs.LevelRules.{leveled_parts, level_nonterminal, level_of_rule, is_own, level_alternative, step_alternatives, of_level, level_rule, level_rules}
use Rattle.lalrpop_norm_model.proofs.LevelLemmas.{rising_rises}
use Rattle.lalrpop_norm_model.proofs.HandedLemmas.{levels_are_handed_on}
use Rattle.lalrpop_norm_tree.specs.declared.items.Alternative.{Alternative}
use Rattle.lalrpop_norm_precedence_steps.specs.declared.levels.AlternativeLevel.{AlternativeLevel}
use Rattle.lalrpop_norm_precedence_steps.specs.LevelFaults.{levels_and_sides}
use Rattle.lalrpop_norm_precedence_steps.specs.StatedLevels.{alternative_level_view}
use Rattle.lalrpop_norm_precedence.specs.Handed.{handed_levels}
use Rattle.lalrpop_norm_precedence.specs.Grouped.{LevelGroup, marked_with, groups_at, grouped}
use Rattle.lalrpop_norm_precedence_steps.specs.Steps.{made_steps}
use Rattle.lalrpop_norm_precedence.specs.Made.{without_level_attributes, rewritten, made_alternative, made_rule, top_of, made_level_rules}
use Rattle.lalrpop_norm_precedence.proofs.ReadLemmas.{levels_read}
use Rattle.lalrpop_norm_precedence.proofs.KindLemmas.{by_bounds}

-- ---- rising lists

in_front : (m : ℕ) (xs ys : List ℕ) → In m xs → In m (xs ++ ys)
in_front m [] ys i = absurd i
in_front m (x ∷ xs) ys (inl e) = inl e
in_front m (x ∷ xs) ys (inr i) = inr (in_front m xs ys i)

pub rising_front : (xs ys : List ℕ) → IsRising (xs ++ ys) → IsRising xs
rising_front [] ys r = tt
rising_front (x ∷ xs) ys r = ((λ m i. r.0 m (in_front m xs ys i)), rising_front xs ys r.1)

in_middle : (l : ℕ) (xs ys : List ℕ) → In l (xs ++ l ∷ ys)
in_middle l [] ys = inl refl
in_middle l (x ∷ xs) ys = inr (in_middle l xs ys)

not_below : (m l : ℕ) (ms : List ℕ) (b : Bool) → Decides b (m < l) → l ≤ m → cond b (m ∷ ms) ms ≡ ms
not_below m l ms true d le = let lt = d.0 refl in absurd (omega arith)
not_below m l ms false d le = refl

is_below : (m l : ℕ) (ms ks : List ℕ) (b : Bool) → Decides b (m < l) → m < l → cond b (m ∷ ms) ks ≡ m ∷ ms
is_below m l ms ks true d lt = refl
is_below m l ms ks false d lt = let no = d.1 lt in cc

none_below : (l : ℕ) (ls : List ℕ) → ((m : ℕ) → In m ls → l ≤ m) → below l ls ≡ []
none_below l [] h = refl
none_below l (m ∷ ls) h =
    not_below m l (below l ls) (nat_lt m l) (Decides-ltb m l) (h m (inl refl)) ∙ none_below l ls (λ k i. h k (inr i))

-- the levels below one are those before it
pub below_is_front : (l : ℕ) (xs ys : List ℕ) → IsRising (xs ++ l ∷ ys) → below l (xs ++ l ∷ ys) ≡ xs
below_is_front l [] ys r = none_below l (l ∷ ys) at_least
  where
    at_least : (m : ℕ) → In m (l ∷ ys) → l ≤ m
    at_least m (inl e) = omega arith
    at_least m (inr i) = let lt = r.0 m i in omega arith
below_is_front l (x ∷ xs) ys r =
    is_below x l (below l (xs ++ l ∷ ys)) (below l (xs ++ l ∷ ys)) (nat_lt x l) (Decides-ltb x l) (r.0 l (in_middle l xs ys))
    ∙ ap (λ ks. x ∷ ks) (below_is_front l xs ys r.1)

last_greater : (x l : ℕ) (b : Bool) → Decides b (x < l) → x < l → cond b l x ≡ l
last_greater x l true d lt = refl
last_greater x l false d lt = let no = d.1 lt in cc

pub greatest_last : (xs : List ℕ) (l : ℕ) → IsRising (xs ++ l ∷ []) → greatest (xs ++ l ∷ []) ≡ Some l
greatest_last [] l r = refl
greatest_last (x ∷ xs) l r =
    ap (λ o. Some (greater x o)) (greatest_last xs l r.1)
    ∙ ap Some (last_greater x l (nat_lt x l) (Decides-ltb x l) (r.0 l (in_middle l xs [])))

-- ---- one level

alternatives_here : (f g : Leveled → AlternativeData) (l : ℕ) (a : Leveled) (xs : List Leveled) (b : Bool) → Decides b (a.level ≡ l) → (a.level ≡ l → f a ≡ g a) →
    map f (of_level l xs) ≡ map g (of_level l xs) → map f (cond b (a ∷ of_level l xs) (of_level l xs)) ≡ map g (cond b (a ∷ of_level l xs) (of_level l xs))
alternatives_here f g l a xs true d h rest = ap₂ ◌∷◌ (h (d.0 refl)) rest
alternatives_here f g l a xs false d h rest = rest

same_alternatives : (f g : Leveled → AlternativeData) (l : ℕ) (xs : List Leveled) → ((a : Leveled) → a.level ≡ l → f a ≡ g a) →
    map f (of_level l xs) ≡ map g (of_level l xs)
same_alternatives f g l [] h = refl
same_alternatives f g l (a ∷ xs) h =
    alternatives_here f g l a xs (nat_eq a.level l) (Decides-eqb a.level l) (h a) (same_alternatives f g l xs h)

module _ (r : RuleData) (ps : List (Option Leveled)) where
  abbrev with_parts : Leveled → ℕ → Option ℕ → AlternativeData
  with_parts a l previous = record a.alternative {
    parts = leveled_parts (is_own r) (level_nonterminal (λ before after. level_of_rule r ps (own_bound a.side l previous before after))) 0 0 a.alternative.parts;
    attributes = without_level_attributes a.alternative.attributes;
  }

  abbrev names_below : Option ℕ → Option (List ℕ)
  names_below previous = option_map (level_of_rule r ps) previous

  below_named : (previous : Option ℕ) (l : ℕ) → unwrap_or (names_below previous) (level_of_rule r ps l) ≡ level_of_rule r ps (unwrap_or previous l)
  below_named None l = refl
  below_named (Some m) l = refl

  alternative_made : (previous : Option ℕ) (l : ℕ) → previous_level ps l ≡ previous → (a : Leveled) → a.level ≡ l →
      made_alternative r (level_of_rule r ps l) (names_below previous) a ≡ level_alternative r ps a
  unfolding made_alternative rewritten
  alternative_made previous l p a e =
      ap (λ n. rewritten r (nonterminal (level_of_rule r ps l)) (nonterminal n) a) (below_named previous l)
      ∙ ap (λ qs. record a.alternative { parts = qs; attributes = without_level_attributes a.alternative.attributes })
      (by_bounds (is_own r) (level_of_rule r ps) a.side l previous a.alternative.parts)
      ∙ ap (with_parts a l) (sym p)
      ∙ ap (λ k. with_parts a k (previous_level ps k)) (sym e)

  steps_made : (previous : Option ℕ) → made_steps r (names_below previous) ≡ step_alternatives r ps previous
  steps_made None = refl
  steps_made (Some l) = refl

  rule_made : (previous : Option ℕ) (l : ℕ) → previous_level ps l ≡ previous →
      made_rule r (level_of_rule r ps l) (names_below previous) (of_level l (present ps)) ≡ level_rule r ps l
  unfolding made_rule
  rule_made previous l p =
      ap (λ xs. record r { name = record { 0 = level_of_rule r ps l }; alternatives = xs })
      (ap₂ ◌++◌
      (same_alternatives (made_alternative r (level_of_rule r ps l) (names_below previous)) (level_alternative r ps) l (present ps) (alternative_made previous l p))
      (steps_made previous ∙ ap (step_alternatives r ps) (sym p)))

  rules_made : (front back : List ℕ) → levels_of ps ≡ front ++ back → IsRising (front ++ back) →
      made_level_rules r (highest_level ps) (names_below (greatest front)) (groups_at back (present ps)) ≡ map (level_rule r ps) back
  rules_made front [] e h = refl
  rules_made front (l ∷ back) e h =
      let on : (front ++ l ∷ []) ++ back ≡ front ++ l ∷ back = append_assoc front (l ∷ []) back in
      let same : previous_level ps l ≡ greatest front = ap (λ ls. greatest (below l ls)) e ∙ ap greatest (below_is_front l front back h) in
      let up : IsRising ((front ++ l ∷ []) ++ back) = subst IsRising (sym on) h in
      ap₂ ◌∷◌ (rule_made (greatest front) l same)
      (ap (λ o. made_level_rules r (highest_level ps) (names_below o) (groups_at back (present ps))) (sym (greatest_last front l (rising_front (front ++ l ∷ []) back up)))
      ∙ rules_made (front ++ l ∷ []) back (e ∙ sym on) up)

-- ---- the rule

marked_handed : (level : Option ℕ) (side : Option Side) (xs : List AlternativeData) →
    marked_with (handed_levels level side xs) xs ≡ present (handed_on level side (map Some xs))
marked_handed level side [] = refl
marked_handed level side (a ∷ xs) =
    ap (λ ys. record { level = unwrap_or (level_after level (Some a)) 0; side = unwrap_or (side_after side (Some a)) every; alternative = a } ∷ ys)
    (marked_handed (level_after level (Some a)) (side_after side (Some a)) xs)

marked_read : (r : RuleData) → marked_with (levels_and_sides r) r.alternatives ≡ present (with_levels (all_places r))
marked_read r =
    ap (λ ls. marked_with ls r.alternatives) (levels_read r) ∙ marked_handed None None r.alternatives ∙ ap present (sym (levels_are_handed_on (all_places r)))

levels_at : (ls : List ℕ) (xs : List Leveled) → map (λ (g : LevelGroup). g.0) (groups_at ls xs) ≡ ls
levels_at [] xs = refl
levels_at (l ∷ ls) xs = ap (λ ms. l ∷ ms) (levels_at ls xs)

steps_bare : (r : RuleData) (below : Option (List ℕ)) → made_steps (record r { alternatives = [] }) below ≡ made_steps r below
steps_bare r None = refl
steps_bare r (Some m) = refl

rule_bare : (r : RuleData) (own : List ℕ) (below : Option (List ℕ)) (xs : List Leveled) →
    made_rule (record r { alternatives = [] }) own below xs ≡ made_rule r own below xs
unfolding made_rule made_alternative rewritten
rule_bare r own below xs =
    ap (λ ys. record r { name = record { 0 = own }; alternatives = map (made_alternative r own below) xs ++ ys })
    (steps_bare r below)

-- the alternatives of the head are no matter
rules_bare : (r : RuleData) (highest : ℕ) (below : Option (List ℕ)) (gs : List LevelGroup) →
    made_level_rules (record r { alternatives = [] }) highest below gs ≡ made_level_rules r highest below gs
rules_bare r highest below [] = refl
rules_bare r highest below (g ∷ gs) =
    let own = level_name r.name.0 highest g.0 in
    ap₂ ◌∷◌ (rule_bare r own below g.1) (rules_bare r highest (Some own) gs)

pub level_rules_made : (r h : RuleData) (gs : List LevelGroup) → h ≡ record r { alternatives = [] } →
    gs ≡ grouped (marked_with (levels_and_sides r) r.alternatives) → has_levels (all_places r) ≡ true →
    made_level_rules h (top_of gs) None gs ≡ level_rules r
level_rules_made r h gs e is leveled =
    let ps = with_levels (all_places r) in
    let all : gs ≡ grouped (present ps) = is ∙ ap grouped (marked_read r) in
    ap (λ (k : RuleData). made_level_rules k (top_of gs) None gs) e
    ∙ rules_bare r (top_of gs) None gs
    ∙ ap (λ ks. made_level_rules r (top_of ks) None ks) all
    ∙ ap (λ ls. made_level_rules r (unwrap_or (greatest ls) 0) None (grouped (present ps))) (levels_at (levels_of ps) (present ps))
    ∙ rules_made r ps [] (levels_of ps) refl (rising_rises (map (λ (a : Leveled). a.level) (present ps)))
    ∙ sym (ap (λ (b : Bool). if b then map (level_rule r ps) (levels_of ps) else r ∷ []) leveled)

pub handed_count : (level : Option ℕ) (side : Option Side) (xs : List AlternativeData) → length (handed_levels level side xs) ≡ length xs
handed_count level side [] = refl
handed_count level side (a ∷ xs) = ap suc (handed_count (level_after level (Some a)) (side_after side (Some a)) xs)

pub levels_count : (r : RuleData) (xs : List Alternative) (ls : List AlternativeLevel) → r.alternatives ≡ map alternative_view xs →
    map alternative_level_view ls ≡ levels_and_sides r → length ls ≡ length xs
levels_count r xs ls e h =
    sym (length-map ls alternative_level_view) ∙ ap length (h ∙ levels_read r) ∙ handed_count None None r.alternatives ∙ ap length e ∙ length-map xs alternative_view
