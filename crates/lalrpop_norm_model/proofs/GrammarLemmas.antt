-- The rules of a grammar and of the grammar with levels, by name.
use Rattle.std.proofs.Common.{◌≡◌, ◌⊎◌, inl, inr, List, [], ◌∷◌, ◌++◌, map, Some, Bool, true, false, refl, sym, ap, ap₂, ◌∙◌, subst}
use Rattle.std.specs.Prelude.{flat_map, bytes_eq}
use Rattle.std.proofs.lemmas.Slice.Eq.{bytes_eq-Decides}
use Rattle.std.proofs.lemmas.List.{map-append}
use Rattle.lalrpop_norm_tree.specs.Items.{RuleData, ItemData, GrammarData, match_item, extern_item, intern_item, rule_item, use_item}
use Rattle.lalrpop_norm_theory.specs.Symbols.{Name}
use Rattle.lalrpop_norm_theory.specs.Rounds.{In, IsDistinct}
use Rattle.lalrpop_norm_model.specs.Enabled.{all_places}
use Rattle.lalrpop_norm_model.specs.Scopes.{globals}
use Rattle.lalrpop_norm_model.specs.WrittenRules.{WrittenRule, written_rule_with_levels, flat_rule, rules_through, leveled_rules, flat_rules, rule_named}
use Rattle.lalrpop_norm_model.specs.LevelRules.{level_rules, level_items, leveled_grammar}
use Rattle.lalrpop_norm_model.specs.PlainRules.{rule_of_item, all_rules}
use Rattle.lalrpop_norm_model.specs.Expanded.{rule_names}
use Rattle.lalrpop_norm_model.proofs.LevelLemmas.{in_map, of_map}
use Rattle.lalrpop_norm_theory.proofs.RoundsLemmas.{in_left, in_right, in_cases}
use Rattle.lalrpop_norm_theory.proofs.ListLemmas.{distinct_right}
use Rattle.lalrpop_norm_model.proofs.ScopeLemmas.{in_flat}
use Rattle.lalrpop_norm_model.proofs.MadeReadLemmas.{item_of_rule}

-- ---- rules of items

pub through_rules : (f : RuleData → WrittenRule) (items : List ItemData) → rules_through (λ d. f d ∷ []) items ≡ map f (flat_map rule_of_item items)
through_rules f [] = refl
through_rules f (rule_item d ∷ items) = ap (λ rs. f d ∷ rs) (through_rules f items)
through_rules f (match_item m ∷ items) = through_rules f items
through_rules f (extern_item t ∷ items) = through_rules f items
through_rules f (intern_item t ∷ items) = through_rules f items
through_rules f (use_item u ∷ items) = through_rules f items

rules_back : (ds : List RuleData) (items : List ItemData) → flat_map rule_of_item (map rule_item ds ++ items) ≡ ds ++ flat_map rule_of_item items
rules_back [] items = refl
rules_back (d ∷ ds) items = ap (λ rs. d ∷ rs) (rules_back ds items)

level_items_rules : (items : List ItemData) → flat_map rule_of_item (flat_map level_items items) ≡ flat_map level_rules (flat_map rule_of_item items)
level_items_rules [] = refl
level_items_rules (rule_item d ∷ items) = rules_back (level_rules d) (flat_map level_items items) ∙ ap (λ rs. level_rules d ++ rs) (level_items_rules items)
level_items_rules (match_item m ∷ items) = level_items_rules items
level_items_rules (extern_item t ∷ items) = level_items_rules items
level_items_rules (intern_item t ∷ items) = level_items_rules items
level_items_rules (use_item u ∷ items) = level_items_rules items

-- the rules of the grammar with levels
pub all_level_rules : (g : GrammarData) → all_rules (leveled_grammar g) ≡ flat_map level_rules (all_rules g)
all_level_rules g = level_items_rules g.items

pub rule_item_of : (g : GrammarData) (d : RuleData) → In d (all_rules g) → In (rule_item d) g.items
rule_item_of g d h = item_of_rule d g.items h

-- ---- lists

pub of_flat : {A B : Type 0} (f : A → List B) (y : B) (xs : List A) → In y (flat_map f xs) → (x : A) × In x xs × In y (f x)
of_flat f y [] h = absurd h
of_flat f y (x ∷ xs) h = elim (in_cases y (f x) (flat_map f xs) h) [
  | inl i ↦ (x, inl refl, i)
  | inr i ↦ (let (z, j, k) = of_flat f y xs i in (z, inr j, k))
]

-- two things of a list that agree in what is there once are the same thing
pub same_by : {A B : Type 0} (f : A → B) (xs : List A) (x y : A) → IsDistinct (map f xs) → In x xs → In y xs → f x ≡ f y → x ≡ y
same_by f [] x y d i j e = absurd i
same_by f (z ∷ xs) x y d (inl i) (inl j) e = i ∙ sym j
same_by {A} {B} f (z ∷ xs) x y d (inl i) (inr j) e = absurd (d.0 (subst (λ (b : B). In b (map f xs)) (sym e ∙ ap f i) (in_map f y xs j)))
same_by {A} {B} f (z ∷ xs) x y d (inr i) (inl j) e = absurd (d.0 (subst (λ (b : B). In b (map f xs)) (e ∙ ap f j) (in_map f x xs i)))
same_by f (z ∷ xs) x y d (inr i) (inr j) e = same_by f xs x y d.1 i j e

pub distinct_left : {A : Type 0} (xs ys : List A) → IsDistinct (xs ++ ys) → IsDistinct xs
distinct_left [] ys d = tt
distinct_left (x ∷ xs) ys d = ((λ i. d.0 (in_left x xs ys i)), distinct_left xs ys d.1)

pub distinct_apart : {A : Type 0} (x : A) (xs ys : List A) → IsDistinct (xs ++ ys) → In x xs → In x ys → ⊥
distinct_apart x [] ys d i j = i
distinct_apart {A} x (z ∷ xs) ys d (inl e) j = d.0 (in_right z xs ys (subst (λ (w : A). In w ys) e j))
distinct_apart x (z ∷ xs) ys d (inr i) j = distinct_apart x xs ys d.1 i j

-- ---- rules by name

pub unlike : (m n : Name) (b : Bool) → bytes_eq m n ≡ b → (m ≡ n → ⊥) → b ≡ false
unlike m n true e h = absurd (h ((bytes_eq-Decides m n).0 e))
unlike m n false e h = refl

-- a rule whose name no other has is found by it
pub found_once : (rs : List WrittenRule) (r : WrittenRule) → IsDistinct (map (λ (w : WrittenRule). w.name) rs) → In r rs → rule_named rs r.name ≡ Some r
found_once [] r d i = absurd i
found_once (w ∷ rs) r d (inl e) = rw (e, (bytes_eq-Decides w.name w.name).1 refl) refl
found_once (w ∷ rs) r d (inr i) =
    let other = unlike w.name r.name (bytes_eq w.name r.name) refl
    (λ e. d.0 (subst (λ (n : Name). In n (map (λ (w : WrittenRule). w.name) rs)) (sym e) (in_map (λ (w : WrittenRule). w.name) r rs i))) in
    rw other (found_once rs r d.1 i)

same_names : (f : RuleData → WrittenRule) → ((d : RuleData) → (f d).name ≡ d.name.0) → (ds : List RuleData) →
    map (λ (w : WrittenRule). w.name) (map f ds) ≡ map (λ (d : RuleData). d.name.0) ds
same_names f e [] = refl
same_names f e (d ∷ ds) = ap₂ ◌∷◌ (e d) (same_names f e ds)

found_through : (f : RuleData → WrittenRule) → ((d : RuleData) → (f d).name ≡ d.name.0) → (ds : List RuleData) (d : RuleData) →
    IsDistinct (map (λ (e : RuleData). e.name.0) ds) → In d ds → rule_named (map f ds) d.name.0 ≡ Some (f d)
found_through f e ds d h i =
    subst (λ (n : Name). rule_named (map f ds) n ≡ Some (f d)) (e d)
    (found_once (map f ds) (f d) (subst (λ (ns : List Name). IsDistinct ns) (sym (same_names f e ds)) h) (in_map f d ds i))

module _ (g : GrammarData) where
  abbrev pub as_leveled : RuleData → WrittenRule
  as_leveled d = written_rule_with_levels (globals g) d (all_places d)

  abbrev pub as_flat : RuleData → WrittenRule
  as_flat d = flat_rule (globals g) d (all_places d)

  pub leveled_rules_are : leveled_rules g ≡ map as_leveled (all_rules g)
  leveled_rules_are = through_rules as_leveled g.items

  pub flat_rules_are : flat_rules g ≡ map as_flat (all_rules g)
  flat_rules_are = through_rules as_flat g.items

  pub leveled_found : (d : RuleData) → IsDistinct (rule_names g) → In d (all_rules g) → rule_named (leveled_rules g) d.name.0 ≡ Some (as_leveled d)
  leveled_found d h i = ap (λ rs. rule_named rs d.name.0) leveled_rules_are ∙ found_through as_leveled (λ e. refl) (all_rules g) d h i

  pub flat_found : (d : RuleData) → IsDistinct (rule_names g) → In d (all_rules g) → rule_named (flat_rules g) d.name.0 ≡ Some (as_flat d)
  flat_found d h i = ap (λ rs. rule_named rs d.name.0) flat_rules_are ∙ found_through as_flat (λ e. refl) (all_rules g) d h i

  pub leveled_from : (r : WrittenRule) → In r (leveled_rules g) → (d : RuleData) × In d (all_rules g) × (r ≡ as_leveled d)
  leveled_from r h = of_map as_leveled r (all_rules g) (subst (λ (rs : List WrittenRule). In r rs) leveled_rules_are h)

  pub flat_from : (r : WrittenRule) → In r (flat_rules g) → (d : RuleData) × In d (all_rules g) × (r ≡ as_flat d)
  flat_from r h = of_map as_flat r (all_rules g) (subst (λ (rs : List WrittenRule). In r rs) flat_rules_are h)

  pub leveled_in : (d : RuleData) → In d (all_rules g) → In (as_leveled d) (leveled_rules g)
  leveled_in d h = subst (λ (rs : List WrittenRule). In (as_leveled d) rs) (sym leveled_rules_are) (in_map as_leveled d (all_rules g) h)

-- two rules of levels with one name are those of one rule
pub one_owner : (ds : List RuleData) (d e c b : RuleData) → IsDistinct (map (λ (r : RuleData). r.name.0) (flat_map level_rules ds)) →
    In d ds → In e ds → In c (level_rules d) → In b (level_rules e) → c.name.0 ≡ b.name.0 → d ≡ e
one_owner [] d e c b h i j p q s = absurd i
one_owner (x ∷ ds) d e c b h i j p q s = by (λ f t u. one_owner ds d e c b f t u p q s) i j
  where
    parted : IsDistinct (map (λ (r : RuleData). r.name.0) (level_rules x) ++ map (λ (r : RuleData). r.name.0) (flat_map level_rules ds))
    parted = subst (λ (ns : List Name). IsDistinct ns) (map-append (λ (r : RuleData). r.name.0) (level_rules x) (flat_map level_rules ds)) h

    here : (y z : RuleData) → y ≡ x → In z (level_rules y) → In z.name.0 (map (λ (r : RuleData). r.name.0) (level_rules x))
    here y z t k = in_map (λ (r : RuleData). r.name.0) z (level_rules x) (subst (λ (w : RuleData). In z (level_rules w)) t k)

    there : (y z : RuleData) → In y ds → In z (level_rules y) → In z.name.0 (map (λ (r : RuleData). r.name.0) (flat_map level_rules ds))
    there y z t k = in_map (λ (r : RuleData). r.name.0) z (flat_map level_rules ds) (in_flat level_rules y ds z t k)

    by : (IsDistinct (map (λ (r : RuleData). r.name.0) (flat_map level_rules ds)) → In d ds → In e ds → d ≡ e) → (d ≡ x) ⊎ In d ds → (e ≡ x) ⊎ In e ds → d ≡ e
    by f (inl t) (inl u) = t ∙ sym u
    by f (inl t) (inr u) = absurd (distinct_apart c.name.0 _ _ parted (here d c t p)
        (subst (λ (n : Name). In n (map (λ (r : RuleData). r.name.0) (flat_map level_rules ds))) (sym s) (there e b u q)))
    by f (inr t) (inl u) = absurd (distinct_apart b.name.0 _ _ parted (here e b u q)
        (subst (λ (n : Name). In n (map (λ (r : RuleData). r.name.0) (flat_map level_rules ds))) s (there d c t p)))
    by f (inr t) (inr u) = f (distinct_right _ _ parted) t u
