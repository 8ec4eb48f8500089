-- Each alternative of the grammar with levels has its origin in the written one; and both grammars have the relation that the
-- theory defines.
use Rattle.std.proofs.Common.{◌≡◌, inl, inr, ℕ, List, [], ◌∷◌, map, Option, Some, None, Bool, true, false, not, refl, sym, ap, ap₂, ◌∙◌, subst, true≢false, arith}
use Rattle.std.specs.Prelude.{slice_get, flat_map, if◌then◌else◌}
use Rattle.std.proofs.lemmas.List.{map-append}
use Rattle.std.proofs.lemmas.Bool.{false_from_ne_true}
use Rattle.std.proofs.lemmas.Slice.Eq.{bytes_eq-Decides}
use Rattle.lalrpop_norm_tree.specs.Items.{RuleData, GrammarData}
use Rattle.lalrpop_norm_theory.specs.Symbols.{Name, ClosedSymbol, ClosedSymbols, reference, call}
use Rattle.lalrpop_norm_theory.specs.LoweredTrees.{Origin, written}
use Rattle.lalrpop_norm_theory.specs.Rounds.{In, IsDistinct}
use Rattle.lalrpop_norm_theory.specs.Meaning.{Meaning}
use Rattle.lalrpop_norm_theory.specs.Clauses.{Clause, clauses}
use Rattle.lalrpop_norm_theory.specs.Leveled.{level_reference, leveled_symbols, composed_clause, leveled_clause, IsLeveled}
use Rattle.lalrpop_norm_model.specs.Enabled.{all_places}
use Rattle.lalrpop_norm_model.specs.Levels.{Leveled, has_levels, with_levels, levels_of}
use Rattle.lalrpop_norm_model.specs.WrittenRules.{WrittenRule, leveled_rules, flat_rules, rule_named}
use Rattle.lalrpop_norm_model.specs.Grammars.{is_nil, instance_parts, previous_bound, ConditionValue, meaning, references}
use Rattle.lalrpop_norm_model.specs.ClosedTexts.{level_names}
use Rattle.lalrpop_norm_model.specs.LevelRules.{level_rule, level_rules, leveled_grammar}
use Rattle.lalrpop_norm_model.specs.PlainRules.{all_rules}
use Rattle.lalrpop_norm_model.specs.LevelNames.{HasLevelNames, is_level_named, clause_origin, origin_among, level_origin}
use Rattle.lalrpop_norm_model.specs.Laws.{GrammarsAreLeveled}
use Rattle.lalrpop_norm_model.proofs.ScopeLemmas.{rule_found}
use Rattle.lalrpop_norm_model.proofs.MeaningLemmas.{instance_of}
use Rattle.lalrpop_norm_model.proofs.GrammarLemmas.{all_level_rules, same_by, distinct_left, leveled_from, flat_from, one_owner}
use Rattle.lalrpop_norm_model.proofs.LevelGrammarLemmas.{OwnBound, own_rule, has_level_rules, rules_leveled}
use Rattle.lalrpop_norm_model.proofs.MacroLemmas.{macro_rule, macros_leveled, macro_counts_leveled}
use Rattle.lalrpop_norm_theory.proofs.LeveledLemmas.{numbered_calls}
use Rattle.lalrpop_norm_theory.proofs.ListLemmas.{distinct_right}

mapped_twice : {A B C : Type 0} (f : A → B) (h : B → C) (xs : List A) → map h (map f xs) ≡ map (λ x. h (f x)) xs
mapped_twice f h [] = refl
mapped_twice f h (x ∷ xs) = ap (λ ys. h (f x) ∷ ys) (mapped_twice f h xs)

-- the names of the levels of one rule are distinct where all are
distinct_of_one : (ds : List RuleData) (d : RuleData) → IsDistinct (map (λ (r : RuleData). r.name.0) (flat_map level_rules ds)) → In d ds →
    IsDistinct (map (λ (r : RuleData). r.name.0) (level_rules d))
distinct_of_one [] d h i = absurd i
distinct_of_one (x ∷ ds) d h (inl e) =
    subst (λ (y : RuleData). IsDistinct (map (λ (r : RuleData). r.name.0) (level_rules y))) (sym e)
    (distinct_left _ (map (λ (r : RuleData). r.name.0) (flat_map level_rules ds))
    (subst (λ (ns : List Name). IsDistinct ns) (map-append (λ (r : RuleData). r.name.0) (level_rules x) (flat_map level_rules ds)) h))
distinct_of_one (x ∷ ds) d h (inr i) =
    distinct_of_one ds d
    (distinct_right (map (λ (r : RuleData). r.name.0) (level_rules x)) _
    (subst (λ (ns : List Name). IsDistinct ns) (map-append (λ (r : RuleData). r.name.0) (level_rules x) (flat_map level_rules ds)) h)) i

module _ (g : GrammarData) (N : HasLevelNames g) (value : ConditionValue) where
  abbrev rs : List WrittenRule
  rs = leveled_rules g

  abbrev M : Meaning
  M = meaning value (leveled_rules g)

  abbrev l : Name → ℕ → Name
  l = level_names (leveled_rules g)

  abbrev ps : RuleData → List (Option Leveled)
  ps d = with_levels (all_places d)

  clashless : IsDistinct (map (λ (r : RuleData). r.name.0) (flat_map level_rules (all_rules g)))
  clashless = subst (λ (ds : List RuleData). IsDistinct (map (λ (r : RuleData). r.name.0) ds)) (all_level_rules g) N.no_clash

  -- ---- one reference for each name of a level

  level_once : (d : RuleData) → In d (all_rules g) → has_levels (all_places d) ≡ true → (m k : ℕ) → In m (levels_of (ps d)) → In k (levels_of (ps d)) →
      (level_rule d (ps d) m).name.0 ≡ (level_rule d (ps d) k).name.0 → m ≡ k
  level_once d i e m k p q s =
      same_by (λ j. (level_rule d (ps d) j).name.0) (levels_of (ps d)) m k
      (subst (λ (ns : List Name). IsDistinct ns) (mapped_twice (level_rule d (ps d)) (λ (r : RuleData). r.name.0) (levels_of (ps d)))
      (subst (λ (ds : List RuleData). IsDistinct (map (λ (r : RuleData). r.name.0) ds)) (has_level_rules g N d e)
      (distinct_of_one (all_rules g) d clashless i))) p q s

  bound_once : (d : RuleData) → In d (all_rules g) → (b c : Option ℕ) → OwnBound g N d b → OwnBound g N d c →
      level_reference l d.name.0 b ≡ level_reference l d.name.0 c → b ≡ c
  bound_once d i b c (inl h) (inl k) s = h.0 ∙ sym k.0
  bound_once d i b c (inl h) (inr k) s = absurd (true≢false (sym k.0 ∙ h.1))
  bound_once d i b c (inr h) (inl k) s = absurd (true≢false (sym h.0 ∙ k.1))
  bound_once d i b c (inr h) (inr k) s =
      let (m, is, p, name) = h.1 in
      let (j, are, q, other) = k.1 in
      is ∙ ap Some (level_once d i h.0 m j p q
      (sym name ∙ ap (level_reference l d.name.0) (sym is) ∙ s ∙ ap (level_reference l d.name.0) are ∙ other)) ∙ sym are

  same_owner : (n m : Name) (b c : Option ℕ) → In (reference n b) (references rs) → In (reference m c) (references rs) →
      level_reference l n b ≡ level_reference l m c → reference n b ≡ reference m c
  same_owner n m b c i j e =
      let o = own_rule g N value n b i in
      let p = own_rule g N value m c j in
      let one : o.owner ≡ p.owner =
      one_owner (all_rules g) o.owner p.owner o.rule p.rule clashless o.of_owner p.of_owner o.there p.there (sym o.named ∙ e ∙ p.named) in
      let name : n ≡ m = o.level ∙ ap (λ (r : RuleData). r.name.0) one ∙ sym p.level in
      let mine : OwnBound g N p.owner b = subst (λ (d : RuleData). OwnBound g N d b) one o.bound in
      let both : level_reference l p.owner.name.0 b ≡ level_reference l p.owner.name.0 c =
      ap (λ k. level_reference l k b) (sym p.level ∙ sym name) ∙ e ∙ ap (λ k. level_reference l k c) p.level in
      ap₂ reference name (bound_once p.owner p.of_owner b c mine p.bound both)

  -- ---- origins of levels

  named_is : (m : Name) (x : ClosedSymbol) → is_level_named l m x ≡ true → (n : Name) × (b : Option ℕ) × (x ≡ reference n b) × (level_reference l n b ≡ m)
  named_is m (reference n b) h = (n, b, refl, (bytes_eq-Decides (level_reference l n b) m).0 h)
  named_is m _ h = absurd (cc h)

  pub origin_found : (other : Name → ℕ → Origin) (X : Meaning) (n : Name) (b : Option ℕ) (p : ℕ) (c : Clause) →
      slice_get (clauses X (reference n b)) p ≡ Some c → In (reference n b) (references rs) →
      (gs : List ClosedSymbol) → ((x : ClosedSymbol) → In x gs → In x (references rs)) → In (reference n b) gs →
      origin_among other X l gs (level_reference l n b) p ≡ c.origin
  origin_found other X n b p c at d [] within i = absurd i
  origin_found other X n b p c at d (x ∷ gs) within i =
      by (is_level_named l (level_reference l n b) x) refl (λ j. origin_found other X n b p c at d gs (λ y k. within y (inr k)) j) i
    where
      by : (y : Bool) → is_level_named l (level_reference l n b) x ≡ y →
          (In (reference n b) gs → origin_among other X l gs (level_reference l n b) p ≡ c.origin) → In (reference n b) (x ∷ gs) →
          (if y then clause_origin (level_reference l n b) p (slice_get (clauses X x) p) else origin_among other X l gs (level_reference l n b) p) ≡ c.origin
      by true e f j =
          let (m, k, is, name) = named_is (level_reference l n b) x e in
          let there : In (reference m k) (references rs) = subst (λ (y : ClosedSymbol). In y (references rs)) is (within x (inl refl)) in
          let same : x ≡ reference n b = is ∙ same_owner m n k b there d name in
          ap (λ y. clause_origin (level_reference l n b) p (slice_get (clauses X y) p)) same
          ∙ ap (clause_origin (level_reference l n b) p) at
      by false e f (inl j) =
          absurd (true≢false (sym ((bytes_eq-Decides (level_reference l n b) (level_reference l n b)).1 refl)
          ∙ ap (is_level_named l (level_reference l n b)) j ∙ e))
      by false e f (inr j) = f j

  rule_origin : (n : Name) (b : Option ℕ) (p : ℕ) (c : Clause) → In (reference n b) (references rs) → slice_get (clauses M (reference n b)) p ≡ Some c →
      level_origin value g (level_reference l n b) p ≡ c.origin
  rule_origin n b p c d at = origin_found written M n b p c at d (references rs) (λ x i. i) d

  -- ---- origins of macros

  pub no_origin : (other : Name → ℕ → Origin) (X : Meaning) (n : Name) (k : ℕ) (gs : List ClosedSymbol) →
      ((x : ClosedSymbol) → In x gs → is_level_named l n x ≡ true → ⊥) → origin_among other X l gs n k ≡ other n k
  no_origin other X n k [] none = refl
  no_origin other X n k (x ∷ gs) none =
      rw (false_from_ne_true (is_level_named l n x) (none x (inl refl))) (no_origin other X n k gs (λ y i. none y (inr i)))

  macro_apart : (d : RuleData) → In d (all_rules g) → is_nil d.args ≡ false → (x : ClosedSymbol) → In x (references rs) → is_level_named l d.name.0 x ≡ true → ⊥
  macro_apart d i macro x j h =
      let (n, b, is, name) = named_is d.name.0 x h in
      let o = own_rule g N value n b (subst (λ (y : ClosedSymbol). In y (references rs)) is j) in
      let r = macro_rule g N d i macro (has_levels (all_places d)) refl in
      let one : o.owner ≡ d = one_owner (all_rules g) o.owner d o.rule r.rule clashless o.of_owner i o.there r.there (sym o.named ∙ name ∙ sym r.name) in
      true≢false (sym o.owner_plain ∙ ap (λ (e : RuleData). is_nil e.args) one ∙ macro)

  -- no level has the name of a macro that has an instance
  pub called_apart : (n : Name) (args : ClosedSymbols) (k : ℕ) (parts : ClosedSymbols) (o : Option WrittenRule) → rule_named rs n ≡ o →
      instance_parts value rs args k o ≡ Some parts → (x : ClosedSymbol) → In x (references rs) → is_level_named l n x ≡ true → ⊥
  called_apart n args k parts None e h = absurd (grind arith)
  called_apart n args k parts (Some r) e h =
      let p = instance_of value rs args k r parts h in
      let f = rule_found rs n r e in
      let (d, i, is) = leveled_from g r f.0 in
      let name : d.name.0 ≡ n = ap (λ (w : WrittenRule). w.name) (sym is) ∙ f.1 in
      let macro : not (is_nil d.args) ≡ true = ap (λ (w : WrittenRule). not (is_nil w.args)) (sym is) ∙ p.called in
      subst (λ (m : Name). (x : ClosedSymbol) → In x (references rs) → is_level_named l m x ≡ true → ⊥) name
      (macro_apart d i (not_nil (is_nil d.args) macro))
    where
      not_nil : (b : Bool) → not b ≡ true → b ≡ false
      not_nil false h = refl
      not_nil true h = absurd (cc h)

  macro_origin : (n : Name) (args : ClosedSymbols) (k : ℕ) (parts : ClosedSymbols) → M.call_parts n args k ≡ Some parts → level_origin value g n k ≡ written n k
  macro_origin n args k parts h = no_origin written M n k (references rs) (called_apart n args k parts (rule_named rs n) refl h)

  -- a call has the clauses that it has in the written grammar, where a macro's alternatives have those origins
  pub calls_by : (origin : Name → ℕ → Origin) →
      ((n : Name) (args : ClosedSymbols) (k : ℕ) (parts : ClosedSymbols) → M.call_parts n args k ≡ Some parts → origin n k ≡ written n k) →
      (n : Name) (args : ClosedSymbols) →
      map (composed_clause origin) (clauses (meaning value (flat_rules (leveled_grammar g))) (call n (leveled_symbols l args)))
      ≡ map (leveled_clause l) (clauses M (call n args))
  calls_by origin from n args =
      rw (macro_counts_leveled g N value n)
      (numbered_calls n l origin ((meaning value (flat_rules (leveled_grammar g))).call_parts n (leveled_symbols l args)) (M.call_parts n args) 0 (M.call_count n)
      (λ k. macros_leveled g N value n args k) (λ k parts h. from n args k parts h))

  -- ---- no rule of the grammar with levels has a level below

  flat_previous : (n : Name) (o : Option WrittenRule) → rule_named (flat_rules (leveled_grammar g)) n ≡ o → previous_bound o None ≡ None
  flat_previous n None e = refl
  flat_previous n (Some s) e =
      let (d, i, is) = flat_from (leveled_grammar g) s (rule_found (flat_rules (leveled_grammar g)) n s e).0 in
      ap (λ (w : WrittenRule). previous_bound (Some w) None) is

pub grammar_leveled : (value : ConditionValue) (g : GrammarData) → HasLevelNames g →
    IsLeveled (meaning value (leveled_rules g)) (meaning value (flat_rules (leveled_grammar g)))
    (level_names (leveled_rules g)) (level_origin value g) (references (leveled_rules g))
grammar_leveled value g N = record {
  rules = λ n b p d. rules_leveled g N value n b p d;
  flat = λ n. flat_previous g N value n (rule_named (flat_rules (leveled_grammar g)) n) refl;
  calls = λ n args. calls_by g N value (level_origin value g) (macro_origin g N value) n args;
  rule_origins = λ n b p c d at. rule_origin g N value n b p c d at;
}

pub grammars_are_leveled : GrammarsAreLeveled
grammars_are_leveled value g N = (
  grammar_leveled value g N,
  (λ n args k. macros_leveled g N value n args k),
  (λ n. macro_counts_leveled g N value n),
)
