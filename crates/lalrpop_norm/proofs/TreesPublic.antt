-- The expanded rule of a public written rule, by itself or within one of its levels, is public.
use Rattle.std.proofs.Common.{◌≡◌, inl, inr, ℕ, List, [], ◌∷◌, ◌++◌, map, Option, Some, None, Bool, true, false, not, refl, sym, ap, subst}
use Rattle.std.specs.Prelude.{flat_map, filter, if◌then◌else◌}
use Rattle.lalrpop_norm_tree_names.specs.declared.names.NonterminalString.{NonterminalString}
use Rattle.lalrpop_norm_tree.specs.Accessors.{is_public}
use Rattle.lalrpop_norm_tree.specs.Items.{RuleData, ItemData, GrammarData, match_item, extern_item, intern_item, rule_item, use_item}
use Rattle.lalrpop_norm_theory.specs.Symbols.{Name, ClosedSymbol, reference}
use Rattle.lalrpop_norm_theory.specs.Rounds.{In}
use Rattle.lalrpop_norm_theory.proofs.RoundsLemmas.{in_left, in_cases}
use Rattle.lalrpop_norm_lower.specs.Lowering.{public_rules_in}
use Rattle.lalrpop_norm_model.specs.Features.{Features}
use Rattle.lalrpop_norm_model.specs.Enabled.{all_places, enabled_grammar}
use Rattle.lalrpop_norm_model.specs.Scopes.{Global, globals, resolved_rule, resolved_item}
use Rattle.lalrpop_norm_model.specs.Levels.{Leveled, has_levels, with_levels, levels_of, highest_level}
use Rattle.lalrpop_norm_model.specs.WrittenRules.{WrittenRule, written_rules, leveled_rules}
use Rattle.lalrpop_norm_model.specs.Grammars.{ConditionValue, is_nil, rule_references, references, roots}
use Rattle.lalrpop_norm_model.specs.ClosedTexts.{level_names, text_in}
use Rattle.lalrpop_norm_model.specs.LevelRules.{level_rule, level_rules, leveled_grammar}
use Rattle.lalrpop_norm_model.specs.PlainRules.{replaced_rule, rule_of_item, all_rules, rules_without_arguments, made_in, plain_grammar}
use Rattle.lalrpop_norm_model.specs.PlainTables.{IsSettled}
use Rattle.lalrpop_norm_model.specs.LevelNames.{HasLevelNames}
use Rattle.lalrpop_norm_model.specs.Renumbered.{prepared_grammar}
use Rattle.lalrpop_norm_model.proofs.LevelLemmas.{in_map, of_map, level_had, had_level, highest_is_greatest}
use Rattle.lalrpop_norm_model.proofs.ScopeLemmas.{in_flat}
use Rattle.lalrpop_norm_model.proofs.LevelRuleLemmas.{name_highest}
use Rattle.lalrpop_norm_model.proofs.GrammarLemmas.{all_level_rules, of_flat, same_by, as_leveled, leveled_from}
use Rattle.lalrpop_norm_model.proofs.LevelGrammarLemmas.{distinct, places_are, some_level}
use Rattle.lalrpop_norm_model.proofs.FaithfulLemmas.{plain_grammars_hold_plain_rules}
use Rattle.lalrpop_norm.specs.Faithful.{IsSymbolOf}
use Rattle.lalrpop_norm.proofs.TreesWritten.{root_of, level_at, same_references, level_written}

-- without arguments, and public
abbrev IsPublicRule : RuleData → Type 0
IsPublicRule r = (is_nil r.args ≡ true) × (is_public r.visibility ≡ true)

-- ---- lists

in_public : (rs : List RuleData) (r : RuleData) → In r rs → is_public r.visibility ≡ true → In r (public_rules_in rs)
in_public [] r i p = absurd i
in_public (s ∷ rs) r (inl e) p =
    let shown : is_public s.visibility ≡ true = subst (λ (x : RuleData). is_public x.visibility ≡ true) e p in rw shown (inl e)
in_public (s ∷ rs) r (inr i) p = by (is_public s.visibility) (in_public rs r i p)
  where
    by : (b : Bool) → In r (public_rules_in rs) → In r (if b then s ∷ public_rules_in rs else public_rules_in rs)
    by true j = inr j
    by false j = j

in_plain : (rs : List RuleData) (r : RuleData) → In r rs → is_nil r.args ≡ true → In r (filter (λ (s : RuleData). is_nil s.args) rs)
in_plain [] r i p = absurd i
in_plain (s ∷ rs) r (inl e) p =
    let none : is_nil s.args ≡ true = subst (λ (x : RuleData). is_nil x.args ≡ true) e p in rw none (inl e)
in_plain (s ∷ rs) r (inr i) p = by (is_nil s.args) (in_plain rs r i p)
  where
    by : (b : Bool) → In r (filter (λ (s : RuleData). is_nil s.args) rs) →
        In r (if b then s ∷ filter (λ (s : RuleData). is_nil s.args) rs else filter (λ (s : RuleData). is_nil s.args) rs)
    by true j = inr j
    by false j = j

-- ---- names resolved

resolved_in : (ds : List Global) (items : List ItemData) (r : RuleData) → In r (flat_map rule_of_item items) →
    In (resolved_rule ds r) (flat_map rule_of_item (map (resolved_item ds) items))
resolved_in ds [] r i = absurd i
resolved_in ds (rule_item d ∷ items) r (inl e) = inl (ap (resolved_rule ds) e)
resolved_in ds (rule_item d ∷ items) r (inr i) = inr (resolved_in ds items r i)
resolved_in ds (match_item m ∷ items) r i = resolved_in ds items r i
resolved_in ds (extern_item t ∷ items) r i = resolved_in ds items r i
resolved_in ds (intern_item t ∷ items) r i = resolved_in ds items r i
resolved_in ds (use_item u ∷ items) r i = resolved_in ds items r i

-- ---- levels

module _ (r : GrammarData) (N : HasLevelNames r) where
  abbrev ps : RuleData → List (Option Leveled)
  ps d = with_levels (all_places d)

  -- the rule of a level, whose visibility and arguments are those of the written rule
  abbrev HasLevelRule : RuleData → Name → Type 0
  HasLevelRule d n = (e : RuleData) × In e (level_rules d) × IsPublicRule e × (e.name.0 ≡ n)

  -- the highest level has the name of the rule
  highest_rule : (d : RuleData) → In d (all_rules r) → IsPublicRule d → HasLevelRule d d.name.0
  highest_rule d i p = by (has_levels (all_places d)) refl
    where
      by : (b : Bool) → has_levels (all_places d) ≡ b → HasLevelRule d d.name.0
      by true e =
          let (m, j) = some_level r N d i e in
          let top = had_level (ps d) (highest_level (ps d)) (highest_is_greatest (ps d) m (level_had (ps d) m j)).0 in (
            level_rule d (ps d) (highest_level (ps d)),
            rw e (in_map (level_rule d (ps d)) (highest_level (ps d)) (levels_of (ps d)) top),
            p,
            name_highest d.name.0 (highest_level (ps d)),
          )
      by false e = (d, (rw e (inl refl)), p, refl)

  -- a declared level is one of the rule's
  declared_level : (d : RuleData) → In d (all_rules r) → (m : ℕ) → In (reference d.name.0 (Some m)) (references (leveled_rules r)) →
      In (level_rule d (ps d) m) (level_rules d)
  declared_level d i m h =
      let (w, j, k) = of_flat rule_references (reference d.name.0 (Some m)) (leveled_rules r) h in
      let (c, o, is) = leveled_from r w j in
      by c o (not (is_nil c.args)) (has_levels (all_places c)) refl
      (subst (λ (v : WrittenRule). In (reference d.name.0 (Some m)) (rule_references v)) is k)
    where
      listed : (c : RuleData) → In c (all_rules r) → c.name.0 ≡ d.name.0 → has_levels (all_places c) ≡ true →
          In m (levels_of (as_leveled r c).places) → In (level_rule d (ps d) m) (level_rules d)
      listed c o same e k =
          let one : c ≡ d = same_by (λ (x : RuleData). x.name.0) (all_rules r) c d (distinct r N) o i same in
          let leveled : has_levels (all_places d) ≡ true = subst (λ (x : RuleData). has_levels (all_places x) ≡ true) one e in
          let there : In m (levels_of (ps d)) = subst (λ (x : RuleData). In m (levels_of (ps x))) one
          (subst (λ (qs : List (Option Leveled)). In m (levels_of qs)) (places_are r N c o) k) in
          rw leveled (in_map (level_rule d (ps d)) m (levels_of (ps d)) there)

      by : (c : RuleData) → In c (all_rules r) → (x y : Bool) → has_levels (all_places c) ≡ y →
          In (reference d.name.0 (Some m)) (if x then [] else (if y then map (λ l. reference c.name.0 (Some l)) (levels_of (as_leveled r c).places) else reference c.name.0 None ∷ [])) →
          In (level_rule d (ps d) m) (level_rules d)
      by c o true y e k = absurd k
      by c o false true e k =
          let (l, j, is) = of_map (λ (l : ℕ). reference c.name.0 (Some l)) (reference d.name.0 (Some m)) (levels_of (as_leveled r c).places) k in
          let same : c.name.0 ≡ d.name.0 = cc is in
          let level : l ≡ m = cc is in
          listed c o same e (subst (λ (x : ℕ). In x (levels_of (as_leveled r c).places)) level j)
      by c o false false e (inl is) = absurd (cc is)
      by c o false false e (inr k) = absurd k

  -- each declared level has a rule of its name
  one_level_rule : (d : RuleData) → In d (all_rules r) → IsPublicRule d → (m : ℕ) → In (reference d.name.0 (Some m)) (references (leveled_rules r)) →
      HasLevelRule d (level_names (leveled_rules r) d.name.0 m)
  one_level_rule d i p m h = (level_rule d (ps d) m, declared_level d i m h, p, sym (level_at r N d i m))

-- ---- rules of the expanded grammar

-- a rule without arguments keeps its name and its visibility
plain_public : (value : ConditionValue) (h : GrammarData) (n : ℕ) (e : RuleData) → In e (all_rules h) → IsPublicRule e →
    In (replaced_rule e) (public_rules_in (all_rules (plain_grammar value h n)))
plain_public value h n e i p =
    in_public (all_rules (plain_grammar value h n)) (replaced_rule e)
    (subst (λ (rs : List RuleData). In (replaced_rule e) rs) (sym (plain_grammars_hold_plain_rules value h n))
    (in_left (replaced_rule e) (map replaced_rule (rules_without_arguments h)) (map replaced_rule (made_in value h n))
    (in_map replaced_rule e (rules_without_arguments h) (in_plain (all_rules h) e i p.0)))) p.1

module _ (value : ConditionValue) (fs : Features) (g : GrammarData) (N : HasLevelNames (prepared_grammar fs g))
    (S : IsSettled (leveled_grammar (prepared_grammar fs g))) (n : ℕ) where
  abbrev ws : List WrittenRule
  ws = written_rules fs g

  abbrev plain : GrammarData
  plain = plain_grammar value (leveled_grammar (prepared_grammar fs g)) n

  abbrev HasPublicRule : Name → Type 0
  HasPublicRule name = (p : RuleData) × In p (public_rules_in (all_rules plain)) × (p.name.0 ≡ name)

  -- a rule of a level is plain once its symbols are replaced
  of_level : (d : RuleData) → In d (all_rules (prepared_grammar fs g)) → (name : Name) → HasLevelRule (prepared_grammar fs g) N d name → HasPublicRule name
  of_level d i name (e, j, p, named) = (
    replaced_rule e,
    plain_public value (leveled_grammar (prepared_grammar fs g)) n e
        (subst (λ (rs : List RuleData). In e rs) (sym (all_level_rules (prepared_grammar fs g)))
        (in_flat level_rules d (all_rules (prepared_grammar fs g)) e i j)) p,
    named,
  )

  -- The expanded rule of a public rule, by itself or within a level, is public.
  pub public_rule : (r : RuleData) → In r (all_rules (enabled_grammar fs g)) → r.args ≡ [] → is_public r.visibility ≡ true →
      (s : ClosedSymbol) → In s (roots ws ++ references ws) → IsSymbolOf r s → HasPublicRule (text_in ws s)
  public_rule r i none shown s k (b, is) = subst (λ (x : ClosedSymbol). HasPublicRule (text_in ws x)) (sym is) (by b (subst (λ (x : ClosedSymbol). In x (roots ws ++ references ws)) is k))
    where
      d : RuleData
      d = resolved_rule (globals (enabled_grammar fs g)) r

      there : In d (all_rules (prepared_grammar fs g))
      there = resolved_in (globals (enabled_grammar fs g)) (enabled_grammar fs g).items r i

      headed : IsPublicRule d
      headed = (ap (λ (args : List NonterminalString). is_nil args) none, shown)

      declared : (m : ℕ) → In (reference r.name.0 (Some m)) (roots ws ++ references ws) → In (reference r.name.0 (Some m)) (references (leveled_rules (prepared_grammar fs g)))
      declared m j = elim (in_cases (reference r.name.0 (Some m)) (roots ws) (references ws) j) [
        | inl o ↦ (let (x, e) = root_of ws (reference r.name.0 (Some m)) o in absurd (cc e))
        | inr o ↦ subst (λ (xs : List ClosedSymbol). In (reference r.name.0 (Some m)) xs) (sym (same_references value fs g N S)) o
      ]

      by : (b : Option ℕ) → In (reference r.name.0 b) (roots ws ++ references ws) → HasPublicRule (text_in ws (reference r.name.0 b))
      by None j = of_level d there r.name.0 (highest_rule (prepared_grammar fs g) N d there headed)
      by (Some m) j =
          subst HasPublicRule (level_written value fs g N S r.name.0 (Some m))
          (of_level d there (level_names (leveled_rules (prepared_grammar fs g)) r.name.0 m)
          (one_level_rule (prepared_grammar fs g) N d there headed m (declared m j)))
