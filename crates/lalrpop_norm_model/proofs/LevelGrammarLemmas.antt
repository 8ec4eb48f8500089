-- The rules of the grammar with levels hold the clauses of the levels, index by index.
use Rattle.std.proofs.Common.{◌≡◌, ◌⊎◌, inl, inr, ℕ, zero, suc, ◌+◌, ◌<◌, List, [], ◌∷◌, ◌++◌, map, length, Option, Some, None, Bool, true, false, not, refl, sym, ap, ap₂, ◌∙◌, subst, append-nil, arith}
use Rattle.std.proofs.lemmas.List.{map-append}
use Rattle.std.specs.Prelude.{slice_get, flat_map, option_map, bytes_eq, nat_eq, if◌then◌else◌}
use Rattle.std.proofs.lemmas.Option.{slice_get-map}
use Rattle.std.proofs.lemmas.Slice.Eq.{bytes_eq-Decides}
use Rattle.lalrpop_norm_tree.specs.Symbols.{Parts}
use Rattle.lalrpop_norm_tree.specs.Items.{AlternativeData, RuleData, GrammarData}
use Rattle.lalrpop_norm_theory.specs.Symbols.{Name, ClosedSymbols, reference}
use Rattle.lalrpop_norm_theory.specs.Rounds.{In, IsDistinct}
use Rattle.lalrpop_norm_theory.specs.Clauses.{Clause, numbered, step_clauses, clauses}
use Rattle.lalrpop_norm_theory.specs.Leveled.{level_reference, leveled_symbols}
use Rattle.lalrpop_norm_model.specs.Enabled.{all_places, present}
use Rattle.lalrpop_norm_model.specs.Scopes.{globals, sense_of, resolved_alternative, resolved_parts}
use Rattle.lalrpop_norm_model.specs.Levels.{every, Leveled, has_levels, level_at, side_at, leveled_at, map_numbered, with_levels, levels_of, highest_level, previous_level}
use Rattle.lalrpop_norm_model.specs.WrittenRules.{WrittenRule, leveled_rules, flat_rules, rule_named}
use Rattle.lalrpop_norm_model.specs.Reading.{read_all}
use Rattle.lalrpop_norm_model.specs.Grammars.{is_nil, is_within, is_own_level, bound_of, own_bound_in, rule_reader, parts_at, rule_parts, place_count, previous_bound, ConditionValue, meaning, rule_references, references}
use Rattle.lalrpop_norm_model.specs.Occurrences.{own_bound}
use Rattle.lalrpop_norm_model.specs.ClosedTexts.{named_level, level_names}
use Rattle.lalrpop_norm_model.specs.MadeRules.{flat_reader}
use Rattle.lalrpop_norm_model.specs.LevelRules.{is_own, level_of_rule, level_alternative, step_alternatives, of_level, level_rule, level_rules, leveled_grammar}
use Rattle.lalrpop_norm_model.specs.PlainRules.{all_rules}
use Rattle.lalrpop_norm_model.specs.LevelNames.{HasLevelNames}
use Rattle.lalrpop_norm_model.specs.Expanded.{rule_names}
use Rattle.lalrpop_norm_model.specs.Scoped.{are_scoped}
use Rattle.lalrpop_norm_model.proofs.LevelLemmas.{in_map, of_map, of_present, level_had, had_level, highest_is_greatest}
use Rattle.lalrpop_norm_model.proofs.ScopeLemmas.{in_flat, rule_found}
use Rattle.lalrpop_norm_model.proofs.WrittenLemmas.{in_numbered, leveled_some}
use Rattle.lalrpop_norm_theory.proofs.RoundsLemmas.{in_cases}
use Rattle.lalrpop_norm_theory.proofs.ListLemmas.{distinct_right}
use Rattle.lalrpop_norm_model.proofs.SubstitutedLemmas.{parts_agree}
use Rattle.lalrpop_norm_model.proofs.ReadingLemmas.{parts_leveled, parts_kept, parts_settled}
use Rattle.lalrpop_norm_model.proofs.LevelRuleLemmas.{name_highest, map_parts, numbered_parts, others_named, whole, level_read, resolved_rule_places, leveled_whole}
use Rattle.lalrpop_norm_model.proofs.GrammarLemmas.{all_level_rules, distinct_apart, rule_item_of, of_flat, as_leveled, as_flat, leveled_found, flat_found, leveled_from, flat_from, leveled_in}

pub of_level_in : (l : ℕ) (xs : List Leveled) (a : Leveled) → In a (of_level l xs) → In a xs
of_level_in l [] a h = h
of_level_in l (x ∷ xs) a h = by (nat_eq x.level l) (of_level_in l xs a) h
  where
    by : (b : Bool) → (In a (of_level l xs) → In a xs) → In a (if b then x ∷ of_level l xs else of_level l xs) → In a (x ∷ xs)
    by true f (inl e) = inl e
    by true f (inr i) = inr (f i)
    by false f i = inr (f i)

-- ---- a grammar without levels

module _ (h : GrammarData) where
  pub no_levels_found : (n : Name) (o : Option WrittenRule) → rule_named (flat_rules h) n ≡ o → bound_of o ≡ None
  no_levels_found n None e = refl
  no_levels_found n (Some s) e =
      let (d, i, is) = flat_from h s (rule_found (flat_rules h) n s e).0 in rw is refl

  flat_name : (d : RuleData) (a : Leveled) (n : Name) (x : Bool) →
      reference n (if x then own_bound_in (as_flat h d) a 0 0 else bound_of (rule_named (flat_rules h) n)) ≡ reference n None
  flat_name d a n true = refl
  flat_name d a n false = ap (reference n) (no_levels_found n (rule_named (flat_rules h) n) refl)

  flat_read : (d : RuleData) (a : Leveled) (ps : Parts) → read_all (rule_reader (flat_rules h) (as_flat h d) a) ps ≡ read_all flat_reader ps
  flat_read d a ps =
      parts_agree (rule_reader (flat_rules h) (as_flat h d) a) flat_reader (λ n before after b c. flat_name d a n (bytes_eq n d.name.0)) 0 0 0 0 ps

  -- the alternatives of which nothing is left to resolve
  abbrev pub Settled : RuleData → Type 0
  Settled d = (x : AlternativeData) → In x d.alternatives → resolved_parts (sense_of (globals h) d.args) x.parts ≡ x.parts

  flat_at : (d : RuleData) (xs : List AlternativeData) → ((x : AlternativeData) → In x xs → resolved_parts (sense_of (globals h) d.args) x.parts ≡ x.parts) →
      (p : ℕ) →
      parts_at (flat_rules h) (as_flat h d) (is_within None (as_flat h d))
      (slice_get (map (option_map (λ (a : AlternativeData). record { level = 0; side = every; alternative = a }))
      (map (option_map (resolved_alternative (sense_of (globals h) d.args))) (map Some xs))) p)
      ≡ slice_get (map (λ (x : AlternativeData). read_all flat_reader x.parts) xs) p
  flat_at d [] s p = refl
  flat_at d (x ∷ xs) s zero =
      ap Some (flat_read d (record { level = 0; side = every; alternative = resolved_alternative (sense_of (globals h) d.args) x }) (resolved_parts (sense_of (globals h) d.args) x.parts) ∙ ap (read_all flat_reader) (s x (inl refl)))
  flat_at d (x ∷ xs) s (suc p) = flat_at d xs (λ y i. s y (inr i)) p

  pub flat_parts : (value : ConditionValue) (d : RuleData) → IsDistinct (map (λ (r : RuleData). r.name.0) (all_rules h)) → In d (all_rules h) →
      is_nil d.args ≡ true → Settled d → (p : ℕ) →
      (meaning value (flat_rules h)).reference_parts d.name.0 None p ≡ slice_get (map (λ (x : AlternativeData). read_all flat_reader x.parts) d.alternatives) p
  flat_parts value d names i plain s p =
      ap (rule_parts (flat_rules h) (is_within None) p) (flat_found h d names i) ∙ rw plain (flat_at d d.alternatives s p)

-- ---- a grammar and the one with levels

module _ (g : GrammarData) (N : HasLevelNames g) where
  abbrev rs : List WrittenRule
  rs = leveled_rules g

  abbrev l : Name → ℕ → Name
  l = level_names (leveled_rules g)

  abbrev ps : RuleData → List (Option Leveled)
  ps d = with_levels (all_places d)

  pub places_are : (d : RuleData) → In d (all_rules g) → (as_leveled g d).places ≡ ps d
  places_are d i = ap with_levels (resolved_rule_places g N.resolved d (rule_item_of g d i))

  -- ---- names

  pub has_level_rules : (d : RuleData) → has_levels (all_places d) ≡ true → level_rules d ≡ map (level_rule d (ps d)) (levels_of (ps d))
  has_level_rules d e = rw e refl

  pub no_level_rules : (d : RuleData) → has_levels (all_places d) ≡ false → level_rules d ≡ d ∷ []
  no_level_rules d e = rw e refl

  -- a rule with levels has one
  pub some_level : (d : RuleData) → In d (all_rules g) → has_levels (all_places d) ≡ true → (m : ℕ) × In m (levels_of (ps d))
  some_level d i e =
      by (levels_of (ps d)) (subst (λ (qs : List (Option Leveled)). 0 < length (levels_of qs)) (places_are d i) (leveled_some (globals g) d (all_places d) e))
    where
      by : (ls : List ℕ) → 0 < length ls → (m : ℕ) × In m ls
      by [] h = absurd (omega arith)
      by (m ∷ ls) h = (m, inl refl)

  -- a rule of that name among the rules of levels
  abbrev NameKept : RuleData → Type 0
  NameKept d = (e : RuleData) × In e (level_rules d) × (e.name.0 ≡ d.name.0)

  name_kept : (d : RuleData) → In d (all_rules g) → (b : Bool) → has_levels (all_places d) ≡ b → NameKept d
  name_kept d i true e =
      let (m, j) = some_level d i e in
      let top = (highest_is_greatest (ps d) m (level_had (ps d) m j)).0 in (
        level_rule d (ps d) (highest_level (ps d)),
        subst (λ (ds : List RuleData). In (level_rule d (ps d) (highest_level (ps d))) ds) (sym (has_level_rules d e))
            (in_map (level_rule d (ps d)) (highest_level (ps d)) (levels_of (ps d)) (had_level (ps d) (highest_level (ps d)) top)),
        name_highest d.name.0 (highest_level (ps d)),
      )
  name_kept d i false e = (d, subst (λ (ds : List RuleData). In d ds) (sym (no_level_rules d e)) (inl refl), refl)

  distinct_of : (ds : List RuleData) → ((d : RuleData) → In d ds → NameKept d) → IsDistinct (map (λ (r : RuleData). r.name.0) (flat_map level_rules ds)) →
      IsDistinct (map (λ (r : RuleData). r.name.0) ds)
  distinct_of [] kept h = tt
  distinct_of (x ∷ ds) kept h = (once, distinct_of ds (λ d i. kept d (inr i)) (distinct_right (map (λ (r : RuleData). r.name.0) (level_rules x)) _ parted))
    where
      parted : IsDistinct (map (λ (r : RuleData). r.name.0) (level_rules x) ++ map (λ (r : RuleData). r.name.0) (flat_map level_rules ds))
      parted = subst (λ (ns : List Name). IsDistinct ns) (map-append (λ (r : RuleData). r.name.0) (level_rules x) (flat_map level_rules ds)) h

      once : In x.name.0 (map (λ (r : RuleData). r.name.0) ds) → ⊥
      once i =
          let (d, j, same) = of_map (λ (r : RuleData). r.name.0) x.name.0 ds i in
          let (e, here, name) = kept x (inl refl) in
          let (c, there, other) = kept d (inr j) in
          distinct_apart x.name.0 _ _ parted
          (subst (λ (n : Name). In n (map (λ (r : RuleData). r.name.0) (level_rules x))) name (in_map (λ (r : RuleData). r.name.0) e (level_rules x) here))
          (subst (λ (n : Name). In n (map (λ (r : RuleData). r.name.0) (flat_map level_rules ds))) (other ∙ sym same)
          (in_map (λ (r : RuleData). r.name.0) c (flat_map level_rules ds) (in_flat level_rules d ds c j there)))

  -- no two rules share a name
  pub distinct : IsDistinct (rule_names g)
  distinct =
      distinct_of (all_rules g) (λ d i. name_kept d i (has_levels (all_places d)) refl)
      (subst (λ (ds : List RuleData). IsDistinct (map (λ (r : RuleData). r.name.0) ds)) (all_level_rules g) N.no_clash)

  -- each alternative at its index is scoped
  pub place_scoped : (d : RuleData) → In d (all_rules g) → (a : Leveled) → In (Some a) (ps d) → are_scoped rs d.args a.alternative.parts ≡ true
  place_scoped d i a j =
      N.names (as_leveled g d) a (leveled_in g d i) (subst (λ (qs : List (Option Leveled)). In (Some a) qs) (sym (places_are d i)) j)

  pub alternative_scoped : (d : RuleData) → In d (all_rules g) → (x : AlternativeData) → In x d.alternatives → are_scoped rs d.args x.parts ≡ true
  alternative_scoped d i x j =
      let (k, m) = in_numbered (leveled_at (all_places d)) 0 (all_places d) (Some x) (in_map Some x d.alternatives j) in
      place_scoped d i _ m

  -- ---- a rule without levels

  abbrev pub bare : RuleData → WrittenRule
  bare d = record { name = d.name.0; args = d.args; has_levels = false; places = ps d }

  pub leveled_bare : (d : RuleData) → In d (all_rules g) → has_levels (all_places d) ≡ false → as_leveled g d ≡ bare d
  leveled_bare d i e =
      ap₂ (λ (b : Bool) qs. record { name = d.name.0; args = d.args; has_levels = b; places = qs }) e (places_are d i)

  module _ (value : ConditionValue) (d : RuleData) (i : In d (all_rules g)) (plain : is_nil d.args ≡ true) (none : has_levels (all_places d) ≡ false) where
    bare_found : rule_named rs d.name.0 ≡ Some (bare d)
    bare_found = leveled_found g d distinct i ∙ ap Some (leveled_bare d i none)

    bare_name : (a : Leveled) (n : Name) (x : Bool) → bytes_eq n d.name.0 ≡ x →
        level_reference l n (if x then own_bound_in (bare d) a 0 0 else bound_of (rule_named rs n)) ≡ (if x then d.name.0 else n)
    bare_name a n true e = (bytes_eq-Decides n d.name.0).0 e
    bare_name a n false e = others_named rs n (rule_named rs n) refl

    bare_read : (a : Leveled) → are_scoped rs d.args a.alternative.parts ≡ true →
        leveled_symbols l (read_all (rule_reader rs (bare d) a) a.alternative.parts) ≡ read_all flat_reader a.alternative.parts
    bare_read a s =
        parts_leveled rs d.args l (rule_reader rs (bare d) a) flat_reader (λ before after. d.name.0)
        (λ n before after b c. ap (λ m. reference m None) (bare_name a n (bytes_eq n d.name.0) refl)) 0 0 0 0 a.alternative.parts s
        ∙ ap (read_all flat_reader) (parts_kept (λ n. bytes_eq n d.name.0) (λ before after. d.name.0)
        (λ n before after e. sym ((bytes_eq-Decides n d.name.0).0 e)) 0 0 a.alternative.parts)

    abbrev read_bare : Option Leveled → Option ClosedSymbols
    read_bare x = parts_at rs (bare d) (is_own_level None (bare d)) (Some x)

    bare_listed : (k : ℕ) (xs : List AlternativeData) → ((x : AlternativeData) → In x xs → are_scoped rs d.args x.parts ≡ true) →
        map (λ (x : AlternativeData). read_all flat_reader x.parts) xs
        ≡ map (leveled_symbols l) (present (map read_bare (map_numbered (leveled_at (all_places d)) k (map Some xs))))
    bare_listed k [] s = refl
    bare_listed k (x ∷ xs) s = ap₂ ◌∷◌ (sym (bare_read (record { level = level_at (all_places d) k; side = side_at (all_places d) k; alternative = x }) (s x (inl refl)))) (bare_listed (suc k) xs (λ y j. s y (inr j)))

    bare_parts_at : (k : ℕ) (x : Option Leveled) → slice_get (ps d) k ≡ Some x → (meaning value rs).own_parts d.name.0 None (0 + k) ≡ read_bare x
    bare_parts_at k x e =
        let same : 0 + k ≡ k = omega arith in
        rw same (ap (rule_parts rs (is_own_level None) k) bare_found ∙ rw plain (ap (parts_at rs (bare d) (is_own_level None (bare d))) e))

    bare_clauses : map (λ (c : Clause). c.parts) (clauses (meaning value rs) (reference d.name.0 None)) ≡ present (map read_bare (ps d))
    bare_clauses =
        ap (λ o. map (λ (c : Clause). c.parts)
        (numbered d.name.0 ((meaning value rs).own_parts d.name.0 None) 0 ((meaning value rs).reference_count d.name.0) ++ step_clauses d.name.0 o))
        (ap (λ o. previous_bound o None) bare_found)
        ∙ ap (map (λ (c : Clause). c.parts)) (append-nil _)
        ∙ ap (λ k. map (λ (c : Clause). c.parts) (numbered d.name.0 ((meaning value rs).own_parts d.name.0 None) 0 k)) (ap place_count bare_found)
        ∙ numbered_parts d.name.0 ((meaning value rs).own_parts d.name.0 None) read_bare 0 (ps d) bare_parts_at

    pub bare_clauses_read : map (λ (x : AlternativeData). read_all flat_reader x.parts) d.alternatives
        ≡ map (λ (c : Clause). leveled_symbols l c.parts) (clauses (meaning value rs) (reference d.name.0 None))
    bare_clauses_read =
        bare_listed 0 d.alternatives (alternative_scoped d i) ∙ ap (map (leveled_symbols l)) (sym bare_clauses)
        ∙ sym (map_parts rs (clauses (meaning value rs) (reference d.name.0 None)))

  -- ---- the rule of a declared reference

  -- a bound that a rule declares: none where it has no levels, else one of its levels, which has its rule
  abbrev pub OwnBound : RuleData → Option ℕ → Type 0
  OwnBound d b =
      ((b ≡ None) × (has_levels (all_places d) ≡ false))
      ⊎ ((has_levels (all_places d) ≡ true) × ((m : ℕ) × (b ≡ Some m) × In m (levels_of (ps d))
      × (level_reference l d.name.0 (Some m) ≡ (level_rule d (ps d) m).name.0)))

  -- what holds of the rule that a declared reference stands for in the grammar with levels
  pub record OwnRule (value : ConditionValue) (n : Name) (b : Option ℕ) : Type 0 where
    pub rule : RuleData
    pub owner : RuleData
    pub of_owner : In owner (all_rules g)
    pub there : In rule (level_rules owner)
    pub plain : is_nil rule.args ≡ true
    pub owner_plain : is_nil owner.args ≡ true
    pub named : level_reference l n b ≡ rule.name.0
    pub level : n ≡ owner.name.0
    pub bound : OwnBound owner b
    pub read : map (λ (x : AlternativeData). read_all flat_reader x.parts) rule.alternatives
        ≡ map (λ (c : Clause). leveled_symbols l c.parts) (clauses (meaning value rs) (reference n b))
    pub settled : Settled (leveled_grammar g) rule

  pub bare_settled : (d : RuleData) → In d (all_rules g) → Settled (leveled_grammar g) d
  bare_settled d i x j =
      let scoped = alternative_scoped d i x j in
      let kept = parts_kept (λ n. false) (λ before after. d.name.0) (λ n before after e. absurd (cc e)) 0 0 x.parts in
      subst (λ (qs : Parts). resolved_parts (sense_of (globals (leveled_grammar g)) d.args) qs ≡ qs) kept
      (parts_settled rs d.args (sense_of (globals (leveled_grammar g)) d.args) (λ n. false) (λ before after. d.name.0) 0 0 x.parts scoped)

  step_settled : (d : RuleData) (o : Option ℕ) (x : AlternativeData) → In x (step_alternatives d (ps d) o) →
      resolved_parts (sense_of (globals (leveled_grammar g)) d.args) x.parts ≡ x.parts
  step_settled d None x h = absurd h
  step_settled d (Some m) x (inl e) = rw e refl
  step_settled d (Some m) x (inr h) = absurd h

  own_settled : (d : RuleData) → In d (all_rules g) → (a : Leveled) → In (Some a) (ps d) →
      resolved_parts (sense_of (globals (leveled_grammar g)) d.args) (level_alternative d (ps d) a).parts ≡ (level_alternative d (ps d) a).parts
  own_settled d i a j =
      parts_settled rs d.args (sense_of (globals (leveled_grammar g)) d.args) (is_own d)
      (λ before after. level_of_rule d (ps d) (own_bound a.side a.level (previous_level (ps d) a.level) before after))
      0 0 a.alternative.parts (place_scoped d i a j)

  level_settled : (d : RuleData) → In d (all_rules g) → (m : ℕ) → Settled (leveled_grammar g) (level_rule d (ps d) m)
  level_settled d i m x j =
      elim (in_cases x (map (level_alternative d (ps d)) (of_level m (present (ps d)))) (step_alternatives d (ps d) (previous_level (ps d) m)) j) [
        | inl h ↦ (let (a, k, e) = of_map (level_alternative d (ps d)) x (of_level m (present (ps d))) h in
            rw e (own_settled d i a (of_present a (ps d) (of_level_in m (present (ps d)) a k))))
        | inr h ↦ step_settled d (previous_level (ps d) m) x h
      ]

  leveled_own : (value : ConditionValue) (d : RuleData) → In d (all_rules g) → is_nil d.args ≡ true → has_levels (all_places d) ≡ true →
      (m : ℕ) → In m (levels_of (ps d)) → OwnRule value d.name.0 (Some m)
  leveled_own value d i plain e m j =
      let found : rule_named rs d.name.0 ≡ Some (whole rs d (ps d)) =
      leveled_found g d distinct i ∙ ap Some (leveled_whole g N.resolved d (rule_item_of g d i) e) in
      record {
        rule = level_rule d (ps d) m;
        owner = d;
        of_owner = i;
        there = subst (λ (ds : List RuleData). In (level_rule d (ps d) m) ds) (sym (has_level_rules d e)) (in_map (level_rule d (ps d)) m (levels_of (ps d)) j);
        plain = plain;
        owner_plain = plain;
        named = ap (λ o. named_level o d.name.0 m) found;
        level = refl;
        bound = inr (e, (m, refl, j, ap (λ o. named_level o d.name.0 m) found));
        read = level_read rs d (ps d) found plain (place_scoped d i) value m;
        settled = level_settled d i m;
      }

  bare_own : (value : ConditionValue) (d : RuleData) → In d (all_rules g) → is_nil d.args ≡ true → has_levels (all_places d) ≡ false →
      OwnRule value d.name.0 None
  bare_own value d i plain e = record {
    rule = d;
    owner = d;
    of_owner = i;
    there = subst (λ (ds : List RuleData). In d ds) (sym (no_level_rules d e)) (inl refl);
    plain = plain;
    owner_plain = plain;
    named = refl;
    level = refl;
    bound = inl (refl, e);
    read = bare_clauses_read value d i plain e;
    settled = bare_settled d i;
  }

  own_by : (value : ConditionValue) (n : Name) (b : Option ℕ) (d : RuleData) → In d (all_rules g) → (x y : Bool) → is_nil d.args ≡ x → has_levels (all_places d) ≡ y →
      In (reference n b) (if not x then [] else (if y then map (λ m. reference d.name.0 (Some m)) (levels_of (as_leveled g d).places) else reference d.name.0 None ∷ [])) →
      OwnRule value n b
  own_by value n b d i false y p e h = absurd h
  own_by value n b d i true true p e h =
      let (m, j, is) = of_map (λ k. reference d.name.0 (Some k)) (reference n b) (levels_of (as_leveled g d).places) h in
      let k = subst (λ (qs : List (Option Leveled)). In m (levels_of qs)) (places_are d i) j in
      let same : n ≡ d.name.0 = cc is in
      let bound : b ≡ Some m = cc is in
      rw (same, bound) (leveled_own value d i p e m k)
  own_by value n b d i true false p e (inl is) =
      let same : n ≡ d.name.0 = cc is in
      let bound : b ≡ None = cc is in
      rw (same, bound) (bare_own value d i p e)
  own_by value n b d i true false p e (inr h) = absurd h

  pub own_rule : (value : ConditionValue) (n : Name) (b : Option ℕ) → In (reference n b) (references rs) → OwnRule value n b
  own_rule value n b h =
      let (w, j, k) = of_flat rule_references (reference n b) rs h in
      let (d, i, is) = leveled_from g w j in
      own_by value n b d i (is_nil d.args) (has_levels (all_places d)) refl refl
      (subst (λ (r : WrittenRule). In (reference n b) (rule_references r)) is k)

  pub in_level_rules : (d e : RuleData) → In d (all_rules g) → In e (level_rules d) → In e (all_rules (leveled_grammar g))
  in_level_rules d e i j = subst (λ (ds : List RuleData). In e ds) (sym (all_level_rules g)) (in_flat level_rules d (all_rules g) e i j)

  pub rules_leveled : (value : ConditionValue) (n : Name) (b : Option ℕ) (p : ℕ) → In (reference n b) (references rs) →
      (meaning value (flat_rules (leveled_grammar g))).reference_parts (level_reference l n b) None p
      ≡ option_map (λ (c : Clause). leveled_symbols l c.parts) (slice_get (clauses (meaning value rs) (reference n b)) p)
  rules_leveled value n b p h =
      let o = own_rule value n b h in
      ap (λ m. (meaning value (flat_rules (leveled_grammar g))).reference_parts m None p) o.named
      ∙ flat_parts (leveled_grammar g) value o.rule N.no_clash (in_level_rules o.owner o.rule o.of_owner o.there) o.plain o.settled p
      ∙ ap (λ xs. slice_get xs p) o.read
      ∙ slice_get-map (λ (c : Clause). leveled_symbols l c.parts) (clauses (meaning value rs) (reference n b)) p
