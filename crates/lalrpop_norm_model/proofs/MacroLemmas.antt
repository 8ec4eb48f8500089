-- Macros in the grammar with levels: each keeps its name, its alternatives and their numbers.
use Rattle.std.proofs.Common.{◌≡◌, inl, inr, ℕ, zero, suc, ◌<◌, List, [], ◌∷◌, ◌++◌, map, length, Option, Some, None, Bool, true, false, not, ◌&&◌, refl, sym, ap, ap₂, ◌∙◌, subst, append-nil, map-id, true≢false, arith}
use Rattle.std.specs.Prelude.{slice_get, option_map, unwrap_or, bytes_eq, codes, if◌then◌else◌}
use Rattle.std.proofs.lemmas.Bool.{eq-eqb, true_from_ne_false}
use Rattle.lalrpop_norm_tree_names.specs.declared.names.NonterminalString.{NonterminalString}
use Rattle.lalrpop_norm_tree.specs.declared.items.Condition.{Condition}
use Rattle.lalrpop_norm_tree.specs.Items.{AlternativeData, RuleData, GrammarData}
use Rattle.lalrpop_norm_theory.specs.Symbols.{Name, ClosedSymbol, ClosedSymbols, terminal, error, reference, call, group, star, plus, question, times, wrapped, lookahead, lookbehind, no_symbols, symbol_and}
use Rattle.lalrpop_norm_theory.specs.Rounds.{In}
use Rattle.lalrpop_norm_theory.specs.Leveled.{leveled_symbol, leveled_symbols}
use Rattle.lalrpop_norm_model.specs.Enabled.{all_places, present}
use Rattle.lalrpop_norm_model.specs.Scopes.{globals, sense_of, resolved_alternative, resolved_parts}
use Rattle.lalrpop_norm_model.specs.Levels.{every, Leveled, has_levels, level_at, side_at, leveled_at, map_numbered, with_levels, levels_of, highest_level, previous_level}
use Rattle.lalrpop_norm_model.specs.WrittenRules.{WrittenRule, leveled_rules, flat_rules, rule_named}
use Rattle.lalrpop_norm_model.specs.Occurrences.{own_bound}
use Rattle.lalrpop_norm_model.specs.Reading.{read_name, read_all}
use Rattle.lalrpop_norm_model.specs.Grammars.{is_nil, bound_of, bound_argument, arguments_fit, value_of, is_true, macro_reader, instance_at, instance_parts, instance_count, ConditionValue, meaning}
use Rattle.lalrpop_norm_model.specs.ClosedTexts.{level_name, level_names}
use Rattle.lalrpop_norm_model.specs.LevelRules.{without_first, is_own, level_of_rule, level_alternative, step_alternatives, of_level, level_rule, level_rules, leveled_grammar}
use Rattle.lalrpop_norm_model.specs.PlainRules.{all_rules}
use Rattle.lalrpop_norm_model.specs.LevelNames.{HasLevelNames}
use Rattle.lalrpop_norm_model.proofs.LevelLemmas.{in_map, of_map, level_had, had_level, previous_is, highest_is_greatest}
use Rattle.lalrpop_norm_model.proofs.ScopeLemmas.{rule_found}
use Rattle.lalrpop_norm_model.proofs.ReadingLemmas.{parts_leveled, parts_kept}
use Rattle.lalrpop_norm_model.proofs.LevelRuleLemmas.{name_highest, others_named}
use Rattle.lalrpop_norm_model.proofs.GrammarLemmas.{all_level_rules, of_flat, same_by, as_leveled, as_flat, leveled_found, flat_found, leveled_from, flat_from}
use Rattle.lalrpop_norm_model.proofs.LevelGrammarLemmas.{no_levels_found, places_are, alternative_scoped, has_level_rules, no_level_rules, some_level, distinct, bare_settled, in_level_rules}

-- ---- arguments

pub fits_leveled : (l : Name → ℕ → Name) (params : List NonterminalString) (args : ClosedSymbols) → arguments_fit params (leveled_symbols l args) ≡ arguments_fit params args
fits_leveled l [] no_symbols = refl
fits_leveled l [] (symbol_and x xs) = refl
fits_leveled l (a ∷ params) no_symbols = refl
fits_leveled l (a ∷ params) (symbol_and x xs) = fits_leveled l params xs

chosen_leveled : (l : Name → ℕ → Name) (b : Bool) (x : ClosedSymbol) (o p : Option ClosedSymbol) → o ≡ option_map (leveled_symbol l) p →
    (if b then Some (leveled_symbol l x) else o) ≡ option_map (leveled_symbol l) (if b then Some x else p)
chosen_leveled l true x o p e = refl
chosen_leveled l false x o p e = e

bound_leveled : (l : Name → ℕ → Name) (params : List NonterminalString) (args : ClosedSymbols) (n : Name) →
    bound_argument params (leveled_symbols l args) n ≡ option_map (leveled_symbol l) (bound_argument params args n)
bound_leveled l [] no_symbols n = refl
bound_leveled l [] (symbol_and x xs) n = refl
bound_leveled l (a ∷ params) no_symbols n = refl
bound_leveled l (a ∷ params) (symbol_and x xs) n =
    chosen_leveled l (bytes_eq a.0 n) x (bound_argument params (leveled_symbols l xs) n) (bound_argument params xs n) (bound_leveled l params xs n)

value_leveled : (value : ConditionValue) (l : Name → ℕ → Name) (c : Condition) (o : Option ClosedSymbol) →
    value_of value c (option_map (leveled_symbol l) o) ≡ value_of value c o
value_leveled value l c None = refl
value_leveled value l c (Some (terminal t)) = refl
value_leveled value l c (Some error) = refl
value_leveled value l c (Some (reference n b)) = refl
value_leveled value l c (Some (call n xs)) = refl
value_leveled value l c (Some (group xs)) = refl
value_leveled value l c (Some (star x)) = refl
value_leveled value l c (Some (plus x)) = refl
value_leveled value l c (Some (question x)) = refl
value_leveled value l c (Some (times n x)) = refl
value_leveled value l c (Some (wrapped w x)) = refl
value_leveled value l c (Some lookahead) = refl
value_leveled value l c (Some lookbehind) = refl

pub true_leveled : (value : ConditionValue) (l : Name → ℕ → Name) (params : List NonterminalString) (args : ClosedSymbols) (c : Option Condition) →
    is_true value params (leveled_symbols l args) c ≡ is_true value params args c
true_leveled value l params args None = refl
true_leveled value l params args (Some c) =
    ap (value_of value c) (bound_leveled l params args c.lhs.0) ∙ value_leveled value l c (bound_argument params args c.lhs.0)

-- ---- one level

-- an alternative without the attributes of its level
abbrev stripped : AlternativeData → AlternativeData
stripped x = record x { attributes = without_first (codes "assoc") (without_first (codes "precedence") x.attributes) }

module _ (g : GrammarData) (N : HasLevelNames g) where
  abbrev pub rs : List WrittenRule
  rs = leveled_rules g

  abbrev pub hs : List WrittenRule
  hs = flat_rules (leveled_grammar g)

  abbrev pub l : Name → ℕ → Name
  l = level_names (leveled_rules g)

  abbrev pub ps : RuleData → List (Option Leveled)
  ps d = with_levels (all_places d)

  -- a macro's rule as the grammar with levels has it, its alternatives changed by strip
  abbrev pub flat_macro : RuleData → (AlternativeData → AlternativeData) → WrittenRule
  flat_macro d strip = record {
    name = d.name.0;
    args = d.args;
    has_levels = false;
    places = map (option_map (λ (a : AlternativeData). record { level = 0; side = every; alternative = a }))
        (map (option_map (resolved_alternative (sense_of (globals (leveled_grammar g)) d.args))) (map Some (map strip d.alternatives)));
  }

  pub record MacroRule (d : RuleData) : Type 0 where
    pub rule : RuleData
    pub there : In rule (level_rules d)
    pub name : rule.name.0 ≡ d.name.0
    pub strip : AlternativeData → AlternativeData
    pub flat : as_flat (leveled_grammar g) rule ≡ flat_macro d strip
    pub same_parts : (x : AlternativeData) → (strip x).parts ≡ x.parts
    pub same_condition : (x : AlternativeData) → (strip x).condition ≡ x.condition

  module _ (d : RuleData) (i : In d (all_rules g)) (macro : is_nil d.args ≡ false) where
    one_level : (m k : ℕ) → In m (levels_of (ps d)) → In k (levels_of (ps d)) → m ≡ k
    one_level m k p q = N.macros d i macro m k (level_had (ps d) m p) (level_had (ps d) k q)

    no_previous : (m : ℕ) (o : Option ℕ) → In m (levels_of (ps d)) → previous_level (ps d) m ≡ o → o ≡ None
    no_previous m None p e = refl
    no_previous m (Some k) p e =
        let r = previous_is (ps d) m k e in
        let less : k < m = r.1 in
        let same : k ≡ m = one_level k m r.0 p in
        absurd (omega arith)

    macro_highest : (m : ℕ) → In m (levels_of (ps d)) → highest_level (ps d) ≡ m
    macro_highest m p = one_level (highest_level (ps d)) m (had_level (ps d) _ (highest_is_greatest (ps d) m (level_had (ps d) m p)).0) p

    macro_named : (m : ℕ) → In m (levels_of (ps d)) → level_of_rule d (ps d) m ≡ d.name.0
    macro_named m p = ap (λ k. level_name d.name.0 k m) (macro_highest m p) ∙ name_highest d.name.0 m

    alternative_kept : (a : Leveled) → level_alternative d (ps d) a ≡ stripped a.alternative
    alternative_kept a =
        ap (λ qs. record (stripped a.alternative) { parts = qs })
        (parts_kept (is_own d)
        (λ before after. level_of_rule d (ps d) (own_bound a.side a.level (previous_level (ps d) a.level) before after))
        (λ n before after t. absurd (true≢false (sym t ∙ ap (λ (b : Bool). b && bytes_eq n d.name.0) macro))) 0 0 a.alternative.parts)

    alternatives_kept : (m : ℕ) → In m (levels_of (ps d)) → (k : ℕ) (xs : List AlternativeData) →
        ((a : Leveled) → In (Some a) (map_numbered (leveled_at (all_places d)) k (map Some xs)) → a.level ≡ m) →
        map (level_alternative d (ps d)) (of_level m (present (map_numbered (leveled_at (all_places d)) k (map Some xs)))) ≡ map stripped xs
    alternatives_kept m p k [] h = refl
    alternatives_kept m p k (x ∷ xs) h =
        let a : Leveled = record { level = level_at (all_places d) k; side = side_at (all_places d) k; alternative = x } in
        let e : a.level ≡ m = h a (inl refl) in
        rw (eq-eqb a.level m e)
        (ap₂ ◌∷◌ (alternative_kept a) (alternatives_kept m p (suc k) xs (λ b j. h b (inr j))))

    level_of_place : (m : ℕ) → In m (levels_of (ps d)) → (a : Leveled) → In (Some a) (ps d) → a.level ≡ m
    level_of_place m p a j = one_level a.level m (had_level (ps d) a.level (a, j, refl)) p

    leveled_macro : has_levels (all_places d) ≡ true → (m : ℕ) → In m (levels_of (ps d)) → MacroRule d
    leveled_macro e m p = record {
      rule = level_rule d (ps d) m;
      there = subst (λ (ds : List RuleData). In (level_rule d (ps d) m) ds) (sym (has_level_rules g N d e)) (in_map (level_rule d (ps d)) m (levels_of (ps d)) p);
      name = macro_named m p;
      strip = stripped;
      flat = ap₂ (λ n xs. record {
        name = n;
        args = d.args;
        has_levels = false;
        places = map (option_map (λ (a : AlternativeData). record { level = 0; side = every; alternative = a }))
            (map (option_map (resolved_alternative (sense_of (globals (leveled_grammar g)) d.args))) (map Some xs));
      }) (macro_named m p)
          (ap (λ o. map (level_alternative d (ps d)) (of_level m (present (ps d))) ++ step_alternatives d (ps d) o) (no_previous m (previous_level (ps d) m) p refl)
          ∙ append-nil _ ∙ alternatives_kept m p 0 d.alternatives (level_of_place m p));
      same_parts = λ x. refl;
      same_condition = λ x. refl;
    }

    bare_macro : has_levels (all_places d) ≡ false → MacroRule d
    bare_macro e = record {
      rule = d;
      there = subst (λ (ds : List RuleData). In d ds) (sym (no_level_rules g N d e)) (inl refl);
      name = refl;
      strip = λ x. x;
      flat = ap (λ xs. record {
        name = d.name.0;
        args = d.args;
        has_levels = false;
        places = map (option_map (λ (a : AlternativeData). record { level = 0; side = every; alternative = a }))
            (map (option_map (resolved_alternative (sense_of (globals (leveled_grammar g)) d.args))) (map Some xs));
      }) (sym (map-id d.alternatives));
      same_parts = λ x. refl;
      same_condition = λ x. refl;
    }

    pub macro_rule : (b : Bool) → has_levels (all_places d) ≡ b → MacroRule d
    macro_rule true e = let (m, p) = some_level g N d i e in leveled_macro e m p
    macro_rule false e = bare_macro e

  -- ---- an alternative of a macro read

  module _ (value : ConditionValue) (d : RuleData) (i : In d (all_rules g)) (macro : is_nil d.args ≡ false) (args : ClosedSymbols)
      (strip : AlternativeData → AlternativeData) (same_parts : (x : AlternativeData) → (strip x).parts ≡ x.parts)
      (same_condition : (x : AlternativeData) → (strip x).condition ≡ x.condition) where
    abbrev here : WrittenRule
    here = as_leveled g d

    abbrev there : WrittenRule
    there = flat_macro d strip

    argument_read : (n : Name) (o : Option ClosedSymbol) →
        leveled_symbol l (unwrap_or o (reference n (bound_of (rule_named rs n)))) ≡ unwrap_or (option_map (leveled_symbol l) o) (reference n (bound_of (rule_named hs n)))
    argument_read n None =
        ap (λ m. reference m None) (others_named rs n (rule_named rs n) refl)
        ∙ sym (ap (reference n) (no_levels_found (leveled_grammar g) n (rule_named hs n) refl))
    argument_read n (Some x) = refl

    macro_name_read : (n : Name) (before after b a : ℕ) →
        leveled_symbol l (read_name (macro_reader rs here args) before after n) ≡ read_name (macro_reader hs there (leveled_symbols l args)) b a n
    macro_name_read n before after b a =
        argument_read n (bound_argument d.args args n)
        ∙ ap (λ o. unwrap_or o (reference n (bound_of (rule_named hs n)))) (sym (bound_leveled l d.args args n))

    macro_read : (x : AlternativeData) → In x d.alternatives →
        read_all (macro_reader hs there (leveled_symbols l args)) (resolved_parts (sense_of (globals (leveled_grammar g)) d.args) (strip x).parts)
        ≡ leveled_symbols l (read_all (macro_reader rs here args) x.parts)
    macro_read x j =
        ap (λ qs. read_all (macro_reader hs there (leveled_symbols l args)) (resolved_parts (sense_of (globals (leveled_grammar g)) d.args) qs)) (same_parts x)
        ∙ ap (read_all (macro_reader hs there (leveled_symbols l args))) (bare_settled g N d i x j)
        ∙ ap (read_all (macro_reader hs there (leveled_symbols l args)))
        (sym (parts_kept (λ n. false) (λ before after. d.name.0) (λ n before after e. absurd (cc e)) 0 0 x.parts))
        ∙ sym (parts_leveled rs d.args l (macro_reader rs here args) (macro_reader hs there (leveled_symbols l args)) (λ before after. d.name.0)
        macro_name_read 0 0 0 0 x.parts (alternative_scoped g N d i x j))

    chosen_read : (b : Bool) (u v : ClosedSymbols) → u ≡ leveled_symbols l v → (if b then Some u else None) ≡ option_map (leveled_symbols l) (if b then Some v else None)
    chosen_read true u v e = ap Some e
    chosen_read false u v e = refl

    condition_read : (x : AlternativeData) → is_true value d.args (leveled_symbols l args) (strip x).condition ≡ is_true value d.args args x.condition
    condition_read x = ap (is_true value d.args (leveled_symbols l args)) (same_condition x) ∙ true_leveled value l d.args args x.condition

    macro_at : (j : ℕ) (xs : List AlternativeData) → ((x : AlternativeData) → In x xs → In x d.alternatives) → (k : ℕ) →
        instance_at value hs there (leveled_symbols l args) (slice_get
        (map (option_map (λ (a : AlternativeData). record { level = 0; side = every; alternative = a }))
        (map (option_map (resolved_alternative (sense_of (globals (leveled_grammar g)) d.args))) (map Some (map strip xs)))) k)
        ≡ option_map (leveled_symbols l) (instance_at value rs here args (slice_get (map_numbered (leveled_at (all_places d)) j (map Some xs)) k))
    macro_at j [] within k = refl
    macro_at j (x ∷ xs) within zero =
        ap (λ (b : Bool). if b then Some (read_all (macro_reader hs there (leveled_symbols l args)) (resolved_parts (sense_of (globals (leveled_grammar g)) d.args) (strip x).parts)) else None) (condition_read x)
        ∙ chosen_read (is_true value d.args args x.condition)
        (read_all (macro_reader hs there (leveled_symbols l args)) (resolved_parts (sense_of (globals (leveled_grammar g)) d.args) (strip x).parts))
        (read_all (macro_reader rs here args) x.parts) (macro_read x (within x (inl refl)))
    macro_at j (x ∷ xs) within (suc k) = macro_at (suc j) xs (λ y h. within y (inr h)) k

    instance_by : (b : Bool) (u v : Option ClosedSymbols) → u ≡ option_map (leveled_symbols l) v → (if b then u else None) ≡ option_map (leveled_symbols l) (if b then v else None)
    instance_by true u v e = e
    instance_by false u v e = refl

    pub macro_instance : (k : ℕ) → instance_parts value hs (leveled_symbols l args) k (Some there) ≡ option_map (leveled_symbols l) (instance_parts value rs args k (Some here))
    macro_instance k =
        ap (λ (b : Bool). if not (is_nil d.args) && b then instance_at value hs there (leveled_symbols l args) (slice_get there.places k) else None) (fits_leveled l d.args args)
        ∙ instance_by (not (is_nil d.args) && arguments_fit d.args args) (instance_at value hs there (leveled_symbols l args) (slice_get there.places k))
        (instance_at value rs here args (slice_get here.places k))
        (macro_at 0 d.alternatives (λ x h. h) k
        ∙ ap (λ qs. option_map (leveled_symbols l) (instance_at value rs here args (slice_get qs k))) (sym (places_are g N d i)))

  -- as many indices as alternatives
  same_count : (d : RuleData) (strip : AlternativeData → AlternativeData) (j : ℕ) (xs : List AlternativeData) →
      length (map (option_map {U = Leveled} (λ (a : AlternativeData). record { level = 0; side = every; alternative = a }))
      (map (option_map (resolved_alternative (sense_of (globals (leveled_grammar g)) d.args))) (map Some (map strip xs))))
      ≡ length (map_numbered (leveled_at (all_places d)) j (map Some xs))
  same_count d strip j [] = refl
  same_count d strip j (x ∷ xs) = ap suc (same_count d strip (suc j) xs)

  macro_counted : (d : RuleData) → In d (all_rules g) → is_nil d.args ≡ false → (strip : AlternativeData → AlternativeData) →
      instance_count (Some (flat_macro d strip)) ≡ instance_count (Some (as_leveled g d))
  macro_counted d i m strip = rw m (same_count d strip 0 d.alternatives ∙ ap length (sym (places_are g N d i)))

  -- ---- what is no macro

  level_args : (d e : RuleData) (b : Bool) → has_levels (all_places d) ≡ b → In e (level_rules d) → e.args ≡ d.args
  level_args d e true h j =
      let (m, p, is) = of_map (level_rule d (ps d)) e (levels_of (ps d)) (subst (λ (ds : List RuleData). In e ds) (has_level_rules g N d h) j) in
      ap (λ (r : RuleData). r.args) is
  level_args d e false h j = by (subst (λ (ds : List RuleData). In e ds) (no_level_rules g N d h) j)
    where
      by : In e (d ∷ []) → e.args ≡ d.args
      by (inl is) = ap (λ (r : RuleData). r.args) is
      by (inr n) = absurd n

  -- the rule of a macro has its name
  pub macro_rule_named : (d e : RuleData) → In d (all_rules g) → is_nil d.args ≡ false → (b : Bool) → has_levels (all_places d) ≡ b → In e (level_rules d) →
      e.name.0 ≡ d.name.0
  macro_rule_named d e i macro true h j =
      let (m, p, is) = of_map (level_rule d (ps d)) e (levels_of (ps d)) (subst (λ (ds : List RuleData). In e ds) (has_level_rules g N d h) j) in
      ap (λ (r : RuleData). r.name.0) is ∙ macro_named d i macro m p
  macro_rule_named d e i macro false h j = by (subst (λ (ds : List RuleData). In e ds) (no_level_rules g N d h) j)
    where
      by : In e (d ∷ []) → e.name.0 ≡ d.name.0
      by (inl is) = ap (λ (r : RuleData). r.name.0) is
      by (inr n) = absurd n

  -- no macro of the written grammar has the name
  abbrev NoMacro : Name → Type 0
  NoMacro n = (d : RuleData) → In d (all_rules g) → d.name.0 ≡ n → is_nil d.args ≡ false → ⊥

  flat_plain : (n : Name) → NoMacro n → (s : WrittenRule) → rule_named hs n ≡ Some s → is_nil s.args ≡ true
  flat_plain n none s e =
      let f = rule_found hs n s e in
      let (r, j, is) = flat_from (leveled_grammar g) s f.0 in
      let (d, i, k) = of_flat level_rules r (all_rules g) (subst (λ (ds : List RuleData). In r ds) (all_level_rules g) j) in
      let args : s.args ≡ d.args = ap (λ (w : WrittenRule). w.args) is ∙ level_args d r (has_levels (all_places d)) refl k in
      let name : r.name.0 ≡ n = ap (λ (w : WrittenRule). w.name) (sym is) ∙ f.1 in
      ap is_nil args ∙ true_from_ne_false (is_nil d.args)
      (λ m. none d i (sym (macro_rule_named d r i m (has_levels (all_places d)) refl k) ∙ name) m)

  nothing_called : (value : ConditionValue) (args : ClosedSymbols) (k : ℕ) (n : Name) → NoMacro n → (o : Option WrittenRule) → rule_named hs n ≡ o →
      instance_parts value hs args k o ≡ None
  nothing_called value args k n none None e = refl
  nothing_called value args k n none (Some s) e = rw (flat_plain n none s e) refl

  nothing_counted : (n : Name) → NoMacro n → (o : Option WrittenRule) → rule_named hs n ≡ o → instance_count o ≡ 0
  nothing_counted n none None e = refl
  nothing_counted n none (Some s) e = rw (flat_plain n none s e) refl

  -- ---- both grammars

  macro_found : (d : RuleData) (i : In d (all_rules g)) (macro : is_nil d.args ≡ false) →
      (strip : AlternativeData → AlternativeData) × (rule_named hs d.name.0 ≡ Some (flat_macro d strip))
      × ((x : AlternativeData) → (strip x).parts ≡ x.parts) × ((x : AlternativeData) → (strip x).condition ≡ x.condition)
  macro_found d i macro =
      let r = macro_rule d i macro (has_levels (all_places d)) refl in (
        r.strip,
        ap (rule_named hs) (sym r.name)
            ∙ flat_found (leveled_grammar g) r.rule N.no_clash (in_level_rules g N d r.rule i r.there) ∙ ap Some r.flat,
        r.same_parts,
        r.same_condition,
      )

  called_as : (value : ConditionValue) → (args : ClosedSymbols) (k : ℕ) (d : RuleData) → In d (all_rules g) → (b : Bool) → is_nil d.args ≡ b →
      instance_parts value hs (leveled_symbols l args) k (rule_named hs d.name.0) ≡ option_map (leveled_symbols l) (instance_parts value rs args k (Some (as_leveled g d)))
  called_as value args k d i true m =
      nothing_called value (leveled_symbols l args) k d.name.0 (λ e j n c. other e (same_by (λ (r : RuleData). r.name.0) (all_rules g) e d (distinct g N) j i n) c)
      (rule_named hs d.name.0) refl ∙ rw m refl
    where
      other : (e : RuleData) → e ≡ d → is_nil e.args ≡ false → ⊥
      other e s c = true≢false (sym m ∙ ap (λ (r : RuleData). is_nil r.args) (sym s) ∙ c)
  called_as value args k d i false m =
      let (strip, found, parts, condition) = macro_found d i m in
      ap (instance_parts value hs (leveled_symbols l args) k) found ∙ macro_instance value d i m args strip parts condition k

  counted_as : (d : RuleData) → In d (all_rules g) → (b : Bool) → is_nil d.args ≡ b → instance_count (rule_named hs d.name.0) ≡ instance_count (Some (as_leveled g d))
  counted_as d i true m =
      nothing_counted d.name.0 (λ e j n c. other e (same_by (λ (r : RuleData). r.name.0) (all_rules g) e d (distinct g N) j i n) c) (rule_named hs d.name.0) refl ∙ rw m refl
    where
      other : (e : RuleData) → e ≡ d → is_nil e.args ≡ false → ⊥
      other e s c = true≢false (sym m ∙ ap (λ (r : RuleData). is_nil r.args) (sym s) ∙ c)
  counted_as d i false m = let (strip, found, parts, condition) = macro_found d i m in ap instance_count found ∙ macro_counted d i m strip

  no_rule : (n : Name) → rule_named rs n ≡ None → NoMacro n
  no_rule n e d i s m = let found : rule_named rs n ≡ Some (as_leveled g d) = rw (← s) (leveled_found g d (distinct g N) i) in absurd (grind (arith, e, found))

  called_at : (value : ConditionValue) → (args : ClosedSymbols) (k : ℕ) (n : Name) (r : WrittenRule) (d : RuleData) → In d (all_rules g) →
      d.name.0 ≡ n → r ≡ as_leveled g d →
      instance_parts value hs (leveled_symbols l args) k (rule_named hs n) ≡ option_map (leveled_symbols l) (instance_parts value rs args k (Some r))
  called_at value args k n r d i name is = rw (is, ← name) (called_as value args k d i (is_nil d.args) refl)

  counted_at : (n : Name) (r : WrittenRule) (d : RuleData) → In d (all_rules g) → d.name.0 ≡ n → r ≡ as_leveled g d →
      instance_count (rule_named hs n) ≡ instance_count (Some r)
  counted_at n r d i name is = rw (is, ← name) (counted_as d i (is_nil d.args) refl)

  macros_by : (value : ConditionValue) → (n : Name) (args : ClosedSymbols) (k : ℕ) (o : Option WrittenRule) → rule_named rs n ≡ o →
      instance_parts value hs (leveled_symbols l args) k (rule_named hs n) ≡ option_map (leveled_symbols l) (instance_parts value rs args k o)
  macros_by value n args k None e = nothing_called value (leveled_symbols l args) k n (no_rule n e) (rule_named hs n) refl
  macros_by value n args k (Some r) e =
      let f = rule_found rs n r e in
      let (d, i, is) = leveled_from g r f.0 in
      called_at value args k n r d i (ap (λ (w : WrittenRule). w.name) (sym is) ∙ f.1) is

  counts_by : (n : Name) (o : Option WrittenRule) → rule_named rs n ≡ o → instance_count (rule_named hs n) ≡ instance_count o
  counts_by n None e = nothing_counted n (no_rule n e) (rule_named hs n) refl
  counts_by n (Some r) e =
      let f = rule_found rs n r e in
      let (d, i, is) = leveled_from g r f.0 in
      counted_at n r d i (ap (λ (w : WrittenRule). w.name) (sym is) ∙ f.1) is

  pub macros_leveled : (value : ConditionValue) → (n : Name) (args : ClosedSymbols) (k : ℕ) →
      (meaning value hs).call_parts n (leveled_symbols l args) k ≡ option_map (leveled_symbols l) ((meaning value rs).call_parts n args k)
  macros_leveled value n args k = macros_by value n args k (rule_named rs n) refl

  pub macro_counts_leveled : (value : ConditionValue) (n : Name) → (meaning value hs).call_count n ≡ (meaning value rs).call_count n
  macro_counts_leveled value n = counts_by n (rule_named rs n) refl
