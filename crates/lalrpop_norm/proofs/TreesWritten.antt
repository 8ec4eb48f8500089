-- The expanded rules of a grammar with levels are the rules of the symbols that the expansion of the written grammar makes.
use Rattle.std.proofs.Common.{◌≡◌, inl, inr, ℕ, ◌<◌, List, [], ◌∷◌, ◌++◌, map, length, Bool, true, false, not, ◌&&◌, ◌||◌, Option, Some, None, refl, sym, ap, ap₂, ◌∙◌, subst, arith}
use Rattle.std.specs.Prelude.{codes, flat_map, option_map, if◌then◌else◌, decimal}
use Rattle.std.proofs.Math.Path.{fun_ext}
use Rattle.std.proofs.lemmas.List.{map-append}
use Rattle.std.proofs.lemmas.List.Elements.{filter-append}
use Rattle.lalrpop_norm_tree_names.specs.declared.names.NonterminalString.{NonterminalString}
use Rattle.lalrpop_norm_tree.specs.Items.{RuleData, GrammarData}
use Rattle.lalrpop_norm_tree.specs.Symbols as written
use Rattle.lalrpop_norm_tree.specs.Symbols.{Kind, Parts}
use Rattle.lalrpop_norm_tree.specs.Traversal.{inner}
use Rattle.lalrpop_norm_tree_names.specs.Texts.{joined}
use Rattle.lalrpop_norm_theory.specs.Symbols.{Name, ClosedSymbol, ClosedSymbols, reference, call, group, star, plus, question, times, wrapped, no_symbols, symbol_and}
use Rattle.lalrpop_norm_theory.specs.Meaning.{Meaning}
use Rattle.lalrpop_norm_theory.specs.Clauses.{Clause, numbered, step_clauses, clauses}
use Rattle.lalrpop_norm_theory.specs.Rounds.{In, IsDistinct}
use Rattle.lalrpop_norm_theory.specs.Met.{expansion, expanded_symbols, IsResolvedIn, IsResolved}
use Rattle.lalrpop_norm_theory.specs.Leveled.{level_reference, leveled_symbol, leveled_symbols}
use Rattle.lalrpop_norm_theory.specs.Laws.{level_named}
use Rattle.lalrpop_norm_theory.specs.Tables.{SharesRule, Stands}
use Rattle.lalrpop_norm_theory.proofs.RoundsLemmas.{in_cases}
use Rattle.lalrpop_norm_theory.proofs.Expansion.{expansion_stands}
use Rattle.lalrpop_norm_theory.proofs.TableLemmas.{one_rule_from_distinct}
use Rattle.lalrpop_norm_model.specs.Features.{Features}
use Rattle.lalrpop_norm_model.specs.Enabled.{all_places, present}
use Rattle.lalrpop_norm_model.specs.Scopes.{is_argument}
use Rattle.lalrpop_norm_model.specs.Levels.{Leveled, has_levels, with_levels, levels_of, highest_level}
use Rattle.lalrpop_norm_model.specs.WrittenRules.{WrittenRule, rule_named, written_rules, leveled_rules, flat_rules}
use Rattle.lalrpop_norm_model.specs.Grammars.{ConditionValue, is_nil, has_arguments, is_own_level, rule_parts, place_count, previous_bound, meaning, rule_references, references, rule_roots, roots}
use Rattle.lalrpop_norm_model.specs.Scoped.{is_rule, is_macro_for, is_scoped_with, is_scoped_kind, are_scoped, NamesAreScoped, IsScoped}
use Rattle.lalrpop_norm_model.specs.ClosedTexts.{closed_text, closed_texts, wrapped_text, level_name, named_level, level_names, reference_name, text_in}
use Rattle.lalrpop_norm_model.specs.LevelRules.{level_of_rule, level_rule, level_rules, leveled_grammar}
use Rattle.lalrpop_norm_model.specs.PlainRules.{all_rules, plain_grammar, plain_rules, IsEnded}
use Rattle.lalrpop_norm_model.specs.Origins.{plain_symbols}
use Rattle.lalrpop_norm_model.specs.PlainTables.{IsSettled, flat_meaning, declared}
use Rattle.lalrpop_norm_model.specs.LevelNames.{HasLevelNames, level_origin}
use Rattle.lalrpop_norm_model.specs.Renumbered.{prepared_grammar, closed_up, rank_by, ranked_clause}
use Rattle.lalrpop_norm_model.specs.Expanded.{rule_names}
use Rattle.lalrpop_norm_model.proofs.LevelLemmas.{in_map, of_map, in_present, level_had, had_level, highest_is_greatest}
use Rattle.lalrpop_norm_model.proofs.ScopeLemmas.{scoped_level, in_flat, meanings_are_resolved}
use Rattle.lalrpop_norm_model.proofs.TraversalLemmas.{each_parts}
use Rattle.lalrpop_norm_model.proofs.WrittenLemmas.{scoped_as_written}
use Rattle.lalrpop_norm_model.proofs.MeaningLemmas.{meaning_has_counts, meaning_has_levels}
use Rattle.lalrpop_norm_model.proofs.LevelRuleLemmas.{name_highest}
use Rattle.lalrpop_norm_model.proofs.GrammarLemmas.{all_level_rules, of_flat, same_by, found_once, as_leveled, leveled_rules_are, leveled_found}
use Rattle.lalrpop_norm_model.proofs.LevelGrammarLemmas.{distinct, places_are}
use Rattle.lalrpop_norm_model.proofs.OriginLemmas.{grammar_leveled}
use Rattle.lalrpop_norm_model.proofs.MadeReadLemmas.{plain_in, flat_rules_resolved, references_are}
use Rattle.lalrpop_norm_model.proofs.RoundReadLemmas.{rounds_are_read}
use Rattle.lalrpop_norm_model.proofs.PlainReadLemmas.{AllFit, plain_fit}
use Rattle.lalrpop_norm_model.proofs.FaithfulLemmas.{plain_grammars_hold_plain_rules}
use Rattle.lalrpop_norm_model.proofs.RenumberedLemmas.{disabled_are_left_out, disabled_only_renumber, named_closed}
use Rattle.lalrpop_norm_model.proofs.RenumberedClauses.{clauses_only_renumber}
use Rattle.lalrpop_norm_model.proofs.WrittenLeveled.{level_closed}
use Rattle.lalrpop_norm_model.proofs.PatternLemmas.{no_map}
use Rattle.lalrpop_norm_theory.proofs.LeveledLemmas.{leveled_parts}
use Rattle.lalrpop_norm.proofs.TreesLeveled.{parts_of, leveled_read, fresh_leveled, made_leveled, made_resolved, fits_leveled}

-- ---- declared references

-- a rule taken by itself is by a reference without a bound
pub root_of : (rs : List WrittenRule) (s : ClosedSymbol) → In s (roots rs) → (n : Name) × (s ≡ reference n None)
root_of rs s h =
    let (w, i, j) = of_flat rule_roots s rs h in by w (has_arguments w) j
  where
    by : (w : WrittenRule) (x : Bool) → In s (if x then [] else reference w.name None ∷ []) → (n : Name) × (s ≡ reference n None)
    by w true i = absurd i
    by w false (inl e) = (w.name, e)
    by w false (inr i) = absurd i

abbrev bare : RuleData → ClosedSymbol
bare d = reference d.name.0 None

abbrev name_of : RuleData → Name
name_of d = d.name.0

-- what is declared is a reference
pub reference_of : (rs : List WrittenRule) (g : ClosedSymbol) → In g (references rs) → (n : Name) × (b : Option ℕ) × (g ≡ reference n b)
reference_of rs g h =
    let (w, i, j) = of_flat rule_references g rs h in by w (has_arguments w) w.has_levels j
  where
    by : (w : WrittenRule) (x y : Bool) → In g (if x then [] else (if y then map (λ l. reference w.name (Some l)) (levels_of w.places) else reference w.name None ∷ [])) →
        (n : Name) × (b : Option ℕ) × (g ≡ reference n b)
    by w true y i = absurd i
    by w false true i = (let (l, j, e) = of_map (λ l. reference w.name (Some l)) g (levels_of w.places) i in (w.name, Some l, e))
    by w false false (inl e) = (w.name, None, e)
    by w false false (inr i) = absurd i

pub declared_resolved : (rs : List WrittenRule) (g : ClosedSymbol) → In g (references rs) → IsResolvedIn (references rs) g
declared_resolved rs g h =
    let (n, b, e) = reference_of rs g h in
    subst (IsResolvedIn (references rs)) (sym e) (subst (λ (x : ClosedSymbol). In x (references rs)) e h)

none_plain : (ds : List RuleData) (n : Name) → In (reference n None) (map bare (plain_in ds)) → In n (map name_of ds)
none_plain [] n h = absurd h
none_plain (d ∷ ds) n h = by (is_nil d.args) (none_plain ds n) h
  where
    by : (x : Bool) → (In (reference n None) (map bare (plain_in ds)) → In n (map name_of ds)) →
        In (reference n None) (map bare (if x then d ∷ plain_in ds else plain_in ds)) → In n (map name_of (d ∷ ds))
    by true f (inl e) = inl (cc e)
    by true f (inr i) = inr (f i)
    by false f i = inr (f i)

distinct_plain : (ds : List RuleData) → IsDistinct (map name_of ds) → IsDistinct (map bare (plain_in ds))
distinct_plain [] h = tt
distinct_plain (d ∷ ds) h = by (is_nil d.args) (distinct_plain ds h.1)
  where
    by : (x : Bool) → IsDistinct (map bare (plain_in ds)) → IsDistinct (map bare (if x then d ∷ plain_in ds else plain_in ds))
    by true f = ((λ i. h.0 (none_plain ds d.name.0 i)), f)
    by false f = f

module _ (r : GrammarData) (N : HasLevelNames r) where
  abbrev l : Name → ℕ → Name
  l = level_names (leveled_rules r)

  abbrev ps : RuleData → List (Option Leveled)
  ps d = with_levels (all_places d)

  -- the name of a level is that of its rule
  pub level_at : (d : RuleData) → In d (all_rules r) → (m : ℕ) → l d.name.0 m ≡ level_of_rule d (ps d) m
  level_at d i m =
      ap (λ o. named_level o d.name.0 m) (leveled_found r d (distinct r N) i)
      ∙ ap (λ (qs : List (Option Leveled)). level_name d.name.0 (highest_level qs) m) (places_are r N d i)

  plain_levels : (d : RuleData) (ls : List ℕ) → plain_in (map (level_rule d (ps d)) ls) ≡ (if is_nil d.args then map (level_rule d (ps d)) ls else [])
  plain_levels d [] = by (is_nil d.args)
    where
      by : (x : Bool) → [] ≡ (let none : List RuleData = [] in if x then none else none)
      by true = refl
      by false = refl
  plain_levels d (m ∷ ls) = by (is_nil d.args) (plain_levels d ls)
    where
      by : (x : Bool) → plain_in (map (level_rule d (ps d)) ls) ≡ (if x then map (level_rule d (ps d)) ls else []) →
          (if x then level_rule d (ps d) m ∷ plain_in (map (level_rule d (ps d)) ls) else plain_in (map (level_rule d (ps d)) ls))
          ≡ (if x then map (level_rule d (ps d)) (m ∷ ls) else [])
      by true e = ap (λ ds. level_rule d (ps d) m ∷ ds) e
      by false e = e

  levels_named : (d : RuleData) → In d (all_rules r) → (ls : List ℕ) →
      map (leveled_symbol l) (map (λ m. reference d.name.0 (Some m)) ls) ≡ map bare (map (level_rule d (ps d)) ls)
  levels_named d i [] = refl
  levels_named d i (m ∷ ls) = ap₂ (λ n gs. reference n None ∷ gs) (level_at d i m) (levels_named d i ls)

  rule_lower : (d : RuleData) → In d (all_rules r) →
      map (leveled_symbol l) (rule_references (as_leveled r d)) ≡ map bare (plain_in (level_rules d))
  rule_lower d i = by (is_nil d.args) refl (has_levels (all_places d))
    where
      by : (x : Bool) → is_nil d.args ≡ x → (y : Bool) →
          map (leveled_symbol l) (if not x then [] else (if y then map (λ m. reference d.name.0 (Some m)) (levels_of (as_leveled r d).places) else reference d.name.0 None ∷ []))
          ≡ map bare (plain_in (if y then map (level_rule d (ps d)) (levels_of (ps d)) else d ∷ []))
      by true e true =
          ap (λ (qs : List (Option Leveled)). map (leveled_symbol l) (map (λ m. reference d.name.0 (Some m)) (levels_of qs))) (places_are r N d i)
          ∙ levels_named d i (levels_of (ps d))
          ∙ sym (ap (map bare) (plain_levels d (levels_of (ps d)) ∙ ap (λ (x : Bool). if x then map (level_rule d (ps d)) (levels_of (ps d)) else []) e))
      by true e false = sym (ap (λ (x : Bool). map bare (if x then d ∷ [] else [])) e)
      by false e true = sym (ap (map bare) (plain_levels d (levels_of (ps d)) ∙ ap (λ (x : Bool). if x then map (level_rule d (ps d)) (levels_of (ps d)) else []) e))
      by false e false = sym (ap (λ (x : Bool). map bare (if x then d ∷ [] else [])) e)

  rules_lower : (ds : List RuleData) → ((d : RuleData) → In d ds → In d (all_rules r)) →
      map (leveled_symbol l) (references (map (as_leveled r) ds)) ≡ map bare (plain_in (flat_map level_rules ds))
  rules_lower [] f = refl
  rules_lower (d ∷ ds) f =
      map-append (leveled_symbol l) (rule_references (as_leveled r d)) (references (map (as_leveled r) ds))
      ∙ ap₂ ◌++◌ (rule_lower d (f d (inl refl))) (rules_lower ds (λ e i. f e (inr i)))
      ∙ sym (ap (map bare) (filter-append (λ (e : RuleData). is_nil e.args) (level_rules d) (flat_map level_rules ds))
      ∙ map-append bare (plain_in (level_rules d)) (plain_in (flat_map level_rules ds)))

  plain_declared : map (leveled_symbol l) (references (leveled_rules r)) ≡ map bare (plain_in (all_rules (leveled_grammar r)))
  plain_declared =
      ap (λ rs. map (leveled_symbol l) (references rs)) (leveled_rules_are r) ∙ rules_lower (all_rules r) (λ d i. i)
      ∙ ap (λ ds. map bare (plain_in ds)) (sym (all_level_rules r))

  -- the references of the grammar with levels are those of the written one, in order
  pub lower : IsSettled (leveled_grammar r) → map (leveled_symbol l) (references (leveled_rules r)) ≡ declared (leveled_grammar r)
  lower S =
      plain_declared
      ∙ sym (ap references (flat_rules_resolved (leveled_grammar r) S.resolved) ∙ references_are (all_rules (leveled_grammar r)))

  -- distinct references have distinct names
  pub once : (g h : ClosedSymbol) → In g (references (leveled_rules r)) → In h (references (leveled_rules r)) →
      leveled_symbol l g ≡ leveled_symbol l h → g ≡ h
  once g h i j e =
      same_by (leveled_symbol l) (references (leveled_rules r)) g h
      (subst IsDistinct (sym plain_declared) (distinct_plain (all_rules (leveled_grammar r)) N.no_clash)) i j e

-- ---- rules without holes

closed_names : (ws : List WrittenRule) → map (λ (w : WrittenRule). w.name) (map closed_up ws) ≡ map (λ (w : WrittenRule). w.name) ws
closed_names [] = refl
closed_names (w ∷ ws) = ap (λ ns. w.name ∷ ns) (closed_names ws)

module _ (ws : List WrittenRule) where
  rule_closed : (x : Bool) (o : Option WrittenRule) → (x || is_rule (option_map closed_up o)) ≡ (x || is_rule o)
  rule_closed x None = refl
  rule_closed x (Some w) = refl

  macro_closed : (qs : Parts) (o : Option WrittenRule) → is_macro_for qs (option_map closed_up o) ≡ is_macro_for qs o
  macro_closed qs None = refl
  macro_closed qs (Some w) = refl

  module _ (args : List NonterminalString) where
    with_closed : (k : Kind) (x : Bool) → is_scoped_with (map closed_up ws) args k x ≡ is_scoped_with ws args k x
    with_closed (written.nonterminal n) x =
        ap (λ o. is_argument args n || is_rule o) (named_closed ws n) ∙ rule_closed (is_argument args n) (rule_named ws n)
    with_closed (written.call n qs) x =
        ap (λ y. not (is_argument args n) && (y && x)) (ap (is_macro_for qs) (named_closed ws n) ∙ macro_closed qs (rule_named ws n))
    with_closed _ x = refl

    parts_closed : (qs : Parts) → are_scoped (map closed_up ws) args qs ≡ are_scoped ws args qs
    parts_closed =
        each_parts (λ k. is_scoped_kind (map closed_up ws) args k ≡ is_scoped_kind ws args k) (λ qs. are_scoped (map closed_up ws) args qs ≡ are_scoped ws args qs)
        refl (λ s k qs e f. ap₂ ◌&&◌ e f)
        (λ k e. scoped_level (map closed_up ws) args k ∙ with_closed k (are_scoped (map closed_up ws) args (inner k)) ∙ ap (is_scoped_with ws args k) e ∙ sym (scoped_level ws args k))

  names_open : NamesAreScoped (map closed_up ws) → NamesAreScoped ws
  names_open names w a i j =
      sym (parts_closed w.args a.alternative.parts)
      ∙ names (closed_up w) a (in_map closed_up w ws i) (in_map Some a (present w.places) (in_present a w.places j))

-- ---- rules taken by themselves

module _ (ws : List WrittenRule) (S : IsScoped ws) (D : IsDistinct (map (λ (w : WrittenRule). w.name) ws)) (value : ConditionValue) where
  abbrev Shares : ClosedSymbol → Type 0
  Shares g = SharesRule (meaning value ws) (text_in ws) (references ws) g

  abbrev clauses_by : Name → Option ℕ → Option WrittenRule → List Clause
  clauses_by n b o = numbered n (λ k. rule_parts ws (is_own_level b) k o) 0 (place_count o) ++ step_clauses n (previous_bound o b)

  -- a rule taken by itself is that of its highest level
  highest_shared : (w : WrittenRule) → In w ws → has_arguments w ≡ false → w.has_levels ≡ true → Shares (reference w.name None)
  highest_shared w i plain e =
      let found : rule_named ws w.name ≡ Some w = found_once ws w D i in
      let (m, j) = some (levels_of w.places) (S.some_level w i e) in
      let top = had_level w.places (highest_level w.places) (highest_is_greatest w.places m (level_had w.places m j)).0 in (
        reference w.name (Some (highest_level w.places)),
        in_flat rule_references w ws (reference w.name (Some (highest_level w.places))) i
            (rw (plain, e) (in_map (λ l. reference w.name (Some l)) (highest_level w.places) (levels_of w.places) top)),
        sym (ap (λ o. named_level o w.name (highest_level w.places)) found ∙ name_highest w.name (highest_level w.places)),
        ap (clauses_by w.name None) found ∙ sym (ap (clauses_by w.name (Some (highest_level w.places))) found),
      )
    where
      some : (ls : List ℕ) → 0 < length ls → (m : ℕ) × In m ls
      some [] h = absurd (omega arith)
      some (m ∷ ls) h = (m, inl refl)

  bare_shared : (w : WrittenRule) → In w ws → has_arguments w ≡ false → w.has_levels ≡ false → Shares (reference w.name None)
  bare_shared w i plain e = (reference w.name None, in_flat rule_references w ws (reference w.name None) i (rw (plain, e) (inl refl)), refl, refl)

  pub roots_shared : (g : ClosedSymbol) → In g (roots ws) → Shares g
  roots_shared g h =
      let (w, i, j) = of_flat rule_roots g ws h in by w i (has_arguments w) refl w.has_levels refl j
    where
      by : (w : WrittenRule) → In w ws → (x : Bool) → has_arguments w ≡ x → (y : Bool) → w.has_levels ≡ y →
          In g (if x then [] else reference w.name None ∷ []) → Shares g
      by w i true m y e j = absurd j
      by w i false m true e (inl k) = subst Shares (sym k) (highest_shared w i m e)
      by w i false m false e (inl k) = subst Shares (sym k) (bare_shared w i m e)
      by w i false m y e (inr k) = absurd k

-- ---- texts

module _ (low ws : List WrittenRule) (l : Name → ℕ → Name) (same : (n : Name) (b : Option ℕ) → level_reference l n b ≡ reference_name ws n b) where
  mutual
    text_leveled : (g : ClosedSymbol) → closed_text (reference_name low) (leveled_symbol l g) ≡ closed_text (reference_name ws) g
    text_leveled (reference n b) = same n b
    text_leveled (call n gs) = ap (λ ts. n ++ codes "<" ++ joined (codes ", ") ts ++ codes ">") (texts_leveled gs)
    text_leveled (group gs) = ap (λ ts. codes "(" ++ joined (codes " ") ts ++ codes ")") (texts_leveled gs)
    text_leveled (star x) = ap (λ t. t ++ codes "*") (text_leveled x)
    text_leveled (plus x) = ap (λ t. t ++ codes "+") (text_leveled x)
    text_leveled (question x) = ap (λ t. t ++ codes "?") (text_leveled x)
    text_leveled (times n x) = ap (λ t. t ++ (codes "{" ++ decimal n ++ codes "}")) (text_leveled x)
    text_leveled (wrapped w g) = ap (wrapped_text w) (text_leveled g)
    text_leveled _ = refl

    texts_leveled : (gs : ClosedSymbols) → closed_texts (reference_name low) (leveled_symbols l gs) ≡ closed_texts (reference_name ws) gs
    texts_leveled no_symbols = refl
    texts_leveled (symbol_and g gs) = ap₂ ◌∷◌ (text_leveled g) (texts_leveled gs)

ranked_parts : (l : Name → ℕ → Name) (rank : Name → ℕ → ℕ) (cs : List Clause) → map (leveled_parts l) (map (ranked_clause rank) cs) ≡ map (leveled_parts l) cs
ranked_parts l rank [] = refl
ranked_parts l rank (c ∷ cs) = ap (λ gs. leveled_parts l c ∷ gs) (ranked_parts l rank cs)

pub fitting_names : (M : Meaning) (name : ClosedSymbol → Name) (rs : List RuleData) (gs : List ClosedSymbol) → AllFit M name rs gs → map name_of rs ≡ map name gs
fitting_names M name [] [] f = refl
fitting_names M name [] (g ∷ gs) f = absurd f
fitting_names M name (r ∷ rs) [] f = absurd f
fitting_names M name (r ∷ rs) (g ∷ gs) f = ap₂ ◌∷◌ f.0.named (fitting_names M name rs gs f.1)

-- ---- the written grammar

module _ (value : ConditionValue) (fs : Features) (g : GrammarData) (N : HasLevelNames (prepared_grammar fs g))
    (S : IsSettled (leveled_grammar (prepared_grammar fs g))) where
  abbrev pub ws : List WrittenRule
  ws = written_rules fs g

  abbrev pub M : Meaning
  M = meaning value (written_rules fs g)

  abbrev h : GrammarData
  h = leveled_grammar (prepared_grammar fs g)

  abbrev rs : List WrittenRule
  rs = leveled_rules (prepared_grammar fs g)

  abbrev ln : Name → ℕ → Name
  ln = level_names (leveled_rules (prepared_grammar fs g))

  -- what is declared stays when the disabled alternatives are left out
  pub same_references : references rs ≡ references ws
  same_references = (disabled_only_renumber value fs g).1

  pub written_scoped : IsScoped ws
  written_scoped = (scoped_as_written fs g).0.0 (names_open ws (subst NamesAreScoped (disabled_are_left_out fs g) N.names))

  leveled_distinct : IsDistinct (map (λ (w : WrittenRule). w.name) rs)
  leveled_distinct =
      subst IsDistinct
      (sym (names_leveled (all_rules (prepared_grammar fs g)))
      ∙ ap (map (λ (w : WrittenRule). w.name)) (sym (leveled_rules_are (prepared_grammar fs g))))
      (distinct (prepared_grammar fs g) N)
    where
      names_leveled : (ds : List RuleData) → map (λ (w : WrittenRule). w.name) (map (as_leveled (prepared_grammar fs g)) ds) ≡ map name_of ds
      names_leveled [] = refl
      names_leveled (d ∷ ds) = ap (λ ns. d.name.0 ∷ ns) (names_leveled ds)

  pub written_distinct : IsDistinct (map (λ (w : WrittenRule). w.name) ws)
  written_distinct = subst IsDistinct (ap (map (λ (w : WrittenRule). w.name)) (disabled_are_left_out fs g) ∙ closed_names ws) leveled_distinct

  pub written_resolved : IsResolved M (references ws)
  written_resolved = meanings_are_resolved value ws written_scoped

  once_written : (x y : ClosedSymbol) → In x (references ws) → In y (references ws) → leveled_symbol ln x ≡ leveled_symbol ln y → x ≡ y
  once_written x y i j e =
      once (prepared_grammar fs g) N x y (subst (λ (gs : List ClosedSymbol). In x gs) (sym same_references) i)
      (subst (λ (gs : List ClosedSymbol). In y gs) (sym same_references) j) e

  pub lower_written : map (leveled_symbol ln) (references ws) ≡ declared h
  lower_written = ap (map (leveled_symbol ln)) (sym same_references) ∙ lower (prepared_grammar fs g) N S

  read_written : (x : ClosedSymbol) → IsResolvedIn (references ws) x →
      map parts_of (clauses (flat_meaning value h) (leveled_symbol ln x)) ≡ map (leveled_parts ln) (clauses M x)
  read_written x r =
      leveled_read (meaning value rs) (flat_meaning value h) ln (level_origin value (prepared_grammar fs g)) (references rs)
      (grammar_leveled value (prepared_grammar fs g) N) (meaning_has_counts value (flat_rules h)) (meaning_has_levels value (flat_rules h)) x
      (subst (λ (gs : List ClosedSymbol). IsResolvedIn gs x) (sym same_references) r)
      ∙ ap (map (leveled_parts ln)) (clauses_only_renumber value fs g x)
      ∙ ranked_parts ln (rank_by ws) (clauses M x)

  -- and so do the names of levels
  pub level_written : (n : Name) (b : Option ℕ) → level_reference ln n b ≡ reference_name ws n b
  level_written n None = refl
  level_written n (Some m) = ap (λ xs. level_names xs n m) (disabled_are_left_out fs g) ∙ level_closed ws n m

  pub text_written : level_named ln (text_in (flat_rules h)) ≡ text_in ws
  text_written = fun_ext (λ x. text_leveled (flat_rules h) ws ln level_written x)

  -- where no later round has a new symbol, that is so of the written grammar too
  pub written_whole : (n : ℕ) → IsEnded value h n → (expansion M (references ws) n).fresh ≡ []
  written_whole n whole =
      no_map (leveled_symbol ln) (expansion M (references ws) n).fresh
      (fresh_leveled M (flat_meaning value h) ln (references ws) (declared h) written_resolved (meaning_has_levels value ws) (declared_resolved ws)
      once_written lower_written read_written n
      ∙ (rounds_are_read value h S n).3.0 whole)

  -- the symbols that get rules are those of the written grammar
  pub made_written : (n : ℕ) → map (leveled_symbol ln) (expanded_symbols M (references ws) n) ≡ expanded_symbols (flat_meaning value h) (declared h) n
  made_written n =
      made_leveled M (flat_meaning value h) ln (references ws) (declared h) written_resolved (meaning_has_levels value ws) (declared_resolved ws)
      once_written lower_written read_written n

  made_same : (n : ℕ) → plain_symbols (flat_meaning value h) (declared h) n ≡ map (leveled_symbol ln) (plain_symbols M (references ws) n)
  made_same n =
      ap₂ ◌++◌ (sym lower_written) (sym (made_written n))
      ∙ sym (map-append (leveled_symbol ln) (references ws) (expanded_symbols M (references ws) n))

  plain_resolved : (n : ℕ) (x : ClosedSymbol) → In x (plain_symbols M (references ws) n) → IsResolvedIn (references ws) x
  plain_resolved n x i = elim (in_cases x (references ws) (expanded_symbols M (references ws) n) i) [
    | inl j ↦ declared_resolved ws x j
    | inr j ↦ made_resolved M (flat_meaning value h) ln (references ws) (declared h) written_resolved (meaning_has_levels value ws) (declared_resolved ws)
        once_written lower_written read_written n x j
  ]

  -- the rules of the expanded grammar are those of the written symbols
  pub written_fit : (n : ℕ) → AllFit M (text_in ws) (plain_rules value h n) (plain_symbols M (references ws) n)
  written_fit n =
      subst (λ (name : ClosedSymbol → Name). AllFit M name (plain_rules value h n) (plain_symbols M (references ws) n)) text_written
      (fits_leveled M (flat_meaning value h) ln (references ws) (declared h) written_resolved (meaning_has_levels value ws) (declared_resolved ws)
      once_written lower_written read_written (text_in (flat_rules h)) (plain_rules value h n) (plain_symbols M (references ws) n) (plain_resolved n)
      (subst (λ (gs : List ClosedSymbol). AllFit (flat_meaning value h) (text_in (flat_rules h)) (plain_rules value h n) gs) (made_same n) (plain_fit value h S n)))

  pub written_names : (n : ℕ) → rule_names (plain_grammar value h n) ≡ map (text_in ws) (plain_symbols M (references ws) n)
  written_names n =
      ap (map name_of) (plain_grammars_hold_plain_rules value h n)
      ∙ fitting_names M (text_in ws) (plain_rules value h n) (plain_symbols M (references ws) n) (written_fit n)

  -- the rules of the written symbols are there
  pub written_stands : (n : ℕ) → IsEnded value h n → IsDistinct (rule_names (plain_grammar value h n)) →
      Stands M (text_in ws) (roots ws) (references ws) (expanded_symbols M (references ws) n)
  written_stands n whole D =
      expansion_stands M (meaning_has_levels value ws) (references ws) written_resolved (declared_resolved ws) n (written_whole n whole) (text_in ws)
      (one_rule_from_distinct M (text_in ws) (plain_symbols M (references ws) n) (subst IsDistinct (written_names n) D))
      (roots ws) (roots_shared ws written_scoped written_distinct value)
