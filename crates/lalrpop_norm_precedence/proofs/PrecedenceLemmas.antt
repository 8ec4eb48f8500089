-- Where no name is defined twice in the grammar with levels, its first fault is that of the first macro with several levels.
use Rattle.std.proofs.Common.{◌≡◌, ◌⊎◌, inl, inr, ℕ, zero, suc, ◌<◌, length, List, [], ◌∷◌, ◌++◌, Option, Some, None, Bool, true, false, ◌&&◌, map, refl, sym, ap, ap₂, ◌∙◌, subst, arith}
use Rattle.std.specs.Prelude.{flat_map, nat_lt, not, unwrap_or, if◌then◌else◌}
use Rattle.lalrpop_norm_tree_names.specs.declared.names.NonterminalString.{NonterminalString}
use Rattle.lalrpop_norm_tree.specs.Accessors.{is_macro}
use Rattle.lalrpop_norm_tree.specs.Symbols.{Parts}
use Rattle.lalrpop_norm_tree.specs.Items.{AlternativeData, RuleData, ItemData, GrammarData, match_item, extern_item, intern_item, rule_item, use_item}
use Rattle.lalrpop_norm_faults.specs.declared.kind.FaultKind.TheVariants.{NotNonterminal}
use Rattle.lalrpop_norm_faults.specs.declared.failure.NormFailure.{NormFailure}
use Rattle.lalrpop_norm_faults.specs.Faults.{Fault, first, IsFault, IsFirst, RefusesOr, fault_if}
use Rattle.lalrpop_norm_faults.proofs.FaultLemmas.{first_of_more, left_none, right_none, both_none}
use Rattle.std.specs.Prelude.{Result, Ok, Err}
use Rattle.std.specs.Result.{IfOk, IsErrAnd}
use Rattle.lalrpop_norm_theory.specs.Rounds.{In}
use Rattle.lalrpop_norm_theory.proofs.RoundsLemmas.{in_cases}
use Rattle.lalrpop_norm_model.specs.Enabled.{all_places, present}
use Rattle.lalrpop_norm_model.specs.Occurrences.{first_current, bound_at, own_bound}
use Rattle.lalrpop_norm_model.specs.Scopes.{a_rule, Global, globals, Sense, a_global, sense_of, resolved_grammar}
use Rattle.lalrpop_norm_model.specs.Levels.{Side, left, right, neither, every, Leveled, has_levels, with_levels, levels_of, previous_level}
use Rattle.lalrpop_norm_model.specs.Stated.{IsRising}
use Rattle.lalrpop_norm_model.specs.Grammars.{is_nil}
use Rattle.lalrpop_norm_model.specs.LevelRules.{is_own, level_of_rule, level_alternative, step_alternatives, of_level, level_rule, leveled_grammar}
use Rattle.std.proofs.lemmas.Bool.{and_parts}
use Rattle.std.proofs.lemmas.Bool.Decides.{Decides-ltb}
use Rattle.lalrpop_norm_model.proofs.ReadingLemmas.{parts_kept}
use Rattle.lalrpop_norm_model.proofs.LevelLemmas.{of_map, of_present, place_has_level, previous_is, has_previous, rising_rises}
use Rattle.lalrpop_norm_model.proofs.LevelGrammarLemmas.{of_level_in}
use Rattle.lalrpop_norm_model.proofs.InferenceLemmas.{none_made}
use Rattle.lalrpop_norm_resolve.specs.NameFaults.{repeated_faults, repeated_argument_faults, condition_faults, nonterminal_faults, parts_name_faults, alternative_name_faults, rule_name_faults, resolve_faults}
use Rattle.lalrpop_norm_resolve.proofs.ResolvedFaults.{faults_gone}
use Rattle.lalrpop_norm_precedence_steps.specs.LevelFaults.{grammar_level_faults}
use Rattle.lalrpop_norm_precedence.specs.MacroLevels.{macro_item_faults}
use Rattle.lalrpop_norm_precedence.specs.PrecedenceFaults.{unstepped_rule, step_faults, level_rule_faults, level_items_faults, leveled_faults, precedence_faults}
use Rattle.lalrpop_norm_precedence.proofs.LevelNameLemmas.{sense_kept, level_sense}
use Rattle.lalrpop_norm_precedence.proofs.LevelFaultLemmas.{condition_none, parts_none}
use Rattle.lalrpop_norm_precedence.proofs.SettledLemmas.{leveled_from, rule_none}

-- ---- lists

all_none : {A : Type 0} (f : A → List Fault) (xs : List A) → ((x : A) → In x xs → f x ≡ []) → flat_map f xs ≡ []
all_none f [] h = refl
all_none f (x ∷ xs) h = both_none (f x) (flat_map f xs) (h x (inl refl)) (all_none f xs (λ y i. h y (inr i)))

first_joined : (xs ys rest more : List Fault) → first xs ≡ first ys → first rest ≡ first more → first (xs ++ rest) ≡ first (ys ++ more)
first_joined [] [] rest more h k = k
first_joined (x ∷ xs) (y ∷ ys) rest more h k = h
first_joined [] (y ∷ ys) rest more h k = absurd (cc h)
first_joined (x ∷ xs) [] rest more h k = absurd (cc h)

first_of_each : {A : Type 0} (f h : A → List Fault) (xs : List A) → ((x : A) → In x xs → first (f x) ≡ first (h x)) → first (flat_map f xs) ≡ first (flat_map h xs)
first_of_each f h [] e = refl
first_of_each f h (x ∷ xs) e = first_joined (f x) (h x) (flat_map f xs) (flat_map h xs) (e x (inl refl)) (first_of_each f h xs (λ y i. e y (inr i)))

-- ---- bounds

bound_is : (s : Side) (c p b a : ℕ) → (bound_at s c p b a ≡ c) ⊎ (bound_at s c p b a ≡ p)
bound_is left c p b a = by b
  where
    by : (b : ℕ) → (first_current c p b ≡ c) ⊎ (first_current c p b ≡ p)
    by zero = inl refl
    by (suc b) = inr refl
bound_is right c p b a = by a
  where
    by : (b : ℕ) → (first_current c p b ≡ c) ⊎ (first_current c p b ≡ p)
    by zero = inl refl
    by (suc b) = inr refl
bound_is neither c p b a = inr refl
bound_is every c p b a = inl refl

-- the bound of a recursive occurrence is a level of the rule
bound_in : (ps : List (Option Leveled)) (a : Leveled) → In a.level (levels_of ps) → (b c : ℕ) →
    In (own_bound a.side a.level (previous_level ps a.level) b c) (levels_of ps)
bound_in ps a h b c =
    elim (bound_is a.side a.level (unwrap_or (previous_level ps a.level) a.level) b c) [
      | inl e ↦ subst (λ (l : ℕ). In l (levels_of ps)) (sym e) h
      | inr e ↦ subst (λ (l : ℕ). In l (levels_of ps)) (sym e) (by (previous_level ps a.level) refl)
    ]
  where
    by : (o : Option ℕ) → previous_level ps a.level ≡ o → In (unwrap_or o a.level) (levels_of ps)
    by None e = h
    by (Some m) e = (previous_is ps a.level m e).0

-- ---- the steps of a macro

module _ (r : RuleData) (ps : List (Option Leveled)) where
  no_step : (l : ℕ) (o : Option ℕ) → previous_level ps l ≡ o → ((n : ℕ) → In n (levels_of ps) → n < l → ⊥) → step_faults r o ≡ []
  no_step l None e h = refl
  no_step l (Some m) e h = let p = previous_is ps l m e in absurd (h m p.0 p.1)

  step_first : (l n : ℕ) (fs : List Fault) → In n (levels_of ps) → n < l → first (step_faults r (previous_level ps l) ++ fs) ≡ Some (NotNonterminal, r.span)
  step_first l n fs i less = let (m, e) = has_previous ps l n i less in rw e refl

  steps_first : (ls : List ℕ) → levels_of ps ≡ ls →
      first (flat_map (λ l. step_faults r (previous_level ps l)) ls) ≡ first (fault_if (nat_lt 1 (length ls)) (NotNonterminal, r.span))
  steps_first [] e = refl
  steps_first (l ∷ []) e = ap first (both_none _ _ (no_step l (previous_level ps l) refl least) refl)
    where
      least : (n : ℕ) → In n (levels_of ps) → n < l → ⊥
      least n i less = elim (subst (λ (ls : List ℕ). In n ls) e i) [ inl is ↦ absurd (omega arith) | inr h ↦ absurd h ]
  steps_first (l ∷ m ∷ ls) e =
      ap (λ fs. first (fs ++ (step_faults r (previous_level ps m) ++ flat_map (λ k. step_faults r (previous_level ps k)) ls))) (no_step l (previous_level ps l) refl least)
      ∙ step_first m l (flat_map (λ k. step_faults r (previous_level ps k)) ls) there (rises.0 m (inl refl))
      ∙ sym (ap (λ b. first (fault_if b (NotNonterminal, r.span))) ((Decides-ltb 1 (length (l ∷ m ∷ ls))).1 (omega arith)))
    where
      rises : IsRising (l ∷ m ∷ ls)
      rises = subst IsRising e (rising_rises (map (λ (a : Leveled). a.level) (present ps)))

      least : (n : ℕ) → In n (levels_of ps) → n < l → ⊥
      least n i less = elim (subst (λ (ks : List ℕ). In n ks) e i) [ inl is ↦ absurd (omega arith) | inr h ↦ (let more : l < n = rises.0 n h in absurd (omega arith)) ]

      there : In l (levels_of ps)
      there = subst (λ (ks : List ℕ). In l ks) (sym e) (inl refl)

-- ---- rules

macro_is : (args : List NonterminalString) → nat_lt 0 (length args) ≡ not (is_nil args)
macro_is [] = refl
macro_is (a ∷ args) = (Decides-ltb 0 (length (a ∷ args))).1 (omega arith)

module _ (g : GrammarData) (once : repeated_faults [] (globals (leveled_grammar g)) ≡ []) (sound : resolve_faults g ≡ []) where
  abbrev names : List Global
  names = globals (leveled_grammar g)

  module _ (r : RuleData) (there : In (rule_item r) g.items) where
    abbrev ps : List (Option Leveled)
    ps = with_levels (all_places r)

    abbrev s : List ℕ → Option Sense
    s = sense_of (globals g) r.args

    abbrev t : List ℕ → Option Sense
    t = sense_of names r.args

    arguments_none : repeated_argument_faults r.span r.args ≡ []
    arguments_none = left_none (repeated_argument_faults r.span r.args) (flat_map (alternative_name_faults s) r.alternatives) (rule_none g sound (rule_item r) there)

    written_none : (x : AlternativeData) → In x r.alternatives → alternative_name_faults s x ≡ []
    written_none = none_made (alternative_name_faults s) r.alternatives (right_none (repeated_argument_faults r.span r.args) (flat_map (alternative_name_faults s) r.alternatives) (rule_none g sound (rule_item r) there))

    -- a recursive occurrence becomes the name of a rule
    own_leveled : (a : Leveled) → has_levels (all_places r) ≡ true → In a.level (levels_of ps) → (n : List ℕ) → is_own r n ≡ true → (b c : ℕ) →
        t (level_of_rule r ps (own_bound a.side a.level (previous_level ps a.level) b c)) ≡ Some (a_global a_rule)
    own_leveled a h i n own b c =
        level_sense g once r there h (and_parts (is_nil r.args) _ own).0 (own_bound a.side a.level (previous_level ps a.level) b c) (bound_in ps a i b c)

    level_none : (a : Leveled) → has_levels (all_places r) ≡ true → In (Some a) ps → alternative_name_faults t (level_alternative r ps a) ≡ []
    unfolding alternative_name_faults
    level_none a h i =
        let x = a.alternative in
        let w = written_none x (leveled_from r a i) in
        both_none _ _ (condition_none s t (sense_kept g once r.args) x.condition (left_none (condition_faults s x.condition) (parts_name_faults s x.parts) w))
        (parts_none s t (sense_kept g once r.args) (is_own r) (λ b c. level_of_rule r ps (own_bound a.side a.level (previous_level ps a.level) b c))
        (own_leveled a h (place_has_level ps a i)) 0 0 x.parts (right_none (condition_faults s x.condition) (parts_name_faults s x.parts) w))

    bare_none : (x : AlternativeData) → In x r.alternatives → alternative_name_faults t x ≡ []
    unfolding alternative_name_faults
    bare_none x i =
        let w = written_none x i in
        let kept = parts_kept (λ n. false) (λ b a. r.name.0) (λ n b a e. absurd (cc e)) 0 0 x.parts in
        both_none _ _ (condition_none s t (sense_kept g once r.args) x.condition (left_none (condition_faults s x.condition) (parts_name_faults s x.parts) w))
        (subst (λ (qs : Parts). parts_name_faults t qs ≡ []) kept
        (parts_none s t (sense_kept g once r.args) (λ n. false) (λ b a. r.name.0) (λ n e. absurd (cc e)) 0 0 x.parts (right_none (condition_faults s x.condition) (parts_name_faults s x.parts) w)))

    step_none : is_nil r.args ≡ true → has_levels (all_places r) ≡ true → (o : Option ℕ) → ((m : ℕ) → o ≡ Some m → In m (levels_of ps)) →
        (x : AlternativeData) → In x (step_alternatives r ps o) → alternative_name_faults t x ≡ []
    unfolding alternative_name_faults nonterminal_faults
    step_none plain h None f x i = absurd i
    step_none plain h (Some m) f x (inl e) =
        rw e (ap (λ o. nonterminal_faults r.span o ++ []) (level_sense g once r there h plain m (f m refl)))
    step_none plain h (Some m) f x (inr i) = absurd i

    own_none : has_levels (all_places r) ≡ true → (l : ℕ) → rule_name_faults names (unstepped_rule r ps l) ≡ []
    own_none h l =
        both_none _ _ arguments_none
        (all_none (alternative_name_faults t) (map (level_alternative r ps) (of_level l (present ps)))
        (λ x i. let (a, j, e) = of_map (level_alternative r ps) x (of_level l (present ps)) i in
        rw e (level_none a h (of_present a ps (of_level_in l (present ps) a j)))))

    plain_none : has_levels (all_places r) ≡ true → is_nil r.args ≡ true → (l : ℕ) → rule_name_faults names (level_rule r ps l) ≡ []
    plain_none h plain l =
        both_none _ _ arguments_none
        (all_none (alternative_name_faults t) (level_rule r ps l).alternatives
        (λ x i. elim (in_cases x (map (level_alternative r ps) (of_level l (present ps))) (step_alternatives r ps (previous_level ps l)) i) [
          | inl j ↦ (let (a, k, e) = of_map (level_alternative r ps) x (of_level l (present ps)) j in
              rw e (level_none a h (of_present a ps (of_level_in l (present ps) a k))))
          | inr j ↦ step_none plain h (previous_level ps l) (λ m e. (previous_is ps l m e).0) x j
        ]))

    abbrev by_args : Bool → ℕ → List Fault
    by_args b l = if b then rule_name_faults names (level_rule r ps l) else (rule_name_faults names (unstepped_rule r ps l) ++ step_faults r (previous_level ps l))

    leveled_first : (b : Bool) → is_nil r.args ≡ b → has_levels (all_places r) ≡ true →
        first (flat_map (by_args b) (levels_of ps)) ≡ first (fault_if (not b && nat_lt 1 (length (levels_of ps))) (NotNonterminal, r.span))
    leveled_first true e h = ap first (all_none (by_args true) (levels_of ps) (λ l i. plain_none h e l))
    leveled_first false e h =
        first_of_each (by_args false) (λ l. step_faults r (previous_level ps l)) (levels_of ps)
        (λ l i. ap (λ fs. first (fs ++ step_faults r (previous_level ps l))) (own_none h l))
        ∙ steps_first r ps (levels_of ps) refl

    rule_first_by : (b : Bool) → has_levels (all_places r) ≡ b →
        first (if b then flat_map (level_rule_faults names r ps) (levels_of ps) else rule_name_faults names r)
        ≡ first (fault_if (is_macro r && (b && nat_lt 1 (length (levels_of ps)))) (NotNonterminal, r.span))
    rule_first_by true h =
        leveled_first (is_nil r.args) refl h
        ∙ ap (λ b. first (fault_if (b && nat_lt 1 (length (levels_of ps))) (NotNonterminal, r.span))) (sym (macro_is r.args))
    rule_first_by false h =
        ap first (both_none _ _ arguments_none (all_none (alternative_name_faults t) r.alternatives bare_none)) ∙ by (is_macro r)
      where
        by : (b : Bool) → None ≡ first (fault_if (b && false) (NotNonterminal, r.span))
        by true = refl
        by false = refl

  item_first : (i : ItemData) → In i g.items → first (level_items_faults names i) ≡ first (macro_item_faults i)
  unfolding macro_item_faults
  item_first (rule_item r) j = rule_first_by r j (has_levels (all_places r)) refl
  item_first (match_item m) j = refl
  item_first (extern_item t) j = refl
  item_first (intern_item t) j = refl
  item_first (use_item u) j = refl

  pub items_first : first (flat_map (level_items_faults names) g.items) ≡ first (flat_map macro_item_faults g.items)
  items_first = first_of_each (level_items_faults names) macro_item_faults g.items item_first

-- ---- the three lists

-- the faults of the whole, where those of names in the grammar and those of its levels do not hold
pub later_faults : (g : GrammarData) → resolve_faults g ≡ [] → grammar_level_faults (resolved_grammar g) ≡ [] → precedence_faults g ≡ leveled_faults (resolved_grammar g)
later_faults g e f = ap₂ (λ (xs ys : List Fault). xs ++ (ys ++ leveled_faults (resolved_grammar g))) e f

-- the first fault, where no name is defined twice in the grammar with levels
pub last_faults : (g : GrammarData) → resolve_faults g ≡ [] → grammar_level_faults (resolved_grammar g) ≡ [] →
    repeated_faults [] (globals (leveled_grammar (resolved_grammar g))) ≡ [] →
    first (precedence_faults g) ≡ first (flat_map macro_item_faults (resolved_grammar g).items)
last_faults g e f once =
    let h = resolved_grammar g in
    ap first (later_faults g e f ∙ ap (λ fs. fs ++ flat_map (level_items_faults (globals (leveled_grammar h))) h.items) once)
    ∙ items_first h once (faults_gone g e)

-- the exit where what was looked for finds the first fault
pub exit_first : {T : Type 0} (r : Result T NormFailure) (e : NormFailure) (here all : List Fault) (P : T → Type 0) → IsErrAnd r (λ x. x ≡ e) →
    IsFirst here e → first all ≡ first here → RefusesOr r all P
exit_first (Ok x) e here all P from h same = absurd from
exit_first (Err x) e here all P from h same = rw from (subst (λ (f : Option Fault). IsFault f e) (sym same) h)

-- the exit where the faults begin with the callee's
pub exit_begins : {T : Type 0} (r : Result T NormFailure) (e : NormFailure) (here rest all : List Fault) (P : T → Type 0) → IsErrAnd r (λ x. x ≡ e) →
    IsFirst here e → all ≡ here ++ rest → RefusesOr r all P
exit_begins (Ok x) e here rest all P from h same = absurd from
exit_begins (Err x) e here rest all P from h same = rw (from, same) (first_of_more here rest e h)

-- an exit says nothing of a value
pub exit_without : {T : Type 0} (r : Result T NormFailure) (e : NormFailure) (P : T → Type 0) → IsErrAnd r (λ x. x ≡ e) → IfOk r P
exit_without (Ok x) e P from = absurd from
exit_without (Err x) e P from = tt
