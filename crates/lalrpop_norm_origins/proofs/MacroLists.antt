-- A macro of the grammar with levels, and its list: the written macro's alternatives in order, each from its written index.
use Rattle.std.proofs.Common.{◌≡◌, inl, inr, ℕ, suc, ◌<◌, List, [], ◌∷◌, ◌++◌, length, map, Bool, true, false, Decides, refl, sym, ap, ap₂, ◌∙◌, subst, append-nil, arith}
use Rattle.std.specs.Prelude.{flat_map, Option, Some, None, option_map, nat_eq, if◌then◌else◌}
use Rattle.std.proofs.lemmas.Bool.Decides.{Decides-eqb}
use Rattle.std.proofs.lemmas.List.{length-map}
use Rattle.lalrpop_norm_tree.specs.declared.items.Condition.{Condition}
use Rattle.lalrpop_norm_tree.specs.Items.{AlternativeData, RuleData, GrammarData}
use Rattle.lalrpop_norm_theory.specs.Symbols.{Name}
use Rattle.lalrpop_norm_theory.specs.LoweredTrees.{Origin}
use Rattle.lalrpop_norm_theory.specs.Rounds.{In}
use Rattle.lalrpop_norm_model.specs.Features.{Features}
use Rattle.lalrpop_norm_model.specs.Enabled.{PlacedAlternatives, present, all_places, enabled_places, enabled_grammar}
use Rattle.lalrpop_norm_model.specs.Scopes.{Sense, globals, sense_of, resolved_alternative}
use Rattle.lalrpop_norm_model.specs.Levels.{Leveled, has_levels, greatest, below, leveled_at, map_numbered, levels_of, previous_level}
use Rattle.lalrpop_norm_model.specs.WrittenRules.{WrittenRule, written_rules}
use Rattle.lalrpop_norm_model.specs.Grammars.{is_nil}
use Rattle.lalrpop_norm_model.specs.LevelRules.{level_alternative, step_alternatives, of_level, level_rule, level_rules}
use Rattle.lalrpop_norm_model.specs.PlainRules.{all_rules}
use Rattle.lalrpop_norm_model.specs.LevelNames.{HasLevelNames}
use Rattle.lalrpop_norm_model.specs.Renumbered.{prepared_grammar}
use Rattle.lalrpop_norm_model.proofs.LevelLemmas.{in_map, of_map, of_present, level_had, place_has_level, previous_is}
use Rattle.lalrpop_norm_model.proofs.GrammarLemmas.{of_flat}
use Rattle.lalrpop_norm_model.proofs.MacroLemmas.{macro_rule_named}
use Rattle.lalrpop_norm_origins.specs.EnabledOrigins.{places_from}
use Rattle.lalrpop_norm_origins.specs.LeveledOrigins.{levels_there, picked, step_origins, level_origins}
use Rattle.lalrpop_norm_origins.specs.MadeOrigins.{TracedRule}
use Rattle.lalrpop_norm_origins.proofs.PairedLists.{paired, in_paired, active, prepared, written_of, written_active, prepared_active}
use Rattle.lalrpop_norm_origins.proofs.WrittenLists.{leveled, has_prepared, there_prepared, levels_prepared, written_lists, args_kept}

-- the conditions of alternatives
abbrev pub conditions_of : List AlternativeData → List (Option Condition)
conditions_of xs = map (λ (a : AlternativeData). a.condition) xs

abbrev pub conditions_there : List Leveled → List (Option Condition)
conditions_there xs = map (λ (a : Leveled). a.alternative.condition) xs

-- ---- where all are of one level

of_level_by : (l : ℕ) (a : Leveled) (xs : List Leveled) (b : Bool) → Decides b (a.level ≡ l) → a.level ≡ l → (if b then a ∷ of_level l xs else of_level l xs) ≡ a ∷ of_level l xs
of_level_by l a xs true d e = refl
of_level_by l a xs false d e = let differs = d.1 e in cc

all_of_level : (l : ℕ) (xs : List Leveled) → ((a : Leveled) → In a xs → a.level ≡ l) → of_level l xs ≡ xs
all_of_level l [] h = refl
all_of_level l (a ∷ xs) h =
    of_level_by l a xs (nat_eq a.level l) (Decides-eqb a.level l) (h a (inl refl))
    ∙ ap (λ ys. a ∷ ys) (all_of_level l xs (λ b i. h b (inr i)))

picked_by : (l m : ℕ) (o : Origin) (ms : List ℕ) (os : List Origin) (b : Bool) → Decides b (m ≡ l) → m ≡ l → (if b then o ∷ picked l ms os else picked l ms os) ≡ o ∷ picked l ms os
picked_by l m o ms os true d e = refl
picked_by l m o ms os false d e = let differs = d.1 e in cc

all_picked : (l : ℕ) (ms : List ℕ) (os : List Origin) → ((m : ℕ) → In m ms → m ≡ l) → length ms ≡ length os → picked l ms os ≡ os
all_picked l [] [] h e = refl
all_picked l [] (o ∷ os) h e = absurd (omega arith)
all_picked l (m ∷ ms) [] h e = absurd (omega arith)
all_picked l (m ∷ ms) (o ∷ os) h e =
    picked_by l m o ms os (nat_eq m l) (Decides-eqb m l) (h m (inl refl))
    ∙ ap (λ ps. o ∷ ps) (all_picked l ms os (λ k i. h k (inr i)) (omega arith))

same_previous : (ps qs : List (Option Leveled)) (l : ℕ) → levels_of ps ≡ levels_of qs → previous_level ps l ≡ previous_level qs l
same_previous ps qs l e = ap (λ ls. greatest (below l ls)) e

rule_in : (rs : List RuleData) (oss : List (List Origin)) (t : TracedRule) → In t (paired rs oss) → In t.0 rs
rule_in [] oss t h = absurd h
rule_in (d ∷ rs) [] t h = absurd h
rule_in (d ∷ rs) (os ∷ oss) t (inl e) = inl (ap (λ (x : TracedRule). x.0) e)
rule_in (d ∷ rs) (os ∷ oss) t (inr h) = inr (rule_in rs oss t h)

-- ---- indices

places_counted : (n : Name) (k : ℕ) (ps : List (Option Leveled)) → length (places_from n k ps) ≡ length (present ps)
places_counted n k [] = refl
places_counted n k (None ∷ ps) = places_counted n (suc k) ps
places_counted n k (Some a ∷ ps) = ap suc (places_counted n (suc k) ps)

conditions_resolved : (sense : List ℕ → Option Sense) (qs : PlacedAlternatives) (j : ℕ) (ps : PlacedAlternatives) →
    conditions_of (map (resolved_alternative sense) (present ps))
    ≡ conditions_there (present (map_numbered (leveled_at qs) j (map (option_map (resolved_alternative sense)) ps)))
conditions_resolved sense qs j [] = refl
conditions_resolved sense qs j (None ∷ ps) = conditions_resolved sense qs (suc j) ps
conditions_resolved sense qs j (Some a ∷ ps) = ap (λ (cs : List (Option Condition)). a.condition ∷ cs) (conditions_resolved sense qs (suc j) ps)

-- ---- a macro and its list

-- t is a written macro: under its name, with its arguments, conditions in their order, and its written indices
pub record IsWrittenMacro (ws : List WrittenRule) (t : TracedRule) : Type 0 where
  pub macro : WrittenRule
  pub there : In macro ws
  pub name : t.0.name.0 ≡ macro.name
  pub args : t.0.args ≡ macro.args
  pub conditions : conditions_of t.0.alternatives ≡ conditions_there (present macro.places)
  pub origins : t.1 ≡ places_from macro.name 0 macro.places

module _ (fs : Features) (g : GrammarData) (N : HasLevelNames (prepared_grammar fs g)) (r : RuleData) (i : In r (active fs g)) (macro : is_nil r.args ≡ false) where
  abbrev w : WrittenRule
  w = written_of fs g r

  abbrev d : RuleData
  d = prepared fs g r

  abbrev P : List (Option Leveled)
  P = leveled fs g r

  there : In d (all_rules (prepared_grammar fs g))
  there = subst (λ (ds : List RuleData). In d ds) (sym (prepared_active fs g)) (in_map (prepared fs g) r (active fs g) i)

  listed : In w (written_rules fs g)
  listed = subst (λ (ws : List WrittenRule). In w ws) (sym (written_active fs g)) (in_map (written_of fs g) r (active fs g) i)

  named : (e : RuleData) → In e (level_rules d) → e.name.0 ≡ r.name.0
  named e j = macro_rule_named (prepared_grammar fs g) N d e there macro (has_levels (all_places d)) refl j

  one_level : (l m : ℕ) → In l (levels_of P) → In m (levels_of P) → l ≡ m
  one_level l m p q = N.macros d there macro l m (level_had P l p) (level_had P m q)

  no_previous : (l : ℕ) (o : Option ℕ) → In l (levels_of P) → previous_level P l ≡ o → o ≡ None
  no_previous l None p e = refl
  no_previous l (Some k) p e =
      let lower = previous_is P l k e in
      let less : k < l = lower.1 in
      let same : k ≡ l = one_level k l lower.0 p in
      absurd (omega arith)

  -- each alternative that is there is of level l, if l is one
  level_there : (l : ℕ) → In l (levels_of P) → (a : Leveled) → In a (present P) → a.level ≡ l
  level_there l p a j = one_level a.level l (place_has_level P a (of_present a P j)) p

  level_listed : (l : ℕ) → In l (levels_of P) → (m : ℕ) → In m (levels_there w.places) → m ≡ l
  level_listed l p m j =
      let (a, k, is) = of_map (λ (x : Leveled). x.level) m (present w.places) j in
      is ∙ level_there l p a (subst (λ (xs : List Leveled). In a xs) (sym (there_prepared fs g r)) k)

  level_conditions : (l : ℕ) → In l (levels_of P) → conditions_of (level_rule d P l).alternatives ≡ conditions_there (present w.places)
  level_conditions l p =
      ap (λ o. conditions_of (map (level_alternative d P) (of_level l (present P)) ++ step_alternatives d P o)) (no_previous l (previous_level P l) p refl)
      ∙ ap conditions_of (append-nil (map (level_alternative d P) (of_level l (present P))))
      ∙ ap (λ xs. conditions_of (map (level_alternative d P) xs)) (all_of_level l (present P) (level_there l p))
      ∙ kept (present P)
      ∙ ap conditions_there (there_prepared fs g r)
    where
      kept : (xs : List Leveled) → conditions_of (map (level_alternative d P) xs) ≡ conditions_there xs
      kept [] = refl
      kept (a ∷ xs) = ap (λ (cs : List (Option Condition)). a.alternative.condition ∷ cs) (kept xs)

  level_list : (l : ℕ) → In l (levels_of P) →
      picked l (levels_there w.places) (places_from w.name 0 w.places) ++ step_origins (previous_level w.places l) ≡ places_from w.name 0 w.places
  level_list l p =
      ap₂ (λ (os : List Origin) (o : Option ℕ). os ++ step_origins o)
      (all_picked l (levels_there w.places) (places_from w.name 0 w.places) (level_listed l p)
      (length-map (present w.places) (λ (a : Leveled). a.level) ∙ sym (places_counted w.name 0 w.places)))
      (sym (same_previous P w.places l (levels_prepared fs g r)) ∙ no_previous l (previous_level P l) p refl)
      ∙ append-nil (places_from w.name 0 w.places)

  is_macro : (t : TracedRule) → In t.0 (level_rules d) → conditions_of t.0.alternatives ≡ conditions_there (present w.places) →
      t.1 ≡ places_from w.name 0 w.places → IsWrittenMacro (written_rules fs g) t
  is_macro t j conditions origins = record {
    macro = w;
    there = listed;
    name = named t.0 j;
    args = args_kept fs g r t.0 j;
    conditions = conditions;
    origins = origins;
  }

  -- with levels
  leveled_macro : has_levels (all_places d) ≡ true → (t : TracedRule) →
      In t (paired (map (level_rule d P) (levels_of P))
      (map (λ l. picked l (levels_there w.places) (places_from w.name 0 w.places) ++ step_origins (previous_level w.places l)) (levels_of P))) →
      IsWrittenMacro (written_rules fs g) t
  leveled_macro e t j =
      let (l, p, is) = in_paired (level_rule d P) (λ m. picked m (levels_there w.places) (places_from w.name 0 w.places) ++ step_origins (previous_level w.places m)) (levels_of P) t j in
      is_macro t
      (subst (λ (x : RuleData). In x (level_rules d)) (sym (ap (λ (x : TracedRule). x.0) is))
      (subst (λ (ds : List RuleData). In (level_rule d P l) ds) (sym (rules_of_levels e)) (in_map (level_rule d P) l (levels_of P) p)))
      (ap (λ (x : TracedRule). conditions_of x.0.alternatives) is ∙ level_conditions l p)
      (ap (λ (x : TracedRule). x.1) is ∙ level_list l p)
    where
      rules_of_levels : has_levels (all_places d) ≡ true → level_rules d ≡ map (level_rule d P) (levels_of P)
      rules_of_levels h = ap (λ (b : Bool). if b then map (level_rule d P) (levels_of P) else d ∷ []) h

  bare_macro : has_levels (all_places d) ≡ false → (t : TracedRule) → In t (paired (d ∷ []) (places_from w.name 0 w.places ∷ [])) → IsWrittenMacro (written_rules fs g) t
  bare_macro e t (inl is) =
      is_macro t
      (subst (λ (x : RuleData). In x (level_rules d)) (sym (ap (λ (x : TracedRule). x.0) is))
      (subst (λ (ds : List RuleData). In d ds) (sym (ap (λ (b : Bool). if b then map (level_rule d P) (levels_of P) else d ∷ []) e)) (inl refl)))
      (ap (λ (x : TracedRule). conditions_of x.0.alternatives) is
      ∙ conditions_resolved (sense_of (globals (enabled_grammar fs g)) r.args)
      (map (option_map (resolved_alternative (sense_of (globals (enabled_grammar fs g)) r.args))) (enabled_places fs r)) 0 (enabled_places fs r))
      (ap (λ (x : TracedRule). x.1) is)
  bare_macro e t (inr j) = absurd j

  macro_by : (b : Bool) → has_levels (all_places d) ≡ b → (t : TracedRule) →
      In t (paired (if b then map (level_rule d P) (levels_of P) else d ∷ []) (level_origins b w.places (places_from w.name 0 w.places))) →
      IsWrittenMacro (written_rules fs g) t
  macro_by true e t j =
      leveled_macro e t
      (subst (λ (ls : List ℕ). In t (paired (map (level_rule d P) (levels_of P))
      (map (λ l. picked l (levels_there w.places) (places_from w.name 0 w.places) ++ step_origins (previous_level w.places l)) ls)))
      (sym (levels_prepared fs g r)) j)
  macro_by false e t j = bare_macro e t j

  -- of its levels, or itself without levels
  pub macro_of_rule : (t : TracedRule) → In t (paired (level_rules d) (written_lists fs g r)) → IsWrittenMacro (written_rules fs g) t
  macro_of_rule t j =
      macro_by (has_levels (all_places d)) refl t
      (subst (λ (b : Bool). In t (paired (level_rules d) (level_origins b w.places (places_from w.name 0 w.places)))) (sym (has_prepared fs g r)) j)

-- each macro that has a list
pub macro_lists : (fs : Features) (g : GrammarData) → HasLevelNames (prepared_grammar fs g) → (t : TracedRule) →
    In t (flat_map (λ r. paired (level_rules (prepared fs g r)) (written_lists fs g r)) (active fs g)) → is_nil t.0.args ≡ false →
    IsWrittenMacro (written_rules fs g) t
macro_lists fs g N t j macro =
    let (r, i, k) = of_flat (λ r. paired (level_rules (prepared fs g r)) (written_lists fs g r)) t (active fs g) j in
    let args : t.0.args ≡ r.args = args_kept fs g r t.0 (rule_in (level_rules (prepared fs g r)) (written_lists fs g r) t k) in
    macro_of_rule fs g N r i (ap is_nil (sym args) ∙ macro) t k
