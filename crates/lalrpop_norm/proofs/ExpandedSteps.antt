-- From the enabled grammar to the grammar with levels: rules keep their declared types and symbols their terminals, to which
-- resolving adds bare ones.
use Rattle.std.proofs.Common.{◌≡◌, inl, inr, ℕ, suc, Bool, true, false, List, [], ◌∷◌, ◌++◌, map, Option, Some, None, refl, ap, sym, subst}
use Rattle.std.specs.Prelude.{flat_map, if◌then◌else◌}
use Rattle.lalrpop_norm_tree_names.specs.declared.names.TerminalString.{TerminalString}
use Rattle.lalrpop_norm_tree_names.specs.declared.names.TerminalString.TheVariants.{Bare}
use Rattle.lalrpop_norm_tree.specs.Symbols.{Kind, Parts, ambiguous_id}
use Rattle.lalrpop_norm_tree.specs.Items.{AlternativeData, RuleData, ItemData, GrammarData, match_item, extern_item, intern_item, rule_item, use_item}
use Rattle.lalrpop_norm_theory.specs.Rounds.{In}
use Rattle.lalrpop_norm_theory.proofs.RoundsLemmas.{in_cases, of_flat}
use Rattle.lalrpop_norm_model.specs.Features.{Features, is_active}
use Rattle.lalrpop_norm_model.specs.Enabled.{PlacedAlternatives, present, if_active, all_places, enabled_rule, enabled_item, enabled_grammar}
use Rattle.lalrpop_norm_model.specs.Scopes.{a_rule, a_macro, a_terminal, Global, globals, Sense, an_argument, a_global, sense_of, by_sense, resolved_leaf, resolved_parts, resolved_alternative, resolved_rule, resolved_item, resolved_grammar}
use Rattle.lalrpop_norm_model.specs.Levels.{Leveled, with_levels, leveled_at, map_numbered, levels_of, previous_level, has_levels}
use Rattle.lalrpop_norm_model.specs.LevelRules.{is_own, level_alternative, step_alternatives, of_level, level_rule, level_rules, leveled_grammar}
use Rattle.lalrpop_norm_model.specs.PlainRules.{rule_of_item, all_rules}
use Rattle.lalrpop_norm_model.specs.Expanded.{declared_symbols}
use Rattle.lalrpop_norm_model.proofs.LevelLemmas.{of_map}
use Rattle.lalrpop_norm_model.proofs.GrammarLemmas.{all_level_rules}
use Rattle.lalrpop_norm_model.proofs.LevelGrammarLemmas.{of_level_in}
use Rattle.lalrpop_norm_model.proofs.TraversalLemmas.{mapped_holds, leveled_holds}
use Rattle.lalrpop_norm.proofs.ExpandedScopes.{IsOverLeaf, IsOverKind, AreOver}

-- a rule with no symbol in its type, whose terminals are among those of P
pub record IsFitRule (P : TerminalString → Type 0) (r : RuleData) : Type 0 where
  pub bare_type : declared_symbols r ≡ []
  pub over : (a : AlternativeData) → In a r.alternatives → AreOver P a.parts

abbrev pub AreFitRules : (TerminalString → Type 0) → GrammarData → Type 0
AreFitRules P g = (r : RuleData) → In r (all_rules g) → IsFitRule P r

-- ---- enabled

enabled_from : (fs : Features) (xs : List AlternativeData) (a : AlternativeData) → In a (present (map (if_active fs) xs)) → In a xs
enabled_from fs [] a i = absurd i
enabled_from fs (x ∷ xs) a i = by (is_active fs x.attributes) (enabled_from fs xs a) i
  where
    by : (b : Bool) → (In a (present (map (if_active fs) xs)) → In a xs) → In a (present ((if b then Some x else None) ∷ map (if_active fs) xs)) → In a (x ∷ xs)
    by true f (inl e) = inl e
    by true f (inr j) = inr (f j)
    by false f j = inr (f j)

pub enabled_fit : (fs : Features) (P : TerminalString → Type 0) (r : RuleData) → IsFitRule P r → IsFitRule P (enabled_rule fs r)
enabled_fit fs P r h = record {
  bare_type = h.bare_type;
  over = λ a i. h.over a (enabled_from fs r.alternatives a i);
}

-- an enabled rule is one of the written grammar, trimmed
pub enabled_rule_from : (fs : Features) (items : List ItemData) (r : RuleData) → In r (flat_map rule_of_item (flat_map (enabled_item fs) items)) →
    (d : RuleData) × In d (flat_map rule_of_item items) × (r ≡ enabled_rule fs d)
enabled_rule_from fs [] r i = absurd i
enabled_rule_from fs (match_item m ∷ items) r i = enabled_rule_from fs items r i
enabled_rule_from fs (extern_item t ∷ items) r i = enabled_rule_from fs items r i
enabled_rule_from fs (intern_item t ∷ items) r i = enabled_rule_from fs items r i
enabled_rule_from fs (use_item u ∷ items) r i = enabled_rule_from fs items r i
enabled_rule_from fs (rule_item d ∷ items) r i = by (is_active fs d.attributes) (enabled_rule_from fs items r) i
  where
    by : (b : Bool) → (In r (flat_map rule_of_item (flat_map (enabled_item fs) items)) → (e : RuleData) × In e (flat_map rule_of_item items) × (r ≡ enabled_rule fs e)) →
        In r (flat_map rule_of_item ((if b then rule_item (enabled_rule fs d) ∷ [] else []) ++ flat_map (enabled_item fs) items)) →
        (e : RuleData) × In e (d ∷ flat_map rule_of_item items) × (r ≡ enabled_rule fs e)
    by true f (inl e) = (d, inl refl, e)
    by true f (inr j) = let x = f j in (x.0, inr x.1, x.2)
    by false f j = let x = f j in (x.0, inr x.1, x.2)

pub enabled_rules_fit : (fs : Features) (P : TerminalString → Type 0) (g : GrammarData) → AreFitRules P g → AreFitRules P (enabled_grammar fs g)
enabled_rules_fit fs P g h r i =
    let (d, j, e) = enabled_rule_from fs g.items r i in
    subst (λ (x : RuleData). IsFitRule P x) (sym e) (enabled_fit fs P d (h d j))

-- ---- resolved

module _ (P : TerminalString → Type 0) (sense : List ℕ → Option Sense) (bare : (a : List ℕ) → sense a ≡ Some (a_global a_terminal) → P (Bare a)) where
  name_over : (a : List ℕ) (o : Option Sense) → sense a ≡ o → IsOverKind P (by_sense o a)
  name_over a None e = tt
  name_over a (Some an_argument) e = tt
  name_over a (Some (a_global a_rule)) e = tt
  name_over a (Some (a_global a_terminal)) e = bare a e
  name_over a (Some (a_global (a_macro n))) e = tt

  leaf_over : (k : Kind) → IsOverKind P k → IsOverKind P (resolved_leaf sense k)
  leaf_over (ambiguous_id a) h = name_over a (sense a) refl
  leaf_over _ h = h

  resolved_over : (ps : Parts) → AreOver P ps → AreOver P (resolved_parts sense ps)
  resolved_over = mapped_holds (IsOverLeaf P) (IsOverLeaf P) (resolved_leaf sense) leaf_over

module _ (P : TerminalString → Type 0) (bare : (a : List ℕ) → P (Bare a)) (g : GrammarData) where
  resolved_fit : (r : RuleData) → IsFitRule P r → IsFitRule P (resolved_rule (globals g) r)
  resolved_fit r f = record {
    bare_type = f.bare_type;
    over = λ a i.
        let (b, j, e) = of_map (resolved_alternative (sense_of (globals g) r.args)) a r.alternatives i in
        subst (λ (x : AlternativeData). AreOver P x.parts) (sym e)
        (resolved_over P (sense_of (globals g) r.args) (λ n is. bare n) b.parts (f.over b j));
  }

  resolved_rule_from : (ds : List Global) (items : List ItemData) (r : RuleData) → In r (flat_map rule_of_item (map (resolved_item ds) items)) →
      (d : RuleData) × In d (flat_map rule_of_item items) × (r ≡ resolved_rule ds d)
  resolved_rule_from ds [] r i = absurd i
  resolved_rule_from ds (rule_item d ∷ items) r (inl e) = (d, inl refl, e)
  resolved_rule_from ds (rule_item d ∷ items) r (inr i) = let x = resolved_rule_from ds items r i in (x.0, inr x.1, x.2)
  resolved_rule_from ds (match_item m ∷ items) r i = resolved_rule_from ds items r i
  resolved_rule_from ds (extern_item t ∷ items) r i = resolved_rule_from ds items r i
  resolved_rule_from ds (intern_item t ∷ items) r i = resolved_rule_from ds items r i
  resolved_rule_from ds (use_item u ∷ items) r i = resolved_rule_from ds items r i

  pub resolved_rules_fit : AreFitRules P g → AreFitRules P (resolved_grammar g)
  resolved_rules_fit f r i =
      let (d, j, e) = resolved_rule_from (globals g) g.items r i in
      subst (λ (x : RuleData). IsFitRule P x) (sym e) (resolved_fit d (f d j))

-- ---- with levels

-- what is leveled at an index is an alternative that is there
numbered_from : (ps : PlacedAlternatives) (k : ℕ) (xs : List AlternativeData) (a : Leveled) → In a (present (map_numbered (leveled_at ps) k (map Some xs))) → In a.alternative xs
numbered_from ps k [] a i = absurd i
numbered_from ps k (x ∷ xs) a (inl e) = inl (ap (λ (y : Leveled). y.alternative) e)
numbered_from ps k (x ∷ xs) a (inr i) = inr (numbered_from ps (suc k) xs a i)

module _ (P : TerminalString → Type 0) (d : RuleData) (f : IsFitRule P d) where
  abbrev ps : List (Option Leveled)
  ps = with_levels (all_places d)

  level_alternative_fit : (a : Leveled) → In a.alternative d.alternatives → AreOver P (level_alternative d ps a).parts
  level_alternative_fit a i = leveled_holds (IsOverLeaf P) (is_own d) _ (λ before after. tt) 0 0 a.alternative.parts (f.over a.alternative i)

  step_fit : (o : Option ℕ) (a : AlternativeData) → In a (step_alternatives d ps o) → AreOver P a.parts
  step_fit None a i = absurd i
  step_fit (Some l) a (inl e) = subst (λ (x : AlternativeData). AreOver P x.parts) (sym e) (tt, tt)
  step_fit (Some l) a (inr i) = absurd i

  level_fit : (l : ℕ) → IsFitRule P (level_rule d ps l)
  level_fit l = record {
    bare_type = f.bare_type;
    over = each;
  }
    where
      each : (a : AlternativeData) → In a (level_rule d ps l).alternatives → AreOver P a.parts
      each a i = elim (in_cases a (map (level_alternative d ps) (of_level l (present ps))) (step_alternatives d ps (previous_level ps l)) i) [
        | inl j ↦ (let (b, k, e) = of_map (level_alternative d ps) a (of_level l (present ps)) j in
            subst (λ (x : AlternativeData). AreOver P x.parts) (sym e) (level_alternative_fit b (numbered_from (all_places d) 0 d.alternatives b (of_level_in l (present ps) b k))))
        | inr j ↦ step_fit (previous_level ps l) a j
      ]

  levels_fit : (b : Bool) (r : RuleData) → In r (if b then map (level_rule d ps) (levels_of ps) else d ∷ []) → IsFitRule P r
  levels_fit true r i = let (l, j, e) = of_map (level_rule d ps) r (levels_of ps) i in subst (λ (x : RuleData). IsFitRule P x) (sym e) (level_fit l)
  levels_fit false r (inl e) = subst (λ (x : RuleData). IsFitRule P x) (sym e) f
  levels_fit false r (inr i) = absurd i

pub leveled_rules_fit : (P : TerminalString → Type 0) (g : GrammarData) → AreFitRules P g → AreFitRules P (leveled_grammar g)
leveled_rules_fit P g f r i =
    let (d, j, k) = of_flat level_rules r (all_rules g) (subst (λ (ds : List RuleData). In r ds) (all_level_rules g) i) in
    levels_fit P d (f d j) (has_levels (all_places d)) r k
