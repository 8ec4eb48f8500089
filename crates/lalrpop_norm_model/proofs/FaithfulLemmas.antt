-- The derivation trees of the rules of the expanded grammar correspond one to one with the written trees.
use Rattle.std.proofs.Common.{◌≡◌, inl, inr, ℕ, List, [], ◌∷◌, ◌++◌, map, None, Bool, true, false, refl, sym, ap, ap₂, ◌∙◌, subst}
use Rattle.std.specs.Prelude.{flat_map, filter, if◌then◌else◌}
use Rattle.lalrpop_norm_tree.specs.Items.{RuleData, ItemData, GrammarData, match_item, extern_item, intern_item, rule_item, use_item}
use Rattle.lalrpop_norm_theory.specs.Symbols.{Name, ClosedSymbol, reference}
use Rattle.lalrpop_norm_theory.specs.Rounds.{In, IsDistinct}
use Rattle.lalrpop_norm_theory.specs.Meaning.{Meaning}
use Rattle.lalrpop_norm_theory.specs.LoweredTrees.{ProductionTable}
use Rattle.lalrpop_norm_theory.specs.Clauses.{clauses}
use Rattle.lalrpop_norm_theory.specs.Met.{expansion, expanded_symbols, IsKnown, IsResolvedIn}
use Rattle.lalrpop_norm_theory.specs.Tables.{OneRuleAName, table}
use Rattle.lalrpop_norm_theory.specs.Laws.{OneToOne}
use Rattle.lalrpop_norm_theory.proofs.Expansion.{expansions_one_to_one}
use Rattle.lalrpop_norm_model.specs.WrittenRules.{flat_rules}
use Rattle.lalrpop_norm_model.specs.Grammars.{is_nil, ConditionValue}
use Rattle.lalrpop_norm_model.specs.ClosedTexts.{text_in}
use Rattle.lalrpop_norm_model.specs.PlainRules.{replaced_rule, rule_of_item, rules_without_arguments, made_in, plain_item, plain_rules}
use Rattle.lalrpop_norm_model.specs.Origins.{plain_symbols}
use Rattle.lalrpop_norm_model.specs.PlainTables.{IsSettled, flat_meaning, declared, plain_table}
use Rattle.lalrpop_norm_model.specs.Laws.{PlainGrammarsHoldPlainRules, DistinctNamesMeanOneRule, PlainRulesAreFaithful}
use Rattle.lalrpop_norm_model.proofs.LevelLemmas.{in_map, of_map}
use Rattle.lalrpop_norm_model.proofs.MeaningLemmas.{meanings_have_levels}
use Rattle.lalrpop_norm_model.proofs.ScopeLemmas.{meanings_are_resolved}
use Rattle.lalrpop_norm_model.proofs.MadeReadLemmas.{rules_are_read}
use Rattle.lalrpop_norm_model.proofs.RoundReadLemmas.{rounds_are_read}
use Rattle.lalrpop_norm_model.proofs.PlainReadLemmas.{AllFit, plain_fit, plain_rules_are_read}

-- ---- the expanded grammar

made_items : (more : List RuleData) → flat_map rule_of_item (map (λ r. rule_item (replaced_rule r)) more) ≡ map replaced_rule more
made_items [] = refl
made_items (r ∷ more) = ap (λ rs. replaced_rule r ∷ rs) (made_items more)

plain_items : (more : List RuleData) (is : List ItemData) →
    flat_map rule_of_item (flat_map plain_item is ++ map (λ r. rule_item (replaced_rule r)) more)
    ≡ map replaced_rule (filter (λ r. is_nil r.args) (flat_map rule_of_item is)) ++ map replaced_rule more
plain_items more [] = made_items more
plain_items more (rule_item r ∷ is) = by (is_nil r.args) (plain_items more is)
  where
    by : (b : Bool) →
        flat_map rule_of_item (flat_map plain_item is ++ map (λ s. rule_item (replaced_rule s)) more)
        ≡ map replaced_rule (filter (λ s. is_nil s.args) (flat_map rule_of_item is)) ++ map replaced_rule more →
        flat_map rule_of_item (((if b then rule_item (replaced_rule r) ∷ [] else []) ++ flat_map plain_item is) ++ map (λ s. rule_item (replaced_rule s)) more)
        ≡ map replaced_rule (if b then r ∷ filter (λ s. is_nil s.args) (flat_map rule_of_item is) else filter (λ s. is_nil s.args) (flat_map rule_of_item is))
        ++ map replaced_rule more
    by true h = ap (λ rs. replaced_rule r ∷ rs) h
    by false h = h
plain_items more (match_item m ∷ is) = plain_items more is
plain_items more (extern_item t ∷ is) = plain_items more is
plain_items more (intern_item t ∷ is) = plain_items more is
plain_items more (use_item u ∷ is) = plain_items more is

pub plain_grammars_hold_plain_rules : PlainGrammarsHoldPlainRules
plain_grammars_hold_plain_rules value g n = plain_items (made_in value g n) g.items

-- ---- names

fitting_names : (M : Meaning) (name : ClosedSymbol → Name) (rs : List RuleData) (gs : List ClosedSymbol) → AllFit M name rs gs →
    map (λ (r : RuleData). r.name.0) rs ≡ map name gs
fitting_names M name [] [] f = refl
fitting_names M name [] (g ∷ gs) f = absurd f
fitting_names M name (r ∷ rs) [] f = absurd f
fitting_names M name (r ∷ rs) (g ∷ gs) f = ap₂ ◌∷◌ f.0.named (fitting_names M name rs gs f.1)

-- symbols whose names are distinct are one where their names are
one_of_name : (name : ClosedSymbol → Name) (gs : List ClosedSymbol) → IsDistinct (map name gs) → (g h : ClosedSymbol) → In g gs → In h gs →
    name g ≡ name h → g ≡ h
one_of_name name [] D g h i j e = absurd i
one_of_name name (x ∷ gs) D g h (inl i) (inl j) e = i ∙ sym j
one_of_name name (x ∷ gs) D g h (inl i) (inr j) e =
    absurd (D.0 (subst (λ (n : Name). In n (map name gs)) (sym e ∙ ap name i) (in_map name h gs j)))
one_of_name name (x ∷ gs) D g h (inr i) (inl j) e =
    absurd (D.0 (subst (λ (n : Name). In n (map name gs)) (e ∙ ap name j) (in_map name g gs i)))
one_of_name name (x ∷ gs) D g h (inr i) (inr j) e = one_of_name name gs D.1 g h i j e

pub distinct_names_mean_one_rule : DistinctNamesMeanOneRule
distinct_names_mean_one_rule value g S n D s t i j e =
    ap (clauses (flat_meaning value g))
    (one_of_name (text_in (flat_rules g)) (plain_symbols (flat_meaning value g) (declared g) n)
    (subst IsDistinct
    (ap (map (λ (r : RuleData). r.name.0)) (plain_grammars_hold_plain_rules value g n)
    ∙ fitting_names (flat_meaning value g) (text_in (flat_rules g)) (plain_rules value g n) (plain_symbols (flat_meaning value g) (declared g) n) (plain_fit value g S n))
    D)
    s t i j e)

-- ---- trees

module _ (value : ConditionValue) (g : GrammarData) (S : IsSettled g) where
  -- what is declared is a reference
  declared_reference : (P : ClosedSymbol → Type 0) → ((n : Name) → In (reference n None) (declared g) → P (reference n None)) →
      (s : ClosedSymbol) → In s (declared g) → P s
  declared_reference P h s i =
      let same : declared g ≡ map (λ (r : RuleData). reference r.name.0 None) (rules_without_arguments g) = (rules_are_read value g S).0 in
      let r = of_map (λ (d : RuleData). reference d.name.0 None) s (rules_without_arguments g) (subst (λ (gs : List ClosedSymbol). In s gs) same i) in
      subst P (sym r.2) (h r.0.name.0 (subst (λ (x : ClosedSymbol). In x (declared g)) r.2 i))

  module _ (n : ℕ) (none : (expansion (flat_meaning value g) (declared g) n).fresh ≡ [])
      (one : OneRuleAName (flat_meaning value g) (text_in (flat_rules g)) (plain_symbols (flat_meaning value g) (declared g) n)) where
    known_faithful : (s : ClosedSymbol) → IsKnown (declared g) (expanded_symbols (flat_meaning value g) (declared g) n) s →
        OneToOne (flat_meaning value g) (text_in (flat_rules g)) (plain_table value g n) s
    known_faithful s k =
        subst (λ (P : ProductionTable). OneToOne (flat_meaning value g) (text_in (flat_rules g)) P s)
        (ap table (sym (plain_rules_are_read value g S n).1))
        (expansions_one_to_one (flat_meaning value g) (meanings_have_levels value (flat_rules g)).0 (meanings_have_levels value (flat_rules g)).1
        (declared g) (meanings_are_resolved value (flat_rules g) S.scoped)
        (declared_reference (IsResolvedIn (declared g)) (λ m i. i))
        n none (text_in (flat_rules g)) one [] (λ h i. absurd i) s k)

    pub each_faithful : (s : ClosedSymbol) → In s (declared g) →
        OneToOne (flat_meaning value g) (text_in (flat_rules g)) (plain_table value g n) s
    each_faithful s i =
        known_faithful s (declared_reference (IsKnown (declared g) (expanded_symbols (flat_meaning value g) (declared g) n)) (λ m j. j) s i)

pub plain_rules_are_faithful : PlainRulesAreFaithful
plain_rules_are_faithful value g S n whole one =
    let none = (rounds_are_read value g S n).3.0 whole in
    (each_faithful value g S n none one, known_faithful value g S n none one)
