-- The faults of types by the relation of types: rules without one, and alternatives that give a second one.
use Rattle.std.proofs.Common.{◌≡◌, Bool, true, not, List, [], ◌∷◌, Option, Some, None, IsSome, is_none, inl, refl, sym, subst}
use Rattle.lalrpop_norm_tree.specs.Items.{AlternativeData, RuleData, GrammarData}
use Rattle.lalrpop_norm_tree_parts.specs.Reprs.{ReprData}
use Rattle.lalrpop_norm_theory.specs.Rounds.{In, IsDistinct}
use Rattle.lalrpop_norm_model.specs.PlainRules.{all_rules}
use Rattle.lalrpop_norm_model.specs.Expanded.{rule_names}
use Rattle.lalrpop_norm_model.specs.SameTypes.{same_type}
use Rattle.lalrpop_norm_model.specs.TypeRelation.{IsRule, TypeClause, alternative_clause, type_clauses_of, type_clauses, Has, by_clause, IsTotal, IsFunctional}
use Rattle.lalrpop_norm_model.specs.TypeTables.{clause_value, IsSound, IsStuck, IsTable}
use Rattle.lalrpop_norm_model.specs.TypeRounds.{inferred}
use Rattle.lalrpop_norm_model.specs.InferenceFaults.{is_undeclared, undeclared, lacking, inferred_table, untyped_rules, is_other, clause_disagrees, disagreeing_in, disagreeing}
use Rattle.lalrpop_norm_model.specs.Laws.{UntypedRulesHaveNoType, IsOfTwoTypes, DisagreementsAreTwoTypes}
use Rattle.lalrpop_norm_model.proofs.SameTypeLemmas.{type_same}
use Rattle.lalrpop_norm_model.proofs.TypeLemmas.{clause_makes, has_some, table_is, closed_functional, none_had}
use Rattle.lalrpop_norm_model.proofs.TypeRoundLemmas.{end_sound, end_stuck}
use Rattle.lalrpop_norm_model.proofs.TypeEndLemmas.{inferred_end}
use Rattle.lalrpop_norm_model.proofs.TypeFedLemmas.{own_fed}
use Rattle.lalrpop_norm_model.proofs.InferenceLemmas.{in_filter, in_filtered, made_in, none_true, what_some, all_typed, none_untyped, all_agree}
use Rattle.lalrpop_norm_model.proofs.TypableLemmas.{lacks_none}
use Rattle.lalrpop_norm_theory.proofs.RoundsLemmas.{of_flat}

-- ---- the table where the rounds end

sound : (g : GrammarData) → IsSound g (inferred_table g)
sound g = end_sound g (inferred g) (inferred_end g)

stuck : (g : GrammarData) → IsStuck g (inferred_table g)
stuck g = end_stuck g (inferred g) (inferred_end g)

-- ---- rules without a type

nothing_there : {A : Type 0} (v : Option A) → ((x : A) → v ≡ Some x → ⊥) → is_none v ≡ true
nothing_there None h = refl
nothing_there (Some x) h = absurd (h x refl)

pub untyped_rules_have_no_type : UntypedRulesHaveNoType
untyped_rules_have_no_type g = (λ r. (untyped r, no_type r), (each_typed, none_without), lacks_nothing)
  where
    untyped : (r : RuleData) → In r (untyped_rules g) → IsRule g r × ((x : ReprData) → Has g r.name.0 x → ⊥)
    untyped r i =
        let h = in_filtered (λ (q : RuleData). is_none (inferred_table g q.name.0)) (all_rules g) r i in
        (h.0, λ x has. none_had g (inferred_table g) (stuck g) r.name.0 (none_true (inferred_table g r.name.0) h.1) x has)

    no_type : (r : RuleData) → IsRule g r × ((x : ReprData) → Has g r.name.0 x → ⊥) → In r (untyped_rules g)
    no_type r h =
        in_filter (λ (q : RuleData). is_none (inferred_table g q.name.0)) (all_rules g) r h.0
        (nothing_there (inferred_table g r.name.0) (λ x e. h.1 x (sound g r.name.0 x e)))

    each_typed : untyped_rules g ≡ [] → IsTotal g
    each_typed e r rule = let x = what_some (inferred_table g r.name.0) (all_typed g e r rule) in (x.0, sound g r.name.0 x.0 x.1)

    none_without : IsTotal g → untyped_rules g ≡ []
    none_without total = none_untyped g (λ r rule. has_some g (inferred_table g) (stuck g) (total r rule).1)

    lacks_nothing : IsDistinct (rule_names g) → (r : RuleData) → IsRule g r → (x : ReprData) → Has g r.name.0 x → lacking r ≡ []
    lacks_nothing distinct r rule x has =
        let y = what_some (inferred_table g r.name.0) (has_some g (inferred_table g) (stuck g) has) in
        let own = own_fed g (inferred g) distinct (inferred_end g) r rule y.0 y.1 in
        lacks_none r own.0 own.1

-- ---- alternatives that disagree

apart : (x y : ReprData) → not (same_type x y) ≡ true → x ≡ y → ⊥
apart x y e same =
    let here : not (same_type y y) ≡ true = subst (λ z. not (same_type z y) ≡ true) same e in
    let none : not true ≡ true = subst (λ (b : Bool). not b ≡ true) (type_same y) here in
    cc

two_values : (v w : Option ReprData) → (IsSome v → IsSome w) → is_other v w ≡ true →
    (x : ReprData) × (y : ReprData) × (v ≡ Some x) × (w ≡ Some y) × (x ≡ y → ⊥)
two_values None w more e = absurd cc
two_values (Some x) None more e = let s = more refl in absurd cc
two_values (Some x) (Some y) more e = (x, y, refl, refl, apart x y e)

two_types : (g : GrammarData) (r : RuleData) → IsRule g r → r.type_decl ≡ None → (a : AlternativeData) → In a r.alternatives →
    (v : Option TypeClause) → alternative_clause a ≡ v → clause_disagrees g r v ≡ true → IsOfTwoTypes g a
two_types g r rule d a i None is e = absurd cc
two_types g r rule d a i (Some c) is e =
    let among : In c (type_clauses r) = subst (λ o. In c (type_clauses_of o r.alternatives)) (sym d) (made_in alternative_clause r.alternatives a c i is) in
    let h = two_values (clause_value g (inferred_table g) c) (inferred_table g r.name.0) (stuck g r rule c among) e in
    let makes = clause_makes g (inferred_table g) (sound g) c h.0 h.2 in
    record {
      rule = r;
      stands = rule;
      undeclared = d;
      among = i;
      clause = c;
      of_alternative = is;
      made = h.0;
      makes = makes;
      given = h.1;
      in_table = h.3;
      differ = h.4;
      has_made = by_clause r c h.0 rule among makes;
      has_given = sound g r.name.0 h.1 h.3;
    }

of_two_types : (g : GrammarData) (a : AlternativeData) → In a (disagreeing g) → IsOfTwoTypes g a
of_two_types g a i =
    let (r, j, k) = of_flat (disagreeing_in g) a (undeclared g) i in
    let rule = in_filtered is_undeclared (all_rules g) r j in
    let here = in_filtered (λ (b : AlternativeData). clause_disagrees g r (alternative_clause b)) r.alternatives a k in
    two_types g r rule.0 (none_true r.type_decl rule.1) a here.0 (alternative_clause a) refl here.1

none_in : {A : Type 0} (xs : List A) → ((x : A) → In x xs → ⊥) → xs ≡ []
none_in [] h = refl
none_in (x ∷ xs) h = absurd (h x (inl refl))

pub disagreements_are_two_types : DisagreementsAreTwoTypes
disagreements_are_two_types g = (of_two_types g, λ distinct. ((one distinct, none_disagrees), listed distinct))
  where
    one : IsDistinct (rule_names g) → disagreeing g ≡ [] → IsFunctional g
    one distinct e = closed_functional g (inferred_table g) (all_agree g distinct e)

    none_disagrees : IsFunctional g → disagreeing g ≡ []
    none_disagrees functional = none_in (disagreeing g) (λ a i.
        let two = of_two_types g a i in
        two.differ (functional two.rule.name.0 two.made two.given two.has_made two.has_given))

    listed : IsDistinct (rule_names g) → disagreeing g ≡ [] → IsTable g (inferred_table g)
    listed distinct e = table_is g (inferred_table g) (sound g) (all_agree g distinct e)
