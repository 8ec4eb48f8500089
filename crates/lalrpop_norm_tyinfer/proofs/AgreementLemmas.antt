-- Types that agree, or do not.
use Rattle.std.proofs.Common.{◌≡◌, ◌<◌, inl, inr, ℕ, true, false, List, [], ◌∷◌, length, get_or, map, filter_map, Option, Some, None, is_none, Vec, Global, refl, sym, ap, subst, ◌∙◌, if◌then◌else◌, arith}
use Rattle.std.specs.List.{flat_map}
use Rattle.std.proofs.lemmas.List.{length-map}
use Rattle.lalrpop_norm_tree_names.specs.declared.names.TypeParameter.{TypeParameter}
use Rattle.lalrpop_norm_tree_parts.specs.Reprs.{ReprData}
use Rattle.lalrpop_norm_tree.specs.Items.{AlternativeData, RuleData, GrammarData}
use Rattle.lalrpop_norm_theory.specs.Rounds.{In, IsDistinct}
use Rattle.lalrpop_norm_theory.proofs.ListLemmas.{in_one}
use Rattle.lalrpop_norm_faults.specs.declared.failure.NormFailure.{NormFailure}
use Rattle.lalrpop_norm_faults.specs.declared.kind.FaultKind.TheVariants.{Disagreement}
use Rattle.lalrpop_norm_faults.specs.Faults.{Fault, IsFirst, fault_if}
use Rattle.lalrpop_norm_repr.specs.Tables.{TypeTable}
use Rattle.lalrpop_norm_model.specs.Expanded.{rule_names}
use Rattle.lalrpop_norm_model.specs.InferenceFaults.{inferred_table, is_other}
use Rattle.lalrpop_norm_model.specs.PlainRules.{all_rules}
use Rattle.lalrpop_norm_model.specs.SameTypes.{same_type}
use Rattle.lalrpop_norm_model.specs.TypeRelation.{IsRule, TypeClause, alternative_clause, type_clauses, type_clauses_of}
use Rattle.lalrpop_norm_model.specs.TypeRounds.{inferred}
use Rattle.lalrpop_norm_model.specs.TypeTables.{clause_value}
use Rattle.lalrpop_norm_model.proofs.InferenceLemmas.{all_empty, made_in, what_some}
use Rattle.lalrpop_norm_model.proofs.LevelLemmas.{at_in}
use Rattle.lalrpop_norm_model.proofs.SameTypeLemmas.{type_same}
use Rattle.lalrpop_norm_model.proofs.TypeEndLemmas.{inferred_end}
use Rattle.lalrpop_norm_model.proofs.TypeFedLemmas.{own_fed}
use Rattle.lalrpop_norm_model.proofs.TypeRoundLemmas.{end_stuck}
use Rattle.lalrpop_norm_tyinfer_steps.specs.declared.rules.PlainRule.{PlainRule}
use Rattle.lalrpop_norm_tyinfer_steps.specs.declared.type_sources.RuleClauses.TheVariants.{Alternatives}
use Rattle.lalrpop_norm_tyinfer_steps.specs.declared.type_sources.TypeSource.{TypeSource}
use Rattle.lalrpop_norm_tyinfer_steps.specs.Clauses.{clause_in, clause_view, clauses_view, declared_by}
use Rattle.lalrpop_norm_tyinfer_steps.specs.Filled.{HasAllRows}
use Rattle.lalrpop_norm_tyinfer_steps.specs.TableFaults.{disagrees_in, other_in, others_in, AgreesAlone, AgreeAlone}
use Rattle.lalrpop_norm_tyinfer_steps.specs.TableValues.{type_by_name}
use Rattle.lalrpop_norm_tyinfer_steps.specs.Visits.{Seen, IsReadBy, plain_rule_view, rule_seen, with_clauses}
use Rattle.lalrpop_norm_tyinfer_steps.proofs.NeedLemmas.{of_map}
use Rattle.lalrpop_norm_tyinfer_steps.proofs.ReadLemmas.{clause_is, names_are}
use Rattle.lalrpop_norm_tyinfer_steps.proofs.RoundLemmas.{rule_there}

pub same_agrees : (x y : ReprData) (v w : Option ReprData) (f : Fault) → v ≡ Some x → w ≡ Some y → true ≡ same_type x y → fault_if (is_other v w) f ≡ []
same_agrees x y v w f at to same = rw (at, to, ← same) refl

pub other_told : (x y : ReprData) (v w : Option ReprData) (f : Fault) (e : NormFailure) → v ≡ Some x → w ≡ Some y → false ≡ same_type x y → IsFirst (f ∷ []) e → IsFirst (fault_if (is_other v w) f) e
other_told x y v w f e at to other h = rw (at, to, ← other) h

no_other : (v w : Option ReprData) (f : Fault) → ((x : ReprData) → v ≡ Some x → w ≡ Some x) → fault_if (is_other v w) f ≡ []
no_other None w f h = refl
no_other (Some x) w f h = same_agrees x x (Some x) w f refl (h x refl) (sym (type_same x))

-- ---- rules with at most one clause

only_one : {A : Type 0} (xs : List A) (x : A) → length xs < 2 → In x xs → xs ≡ x ∷ []
only_one [] x few i = absurd i
only_one (y ∷ []) x few (inl e) = ap (λ z. z ∷ []) (sym e)
only_one (y ∷ []) x few (inr i) = absurd i
only_one (y ∷ z ∷ xs) x few i = absurd (omega (arith, few))

module _ (ps : List TypeParameter) (tt : TypeTable) (r : RuleData) (cs : List TypeClause) (few : length cs < 2) (are : cs ≡ filter_map alternative_clause r.alternatives)
    (alone : (c : TypeClause) → cs ≡ c ∷ [] → (x : ReprData) → clause_in ps tt c ≡ Some x → type_by_name tt r.name.0 ≡ Some x) where
  alternative_agrees : (a : AlternativeData) → In a r.alternatives → (v : Option TypeClause) → alternative_clause a ≡ v → fault_if (disagrees_in ps tt r.name.0 v) (Disagreement, a.span) ≡ []
  alternative_agrees a i None e = refl
  alternative_agrees a i (Some c) e =
      let listed : In c cs = subst (λ (ds : List TypeClause). In c ds) (sym are) (made_in alternative_clause r.alternatives a c i e) in
      no_other (clause_in ps tt c) (type_by_name tt r.name.0) (Disagreement, a.span) (alone c (only_one cs c few listed))

  alternatives_agree : flat_map (other_in ps tt r.name.0) r.alternatives ≡ []
  alternatives_agree = all_empty (other_in ps tt r.name.0) r.alternatives (λ a i. alternative_agrees a i (alternative_clause a) refl)

-- none of its alternatives gives another type than the rule has
pub few_agree : (ps : List TypeParameter) (tt : TypeTable) (rule : PlainRule) (cs : Vec TypeSource Global) → rule.clauses ≡ Alternatives cs → length cs.items < 2 →
    AgreesAlone ps tt (rule_seen rule) → others_in ps tt (plain_rule_view rule) ≡ []
few_agree ps tt rule cs is few agrees =
    let r : RuleData = plain_rule_view rule in
    let none : r.type_decl ≡ None = ap declared_by is in
    let long : length (clauses_view rule.clauses) ≡ length cs.items = ap (λ ds. length (clauses_view ds)) is ∙ length-map cs.items clause_view in
    let short : length (clauses_view rule.clauses) < 2 = subst (λ l. l < 2) (sym long) few in
    let are : clauses_view rule.clauses ≡ filter_map alternative_clause r.alternatives =
    subst (λ d. clauses_view rule.clauses ≡ type_clauses_of d r.alternatives) none agrees.clauses in
    ap (λ d. if is_none d then flat_map (other_in ps tt r.name.0) r.alternatives else []) none
    ∙ alternatives_agree ps tt r (clauses_view rule.clauses) short are agrees.alone

-- ---- where the rounds end

module _ (g : GrammarData) (distinct : IsDistinct (rule_names g)) (r : RuleData) (rule : IsRule g r) (c : TypeClause) (only : type_clauses r ≡ c ∷ []) where
  -- a rule has what its only clause makes
  alone_is : (x : ReprData) → clause_value g (inferred_table g) c ≡ Some x → inferred_table g r.name.0 ≡ Some x
  alone_is x e =
      let listed : In c (type_clauses r) = subst (λ (cs : List TypeClause). In c cs) (sym only) (inl refl) in
      let y = what_some (inferred_table g r.name.0) (end_stuck g (inferred g) (inferred_end g) r rule c listed (rw e refl)) in
      let own = own_fed g (inferred g) distinct (inferred_end g) r rule y.0 y.1 in
      let same : own.0 ≡ c = in_one own.0 c (subst (λ (cs : List TypeClause). In own.0 cs) only own.1) in
      let mine : clause_value g (inferred_table g) c ≡ Some y.0 = subst (λ (b : TypeClause). clause_value g (inferred_table g) b ≡ Some y.0) same own.2 in
      y.1 ∙ (sym mine ∙ e)

module _ (g : GrammarData) (tt : TypeTable) (full : HasAllRows g tt) (distinct : IsDistinct (rule_names g)) where
  read_here : IsReadBy g g.type_parameters tt
  read_here = record { parameters = refl; tokens = full.tokens }

  table_is : type_by_name tt ≡ inferred_table g
  table_is = names_are tt (inferred g) full.names

  made_is : (c : TypeClause) → clause_in g.type_parameters tt c ≡ clause_value g (inferred_table g) c
  made_is c = clause_is g g.type_parameters tt read_here c ∙ ap (λ f. clause_value g f c) table_is

  rule_agrees : (r : RuleData) → IsRule g r → AgreesAlone g.type_parameters tt (with_clauses r)
  rule_agrees r rule = record {
    clauses = refl;
    alone = λ c only x e. ap (λ f. f r.name.0) table_is ∙ alone_is g distinct r rule c only x (sym (made_is c) ∙ e);
  }

  pub filled_agree : (ss : List Seen) → ss ≡ map with_clauses (all_rules g) → AgreeAlone g.type_parameters tt ss
  filled_agree ss seen s here =
      let r = of_map with_clauses (all_rules g) s (subst (λ (qs : List Seen). In s qs) seen here) in
      subst (λ (q : Seen). AgreesAlone g.type_parameters tt q) (sym r.2) (rule_agrees r.0 r.1)

-- the rule at an index is among those that agree
pub agrees_at : (ps : List TypeParameter) (tt : TypeTable) (rules : List PlainRule) (place : ℕ) (rule : PlainRule) → place < length rules → rule ≡ get_or rules place rule →
    AgreeAlone ps tt (map rule_seen rules) → AgreesAlone ps tt (rule_seen rule)
agrees_at ps tt rules place rule lt is agree = agree (rule_seen rule) (at_in (map rule_seen rules) place (rule_seen rule) (rule_there rules place rule lt is))
