-- The filled table, its faults, and the types that rules have.
use Rattle.std.proofs.Common.{◌≡◌, ℕ, Bool, true, false, cond, List, [], ◌∷◌, ◌++◌, length, filter, map, Option, Some, None, append-nil, append_assoc, refl, sym, ap, ap₂, subst, ◌∙◌}
use Rattle.std.specs.Prelude.{Result, IsErrAnd, is_none}
use Rattle.std.specs.List.{flat_map}
use Rattle.std.specs.List.Sorted.{IsStrictlySortedBy}
use Rattle.std.specs.Map.{keys_of}
use Rattle.std.proofs.lemmas.List.{map-append, length-map}
use Rattle.lalrpop_norm_tree_names.specs.declared.names.TypeParameter.{TypeParameter}
use Rattle.lalrpop_norm_tree.specs.Items.{AlternativeData, RuleData, GrammarData}
use Rattle.lalrpop_norm_faults.proofs.FaultLemmas.{exit_at}
use Rattle.lalrpop_norm_faults.specs.Faults.{Fault, fault_if, IsFirst, Refuses}
use Rattle.lalrpop_norm_faults.specs.declared.failure.NormFailure.{NormFailure}
use Rattle.lalrpop_norm_faults.specs.declared.kind.FaultKind.TheVariants.{NotGrounded, Disagreement}
use Rattle.lalrpop_norm_repr.specs.Orders.{name_cmp, terminal_cmp}
use Rattle.lalrpop_norm_repr.specs.Tables.{TypeTable, found}
use Rattle.lalrpop_norm_theory.specs.Rounds.{IsDistinct}
use Rattle.lalrpop_norm_model.specs.Expanded.{rule_names}
use Rattle.lalrpop_norm_model.specs.PlainRules.{all_rules}
use Rattle.lalrpop_norm_model.specs.InferenceFaults.{is_undeclared, undeclared, lacking, inferred_table, untyped_rules, is_other, clause_disagrees, disagreeing_in, disagreeing, inference_faults}
use Rattle.lalrpop_norm_model.specs.TerminalTypes.{rows_with, extern_enum}
use Rattle.lalrpop_norm_model.specs.TuplePatterns.{rule_misfits, pattern_misfits}
use Rattle.lalrpop_norm_model.specs.TypeRelation.{TypeClause, alternative_clause}
use Rattle.lalrpop_norm_model.specs.TypeRounds.{inferred, type_rounds}
use Rattle.lalrpop_norm_model.specs.TypeTables.{clause_value}
use Rattle.lalrpop_norm_model.proofs.InferenceLemmas.{inferred_types}
use Rattle.lalrpop_norm_model.proofs.TypableLemmas.{typable_exactly}
use Rattle.lalrpop_norm_tyinfer_steps.specs.declared.rules.PlainRule.{PlainRule}
use Rattle.lalrpop_norm_tyinfer_steps.specs.Filled.{HasAllRows, table_faults}
use Rattle.lalrpop_norm_tyinfer_steps.specs.Inferred.{IsInferred}
use Rattle.lalrpop_norm_tyinfer_steps.specs.Needs.{names_seen}
use Rattle.lalrpop_norm_tyinfer_steps.specs.TableFaults.{lacking_seen, untyped_in, disagrees_in, other_in, others_in}
use Rattle.lalrpop_norm_tyinfer_steps.specs.TableValues.{nonterminal_named, type_by_name}
use Rattle.lalrpop_norm_tyinfer_steps.specs.TokenTypes.{base_table, AddsTerminals}
use Rattle.lalrpop_norm_tyinfer_steps.specs.Visits.{Seen, with_clauses, plain_rule_view, rule_seen, rounds_seen, HasRows, IsReadBy, EndsRounds}
use Rattle.lalrpop_norm_tyinfer_steps.proofs.ReadLemmas.{clause_is, names_are, kept_read}
use Rattle.lalrpop_norm_tyinfer_steps.proofs.TokenLemmas.{added_names, added_tokens}
use Rattle.lalrpop_norm_tyinfer_steps.proofs.VisitLemmas.{rounds_are}
use Rattle.lalrpop_norm_theory.proofs.ListLemmas.{flat_same}

-- ---- the table

-- after as many rounds as there are rules the table is filled
pub filled : (g : GrammarData) (before types : TypeTable) (ss : List Seen) (n : ℕ) → AddsTerminals (base_table g) before (rows_with (extern_enum g) g) →
    EndsRounds g.type_parameters before types ss n → ss ≡ map with_clauses (all_rules g) → length ss ≡ n → HasAllRows g types
filled g before types ss n added ends same long =
    let read : IsReadBy g g.type_parameters before = record { parameters = refl; tokens = added_tokens g before added } in
    let none : HasRows before [] = λ m. ap (found (nonterminal_named m)) (added_names g before added) in
    let count : n ≡ length (all_rules g) = sym long ∙ (ap length same ∙ length-map (all_rules g) with_clauses) in
    record {
      names = subst (λ rows. HasRows types rows) (ap (λ s. rounds_seen g s n) same ∙ (rounds_are g n ∙ ap (type_rounds g) count)) (ends.table g read none);
      tokens = (kept_read g g.type_parameters before types read ends.rest).tokens;
    }

names_with : (rs : List RuleData) → names_seen (map with_clauses rs) ≡ map (λ (r : RuleData). r.name.0) rs
names_with [] = refl
names_with (r ∷ rs) = ap (λ ns. r.name.0 ∷ ns) (names_with rs)

pub names_of_all : (g : GrammarData) (ss : List Seen) → ss ≡ map with_clauses (all_rules g) → names_seen ss ≡ rule_names g
names_of_all g ss same = ap names_seen same ∙ names_with (all_rules g)

pub names_distinct : (g : GrammarData) (ss : List Seen) → ss ≡ map with_clauses (all_rules g) → IsDistinct (rule_names g) → IsDistinct (names_seen ss)
names_distinct g ss same distinct = subst (λ (ns : List (List ℕ)). IsDistinct ns) (sym (names_of_all g ss same)) distinct

first_of_pairs : (rs : List RuleData) → map (λ (s : Seen). s.0) (map with_clauses rs) ≡ rs
first_of_pairs [] = refl
first_of_pairs (r ∷ rs) = ap (λ qs. r ∷ qs) (first_of_pairs rs)

map_first : (rs : List PlainRule) → map (λ (s : Seen). s.0) (map rule_seen rs) ≡ map plain_rule_view rs
map_first [] = refl
map_first (r ∷ rs) = ap (λ qs. (rule_seen r).0 ∷ qs) (map_first rs)

-- the rules without their clauses
pub rules_are : (rs : List PlainRule) (rules : List RuleData) → map rule_seen rs ≡ map with_clauses rules → map plain_rule_view rs ≡ rules
rules_are rs rules e = sym (map_first rs) ∙ (ap (map (λ (s : Seen). s.0)) e ∙ first_of_pairs rules)

-- ---- lists of faults

filter_step : {A B : Type 0} (f : A → List B) (x : A) (ys : List A) (rest : List B) (b : Bool) → rest ≡ flat_map f ys →
    cond b (f x) [] ++ rest ≡ flat_map f (cond b (x ∷ ys) ys)
filter_step f x ys rest true e = ap (λ zs. f x ++ zs) e
filter_step f x ys rest false e = e

-- over what passes a test
filtered : {A B : Type 0} (p : A → Bool) (f : A → List B) (xs : List A) → flat_map (λ x. cond (p x) (f x) []) xs ≡ flat_map f (filter p xs)
filtered p f [] = refl
filtered p f (x ∷ xs) = filter_step f x (filter p xs) (flat_map (λ x. cond (p x) (f x) []) xs) (p x) (filtered p f xs)

fault_step : {A : Type 0} (F : A → Fault) (x : A) (ys : List A) (rest : List Fault) (b : Bool) → rest ≡ map F ys →
    fault_if b (F x) ++ rest ≡ map F (cond b (x ∷ ys) ys)
fault_step F x ys rest true e = ap (λ fs. F x ∷ fs) e
fault_step F x ys rest false e = e

faulted : {A : Type 0} (p : A → Bool) (F : A → Fault) (xs : List A) → flat_map (λ x. fault_if (p x) (F x)) xs ≡ map F (filter p xs)
faulted p F [] = refl
faulted p F (x ∷ xs) = fault_step F x (filter p xs) (flat_map (λ x. fault_if (p x) (F x)) xs) (p x) (faulted p F xs)

map_flat : {A B C : Type 0} (F : B → C) (h : A → List B) (xs : List A) → flat_map (λ x. map F (h x)) xs ≡ map F (flat_map h xs)
map_flat F h [] = refl
map_flat F h (x ∷ xs) = ap (λ ys. map F (h x) ++ ys) (map_flat F h xs) ∙ sym (map-append F (h x) (flat_map h xs))

lacking_each : (rs : List RuleData) → flat_map lacking_seen (map with_clauses rs) ≡ flat_map (λ r. cond (is_undeclared r) (lacking r) []) rs
lacking_each [] = refl
lacking_each (r ∷ rs) = ap (λ fs. cond (is_undeclared r) (lacking r) [] ++ fs) (lacking_each rs)

-- rules without a clause
lacking_are : (rs : List RuleData) → flat_map lacking_seen (map with_clauses rs) ≡ flat_map lacking (filter is_undeclared rs)
lacking_are rs = lacking_each rs ∙ filtered is_undeclared lacking rs

-- the faults after those of rules without a clause
abbrev pub later_faults : GrammarData → List Fault
later_faults g = map (λ (r : RuleData). (NotGrounded, r.span)) (untyped_rules g) ++ (map (λ (a : AlternativeData). (Disagreement, a.span)) (disagreeing g) ++ pattern_misfits g (inferred_table g))

pub lacking_first : (g : GrammarData) → inference_faults g ≡ flat_map lacking_seen (map with_clauses (all_rules g)) ++ later_faults g
lacking_first g =
    append_assoc (flat_map lacking (undeclared g) ++ map (λ (r : RuleData). (NotGrounded, r.span)) (untyped_rules g)) (map (λ (a : AlternativeData). (Disagreement, a.span)) (disagreeing g)) (pattern_misfits g (inferred_table g))
    ∙ (append_assoc (flat_map lacking (undeclared g)) (map (λ (r : RuleData). (NotGrounded, r.span)) (untyped_rules g)) (map (λ (a : AlternativeData). (Disagreement, a.span)) (disagreeing g) ++ pattern_misfits g (inferred_table g))
    ∙ ap (λ xs. xs ++ later_faults g) (sym (lacking_are (all_rules g))))

-- ---- by the filled table

module _ (g : GrammarData) (tt : TypeTable) (full : HasAllRows g tt) where
  read_here : IsReadBy g g.type_parameters tt
  read_here = record { parameters = refl; tokens = full.tokens }

  table_is : type_by_name tt ≡ inferred_table g
  table_is = names_are tt (inferred g) full.names

  untyped_are : (rs : List RuleData) →
      flat_map (untyped_in tt) rs ≡ map (λ (r : RuleData). (NotGrounded, r.span)) (filter (λ (r : RuleData). is_none (inferred_table g r.name.0)) rs)
  untyped_are rs =
      faulted (λ (r : RuleData). is_none (type_by_name tt r.name.0)) (λ (r : RuleData). (NotGrounded, r.span)) rs
      ∙ ap (λ f. map (λ (r : RuleData). (NotGrounded, r.span)) (filter (λ (r : RuleData). is_none (f r.name.0)) rs)) table_is

  disagrees_is : (r : RuleData) (c : Option TypeClause) → disagrees_in g.type_parameters tt r.name.0 c ≡ clause_disagrees g r c
  disagrees_is r None = refl
  disagrees_is r (Some c) =
      ap₂ is_other (clause_is g g.type_parameters tt read_here c ∙ ap (λ f. clause_value g f c) table_is) (ap (λ f. f r.name.0) table_is)

  others_of : (r : RuleData) → flat_map (other_in g.type_parameters tt r.name.0) r.alternatives ≡ map (λ (a : AlternativeData). (Disagreement, a.span)) (disagreeing_in g r)
  others_of r =
      flat_same (other_in g.type_parameters tt r.name.0) (λ (a : AlternativeData). fault_if (clause_disagrees g r (alternative_clause a)) (Disagreement, a.span))
      (λ a. ap (λ b. fault_if b (Disagreement, a.span)) (disagrees_is r (alternative_clause a))) r.alternatives
      ∙ faulted (λ (a : AlternativeData). clause_disagrees g r (alternative_clause a)) (λ (a : AlternativeData). (Disagreement, a.span)) r.alternatives

  others_are : (rs : List RuleData) →
      flat_map (others_in g.type_parameters tt) rs ≡ map (λ (a : AlternativeData). (Disagreement, a.span)) (flat_map (disagreeing_in g) (filter is_undeclared rs))
  others_are rs =
      filtered is_undeclared (λ (r : RuleData). flat_map (other_in g.type_parameters tt r.name.0) r.alternatives) rs
      ∙ (flat_same (λ (r : RuleData). flat_map (other_in g.type_parameters tt r.name.0) r.alternatives) (λ r. map (λ (a : AlternativeData). (Disagreement, a.span)) (disagreeing_in g r)) others_of (filter is_undeclared rs)
      ∙ map_flat (λ (a : AlternativeData). (Disagreement, a.span)) (disagreeing_in g) (filter is_undeclared rs))

  misfits_are : (rs : List RuleData) → flat_map (rule_misfits (type_by_name tt)) rs ≡ flat_map (rule_misfits (inferred_table g)) rs
  misfits_are rs = ap (λ f. flat_map (rule_misfits f) rs) table_is

  -- the faults of inference are those of rules without a clause, and then those by the table
  pub faults_are : inference_faults g ≡ flat_map lacking_seen (map with_clauses (all_rules g)) ++ table_faults g.type_parameters tt (all_rules g)
  faults_are =
      lacking_first g
      ∙ ap (λ ys. flat_map lacking_seen (map with_clauses (all_rules g)) ++ ys)
      (ap₂ (λ xs ys. xs ++ ys) (sym (untyped_are (all_rules g))) (ap₂ (λ xs ys. xs ++ ys) (sym (others_are (all_rules g))) (sym (misfits_are (all_rules g)))))

-- where no rule is without a clause the faults are those by the table
pub table_only : (g : GrammarData) (tt : TypeTable) → HasAllRows g tt → (rs : List PlainRule) → map rule_seen rs ≡ map with_clauses (all_rules g) →
    flat_map lacking_seen (map rule_seen rs) ≡ [] → inference_faults g ≡ table_faults g.type_parameters tt (map plain_rule_view rs)
table_only g tt full rs seen none =
    faults_are g tt full
    ∙ ap₂ (λ xs ys. xs ++ ys) (ap (flat_map lacking_seen) (sym seen) ∙ none) (ap (table_faults g.type_parameters tt) (sym (rules_are rs (all_rules g) seen)))

-- where there is no fault the filled table has the types of the grammar
pub filled_inferred : (g : GrammarData) (tt : TypeTable) → HasAllRows g tt → IsStrictlySortedBy name_cmp (keys_of tt.nonterminals) → IsStrictlySortedBy terminal_cmp (keys_of tt.terminals) →
    IsDistinct (rule_names g) → inference_faults g ≡ [] → IsInferred g tt
filled_inferred g tt full names terminals distinct none =
    let typable = (typable_exactly g distinct).1 none in
    let types = inferred_types g typable.one_type in
    record {
      names = λ n x. ((λ e. (types n.0 x).0 (sym (full.names n.0) ∙ e)), λ h. full.names n.0 ∙ (types n.0 x).1 h);
      names_in_order = names;
      terminals = full.tokens.terminals;
      terminals_in_order = terminals;
      rest = full.tokens.rest;
    }

-- a table with the same types, and the same beside names, is filled too
pub filled_same : (g : GrammarData) (tt types : TypeTable) → HasAllRows g tt → ((n : List ℕ) → type_by_name types n ≡ type_by_name tt n) → types ≡ record tt { nonterminals = types.nonterminals } → HasAllRows g types
filled_same g tt types full same rest = record {
  names = λ n. same n ∙ full.names n;
  tokens = (kept_read g g.type_parameters tt types (record { parameters = refl; tokens = full.tokens }) rest).tokens;
}

-- ---- the exits of inference

-- at a rule without a clause
pub clauses_refused : {T : Type 0} (g : GrammarData) (rs : List PlainRule) (r : Result T NormFailure) (e : NormFailure) → map rule_seen rs ≡ map with_clauses (all_rules g) →
    IsErrAnd r (λ x. x ≡ e) → IsFirst (flat_map lacking_seen (map rule_seen rs)) e → Refuses r (inference_faults g)
clauses_refused g rs r e seen from first =
    exit_at r e (flat_map lacking_seen (map rule_seen rs)) (later_faults g) (inference_faults g) from first
    (lacking_first g ∙ ap (λ ss. flat_map lacking_seen ss ++ later_faults g) (sym seen))

module _ (g : GrammarData) (tt : TypeTable) (full : HasAllRows g tt) (ps : List TypeParameter) (same : ps ≡ g.type_parameters)
    (rs : List PlainRule) (seen : map rule_seen rs ≡ map with_clauses (all_rules g)) (none : flat_map lacking_seen (map rule_seen rs) ≡ []) where
  by_table : inference_faults g ≡ table_faults ps tt (map plain_rule_view rs)
  by_table = table_only g tt full rs seen none ∙ ap (λ qs. table_faults qs tt (map plain_rule_view rs)) (sym same)

  -- at what the table shows
  pub table_refused : {T : Type 0} (r : Result T NormFailure) (e : NormFailure) → IsErrAnd r (λ x. x ≡ e) → IsFirst (table_faults ps tt (map plain_rule_view rs)) e → Refuses r (inference_faults g)
  table_refused r e from first =
      exit_at r e (table_faults ps tt (map plain_rule_view rs)) [] (inference_faults g) from first
      (by_table ∙ sym (append-nil (table_faults ps tt (map plain_rule_view rs))))

  -- nowhere
  pub none_refused : table_faults ps tt (map plain_rule_view rs) ≡ [] → inference_faults g ≡ []
  none_refused empty = by_table ∙ empty

  pub none_inferred : (types : TypeTable) → ((n : List ℕ) → type_by_name types n ≡ type_by_name tt n) → types ≡ record tt { nonterminals = types.nonterminals } →
      IsStrictlySortedBy name_cmp (keys_of types.nonterminals) → IsStrictlySortedBy terminal_cmp (keys_of types.terminals) → IsDistinct (rule_names g) →
      table_faults ps tt (map plain_rule_view rs) ≡ [] → IsInferred g types
  none_inferred types same rest names terminals distinct empty = filled_inferred g types (filled_same g tt types full same rest) names terminals distinct (by_table ∙ empty)
