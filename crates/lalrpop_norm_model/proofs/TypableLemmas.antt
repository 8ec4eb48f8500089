-- The whole of inference: a grammar is typable if and only if none of its faults holds.
use Rattle.std.proofs.Common.{◌≡◌, ◌↔◌, false, List, [], ◌∷◌, ◌++◌, map, flat_map, refl, ap}
use Rattle.lalrpop_norm_tree.specs.Items.{AlternativeData, RuleData, GrammarData}
use Rattle.lalrpop_norm_theory.specs.Rounds.{In, IsDistinct}
use Rattle.lalrpop_norm_faults.specs.declared.kind.FaultKind.TheVariants.{NotGrounded, Disagreement}
use Rattle.lalrpop_norm_model.specs.Expanded.{rule_names}
use Rattle.lalrpop_norm_model.specs.Grammars.{is_nil}
use Rattle.lalrpop_norm_model.specs.PlainRules.{all_rules}
use Rattle.lalrpop_norm_model.specs.TypeRelation.{IsRule, TypeClause, type_clauses}
use Rattle.lalrpop_norm_model.specs.TypeRounds.{inferred}
use Rattle.lalrpop_norm_model.specs.TuplePatterns.{IsTypable, pattern_misfits}
use Rattle.lalrpop_norm_model.specs.InferenceFaults.{is_undeclared, undeclared, lacking, inferred_table, untyped_rules, disagreeing, inference_faults}
use Rattle.lalrpop_norm_model.proofs.TypeEndLemmas.{inferred_end}
use Rattle.lalrpop_norm_model.proofs.TypeFedLemmas.{own_fed}
use Rattle.lalrpop_norm_model.proofs.InferenceLemmas.{all_typed, all_empty, both_empty, in_filtered, what_some, inference_exactly, inferred_types}
use Rattle.lalrpop_norm_model.proofs.PatternLemmas.{no_map, patterns_exactly}

-- ---- rules without a clause have no type

-- a rule with a type in the table has a clause
some_clause : (g : GrammarData) → IsDistinct (rule_names g) → untyped_rules g ≡ [] → (r : RuleData) → IsRule g r → (c : TypeClause) × In c (type_clauses r)
some_clause g distinct e r rule =
    let x = what_some (inferred_table g r.name.0) (all_typed g e r rule) in
    let own = own_fed g (inferred g) distinct (inferred_end g) r rule x.0 x.1 in
    (own.0, own.1)

not_nil : {A : Type 0} (xs : List A) (x : A) → In x xs → is_nil xs ≡ false
not_nil [] x i = absurd i
not_nil (y ∷ xs) x i = refl

-- a rule with a clause lacks nothing
pub lacks_none : (r : RuleData) (c : TypeClause) → In c (type_clauses r) → lacking r ≡ []
lacks_none r c i = rw (not_nil (type_clauses r) c i) refl

-- Where each rule has a type none lacks what gives one.
pub none_lacking : (g : GrammarData) → IsDistinct (rule_names g) → untyped_rules g ≡ [] → flat_map lacking (undeclared g) ≡ []
none_lacking g distinct e = all_empty lacking (undeclared g) (λ r i.
    let c = some_clause g distinct e r (in_filtered is_undeclared (all_rules g) r i).0 in
    lacks_none r c.0 c.1)

-- ---- all faults

mapped_none : {A B : Type 0} (f : A → B) (xs : List A) → xs ≡ [] → map f xs ≡ []
mapped_none f xs e = ap (map f) e

all_none : {A : Type 0} (ws xs ys zs : List A) → ws ≡ [] → xs ≡ [] → ys ≡ [] → zs ≡ [] → ws ++ xs ++ ys ++ zs ≡ []
all_none ws xs ys zs a b c d = rw (a, b, c, d) refl

none_of_four : {A : Type 0} (ws xs ys zs : List A) → ws ++ xs ++ ys ++ zs ≡ [] → (ws ≡ []) × (xs ≡ []) × (ys ≡ []) × (zs ≡ [])
none_of_four ws xs ys zs e =
    let c = both_empty (ws ++ xs ++ ys) zs e in
    let b = both_empty (ws ++ xs) ys c.0 in
    let a = both_empty ws xs b.0 in
    (a.0, a.1, b.1, c.1)

-- a grammar of distinct names is typable if and only if there is no fault of inference
pub typable_exactly : (g : GrammarData) → IsDistinct (rule_names g) → IsTypable g ↔ (inference_faults g ≡ [])
typable_exactly g distinct = (
  λ h.
      let both = (inference_exactly g distinct).0 h.one_type in
      all_none (flat_map lacking (undeclared g)) (map (λ (r : RuleData). (NotGrounded, r.span)) (untyped_rules g))
      (map (λ (a : AlternativeData). (Disagreement, a.span)) (disagreeing g)) (pattern_misfits g (inferred_table g))
      (none_lacking g distinct both.0)
      (mapped_none _ (untyped_rules g) both.0)
      (mapped_none _ (disagreeing g) both.1)
      ((patterns_exactly g (inferred_table g) (inferred_types g h.one_type)).1 h.patterns),
  λ h.
      let parts = none_of_four (flat_map lacking (undeclared g)) (map (λ (r : RuleData). (NotGrounded, r.span)) (untyped_rules g))
      (map (λ (a : AlternativeData). (Disagreement, a.span)) (disagreeing g)) (pattern_misfits g (inferred_table g)) h in
      let one = (inference_exactly g distinct).1 (no_map _ (untyped_rules g) parts.1, no_map _ (disagreeing g) parts.2) in
      record { one_type = one; patterns = (patterns_exactly g (inferred_table g) (inferred_types g one)).0 parts.3 },
)
