-- Where no fault holds in inference and lowering, each nonterminal of the lowered grammar has its only derivable type, and the
-- start names are no rules' names.
use Rattle.std.proofs.Common.{◌≡◌, ◌⊎◌, inl, inr, ℕ, ◌+◌, Bool, true, false, List, [], ◌∷◌, ◌++◌, map, Option, Some, None, IsSome, refl, ap, ap₂, sym, subst, ◌∙◌, arith}
use Rattle.std.specs.Prelude.{flat_map, filter, bytes_eq, option_and_then, if◌then◌else◌}
use Rattle.std.specs.List.{enumerate_from}
use Rattle.std.proofs.lemmas.Bool.{cases_Bool}
use Rattle.lalrpop_norm_tree.specs.Accessors.{is_public, or_else}
use Rattle.lalrpop_norm_tree.specs.Items.{RuleData, GrammarData}
use Rattle.lalrpop_norm_tree_parts.specs.Reprs.{ReprData}
use Rattle.lalrpop_norm_theory.specs.Symbols.{Name}
use Rattle.lalrpop_norm_theory.specs.Rounds.{In, IsDistinct}
use Rattle.lalrpop_norm_theory.proofs.SameLemmas.{text_sound, text_same}
use Rattle.lalrpop_norm_model.specs.PlainRules.{all_rules}
use Rattle.lalrpop_norm_model.specs.TypeRelation.{IsRule, Has, HasOneType}
use Rattle.lalrpop_norm_model.specs.TuplePatterns.{IsTypable}
use Rattle.lalrpop_norm_model.specs.Expanded.{rule_names}
use Rattle.lalrpop_norm_model.specs.InferenceFaults.{inference_faults}
use Rattle.lalrpop_norm_model.specs.LoweringFaults as lowering
use Rattle.lalrpop_norm_model.specs.LoweringFaults.{start_faults, action_number_faults, lowering_faults}
use Rattle.lalrpop_norm_model.proofs.LevelLemmas.{of_map}
use Rattle.lalrpop_norm_model.proofs.InferenceLemmas.{both_empty, none_true}
use Rattle.lalrpop_norm_model.proofs.TypableLemmas.{typable_exactly}
use Rattle.lalrpop_norm_repr.specs.Tables.{TypeTable, found, type_of}
use Rattle.lalrpop_norm_lower.specs.Lowering.{public_rules_in, start_name}
use Rattle.lalrpop_norm_lower.specs.Made.{types_by_name}
use Rattle.lalrpop_norm_lower.specs.Shape.{HasStartTypes, rules_of_starts}
use Rattle.lalrpop_norm.specs.Faithful.{HasOnlyType, IsInferred, HasGroundedTypes}
use Rattle.lalrpop_norm_faults.proofs.FaultLemmas.{holds_unless}

-- ---- public rules

public_by : (b : Bool) (s : RuleData) (rules some : List RuleData) (r : RuleData) → (In r some → In r rules) → In r (if b then s ∷ some else some) → (r ≡ s) ⊎ In r rules
public_by true s rules some r f (inl e) = inl e
public_by true s rules some r f (inr i) = inr (f i)
public_by false s rules some r f i = inr (f i)

pub public_in : (rules : List RuleData) (r : RuleData) → In r (public_rules_in rules) → In r rules
public_in [] r i = absurd i
public_in (s ∷ rules) r i = public_by (is_public s.visibility) s rules (public_rules_in rules) r (public_in rules r) i

-- the two terms for public rules say the same
public_same : (rules : List RuleData) → public_rules_in rules ≡ filter (λ (r : RuleData). is_public r.visibility) rules
public_same [] = refl
public_same (s ∷ rules) = by (is_public s.visibility) (public_same rules)
  where
    by : (b : Bool) → public_rules_in rules ≡ filter (λ (r : RuleData). is_public r.visibility) rules →
        (if b then s ∷ public_rules_in rules else public_rules_in rules)
        ≡ (if b then s ∷ filter (λ (r : RuleData). is_public r.visibility) rules else filter (λ (r : RuleData). is_public r.visibility) rules)
    by true h = ap (λ rs. s ∷ rs) h
    by false h = h

-- ---- start names have no type yet

each_start : (prefix : List ℕ) (types : List ℕ → Option ReprData) (k : ℕ) (rules : List RuleData) →
    flat_map (λ (e : ℕ × RuleData). start_faults prefix types e.1 ++ action_number_faults e.0 e.1.span) (enumerate_from k rules) ≡ [] →
    (r : RuleData) → In r rules → start_faults prefix types r ≡ []
each_start prefix types k [] h r i = absurd i
each_start prefix types k (s ∷ rules) h r (inl e) =
    let here = both_empty (start_faults prefix types s ++ action_number_faults k s.span) _ h in
    subst (λ (x : RuleData). start_faults prefix types x ≡ []) (sym e) (both_empty (start_faults prefix types s) (action_number_faults k s.span) here.0).0
each_start prefix types k (s ∷ rules) h r (inr i) =
    each_start prefix types (k + 1) rules (both_empty (start_faults prefix types s ++ action_number_faults k s.span) _ h).1 r i

-- where no fault of lowering holds, the start name of a public rule has no type in the table
pub start_untyped : (g : GrammarData) (types : List ℕ → Option ReprData) → lowering_faults g types ≡ [] →
    (r : RuleData) → In r (public_rules_in (all_rules g)) → types (g.prefix ++ r.name.0) ≡ None
start_untyped g types h r i =
    let starts = (both_empty (flat_map (λ (e : ℕ × RuleData). start_faults g.prefix types e.1 ++ action_number_faults e.0 e.1.span) (enumerate_from 0 (lowering.public_rules g))) _ h).0 in
    let j : In r (lowering.public_rules g) = subst (λ (rs : List RuleData). In r rs) (public_same (all_rules g)) i in
    none_true (types (g.prefix ++ r.name.0)) (holds_unless _ _ (each_start g.prefix types 0 (lowering.public_rules g) starts r j))

-- ---- the table of the lowered grammar

cancelled : (xs ys zs : List ℕ) → xs ++ ys ≡ xs ++ zs → ys ≡ zs
cancelled [] ys zs e = e
cancelled (x ∷ xs) ys zs e = cancelled xs ys zs (cc e)

start_at : (prefix : List ℕ) (some : List RuleData) (r : RuleData) → In r some →
    found (start_name prefix r.name) (map (λ (s : RuleData). (start_name prefix s.name, s.name)) some) ≡ Some r.name
start_at prefix [] r i = absurd i
start_at prefix (s ∷ some) r i = elim (cases_Bool (bytes_eq (prefix ++ r.name.0) (prefix ++ s.name.0))) [
  | inl t ↦ (let same : r.name.0 ≡ s.name.0 = cancelled prefix r.name.0 s.name.0 (text_sound (prefix ++ r.name.0) (prefix ++ s.name.0) t) in
      rw t (ap (λ (m : Name). Some (record { 0 = m })) (sym same)))
  | inr f ↦ rw f (elim i [
    | inl e ↦ absurd (let yes : bytes_eq (prefix ++ r.name.0) (prefix ++ s.name.0) ≡ true = (rw e (text_same (prefix ++ s.name.0))) in cc (f, yes))
    | inr j ↦ start_at prefix some r j
  ])
]

module _ (g : GrammarData) (table : TypeTable) (inferred : IsInferred g table) (distinct : IsDistinct (rule_names g)) (typable : inference_faults g ≡ []) where
  one_type : HasOneType g
  one_type = (let t : IsTypable g = (typable_exactly g distinct).1 typable in t.one_type)

  -- each rule has a type in the table
  rule_listed : (r : RuleData) → IsRule g r → (x : ReprData) × Has g r.name.0 x × (type_of r.name table ≡ Some x)
  rule_listed r i = let t = one_type.total r i in (t.0, t.1, (inferred.names r.name t.0).1 t.1)

  pub rule_typed : (r : RuleData) → IsRule g r → IsSome (types_by_name table r.name.0)
  rule_typed r i = by (types_by_name table r.name.0) (rule_listed r i).0 (rule_listed r i).2
    where
      by : (o : Option ReprData) (x : ReprData) → o ≡ Some x → IsSome o
      by None x e = absurd (grind arith)
      by (Some y) x e = refl

  module _ (lowerable : lowering_faults g (types_by_name table) ≡ []) where
    -- the start name of a public rule is no rule's name
    pub start_is_free : (r : RuleData) → In r (public_rules_in (all_rules g)) → In (g.prefix ++ r.name.0) (rule_names g) → ⊥
    start_is_free r i j =
        let (d, k, e) = of_map (λ (s : RuleData). s.name.0) (g.prefix ++ r.name.0) (all_rules g) j in
        let none : types_by_name table d.name.0 ≡ None = subst (λ m. types_by_name table m ≡ None) e (start_untyped g (types_by_name table) lowerable r i) in
        let some : types_by_name table d.name.0 ≡ Some (rule_listed d k).0 = (rule_listed d k).2 in
        cc (none, some)

    module _ (types : TypeTable) (started : HasStartTypes g.prefix (all_rules g) table types) where
      kept_type : (r : RuleData) (x : ReprData) → type_of r.name table ≡ Some x → type_of r.name types ≡ Some x
      kept_type r x e =
          started.names r.name ∙ ap (λ o. or_else o (option_and_then (λ m. type_of m table) (found r.name (rules_of_starts g.prefix (all_rules g))))) e

      only_type : (r : RuleData) → IsRule g r → HasOnlyType g types r
      only_type r i = record {
        type = (rule_listed r i).0;
        grounded = (rule_listed r i).1;
        only = λ other h. one_type.functional r.name.0 other (rule_listed r i).0 h (rule_listed r i).1;
        listed = kept_type r (rule_listed r i).0 (rule_listed r i).2;
      }

      start_type : (r : RuleData) → In r (public_rules_in (all_rules g)) → type_of (start_name g.prefix r.name) types ≡ type_of r.name types
      start_type r i =
          let own = rule_listed r (public_in (all_rules g) r i) in
          let none : type_of (start_name g.prefix r.name) table ≡ None = start_untyped g (types_by_name table) lowerable r i in
          started.names (start_name g.prefix r.name)
          ∙ ap₂ (λ o p. or_else o (option_and_then (λ m. type_of m table) p)) none (start_at g.prefix (public_rules_in (all_rules g)) r i)
          ∙ own.2 ∙ sym (kept_type r own.0 own.2)

      -- each nonterminal has its only derivable type, a start symbol that of its rule
      pub types_are_grounded : HasGroundedTypes g types
      types_are_grounded = record { rules = only_type; starts = start_type }
