-- The faults of lowering: counted along the rules, and by the one list of alternatives. And what no fault means.
use Rattle.std.proofs.Common.{◌≡◌, ◌∙◌, ℕ, ◌+◌, cond, not, List, [], ◌∷◌, ◌++◌, length, Option, Some, None, refl, sym, ap}
use Rattle.std.specs.Prelude.{flat_map, filter, is_none}
use Rattle.std.specs.List.{enumerate_from, AllByRecursion}
use Rattle.lalrpop_norm_faults.specs.Faults.{Fault, fault_if}
use Rattle.lalrpop_norm_tree.specs.Accessors.{is_public}
use Rattle.lalrpop_norm_tree.specs.Items.{ItemData, match_item, extern_item, intern_item, rule_item, use_item, AlternativeData, RuleData, GrammarData}
use Rattle.lalrpop_norm_model.specs.LoweringFaults as faults
use Rattle.lalrpop_norm_model.specs.LoweringFaults.{start_faults, code_faults, action_number_faults, lowering_faults}
use Rattle.lalrpop_norm_model.specs.PlainRules.{rule_of_item, all_rules}
use Rattle.lalrpop_norm_repr.specs.Tables.{TypeTable, type_of}
use Rattle.lalrpop_norm_lower.specs.Lowering.{rules_among, public_rules_in, start_name}
use Rattle.lalrpop_norm_lower.specs.Made.{types_by_name, alternatives_faults, made_starts_faults, made_rules_faults, made_faults}
use Rattle.lalrpop_norm_lower.proofs.ClauseLemmas.{enumerate_append}
use Rattle.lalrpop_norm_theory.proofs.ListLemmas.{flat_append}

-- ---- rules

pub rules_listed : (items : List ItemData) → rules_among items ≡ flat_map rule_of_item items
rules_listed [] = refl
rules_listed (rule_item r ∷ items) = ap (λ (rs : List RuleData). r ∷ rs) (rules_listed items)
rules_listed (match_item m ∷ items) = rules_listed items
rules_listed (extern_item t ∷ items) = rules_listed items
rules_listed (intern_item t ∷ items) = rules_listed items
rules_listed (use_item u ∷ items) = rules_listed items

pub public_listed : (rs : List RuleData) → public_rules_in rs ≡ filter (λ r. is_public r.visibility) rs
public_listed [] = refl
public_listed (r ∷ rs) = ap (λ (ps : List RuleData). cond (is_public r.visibility) (r ∷ ps) ps) (public_listed rs)

-- ---- faults

abbrev start_fault : List ℕ → TypeTable → ℕ × RuleData → List Fault
start_fault prefix types e = start_faults prefix (types_by_name types) e.1 ++ action_number_faults e.0 e.1.span

abbrev fault_at : ℕ × AlternativeData → List Fault
fault_at e = code_faults e.1 ++ action_number_faults e.0 e.1.span

starts_same : (prefix : List ℕ) (types : TypeTable) (k : ℕ) (rs : List RuleData) → made_starts_faults prefix types k rs ≡ flat_map (start_fault prefix types) (enumerate_from k rs)
starts_same prefix types k [] = refl
starts_same prefix types k (r ∷ rs) = ap (λ (fs : List Fault). start_fault prefix types (k, r) ++ fs) (starts_same prefix types (k + 1) rs)

alternatives_same : (k : ℕ) (alts : List AlternativeData) → alternatives_faults k alts ≡ flat_map fault_at (enumerate_from k alts)
alternatives_same k [] = refl
alternatives_same k (a ∷ alts) = ap (λ (fs : List Fault). fault_at (k, a) ++ fs) (alternatives_same (k + 1) alts)

abbrev alternatives_in : List RuleData → List AlternativeData
alternatives_in rs = flat_map (λ (r : RuleData). r.alternatives) rs

rules_same : (k : ℕ) (rs : List RuleData) → made_rules_faults k rs ≡ flat_map fault_at (enumerate_from k (alternatives_in rs))
rules_same k [] = refl
rules_same k (r ∷ rs) =
    ap (λ (fs : List Fault). alternatives_faults k r.alternatives ++ fs) (rules_same (k + length r.alternatives) rs)
    ∙ ap (λ (fs : List Fault). fs ++ flat_map fault_at (enumerate_from (k + length r.alternatives) (alternatives_in rs))) (alternatives_same k r.alternatives)
    ∙ sym (flat_append fault_at (enumerate_from k r.alternatives) (enumerate_from (k + length r.alternatives) (alternatives_in rs)))
    ∙ ap (flat_map fault_at) (sym (enumerate_append k r.alternatives (alternatives_in rs)))

-- the counted faults are those of the list
pub faults_same : (g : GrammarData) (types : TypeTable) → made_faults g.prefix types (rules_among g.items) ≡ lowering_faults g (types_by_name types)
faults_same g types =
    let all : rules_among g.items ≡ all_rules g = rules_listed g.items in
    let public : public_rules_in (rules_among g.items) ≡ faults.public_rules g = public_listed (rules_among g.items) ∙ ap (filter (λ (r : RuleData). is_public r.visibility)) all in
    ap (λ (fs : List Fault). fs ++ made_rules_faults (length (public_rules_in (rules_among g.items))) (rules_among g.items)) (starts_same g.prefix types 0 (public_rules_in (rules_among g.items)))
    ∙ ap (λ (fs : List Fault). flat_map (start_fault g.prefix types) (enumerate_from 0 (public_rules_in (rules_among g.items))) ++ fs) (rules_same (length (public_rules_in (rules_among g.items))) (rules_among g.items))
    ∙ ap (λ (ps : List RuleData). flat_map (start_fault g.prefix types) (enumerate_from 0 ps) ++ flat_map fault_at (enumerate_from (length ps) (alternatives_in (rules_among g.items)))) public
    ∙ ap (λ (rs : List RuleData). flat_map (start_fault g.prefix types) (enumerate_from 0 (faults.public_rules g)) ++ flat_map fault_at (enumerate_from (length (faults.public_rules g)) (alternatives_in rs))) all

-- ---- no fault

nil_left : {A : Type 0} (xs ys : List A) → xs ++ ys ≡ [] → xs ≡ []
nil_left [] ys h = refl
nil_left (x ∷ xs) ys h = cc

nil_right : {A : Type 0} (xs ys : List A) → xs ++ ys ≡ [] → ys ≡ []
nil_right [] ys h = h
nil_right (x ∷ xs) ys h = cc

not_taken : {A : Type 0} (o : Option A) (f : Fault) → fault_if (not (is_none o)) f ≡ [] → o ≡ None
not_taken None f h = refl
not_taken (Some x) f h = cc

abbrev pub IsFree : List ℕ → TypeTable → RuleData → Type 0
IsFree prefix types r = type_of (start_name prefix r.name) types ≡ None

starts_free : (prefix : List ℕ) (types : TypeTable) (k : ℕ) (rs : List RuleData) → made_starts_faults prefix types k rs ≡ [] → AllByRecursion (IsFree prefix types) rs
starts_free prefix types k [] h = tt
starts_free prefix types k (r ∷ rs) h = (
  not_taken (type_of (start_name prefix r.name) types) _ (nil_left (start_faults prefix (types_by_name types) r) (action_number_faults k r.span) (nil_left (start_fault prefix types (k, r)) (made_starts_faults prefix types (k + 1) rs) h)),
  starts_free prefix types (k + 1) rs (nil_right (start_fault prefix types (k, r)) (made_starts_faults prefix types (k + 1) rs) h),
)

abbrev pub IsCounted : AlternativeData → Type 0
IsCounted a = code_faults a ≡ []

alternatives_counted : (k : ℕ) (alts : List AlternativeData) → alternatives_faults k alts ≡ [] → AllByRecursion IsCounted alts
alternatives_counted k [] h = tt
alternatives_counted k (a ∷ alts) h = (
  nil_left (code_faults a) (action_number_faults k a.span) (nil_left (fault_at (k, a)) (alternatives_faults (k + 1) alts) h),
  alternatives_counted (k + 1) alts (nil_right (fault_at (k, a)) (alternatives_faults (k + 1) alts) h),
)

rules_counted : (k : ℕ) (rs : List RuleData) → made_rules_faults k rs ≡ [] → AllByRecursion (λ r. AllByRecursion IsCounted r.alternatives) rs
rules_counted k [] h = tt
rules_counted k (r ∷ rs) h = (
  alternatives_counted k r.alternatives (nil_left (alternatives_faults k r.alternatives) (made_rules_faults (k + length r.alternatives) rs) h),
  rules_counted (k + length r.alternatives) rs (nil_right (alternatives_faults k r.alternatives) (made_rules_faults (k + length r.alternatives) rs) h),
)

-- where there is no fault, each start symbol is free, and each code has as many `<>` as it may
pub none_taken : (prefix : List ℕ) (types : TypeTable) (rs : List RuleData) → made_faults prefix types rs ≡ [] → AllByRecursion (IsFree prefix types) (public_rules_in rs)
none_taken prefix types rs h = starts_free prefix types 0 (public_rules_in rs) (nil_left (made_starts_faults prefix types 0 (public_rules_in rs)) (made_rules_faults (length (public_rules_in rs)) rs) h)

pub none_miscounted : (prefix : List ℕ) (types : TypeTable) (rs : List RuleData) → made_faults prefix types rs ≡ [] → AllByRecursion (λ r. AllByRecursion IsCounted r.alternatives) rs
none_miscounted prefix types rs h = rules_counted (length (public_rules_in rs)) rs (nil_right (made_starts_faults prefix types 0 (public_rules_in rs)) (made_rules_faults (length (public_rules_in rs)) rs) h)
