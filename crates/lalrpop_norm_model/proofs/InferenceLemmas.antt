-- Inference rejects exactly the grammars in which some rule has no type or two.
use Rattle.std.proofs.Common.{◌≡◌, ◌⊎◌, ◌↔◌, Bool, true, false, List, [], ◌∷◌, ◌++◌, filter, filter_map, flat_map, Option, Some, None, IsSome, is_none, cond, inl, inr, refl, sym, ap, subst, ◌∙◌}
use Rattle.std.specs.List.{cons_option}
use Rattle.lalrpop_norm_tree.specs.Items.{AlternativeData, RuleData, GrammarData}
use Rattle.lalrpop_norm_tree_parts.specs.Reprs.{ReprData}
use Rattle.lalrpop_norm_tree.specs.Types.{TypeData}
use Rattle.lalrpop_norm_theory.specs.Rounds.{In, IsDistinct}
use Rattle.lalrpop_norm_model.specs.PlainRules.{all_rules}
use Rattle.lalrpop_norm_model.specs.Expanded.{rule_names}
use Rattle.lalrpop_norm_model.specs.SameTypes.{same_type}
use Rattle.lalrpop_norm_model.specs.TypeRelation.{IsRule, TypeClause, makes, alternative_clause, type_clauses_of, type_clauses, HasOneType}
use Rattle.lalrpop_norm_model.specs.TypeTables.{clause_value, IsClosedTable, IsTable}
use Rattle.lalrpop_norm_model.specs.TypeRounds.{inferred}
use Rattle.lalrpop_norm_model.specs.InferenceFaults.{is_undeclared, undeclared, inferred_table, untyped_rules, is_other, clause_disagrees, disagreeing_in, disagreeing}
use Rattle.lalrpop_norm_model.proofs.SameTypeLemmas.{type_sound, type_same}
use Rattle.lalrpop_norm_model.proofs.TypeRoundLemmas.{end_stuck, IsFull, one_exactly, one_table}
use Rattle.lalrpop_norm_model.proofs.TypeEndLemmas.{inferred_end}
use Rattle.lalrpop_norm_model.proofs.TypeFedLemmas.{own_fed}
use Rattle.lalrpop_norm_theory.proofs.BoolLemmas.{not_false}

-- ---- lists

kept : {A : Type 0} (b : Bool) (y : A) (rest : List A) → cond b (y ∷ rest) rest ≡ [] → (b ≡ false) × (rest ≡ [])
kept true y rest e = absurd cc
kept false y rest e = (refl, e)

-- where nothing passes a test each fails it, and the other way round
none_passes : {A : Type 0} (p : A → Bool) (xs : List A) → filter p xs ≡ [] → (x : A) → In x xs → p x ≡ false
none_passes p [] e x i = absurd i
none_passes p (y ∷ xs) e x (inl same) = subst (λ z. p z ≡ false) (sym same) (kept (p y) y (filter p xs) e).0
none_passes p (y ∷ xs) e x (inr i) = none_passes p xs (kept (p y) y (filter p xs) e).1 x i

pub all_fail : {A : Type 0} (p : A → Bool) (xs : List A) → ((x : A) → In x xs → p x ≡ false) → filter p xs ≡ []
all_fail p [] h = refl
all_fail p (y ∷ xs) h = rw (h y (inl refl)) (all_fail p xs (λ x i. h x (inr i)))

more_kept : {A : Type 0} (b : Bool) (x y : A) (rest : List A) → In x rest → In x (cond b (y ∷ rest) rest)
more_kept true x y rest i = inr i
more_kept false x y rest i = i

pub in_filter : {A : Type 0} (p : A → Bool) (xs : List A) (x : A) → In x xs → p x ≡ true → In x (filter p xs)
in_filter p [] x i e = absurd i
in_filter p (y ∷ xs) x (inl same) e = let passes : p y ≡ true = subst (λ z. p z ≡ true) same e in rw passes (inl same)
in_filter p (y ∷ xs) x (inr i) e = more_kept (p y) x y (filter p xs) (in_filter p xs x i e)

from_kept : {A : Type 0} (p : A → Bool) (y : A) (rest : List A) (b : Bool) (x : A) → p y ≡ b → In x (cond b (y ∷ rest) rest) → ((x ≡ y) × (p y ≡ true)) ⊎ In x rest
from_kept p y rest true x is (inl e) = inl (e, is)
from_kept p y rest true x is (inr i) = inr i
from_kept p y rest false x is i = inr i

filtered_case : {A : Type 0} (p : A → Bool) (y : A) (xs : List A) (x : A) → (In x (filter p xs) → In x xs × (p x ≡ true)) →
    ((x ≡ y) × (p y ≡ true)) ⊎ In x (filter p xs) → In x (y ∷ xs) × (p x ≡ true)
filtered_case p y xs x later (inl e) = (inl e.0, subst (λ z. p z ≡ true) (sym e.0) e.1)
filtered_case p y xs x later (inr i) = let h = later i in (inr h.0, h.1)

pub in_filtered : {A : Type 0} (p : A → Bool) (xs : List A) (x : A) → In x (filter p xs) → In x xs × (p x ≡ true)
in_filtered p [] x i = absurd i
in_filtered p (y ∷ xs) x i = filtered_case p y xs x (in_filtered p xs x) (from_kept p y (filter p xs) (p y) x refl i)

pub both_empty : {A : Type 0} (xs ys : List A) → xs ++ ys ≡ [] → (xs ≡ []) × (ys ≡ [])
both_empty [] ys e = (refl, e)
both_empty (x ∷ xs) ys e = absurd cc

pub none_made : {A B : Type 0} (f : A → List B) (xs : List A) → flat_map f xs ≡ [] → (x : A) → In x xs → f x ≡ []
none_made f [] e x i = absurd i
none_made f (y ∷ xs) e x (inl same) = subst (λ z. f z ≡ []) (sym same) (both_empty (f y) (flat_map f xs) e).0
none_made f (y ∷ xs) e x (inr i) = none_made f xs (both_empty (f y) (flat_map f xs) e).1 x i

pub all_empty : {A B : Type 0} (f : A → List B) (xs : List A) → ((x : A) → In x xs → f x ≡ []) → flat_map f xs ≡ []
all_empty f [] h = refl
all_empty f (y ∷ xs) h = rw (h y (inl refl)) (all_empty f xs (λ x i. h x (inr i)))

-- what a partial function makes of a list
abbrev From : {A B : Type 0} → (A → Option B) → List A → B → Type 0
From {A} {B} f xs y = (x : A) × In x xs × (f x ≡ Some y)

made_case : {A B : Type 0} (f : A → Option B) (x : A) (xs : List A) (y : B) (v : Option B) → f x ≡ v → (In y (filter_map f xs) → From f xs y) →
    In y (cons_option v (filter_map f xs)) → From f (x ∷ xs) y
made_case f x xs y None is later i = let m = later i in (m.0, inr m.1, m.2)
made_case f x xs y (Some z) is later (inl e) = (x, inl refl, is ∙ ap Some (sym e))
made_case f x xs y (Some z) is later (inr i) = let m = later i in (m.0, inr m.1, m.2)

made_from : {A B : Type 0} (f : A → Option B) (xs : List A) (y : B) → In y (filter_map f xs) → From f xs y
made_from f [] y i = absurd i
made_from f (x ∷ xs) y i = made_case f x xs y (f x) refl (made_from f xs y) i

more_made : {B : Type 0} (v : Option B) (y : B) (rest : List B) → In y rest → In y (cons_option v rest)
more_made None y rest i = i
more_made (Some z) y rest i = inr i

pub made_in : {A B : Type 0} (f : A → Option B) (xs : List A) (x : A) (y : B) → In x xs → f x ≡ Some y → In y (filter_map f xs)
made_in f [] x y i e = absurd i
made_in f (z ∷ xs) x y (inl same) e = let here : f z ≡ Some y = subst (λ a. f a ≡ Some y) same e in rw here (inl refl)
made_in f (z ∷ xs) x y (inr i) e = more_made (f z) y (filter_map f xs) (made_in f xs x y i e)

-- ---- options

none_false : {A : Type 0} (v : Option A) → is_none v ≡ false → IsSome v
none_false None e = absurd cc
none_false (Some x) e = refl

some_none : {A : Type 0} (v : Option A) → IsSome v → is_none v ≡ false
some_none None s = absurd cc
some_none (Some x) s = refl

pub none_true : {A : Type 0} (v : Option A) → is_none v ≡ true → v ≡ None
none_true None e = refl
none_true (Some x) e = absurd cc

pub what_some : {A : Type 0} (v : Option A) → IsSome v → (x : A) × (v ≡ Some x)
what_some None s = absurd cc
what_some (Some x) s = (x, refl)

not_other : (v w : Option ReprData) → is_other v w ≡ false → (x : ReprData) → v ≡ Some x → w ≡ Some x
not_other None w e x d = absurd cc
not_other (Some y) None e x d = absurd cc
not_other (Some y) (Some z) e x d = let same : y ≡ z = type_sound y z (not_false (same_type y z) e) in rw (← same) d

agrees_not_other : (v w : Option ReprData) → ((x : ReprData) → v ≡ Some x → w ≡ Some x) → is_other v w ≡ false
agrees_not_other None w h = refl
agrees_not_other (Some x) w h = rw (h x refl, type_same x) refl

-- ---- rules without a type

pub all_typed : (g : GrammarData) → untyped_rules g ≡ [] → IsFull g (inferred_table g)
all_typed g e r rule = none_false (inferred_table g r.name.0) (none_passes (λ (q : RuleData). is_none (inferred_table g q.name.0)) (all_rules g) e r rule)

pub none_untyped : (g : GrammarData) → IsFull g (inferred_table g) → untyped_rules g ≡ []
none_untyped g full = all_fail (λ (r : RuleData). is_none (inferred_table g r.name.0)) (all_rules g) (λ r rule. some_none (inferred_table g r.name.0) (full r rule))

-- ---- alternatives that disagree

declared_agrees : (g : GrammarData) → IsDistinct (rule_names g) → (r : RuleData) → IsRule g r → (t : TypeData) → r.type_decl ≡ Some t →
    (c : TypeClause) → In c (makes t ∷ []) → (x : ReprData) → clause_value g (inferred_table g) c ≡ Some x → inferred_table g r.name.0 ≡ Some x
declared_agrees g distinct r rule t d c (inr i) x e = absurd i
declared_agrees g distinct r rule t d c (inl is) x e =
    let alone : In c (type_clauses_of (Some t) r.alternatives) = inl is in
    let listed : In c (type_clauses r) = subst (λ o. In c (type_clauses_of o r.alternatives)) (sym d) alone in
    let y = what_some (inferred_table g r.name.0) (end_stuck g (inferred g) (inferred_end g) r rule c listed (rw e refl)) in
    let own = own_fed g (inferred g) distinct (inferred_end g) r rule y.0 y.1 in
    let among : In own.0 (makes t ∷ []) = subst (λ o. In own.0 (type_clauses_of o r.alternatives)) d own.1 in
    let same : own.0 ≡ c = only own.0 among ∙ sym is in
    let mine : clause_value g (inferred_table g) c ≡ Some y.0 = subst (λ b. clause_value g (inferred_table g) b ≡ Some y.0) same own.2 in
    y.1 ∙ (sym mine ∙ e)
  where
    only : (b : TypeClause) → In b (makes t ∷ []) → b ≡ makes t
    only b (inl same) = same
    only b (inr i) = absurd i

undeclared_agrees : (g : GrammarData) → disagreeing g ≡ [] → (r : RuleData) → IsRule g r → r.type_decl ≡ None →
    (c : TypeClause) → In c (filter_map alternative_clause r.alternatives) → (x : ReprData) → clause_value g (inferred_table g) c ≡ Some x → inferred_table g r.name.0 ≡ Some x
undeclared_agrees g e r rule d c i x h =
    let standing = in_filter is_undeclared (all_rules g) r rule (rw d refl) in
    let agreeing : disagreeing_in g r ≡ [] = none_made (disagreeing_in g) (undeclared g) e r standing in
    let from = made_from alternative_clause r.alternatives c i in
    let fails : clause_disagrees g r (alternative_clause from.0) ≡ false =
    none_passes (λ (a : AlternativeData). clause_disagrees g r (alternative_clause a)) r.alternatives agreeing from.0 from.1 in
    let not : clause_disagrees g r (Some c) ≡ false = subst (λ v. clause_disagrees g r v ≡ false) from.2 fails in
    not_other (clause_value g (inferred_table g) c) (inferred_table g r.name.0) not x h

closed_case : (g : GrammarData) → IsDistinct (rule_names g) → disagreeing g ≡ [] → (r : RuleData) → IsRule g r → (d : Option TypeData) → r.type_decl ≡ d →
    (c : TypeClause) → In c (type_clauses_of d r.alternatives) → (x : ReprData) → clause_value g (inferred_table g) c ≡ Some x → inferred_table g r.name.0 ≡ Some x
closed_case g distinct e r rule (Some t) d c i x h = declared_agrees g distinct r rule t d c i x h
closed_case g distinct e r rule None d c i x h = undeclared_agrees g e r rule d c i x h

pub all_agree : (g : GrammarData) → IsDistinct (rule_names g) → disagreeing g ≡ [] → IsClosedTable g (inferred_table g)
all_agree g distinct e r rule c i x h = closed_case g distinct e r rule r.type_decl refl c i x h

clause_case : (g : GrammarData) → IsClosedTable g (inferred_table g) → (r : RuleData) → IsRule g r → r.type_decl ≡ None → (a : AlternativeData) → In a r.alternatives →
    (v : Option TypeClause) → alternative_clause a ≡ v → clause_disagrees g r v ≡ false
clause_case g closed r rule d a i None e = refl
clause_case g closed r rule d a i (Some c) e =
    let among : In c (type_clauses r) = subst (λ o. In c (type_clauses_of o r.alternatives)) (sym d) (made_in alternative_clause r.alternatives a c i e) in
    agrees_not_other (clause_value g (inferred_table g) c) (inferred_table g r.name.0) (closed r rule c among)

none_disagrees : (g : GrammarData) → IsClosedTable g (inferred_table g) → disagreeing g ≡ []
none_disagrees g closed = all_empty (disagreeing_in g) (undeclared g) (λ r i.
    let rule = in_filtered is_undeclared (all_rules g) r i in
    all_fail (λ (a : AlternativeData). clause_disagrees g r (alternative_clause a)) r.alternatives
    (λ a j. clause_case g closed r rule.0 (none_true r.type_decl rule.1) a j (alternative_clause a) refl))

-- ---- the theorem

-- Each rule has exactly one type where none is without one and no default alternative disagrees, and nowhere else.
pub inference_exactly : (g : GrammarData) → IsDistinct (rule_names g) → HasOneType g ↔ ((untyped_rules g ≡ []) × (disagreeing g ≡ []))
inference_exactly g distinct = (
  λ one. let h = (one_exactly g (inferred g) (inferred_end g)).0 one in (none_untyped g h.0, none_disagrees g h.1),
  λ h. let full = all_typed g h.0 in (one_exactly g (inferred g) (inferred_end g)).1 (full, all_agree g distinct h.1),
)

-- and the table where the rounds end is then that of the types
pub inferred_types : (g : GrammarData) → HasOneType g → IsTable g (inferred_table g)
inferred_types g one = one_table g (inferred g) (inferred_end g) one
