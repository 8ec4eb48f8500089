-- The rounds of inference end after as many as there are rules, and where they end is one table.
use Rattle.std.proofs.Common.{◌≡◌, ◌⊎◌, ◌≤◌, ◌<◌, ◌+◌, ℕ, zero, suc, Bool, true, false, List, [], ◌∷◌, length, Option, Some, None, IsSome, inl, inr, refl, sym, ap, subst, ◌∙◌, if◌then◌else◌, bytes_eq, le_refl, le_trans, le_of_lt, lt_trans, lt-suc_self, suc-le-suc, arith}
use Rattle.std.proofs.lemmas.Slice.Eq.{bytes_eq-Decides}
use Rattle.lalrpop_norm_tree.specs.Items.{RuleData, GrammarData}
use Rattle.lalrpop_norm_tree_parts.specs.Reprs.{ReprData}
use Rattle.lalrpop_norm_theory.specs.Rounds.{In}
use Rattle.lalrpop_norm_model.specs.PlainRules.{all_rules}
use Rattle.lalrpop_norm_model.specs.TypeRelation.{type_clauses}
use Rattle.lalrpop_norm_model.specs.TypeRounds.{TypeRow, table_of, first_value, taken, visit, visits, round, type_rounds, IsEnd, inferred}

-- ---- how many rules have no type

abbrev counted : Option ReprData → ℕ → ℕ
counted None k = suc k
counted (Some x) k = k

abbrev untyped : List TypeRow → List RuleData → ℕ
untyped rows [] = 0
untyped rows (r ∷ rs) = counted (table_of rows r.name.0) (untyped rows rs)

-- the table after a row is put before the others
abbrev put_first : Bool → ReprData → Option ReprData → Option ReprData
put_first b x v = if b then Some x else v

counted_less : (v w : Option ReprData) (k m : ℕ) → (IsSome v → IsSome w) → k ≤ m → counted w k ≤ counted v m
counted_less None None k m more le = suc-le-suc le
counted_less None (Some y) k m more le = le_trans le (le_of_lt (lt-suc_self m))
counted_less (Some x) None k m more le = let s = more refl in absurd cc
counted_less (Some x) (Some y) k m more le = le

put_some : (b : Bool) (x : ReprData) (v : Option ReprData) → IsSome v → IsSome (put_first b x v)
put_some true x v s = refl
put_some false x v s = s

row_less : (rows : List TypeRow) (n : List ℕ) (x : ReprData) (rs : List RuleData) → untyped ((n, x) ∷ rows) rs ≤ untyped rows rs
row_less rows n x [] = le_refl 0
row_less rows n x (r ∷ rs) =
    counted_less (table_of rows r.name.0) (table_of ((n, x) ∷ rows) r.name.0) _ _ (put_some (bytes_eq n r.name.0) x (table_of rows r.name.0)) (row_less rows n x rs)

-- a rule that takes a type makes them fewer
counted_fewer : (w : Option ReprData) (k m : ℕ) → IsSome w → k ≤ m → counted w k < counted None m
counted_fewer None k m s le = absurd cc
counted_fewer (Some y) k m s le = suc-le-suc le

counted_later : (v w : Option ReprData) (k m : ℕ) → (IsSome v → IsSome w) → k < m → counted w k < counted v m
counted_later None None k m more lt = suc-le-suc lt
counted_later None (Some y) k m more lt = le_trans lt (le_of_lt (lt-suc_self m))
counted_later (Some x) None k m more lt = let s = more refl in absurd cc
counted_later (Some x) (Some y) k m more lt = lt

row_some : (rows : List TypeRow) (n : List ℕ) (x : ReprData) → IsSome (table_of ((n, x) ∷ rows) n)
row_some rows n x = rw ((bytes_eq-Decides n n).1 refl) refl

none_fewer : (rows : List TypeRow) (n : List ℕ) (x : ReprData) (r : RuleData) (k m : ℕ) (v : Option ReprData) → table_of rows r.name.0 ≡ v → v ≡ None → n ≡ r.name.0 → k ≤ m →
    counted (table_of ((n, x) ∷ rows) r.name.0) k < counted v m
none_fewer rows n x r k m (Some y) is none same le = absurd cc
none_fewer rows n x r k m None is none same le =
    counted_fewer (table_of ((n, x) ∷ rows) r.name.0) k m (subst (λ a. IsSome (table_of ((n, x) ∷ rows) a)) same (row_some rows n x)) le

row_fewer : (rows : List TypeRow) (x : ReprData) (r : RuleData) (rs : List RuleData) → In r rs → table_of rows r.name.0 ≡ None →
    untyped ((r.name.0, x) ∷ rows) rs < untyped rows rs
row_fewer rows x r [] i e = absurd i
row_fewer rows x r (s ∷ rs) (inl same) e =
    let name : r.name.0 ≡ s.name.0 = ap (λ (q : RuleData). q.name.0) same in
    none_fewer rows r.name.0 x s _ _ (table_of rows s.name.0) refl (subst (λ a. table_of rows a ≡ None) name e) name (row_less rows r.name.0 x rs)
row_fewer rows x r (s ∷ rs) (inr i) e =
    counted_later (table_of rows s.name.0) (table_of ((r.name.0, x) ∷ rows) s.name.0) _ _
    (put_some (bytes_eq r.name.0 s.name.0) x (table_of rows s.name.0)) (row_fewer rows x r rs i e)

-- ---- visits

-- nothing is added, or fewer rules have no type
abbrev Progress : List RuleData → List TypeRow → List TypeRow → Type 0
Progress rs before later = (later ≡ before) ⊎ (untyped later rs < untyped before rs)

taken_progress : (rows : List TypeRow) (r : RuleData) (rs : List RuleData) → In r rs → (v w : Option ReprData) → table_of rows r.name.0 ≡ v →
    Progress rs rows (taken rows r.name.0 v w)
taken_progress rows r rs i (Some y) w e = inl refl
taken_progress rows r rs i None (Some x) e = inr (row_fewer rows x r rs i e)
taken_progress rows r rs i None None e = inl refl

visit_progress : (g : GrammarData) (rows : List TypeRow) (r : RuleData) (rs : List RuleData) → In r rs → Progress rs rows (visit g rows r)
visit_progress g rows r rs i = taken_progress rows r rs i (table_of rows r.name.0) (first_value g (table_of rows) (type_clauses r)) refl

progress_after : (rs : List RuleData) (a b c : List TypeRow) → Progress rs a b → Progress rs b c → Progress rs a c
progress_after rs a b c (inl e) (inl f) = inl (f ∙ e)
progress_after rs a b c (inl e) (inr lt) = inr (subst (λ x. untyped c rs < untyped x rs) e lt)
progress_after rs a b c (inr lt) (inl f) = inr (subst (λ x. untyped x rs < untyped a rs) (sym f) lt)
progress_after rs a b c (inr lt) (inr more) = inr (lt_trans more lt)

visits_progress : (g : GrammarData) (rows : List TypeRow) (all rs : List RuleData) → ((r : RuleData) → In r rs → In r all) → Progress all rows (visits g rows rs)
visits_progress g rows all [] within = inl refl
visits_progress g rows all (r ∷ rs) within =
    progress_after all rows (visit g rows r) (visits g (visit g rows r) rs) (visit_progress g rows r all (within r (inl refl)))
    (visits_progress g (visit g rows r) all rs (λ s i. within s (inr i)))

round_progress : (g : GrammarData) (rows : List TypeRow) → Progress (all_rules g) rows (round g rows)
round_progress g rows = visits_progress g rows (all_rules g) (all_rules g) (λ r i. i)

-- ---- the end

none_typed : (rs : List RuleData) → untyped [] rs ≡ length rs
none_typed [] = refl
none_typed (r ∷ rs) = ap suc (none_typed rs)

-- after k rounds nothing is added any more, or k rules at least have a type
abbrev After : GrammarData → ℕ → Type 0
After g k = (round g (type_rounds g k) ≡ type_rounds g k) ⊎ (untyped (type_rounds g k) (all_rules g) + k ≤ length (all_rules g))

after_case : (g : GrammarData) (k : ℕ) → After g k → Progress (all_rules g) (type_rounds g k) (type_rounds g (suc k)) → After g (suc k)
after_case g k (inl quiet) p = inl (ap (round g) quiet)
after_case g k (inr few) (inl quiet) = inl (ap (round g) quiet)
after_case g k (inr few) (inr fewer) = inr (omega (arith, few, fewer))

after : (g : GrammarData) (k : ℕ) → After g k
after g zero = inr (omega (arith, none_typed (all_rules g)))
after g (suc k) = after_case g k (after g k) (round_progress g (type_rounds g k))

end_case : (g : GrammarData) → After g (length (all_rules g)) → Progress (all_rules g) (inferred g) (round g (inferred g)) → round g (inferred g) ≡ inferred g
end_case g (inl quiet) p = quiet
end_case g (inr few) (inl quiet) = quiet
end_case g (inr few) (inr fewer) = absurd (omega (arith, few, fewer))

-- as many rounds as there are rules lead to the end
pub inferred_end : (g : GrammarData) → IsEnd g (inferred g)
inferred_end g = record {
  count = length (all_rules g);
  reached = refl;
  quiet = end_case g (after g (length (all_rules g))) (round_progress g (inferred g));
}
