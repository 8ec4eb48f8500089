-- Where the rounds of inference end: the table is sound and stuck, so it decides which rules have exactly one type.
use Rattle.std.proofs.Common.{◌≡◌, ◌⊎◌, ◌↔◌, ◌≤◌, ℕ, zero, suc, List, [], ◌∷◌, length, Option, Some, None, IsSome, inl, inr, refl, sym, ap, subst, ◌∙◌, le_refl, le_trans, arith}
use Rattle.lalrpop_norm_tree.specs.Accessors.{or_else}
use Rattle.lalrpop_norm_tree.specs.Items.{RuleData, GrammarData}
use Rattle.lalrpop_norm_tree_parts.specs.Reprs.{ReprData}
use Rattle.lalrpop_norm_theory.specs.Rounds.{In}
use Rattle.lalrpop_norm_model.specs.PlainRules.{all_rules}
use Rattle.lalrpop_norm_model.specs.TypeRelation.{IsRule, TypeClause, type_clauses, Has, by_clause, HasOneType}
use Rattle.lalrpop_norm_model.specs.TypeTables.{Table, clause_value, IsSound, IsClosedTable, IsStuck, IsTable}
use Rattle.lalrpop_norm_model.specs.TypeRounds.{TypeRow, table_of, first_value, taken, visit, visits, type_rounds, IsEnd}
use Rattle.lalrpop_norm_model.proofs.TypeLemmas.{clause_makes, has_some, table_is, closed_functional}
use Rattle.lalrpop_norm_model.proofs.TableTests.{AllHad, rows_sound, had_of}

-- ---- the first value of some clauses

or_else_some : (v w : Option ReprData) → (IsSome v ⊎ IsSome w) → IsSome (or_else v w)
or_else_some (Some x) w s = refl
or_else_some None w (inl s) = absurd cc
or_else_some None w (inr s) = s

first_some : (g : GrammarData) (f : Table) (cs : List TypeClause) (c : TypeClause) → In c cs → IsSome (clause_value g f c) → IsSome (first_value g f cs)
first_some g f [] c i s = absurd i
first_some g f (d ∷ cs) c (inl e) s = or_else_some (clause_value g f d) (first_value g f cs) (inl (subst (λ b. IsSome (clause_value g f b)) e s))
first_some g f (d ∷ cs) c (inr i) s = or_else_some (clause_value g f d) (first_value g f cs) (inr (first_some g f cs c i s))

-- the clause that makes the first value
abbrev pub Made : GrammarData → Table → List TypeClause → ReprData → Type 0
Made g f cs x = (c : TypeClause) × In c cs × (clause_value g f c ≡ Some x)

first_case : (g : GrammarData) (f : Table) (d : TypeClause) (cs : List TypeClause) (x : ReprData) (v w : Option ReprData) → clause_value g f d ≡ v →
    (w ≡ Some x → Made g f cs x) → or_else v w ≡ Some x → Made g f (d ∷ cs) x
first_case g f d cs x (Some y) w is later e = (d, inl refl, is ∙ e)
first_case g f d cs x None w is later e = let m = later e in (m.0, inr m.1, m.2)

pub first_made : (g : GrammarData) (f : Table) (cs : List TypeClause) (x : ReprData) → first_value g f cs ≡ Some x → Made g f cs x
first_made g f [] x e = absurd cc
first_made g f (d ∷ cs) x e = first_case g f d cs x (clause_value g f d) (first_value g f cs) refl (first_made g f cs x) e

-- ---- each type taken is had

taken_had : (g : GrammarData) (rows : List TypeRow) (n : List ℕ) (v w : Option ReprData) → AllHad g rows → ((x : ReprData) → w ≡ Some x → Has g n x) →
    AllHad g (taken rows n v w)
taken_had g rows n (Some y) w had h = had
taken_had g rows n None (Some x) had h = (h x refl, had)
taken_had g rows n None None had h = had

visit_had : (g : GrammarData) (rows : List TypeRow) (r : RuleData) → AllHad g rows → IsRule g r → AllHad g (visit g rows r)
visit_had g rows r had rule =
    taken_had g rows r.name.0 (table_of rows r.name.0) (first_value g (table_of rows) (type_clauses r)) had
    (λ x e. let m = first_made g (table_of rows) (type_clauses r) x e in
    by_clause r m.0 x rule m.1 (clause_makes g (table_of rows) (rows_sound g rows had) m.0 x m.2))

visits_had : (g : GrammarData) (rows : List TypeRow) (rs : List RuleData) → AllHad g rows → ((r : RuleData) → In r rs → IsRule g r) → AllHad g (visits g rows rs)
visits_had g rows [] had all = had
visits_had g rows (r ∷ rs) had all = visits_had g (visit g rows r) rs (visit_had g rows r had (all r (inl refl))) (λ s i. all s (inr i))

pub rounds_had : (g : GrammarData) (k : ℕ) → AllHad g (type_rounds g k)
rounds_had g zero = tt
rounds_had g (suc k) = visits_had g (type_rounds g k) (all_rules g) (rounds_had g k) (λ r i. i)

pub end_had : (g : GrammarData) (rows : List TypeRow) → IsEnd g rows → AllHad g rows
end_had g rows end = subst (λ s. AllHad g s) (sym end.reached) (rounds_had g end.count)

-- ---- where nothing is added, no visit adds anything

taken_case : (rows : List TypeRow) (n : List ℕ) (v w : Option ReprData) →
    (taken rows n v w ≡ rows) ⊎ (length (taken rows n v w) ≡ suc (length rows))
taken_case rows n (Some y) w = inl refl
taken_case rows n None (Some x) = inr (omega arith)
taken_case rows n None None = inl refl

taken_longer : (rows : List TypeRow) (n : List ℕ) (v w : Option ReprData) → length rows ≤ length (taken rows n v w)
taken_longer rows n (Some y) w = le_refl _
taken_longer rows n None (Some x) = omega arith
taken_longer rows n None None = le_refl _

visits_longer : (g : GrammarData) (rows : List TypeRow) (rs : List RuleData) → length rows ≤ length (visits g rows rs)
visits_longer g rows [] = le_refl _
visits_longer g rows (r ∷ rs) =
    let one = taken_longer rows r.name.0 (table_of rows r.name.0) (first_value g (table_of rows) (type_clauses r)) in
    let rest = visits_longer g (visit g rows r) rs in
    le_trans one rest

quiet_case : (g : GrammarData) (rows : List TypeRow) (r : RuleData) (rs : List RuleData) → visits g (visit g rows r) rs ≡ rows →
    ((visit g rows r ≡ rows) ⊎ (length (visit g rows r) ≡ suc (length rows))) → visit g rows r ≡ rows
quiet_case g rows r rs e (inl same) = same
quiet_case g rows r rs e (inr more) =
    let longer = visits_longer g (visit g rows r) rs in
    let as_long : length (visits g (visit g rows r) rs) ≡ length rows = ap length e in
    absurd (omega arith)

visit_quiet : (g : GrammarData) (rows : List TypeRow) (r : RuleData) (rs : List RuleData) → visits g (visit g rows r) rs ≡ rows → visit g rows r ≡ rows
visit_quiet g rows r rs e =
    quiet_case g rows r rs e (taken_case rows r.name.0 (table_of rows r.name.0) (first_value g (table_of rows) (type_clauses r)))

quiet_visits : (g : GrammarData) (rows : List TypeRow) (rs : List RuleData) → visits g rows rs ≡ rows → (r : RuleData) → In r rs → visit g rows r ≡ rows
quiet_visits g rows [] e r i = absurd i
quiet_visits g rows (s ∷ rs) e r (inl same) = subst (λ q. visit g rows q ≡ rows) (sym same) (visit_quiet g rows s rs e)
quiet_visits g rows (s ∷ rs) e r (inr i) =
    quiet_visits g rows rs (subst (λ before. visits g before rs ≡ rows) (visit_quiet g rows s rs e) e) r i

taken_quiet : (rows : List TypeRow) (n : List ℕ) (v w : Option ReprData) → taken rows n v w ≡ rows → IsSome w → IsSome v
taken_quiet rows n (Some y) w e s = refl
taken_quiet rows n None (Some x) e s =
    let as_long : length ((n, x) ∷ rows) ≡ length rows = ap length e in
    absurd (omega arith)
taken_quiet rows n None None e s = absurd cc

-- ---- the table where the rounds end

pub end_sound : (g : GrammarData) (rows : List TypeRow) → IsEnd g rows → IsSound g (table_of rows)
end_sound g rows end = rows_sound g rows (end_had g rows end)

pub end_stuck : (g : GrammarData) (rows : List TypeRow) → IsEnd g rows → IsStuck g (table_of rows)
end_stuck g rows end r rule c i s =
    taken_quiet rows r.name.0 (table_of rows r.name.0) (first_value g (table_of rows) (type_clauses r))
    (quiet_visits g rows (all_rules g) end.quiet r rule) (first_some g (table_of rows) (type_clauses r) c i s)

-- each rule has a type in the table
abbrev pub IsFull : GrammarData → Table → Type 0
IsFull g f = (r : RuleData) → IsRule g r → IsSome (f r.name.0)

agreed : (v : Option ReprData) (x : ReprData) → IsSome v → ((y : ReprData) → v ≡ Some y → y ≡ x) → v ≡ Some x
agreed None x s h = absurd cc
agreed (Some y) x s h = ap Some (h y refl)

-- Each rule has exactly one type where the table types each rule and each clause agrees with it, and nowhere else.
pub one_exactly : (g : GrammarData) (rows : List TypeRow) → IsEnd g rows → HasOneType g ↔ (IsFull g (table_of rows) × IsClosedTable g (table_of rows))
one_exactly g rows end = (there, back)
  where
    there : HasOneType g → IsFull g (table_of rows) × IsClosedTable g (table_of rows)
    there one = (
      λ r rule. let t = one.total r rule in has_some g (table_of rows) (end_stuck g rows end) t.1,
      λ r rule c i x e. agreed (table_of rows r.name.0) x (end_stuck g rows end r rule c i (rw e refl))
          (λ y d. one.functional r.name.0 y x (end_sound g rows end r.name.0 y d) (by_clause r c x rule i (clause_makes g (table_of rows) (end_sound g rows end) c x e))),
    )

    back : IsFull g (table_of rows) × IsClosedTable g (table_of rows) → HasOneType g
    back h = record {
      total = λ r rule. had_of g r.name.0 (table_of rows r.name.0) (h.0 r rule) (end_sound g rows end r.name.0);
      functional = closed_functional g (table_of rows) h.1;
    }

-- the table is then the relation of types
pub one_table : (g : GrammarData) (rows : List TypeRow) → IsEnd g rows → HasOneType g → IsTable g (table_of rows)
one_table g rows end one = table_is g (table_of rows) (end_sound g rows end) ((one_exactly g rows end).0 one).1
