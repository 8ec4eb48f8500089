-- A table of types looked at rule by rule: what there is to compute where a grammar and a table are given.
use Rattle.std.proofs.Common.{◌≡◌, ℕ, Bool, true, false, List, [], ◌∷◌, Option, Some, None, IsSome, bytes_eq, inl, inr, refl, sym, subst, if◌then◌else◌}
use Rattle.std.proofs.lemmas.Slice.Eq.{bytes_eq-Decides}
use Rattle.lalrpop_norm_tree.specs.Items.{RuleData, GrammarData}
use Rattle.lalrpop_norm_tree_parts.specs.Reprs.{ReprData}
use Rattle.lalrpop_norm_theory.specs.Rounds.{In}
use Rattle.lalrpop_norm_model.specs.PlainRules.{all_rules}
use Rattle.lalrpop_norm_model.specs.TypeRelation.{IsRule, TypeClause, type_clauses, Has, by_clause, HasOneType}
use Rattle.lalrpop_norm_model.specs.TypeTables.{Table, clause_value, IsSound, IsClosedTable, IsStuck, IsTable}
use Rattle.lalrpop_norm_model.specs.TypeRounds.{TypeRow, table_of}
use Rattle.lalrpop_norm_model.proofs.TypeLemmas.{clause_makes, table_is, closed_functional}

-- ---- rules that satisfy a table

-- what is made of a table, and the table's own, agree: the first is absent, or it is the second
abbrev pub Agrees : Option ReprData → Option ReprData → Type 0
Agrees None v = Unit {0}
Agrees (Some x) v = v ≡ Some x

-- if something is made of a table, the table has something
abbrev pub Follows : Option ReprData → Option ReprData → Type 0
Follows None v = Unit {0}
Follows (Some x) v = IsSome v

-- R between what each clause makes of the table and v
abbrev pub ClausesMeet : (Option ReprData → Option ReprData → Type 0) → GrammarData → Table → Option ReprData → List TypeClause → Type 0
ClausesMeet R g f v [] = Unit {0}
ClausesMeet R g f v (c ∷ cs) = R (clause_value g f c) v × ClausesMeet R g f v cs

-- R between what each clause of each rule makes of the table and what the table has for the rule
abbrev pub RulesMeet : (Option ReprData → Option ReprData → Type 0) → GrammarData → Table → List RuleData → Type 0
RulesMeet R g f [] = Unit {0}
RulesMeet R g f (r ∷ rs) = ClausesMeet R g f (f r.name.0) (type_clauses r) × RulesMeet R g f rs

clauses_meet : (R : Option ReprData → Option ReprData → Type 0) (g : GrammarData) (f : Table) (v : Option ReprData) (cs : List TypeClause) →
    ClausesMeet R g f v cs → (c : TypeClause) → In c cs → R (clause_value g f c) v
clauses_meet R g f v [] m c i = absurd i
clauses_meet R g f v (d ∷ cs) m c (inl e) = subst (λ b. R (clause_value g f b) v) (sym e) m.0
clauses_meet R g f v (d ∷ cs) m c (inr i) = clauses_meet R g f v cs m.1 c i

rules_meet : (R : Option ReprData → Option ReprData → Type 0) (g : GrammarData) (f : Table) (rs : List RuleData) → RulesMeet R g f rs →
    (r : RuleData) → In r rs → (c : TypeClause) → In c (type_clauses r) → R (clause_value g f c) (f r.name.0)
rules_meet R g f [] m r i = absurd i
rules_meet R g f (s ∷ rs) m r (inl e) =
    subst (λ q. (c : TypeClause) → In c (type_clauses q) → R (clause_value g f c) (f q.name.0)) (sym e) (clauses_meet R g f (f s.name.0) (type_clauses s) m.0)
rules_meet R g f (s ∷ rs) m r (inr i) = rules_meet R g f rs m.1 r i

agrees_with : (v w : Option ReprData) → Agrees v w → (x : ReprData) → v ≡ Some x → w ≡ Some x
agrees_with None w a x e = absurd cc
agrees_with (Some y) w a x e = cc

follows_from : (v w : Option ReprData) → Follows v w → IsSome v → IsSome w
follows_from None w a s = absurd cc
follows_from (Some y) w a s = a

-- a table with which each rule agrees is closed
pub closed_by_rules : (g : GrammarData) (f : Table) → RulesMeet Agrees g f (all_rules g) → IsClosedTable g f
closed_by_rules g f m r i c j x e = agrees_with (clause_value g f c) (f r.name.0) (rules_meet Agrees g f (all_rules g) m r i c j) x e

-- a table that has something for each rule that makes something of it is stuck
pub stuck_by_rules : (g : GrammarData) (f : Table) → RulesMeet Follows g f (all_rules g) → IsStuck g f
stuck_by_rules g f m r i c j s = follows_from (clause_value g f c) (f r.name.0) (rules_meet Follows g f (all_rules g) m r i c j) s

-- ---- tables of rows

-- each row is had
abbrev pub AllHad : GrammarData → List TypeRow → Type 0
AllHad g [] = Unit {0}
AllHad g (r ∷ rows) = Has g r.0 r.1 × AllHad g rows

row_sound : (g : GrammarData) (r : TypeRow) (n : List ℕ) (x : ReprData) → Has g r.0 r.1 → bytes_eq r.0 n ≡ true → r.1 ≡ x → Has g n x
row_sound g r n x h same is = subst (λ y. Has g n y) is (subst (λ m. Has g m r.1) ((bytes_eq-Decides r.0 n).0 same) h)

first_of_rows : (g : GrammarData) (r : TypeRow) (n : List ℕ) (x : ReprData) (b : Bool) (rest : Option ReprData) → bytes_eq r.0 n ≡ b → Has g r.0 r.1 →
    (rest ≡ Some x → Has g n x) → (if b then Some r.1 else rest) ≡ Some x → Has g n x
first_of_rows g r n x true rest is h other e = row_sound g r n x h is cc
first_of_rows g r n x false rest is h other e = other e

pub rows_sound : (g : GrammarData) (rows : List TypeRow) → AllHad g rows → IsSound g (table_of rows)
rows_sound g [] h n x e = absurd cc
rows_sound g (r ∷ rows) h n x e =
    first_of_rows g r n x (bytes_eq r.0 n) (table_of rows n) refl h.0 (rows_sound g rows h.1 n x) e

-- a rule has what one of its clauses makes of rows that are had
pub had_by : (g : GrammarData) (rows : List TypeRow) → AllHad g rows → (r : RuleData) (c : TypeClause) (x : ReprData) → IsRule g r → In c (type_clauses r) →
    clause_value g (table_of rows) c ≡ Some x → Has g r.name.0 x
had_by g rows had r c x rule i e = by_clause r c x rule i (clause_makes g (table_of rows) (rows_sound g rows had) c x e)

-- each rule has a type in the table
abbrev pub AllTyped : Table → List RuleData → Type 0
AllTyped f [] = Unit {0}
AllTyped f (r ∷ rs) = IsSome (f r.name.0) × AllTyped f rs

some_typed : (f : Table) (rs : List RuleData) → AllTyped f rs → (r : RuleData) → In r rs → IsSome (f r.name.0)
some_typed f [] t r i = absurd i
some_typed f (s ∷ rs) t r (inl e) = subst (λ q. IsSome (f q.name.0)) (sym e) t.0
some_typed f (s ∷ rs) t r (inr i) = some_typed f rs t.1 r i

pub had_of : (g : GrammarData) (n : List ℕ) (v : Option ReprData) → IsSome v → ((x : ReprData) → v ≡ Some x → Has g n x) → (x : ReprData) × Has g n x
had_of g n None s h = absurd cc
had_of g n (Some x) s h = (x, h x refl)

-- what a table shows of a grammar: it is the relation of its types, and each rule has exactly one
pub record Typing (g : GrammarData) (rows : List TypeRow) : Type 0 where
  pub table : IsTable g (table_of rows)
  pub one : HasOneType g

-- rows that are had, with which each rule agrees and which type each rule, are the types of the grammar
pub typing : (g : GrammarData) (rows : List TypeRow) → AllHad g rows → RulesMeet Agrees g (table_of rows) (all_rules g) → AllTyped (table_of rows) (all_rules g) →
    Typing g rows
typing g rows had agree typed = record {
  table = table_is g (table_of rows) (rows_sound g rows had) (closed_by_rules g (table_of rows) agree);
  one = record {
    total = λ r i. had_of g r.name.0 (table_of rows r.name.0) (some_typed (table_of rows) (all_rules g) typed r i) (rows_sound g rows had r.name.0);
    functional = closed_functional g (table_of rows) (closed_by_rules g (table_of rows) agree);
  };
}
