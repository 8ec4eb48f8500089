-- Visits, rounds of them, and the rounds of the model.
use Rattle.std.proofs.Common.{◌≡◌, ◌≤◌, ◌+◌, ◌-◌, ℕ, zero, suc, Bool, true, false, List, [], ◌∷◌, ◌++◌, Option, Some, None, map, slice_get, refl, sym, ap, subst, ◌∙◌, bytes_eq, if◌then◌else◌, arith}
use Rattle.std.specs.Prelude.{option_map, is_some}
use Rattle.std.proofs.lemmas.Slice.Eq.{bytes_eq-Decides}
use Rattle.lalrpop_norm_tree_names.specs.declared.names.NonterminalString.{NonterminalString}
use Rattle.lalrpop_norm_tree_names.specs.declared.names.TypeParameter.{TypeParameter}
use Rattle.lalrpop_norm_tree.specs.Items.{RuleData, GrammarData}
use Rattle.lalrpop_norm_tree_parts.specs.Reprs.{ReprData}
use Rattle.lalrpop_norm_repr.specs.Tables.{TypeTable, type_of}
use Rattle.lalrpop_norm_model.specs.PlainRules.{all_rules}
use Rattle.lalrpop_norm_model.specs.TypeRounds.{TypeRow, table_of, first_value, taken, visit, visits, type_rounds}
use Rattle.lalrpop_norm_tyinfer_steps.specs.Clauses.{first_in}
use Rattle.lalrpop_norm_tyinfer_steps.specs.TableValues.{nonterminal_named, type_by_name}
use Rattle.lalrpop_norm_tyinfer_steps.specs.Visits.{Seen, with_clauses, visit_seen, visits_seen, rounds_seen, HasRows, IsReadBy, TakesType, Passes, EndsRounds}
use Rattle.lalrpop_norm_tyinfer_steps.specs.Waiting.{IsQuiet}
use Rattle.lalrpop_norm_tyinfer_steps.proofs.ReadLemmas.{first_at, kept_read, rest_after}

-- ---- a visit

-- a rule that has a type keeps it
pub taken_kept : (tt : TypeTable) (n : List ℕ) (v : Option ReprData) (x : ReprData) → Some x ≡ type_by_name tt n → TakesType tt tt n v false
taken_kept tt n v x e = record {
  table = λ rows h. let is : table_of rows n ≡ Some x = sym (h n) ∙ sym e in rw is h;
  quiet = λ _ none. let clash : Some x ≡ None = e ∙ none in absurd cc;
  still = λ _. refl;
  told = λ no. absurd cc;
  kept = λ m y is. is;
  others = λ m _. refl;
  rest = refl;
}

typed_case : (tt : TypeTable) (n : List ℕ) (v o : Option ReprData) → type_by_name tt n ≡ o → is_some o ≡ true → TakesType tt tt n v false
typed_case tt n v None e some = absurd cc
typed_case tt n v (Some x) e some = taken_kept tt n v x (sym e)

pub taken_typed : (tt : TypeTable) (n : List ℕ) (v : Option ReprData) → is_some (type_by_name tt n) ≡ true → TakesType tt tt n v false
taken_typed tt n v some = typed_case tt n v (type_by_name tt n) refl some

-- one for which nothing is made has none yet
pub taken_none : (tt : TypeTable) (n : List ℕ) (v : Option ReprData) → type_by_name tt n ≡ None → None ≡ v → TakesType tt tt n v false
taken_none tt n v none e = record {
  table = λ rows h. let is : table_of rows n ≡ None = sym (h n) ∙ none in rw (is, ← e) h;
  quiet = λ _ _. sym e;
  still = λ _. refl;
  told = λ no. absurd cc;
  kept = λ m y is. is;
  others = λ m _. refl;
  rest = refl;
}

added_case : (before after : TypeTable) (n : List ℕ) (x : ReprData) → type_by_name after n ≡ Some x →
    ((other : NonterminalString) → (other ≡ nonterminal_named n → ⊥) → type_of other after ≡ type_of other before) →
    (rows : List TypeRow) → HasRows before rows → (m : List ℕ) (b : Bool) → bytes_eq n m ≡ b → type_by_name after m ≡ (if b then Some x else table_of rows m)
added_case before after n x added others rows h m true e =
    let same : n ≡ m = (bytes_eq-Decides n m).0 e in
    subst (λ k. type_by_name after k ≡ Some x) same added
added_case before after n x added others rows h m false e =
    others (nonterminal_named m) (λ same.
    let name : m ≡ n = ap (λ (a : NonterminalString). a.0) same in
    let is : bytes_eq n m ≡ true = (bytes_eq-Decides n m).1 (sym name) in
    absurd cc)
    ∙ h m

kept_beside : (before after : TypeTable) (n : List ℕ) → type_by_name before n ≡ None →
    ((other : NonterminalString) → (other ≡ nonterminal_named n → ⊥) → type_of other after ≡ type_of other before) →
    (m : List ℕ) (y : ReprData) → type_by_name before m ≡ Some y → type_by_name after m ≡ Some y
kept_beside before after n none others m y is =
    others (nonterminal_named m) (λ same.
    let name : m ≡ n = ap (λ (a : NonterminalString). a.0) same in
    let clash : None ≡ Some y = sym none ∙ (ap (type_by_name before) (sym name) ∙ is) in
    absurd cc)
    ∙ is

-- one for which a type is made takes it
pub taken_new : (before after : TypeTable) (n : List ℕ) (v : Option ReprData) (x : ReprData) → type_by_name before n ≡ None → Some x ≡ v → type_by_name after n ≡ Some x →
    ((other : NonterminalString) → (other ≡ nonterminal_named n → ⊥) → type_of other after ≡ type_of other before) →
    after ≡ record before { nonterminals = after.nonterminals } → TakesType before after n v true
taken_new before after n v x none e added others rest = record {
  table = λ rows h. let is : table_of rows n ≡ None = sym (h n) ∙ none in rw (is, ← e) (λ m. added_case before after n x added others rows h m (bytes_eq n m) refl);
  quiet = λ no. absurd cc;
  still = λ no. absurd cc;
  told = λ _. ap is_some added;
  kept = kept_beside before after n none others;
  others = λ m apart. others (nonterminal_named m) (λ same. apart (ap (λ (a : NonterminalString). a.0) same));
  rest = rest;
}

-- ---- a round

visits_last : (g : GrammarData) (rows : List TypeRow) (ss : List Seen) (s : Seen) → visits_seen g rows (ss ++ s ∷ []) ≡ visit_seen g (visits_seen g rows ss) s
visits_last g rows [] s = refl
visits_last g rows (r ∷ ss) s = visits_last g (visit_seen g rows r) ss s

pub passes_more : (ps : List TypeParameter) (before mid after : TypeTable) (ss : List Seen) (s : Seen) (a : Bool) → Passes ps before mid ss →
    TakesType mid after s.0.name.0 (first_in ps mid s.1) a → Passes ps before after (ss ++ s ∷ [])
passes_more ps before mid after ss s a p t = record {
  table = λ g read rows h.
      let here = p.table g read rows h in
      let same = first_at g ps mid (kept_read g ps before mid read p.rest) (visits_seen g rows ss) here s.1 in
      subst (λ later. HasRows after later)
      (ap (λ v. taken (visits_seen g rows ss) s.0.name.0 (table_of (visits_seen g rows ss) s.0.name.0) v) same ∙ sym (visits_last g rows ss s))
      (t.table (visits_seen g rows ss) here);
  rest = rest_after before mid after p.rest t.rest;
}

-- ---- quiet rules

-- the visit of one
visit_quiet : (g : GrammarData) (ps : List TypeParameter) (tt : TypeTable) → IsReadBy g ps tt → (rows : List TypeRow) → HasRows tt rows → (s : Seen) → IsQuiet ps tt s →
    (o : Option ReprData) → type_by_name tt s.0.name.0 ≡ o → visit_seen g rows s ≡ rows
visit_quiet g ps tt read rows h s quiet (Some x) e =
    let is : table_of rows s.0.name.0 ≡ Some x = sym (h s.0.name.0) ∙ e in
    ap (λ o. taken rows s.0.name.0 o (first_value g (table_of rows) s.1)) is
visit_quiet g ps tt read rows h s quiet None e =
    let is : table_of rows s.0.name.0 ≡ None = sym (h s.0.name.0) ∙ e in
    let none : first_value g (table_of rows) s.1 ≡ None = sym (first_at g ps tt read rows h s.1) ∙ quiet e in
    ap (λ o. taken rows s.0.name.0 o (first_value g (table_of rows) s.1)) is ∙ ap (taken rows s.0.name.0 None) none

visits_quiet : (g : GrammarData) (ps : List TypeParameter) (tt : TypeTable) → IsReadBy g ps tt → (rows : List TypeRow) → HasRows tt rows → (ss : List Seen) →
    ((k : ℕ) (s : Seen) → slice_get ss k ≡ Some s → IsQuiet ps tt s) → visits_seen g rows ss ≡ rows
visits_quiet g ps tt read rows h [] quiet = refl
visits_quiet g ps tt read rows h (s ∷ ss) quiet =
    ap (λ later. visits_seen g later ss) (visit_quiet g ps tt read rows h s (quiet 0 s refl) (type_by_name tt s.0.name.0) refl)
    ∙ visits_quiet g ps tt read rows h ss (λ k r here. quiet (suc k) r here)

-- ---- rounds

pub ends_none : (ps : List TypeParameter) (tt : TypeTable) (ss : List Seen) → EndsRounds ps tt tt ss 0
ends_none ps tt ss = record { table = λ g read h. h; rest = refl }

pub ends_more : (ps : List TypeParameter) (before mid after : TypeTable) (ss : List Seen) (k : ℕ) → EndsRounds ps before mid ss k →
    Passes ps mid after ss → EndsRounds ps before after ss (suc k)
ends_more ps before mid after ss k e p = record {
  table = λ g read h. p.table g (kept_read g ps before mid read e.rest) (rounds_seen g ss k) (e.table g read h);
  rest = rest_after before mid after e.rest p.rest;
}

stays : (g : GrammarData) (ss : List Seen) (k m : ℕ) → visits_seen g (rounds_seen g ss k) ss ≡ rounds_seen g ss k → rounds_seen g ss (k + m) ≡ rounds_seen g ss k
stays g ss k zero quiet = let here : k + zero ≡ k = omega arith in ap (rounds_seen g ss) here
stays g ss k (suc m) quiet =
    let next : k + suc m ≡ suc (k + m) = omega arith in
    ap (rounds_seen g ss) next ∙ (ap (λ rows. visits_seen g rows ss) (stays g ss k m quiet) ∙ quiet)

-- where all rules are quiet the rounds have come to their end
pub ends_quiet : (ps : List TypeParameter) (before after : TypeTable) (ss : List Seen) (k n : ℕ) → EndsRounds ps before after ss k →
    ((i : ℕ) (s : Seen) → slice_get ss i ≡ Some s → IsQuiet ps after s) → k ≤ n → EndsRounds ps before after ss n
ends_quiet ps before after ss k n e quiet le = record {
  table = λ g read h.
      let here = e.table g read h in
      let same = visits_quiet g ps after (kept_read g ps before after read e.rest) (rounds_seen g ss k) here ss quiet in
      let all : k + (n - k) ≡ n = omega arith in
      subst (λ rows. HasRows after rows) (sym (stays g ss k (n - k) same) ∙ ap (rounds_seen g ss) all) here;
  rest = e.rest;
}

-- ---- the rounds of the model

visits_are : (g : GrammarData) (rows : List TypeRow) (rs : List RuleData) → visits_seen g rows (map with_clauses rs) ≡ visits g rows rs
visits_are g rows [] = refl
visits_are g rows (r ∷ rs) = visits_are g (visit g rows r) rs

pub rounds_are : (g : GrammarData) (k : ℕ) → rounds_seen g (map with_clauses (all_rules g)) k ≡ type_rounds g k
rounds_are g zero = refl
rounds_are g (suc k) = ap (λ rows. visits_seen g rows (map with_clauses (all_rules g))) (rounds_are g k) ∙ visits_are g (type_rounds g k) (all_rules g)
