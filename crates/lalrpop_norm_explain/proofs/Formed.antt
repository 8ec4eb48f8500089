-- The rules of ground symbols are formed.
use Rattle.std.proofs.Common.{◌≡◌, ℕ, zero, suc, List, [], ◌∷◌, ◌++◌, map, refl, sym, ap, subst, ◌∙◌, arith}
use Rattle.std.specs.Prelude.{Option, Some, None, slice_get}
use Rattle.std.proofs.lemmas.List.{append-nil}
use Rattle.lalrpop_norm_theory.specs.Symbols.{Name, ClosedSymbol, ClosedSymbols, terminal, error, reference, call, wrapped, no_symbols, symbol_and}
use Rattle.lalrpop_norm_theory.specs.Meaning.{Meaning}
use Rattle.lalrpop_norm_theory.specs.Clauses.{Clause, clause_and, clauses, numbered, step_clauses, symbol_of, symbols_of, clause_production}
use Rattle.lalrpop_norm_theory.specs.LoweredTrees.{ProductionTable, Production}
use Rattle.lalrpop_norm_theory.specs.Met.{IsKnown}
use Rattle.lalrpop_norm_theory.specs.Tables.{AllKnown, Realizes}
use Rattle.lalrpop_norm_explain.specs.Forms.{Form, made_productions, form_of, IsVisited, AreVisited}
use Rattle.lalrpop_norm_explain.specs.Laws.{IsNameOf, RealizedIsFormed}
use Rattle.lalrpop_norm_explain.proofs.Back.{visited_and}

pub no_form : (name : ClosedSymbol → Name) (n : Name) (f : ℕ → Option ClosedSymbols) (k left : ℕ) (rest : List Clause) → form_of (map (clause_production name) rest) ≡ None →
    form_of (map (clause_production name) (numbered n f k left ++ rest)) ≡ None
no_form name n f k zero rest h = h
no_form name n f k (suc left) rest h = go (f k) (no_form name n f (suc k) left rest h)
  where
    go : (o : Option ClosedSymbols) → form_of (map (clause_production name) (numbered n f (suc k) left ++ rest)) ≡ None →
        form_of (map (clause_production name) (clause_and n k o (numbered n f (suc k) left) ++ rest)) ≡ None
    go None ih = ih
    go (Some parts) ih = refl

pub step_no_form : (name : ClosedSymbol → Name) (n : Name) (o : Option (Option ℕ)) → form_of (map (clause_production name) (step_clauses n o)) ≡ None
step_no_form name n None = refl
step_no_form name n (Some b) = refl

-- productions of a form are those of an equal one
alike_formed : (n : Name) (ps : List Production) (x f : Form) → Some x ≡ Some f → ps ≡ made_productions n x → ps ≡ made_productions n f
alike_formed n ps x f e made = let same : x ≡ f = cc e in made ∙ ap (made_productions n) same

rule_formed : (M : Meaning) (name : ClosedSymbol → Name) (g : ClosedSymbol) (f : Form) → form_of (map (clause_production name) (clauses M g)) ≡ Some f →
    map (clause_production name) (clauses M g) ≡ made_productions (name g) f
rule_formed M name (terminal a) f e = absurd (cc e)
rule_formed M name error f e = absurd (cc e)
rule_formed M name (wrapped w g) f e = absurd (cc e)
rule_formed M name (reference n b) f e =
    let none = no_form name n (M.own_parts n b) 0 (M.reference_count n) (step_clauses n (M.previous n b)) (step_no_form name n (M.previous n b)) in
    let bad : None ≡ Some f = sym none ∙ e in absurd (cc bad)
rule_formed M name (call n args) f e =
    let none = no_form name n (M.call_parts n args) 0 (M.call_count n) [] refl in
    let same = append-nil (numbered n (M.call_parts n args) 0 (M.call_count n)) in
    let bad : None ≡ Some f = sym (rw same at none) ∙ e in absurd (cc bad)
rule_formed M name g f e = alike_formed (name g) _ _ f e refl

pub symbol_visited : (M : Meaning) (name : ClosedSymbol → Name) (P : ProductionTable) (declared met : List ClosedSymbol) → Realizes M name P (IsKnown declared met) →
    (g : ClosedSymbol) → IsKnown declared met g → IsVisited (IsNameOf name (IsKnown declared met)) (symbol_of name g)
symbol_visited M name P declared met R (terminal a) k = tt
symbol_visited M name P declared met R error k = tt
symbol_visited M name P declared met R (wrapped w g) k = symbol_visited M name P declared met R g (R.inner w g k)
symbol_visited M name P declared met R g k = (g, tt, k, refl)

parts_visited : (M : Meaning) (name : ClosedSymbol → Name) (P : ProductionTable) (declared met : List ClosedSymbol) → Realizes M name P (IsKnown declared met) →
    (gs : ClosedSymbols) → AllKnown (IsKnown declared met) gs → AreVisited (IsNameOf name (IsKnown declared met)) (symbols_of name gs)
parts_visited M name P declared met R no_symbols k = tt
parts_visited M name P declared met R (symbol_and g gs) k =
    visited_and (IsNameOf name (IsKnown declared met)) (symbol_of name g) (symbols_of name gs) (symbol_visited M name P declared met R g k.0)
    (parts_visited M name P declared met R gs k.1)

-- what is at an index of a mapped list
mapped_at : (name : ClosedSymbol → Name) (cs : List Clause) (p : ℕ) (q : Production) → slice_get (map (clause_production name) cs) p ≡ Some q →
    (c : Clause) × (slice_get cs p ≡ Some c) × (symbols_of name c.parts ≡ q.symbols)
mapped_at name [] p q e = absurd (grind arith)
mapped_at name (c ∷ cs) zero q e = let same : clause_production name c ≡ q = cc in (c, refl, ap (λ (r : Production). r.symbols) same)
mapped_at name (c ∷ cs) (suc p) q e = mapped_at name cs p q e

pub realized_formed : RealizedIsFormed
realized_formed M name P declared met R = record {
  formed = λ n f v e.
      let (g, has, k, same) = v in
      let here : P n ≡ map (clause_production name) (clauses M g) = ap P (sym same) ∙ R.productions g has k in
      here ∙ rule_formed M name g f (ap form_of (sym here) ∙ e) ∙ ap (λ m. made_productions m f) same;
  closed = λ n p q v e.
      let (g, has, k, same) = v in
      let here : P n ≡ map (clause_production name) (clauses M g) = ap P (sym same) ∙ R.productions g has k in
      let (c, at, symbols) = mapped_at name (clauses M g) p q (ap (λ qs. slice_get qs p) (sym here) ∙ e) in
      subst (AreVisited (IsNameOf name (IsKnown declared met))) symbols (parts_visited M name P declared met R c.parts (R.parts_known g p c k at));
}
