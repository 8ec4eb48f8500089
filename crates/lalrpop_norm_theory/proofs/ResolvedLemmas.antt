-- In a resolved grammar the rules of resolved symbols have resolved parts.
use Rattle.std.proofs.Common.{◌≡◌, ℕ, zero, suc, inl, inr, List, [], ◌∷◌, refl, sym, subst, arith}
use Rattle.std.specs.Prelude.{slice_get, flat_map, Some}
use Rattle.lalrpop_norm_theory.specs.Symbols.{ClosedSymbol, ClosedSymbols, terminal, error, reference, call, group, star, plus, question, times, wrapped, lookahead, lookbehind, no_symbols, symbol_and}
use Rattle.lalrpop_norm_theory.specs.Meaning.{Meaning, HasLevels}
use Rattle.lalrpop_norm_theory.specs.Clauses.{Clause, clauses, own_clauses, step_clauses}
use Rattle.lalrpop_norm_theory.specs.Rounds.{In, Chain}
use Rattle.lalrpop_norm_theory.specs.Met.{meets, meets_all, clauses_meet, rule_meets, IsDeclaredIn, AreDeclaredIn, IsResolvedIn, AreResolvedIn, IsResolved}
use Rattle.lalrpop_norm_theory.proofs.Numbered.{split_at}
use Rattle.lalrpop_norm_theory.proofs.PairTotal.{numbered_clause_at, step_clause_at}
use Rattle.lalrpop_norm_theory.proofs.RoundsLemmas.{in_cases, of_flat}
use Rattle.lalrpop_norm_theory.proofs.ReplicatedLemmas.{replicated_resolved}

-- what is resolved is declared
pub declared_from : (declared : List ClosedSymbol) (g : ClosedSymbol) → IsResolvedIn declared g → IsDeclaredIn declared g
declared_from declared (terminal a) r = tt
declared_from declared error r = tt
declared_from declared (reference n b) r = r
declared_from declared (wrapped w g) r = declared_from declared g r
declared_from declared (call n args) r = tt
declared_from declared (group gs) r = tt
declared_from declared (star x) r = tt
declared_from declared (plus x) r = tt
declared_from declared (question x) r = tt
declared_from declared (times n x) r = tt
declared_from declared lookahead r = tt
declared_from declared lookbehind r = tt

pub all_declared_from : (declared : List ClosedSymbol) (gs : ClosedSymbols) → AreResolvedIn declared gs → AreDeclaredIn declared gs
all_declared_from declared no_symbols r = tt
all_declared_from declared (symbol_and g gs) r = (declared_from declared g r.0, all_declared_from declared gs r.1)

-- the symbol itself
met_itself : (declared : List ClosedSymbol) (g h : ClosedSymbol) → IsResolvedIn declared g → In h (g ∷ []) → IsResolvedIn declared h
met_itself declared g h r (inl e) = subst (λ (x : ClosedSymbol). IsResolvedIn declared x) (sym e) r
met_itself declared g h r (inr i) = absurd i

mutual
  -- what a resolved symbol reaches is resolved
  met_resolved : (declared : List ClosedSymbol) (g h : ClosedSymbol) → IsResolvedIn declared g → In h (meets g) → IsResolvedIn declared h
  met_resolved declared (terminal a) h r i = absurd i
  met_resolved declared error h r i = absurd i
  met_resolved declared (reference n b) h r i = absurd i
  met_resolved declared (wrapped w g) h r i = met_resolved declared g h r i
  met_resolved declared (call n args) h r i = elim (in_cases h (meets_all args) _ i) [
    | inl j ↦ all_met_resolved declared args h r j
    | inr j ↦ met_itself declared (call n args) h r j
  ]
  met_resolved declared (group gs) h r i = elim (in_cases h (meets_all gs) _ i) [
    | inl j ↦ all_met_resolved declared gs h r j
    | inr j ↦ met_itself declared (group gs) h r j
  ]
  met_resolved declared (star x) h r i = elim (in_cases h (meets x) _ i) [
    | inl j ↦ met_resolved declared x h r j
    | inr j ↦ met_itself declared (star x) h r j
  ]
  met_resolved declared (plus x) h r i = elim (in_cases h (meets x) _ i) [
    | inl j ↦ met_resolved declared x h r j
    | inr j ↦ met_itself declared (plus x) h r j
  ]
  met_resolved declared (question x) h r i = elim (in_cases h (meets x) _ i) [
    | inl j ↦ met_resolved declared x h r j
    | inr j ↦ met_itself declared (question x) h r j
  ]
  met_resolved declared (times n x) h r i = elim (in_cases h (meets x) _ i) [
    | inl j ↦ met_resolved declared x h r j
    | inr j ↦ met_itself declared (times n x) h r j
  ]
  met_resolved declared lookahead h r i = met_itself declared lookahead h r i
  met_resolved declared lookbehind h r i = met_itself declared lookbehind h r i

  all_met_resolved : (declared : List ClosedSymbol) (gs : ClosedSymbols) (h : ClosedSymbol) → AreResolvedIn declared gs → In h (meets_all gs) →
      IsResolvedIn declared h
  all_met_resolved declared no_symbols h r i = absurd i
  all_met_resolved declared (symbol_and g gs) h r i = elim (in_cases h (meets g) _ i) [
    | inl j ↦ met_resolved declared g h r.0 j
    | inr j ↦ all_met_resolved declared gs h r.1 j
  ]

of_clause : (declared : List ClosedSymbol) (x c : Clause) → AreResolvedIn declared x.parts → Some x ≡ Some c → AreResolvedIn declared c.parts
of_clause declared x c r e = let same : x ≡ c = cc e in subst (λ (d : Clause). AreResolvedIn declared d.parts) same r

module _ (M : Meaning) (declared : List ClosedSymbol) (D : IsResolved M declared) (V : HasLevels M) where
  -- the parts of a resolved symbol's clauses are resolved
  pub clause_resolved : (g : ClosedSymbol) (p : ℕ) (c : Clause) → IsResolvedIn declared g → slice_get (clauses M g) p ≡ Some c →
      AreResolvedIn declared c.parts
  clause_resolved (terminal a) p c r e = absurd (grind arith)
  clause_resolved error p c r e = absurd (grind arith)
  clause_resolved (wrapped w g) p c r e = absurd (grind arith)
  clause_resolved (reference n b) p c r e = elim (split_at (own_clauses M n b) (step_clauses n (M.previous n b)) p c e) [
    | inl i ↦
        (let (k, parts, has, same) = numbered_clause_at n (M.own_parts n b) (M.reference_count n) p c i in
        rw same (D.rules n b k parts r (V.own n b k parts has)))
    | inr s ↦
        (let (q, before, here) = s in
        let (d, prev, same) = step_clause_at n (M.previous n b) q c here in
        rw same (D.levels n b d r prev, tt))
  ]
  clause_resolved (call n args) p c r e =
      let (k, parts, has, same) = numbered_clause_at n (M.call_parts n args) (M.call_count n) p c e in
      rw same (D.macros n args k parts r has)
  clause_resolved (group gs) zero c r e = of_clause declared _ c r e
  clause_resolved (star x) zero c r e = of_clause declared _ c tt e
  clause_resolved (star x) (suc zero) c r e = of_clause declared _ c (r, tt) e
  clause_resolved (plus x) zero c r e = of_clause declared _ c (r, tt) e
  clause_resolved (plus x) (suc zero) c r e = of_clause declared _ c (r, (r, tt)) e
  clause_resolved (question x) zero c r e = of_clause declared _ c (r, tt) e
  clause_resolved (question x) (suc zero) c r e = of_clause declared _ c tt e
  clause_resolved (times n x) zero c r e = of_clause declared _ c (replicated_resolved declared n x r) e
  clause_resolved lookahead zero c r e = of_clause declared _ c tt e
  clause_resolved lookbehind zero c r e = of_clause declared _ c tt e
  clause_resolved (group gs) (suc p) c r e = absurd (grind arith)
  clause_resolved (star x) (suc (suc p)) c r e = absurd (grind arith)
  clause_resolved (plus x) (suc (suc p)) c r e = absurd (grind arith)
  clause_resolved (question x) (suc (suc p)) c r e = absurd (grind arith)
  clause_resolved (times n x) (suc p) c r e = absurd (grind arith)
  clause_resolved lookahead (suc p) c r e = absurd (grind arith)
  clause_resolved lookbehind (suc p) c r e = absurd (grind arith)

  clauses_met_resolved : (g : ClosedSymbol) → IsResolvedIn declared g → (cs : List Clause) →
      ((p : ℕ) (c : Clause) → slice_get cs p ≡ Some c → AreResolvedIn declared c.parts) → (h : ClosedSymbol) → In h (clauses_meet cs) → IsResolvedIn declared h
  clauses_met_resolved g r [] f h i = absurd i
  clauses_met_resolved g r (c ∷ cs) f h i = elim (in_cases h (meets_all c.parts) _ i) [
    | inl j ↦ all_met_resolved declared c.parts h (f 0 c refl) j
    | inr j ↦ clauses_met_resolved g r cs (λ p d e. f (suc p) d e) h j
  ]

  -- what the rule of a resolved symbol reaches is resolved
  pub rule_met_resolved : (g h : ClosedSymbol) → IsResolvedIn declared g → In h (rule_meets M g) → IsResolvedIn declared h
  rule_met_resolved g h r i = clauses_met_resolved g r (clauses M g) (λ p c e. clause_resolved g p c r e) h i

  -- what a chain of rules leads to is resolved, where the chain begins with resolved symbols
  pub chain_resolved : (start : List ClosedSymbol) → ((g : ClosedSymbol) → In g start → IsResolvedIn declared g) → (k : ℕ) (h : ClosedSymbol) →
      Chain (rule_meets M) (flat_map (rule_meets M) start) k h → IsResolvedIn declared h
  chain_resolved start f zero h i =
      let (g, there, j) = of_flat (rule_meets M) h start i in rule_met_resolved g h (f g there) j
  chain_resolved start f (suc k) h (g, c, i) = rule_met_resolved g h (chain_resolved start f k g c) i
