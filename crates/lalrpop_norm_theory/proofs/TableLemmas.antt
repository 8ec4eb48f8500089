-- The rules of a whole expansion realize its symbols.
use Rattle.std.proofs.Common.{◌≡◌, ◌⊎◌, inl, inr, ℕ, zero, suc, List, [], ◌∷◌, ◌++◌, map, refl, sym, ap, ◌∙◌, subst, arith}
use Rattle.std.specs.Prelude.{slice_get, Some, bytes_eq, true}
use Rattle.std.proofs.lemmas.Bool.{cases_Bool}
use Rattle.lalrpop_norm_theory.specs.Symbols.{Name, ClosedSymbol, ClosedSymbols, terminal, error, reference, call, group, star, plus, question, times, wrapped, lookahead, lookbehind, no_symbols, symbol_and}
use Rattle.lalrpop_norm_theory.specs.Meaning.{Meaning}
use Rattle.lalrpop_norm_theory.specs.Clauses.{Clause, clauses, clause_production, IsNonterminal}
use Rattle.lalrpop_norm_theory.specs.Rounds.{In, IsDistinct}
use Rattle.lalrpop_norm_theory.specs.Met.{meets, meets_all, clauses_meet, IsKnown, IsDeclaredIn, AreDeclaredIn}
use Rattle.lalrpop_norm_theory.specs.Tables.{AllKnown, Realizes, OneRuleAName, Stands, table, rule_of_symbol}
use Rattle.lalrpop_norm_theory.specs.Laws.{RulesRealize}
use Rattle.lalrpop_norm_theory.proofs.RoundsLemmas.{in_left, in_right, in_cases}
use Rattle.lalrpop_norm_theory.proofs.SameLemmas.{text_sound, text_same}

-- the rule under a symbol's name is the symbol's
named_rule : (M : Meaning) (name : ClosedSymbol → Name) (gs : List ClosedSymbol) (g : ClosedSymbol) → In g gs →
    ((h : ClosedSymbol) → In h gs → name h ≡ name g → clauses M h ≡ clauses M g) →
    table (map (rule_of_symbol M name) gs) (name g) ≡ map (clause_production name) (clauses M g)
named_rule M name [] g i d = absurd i
named_rule M name (h ∷ gs) g i d = elim (cases_Bool (bytes_eq (name h) (name g))) [
  | inl e ↦ (let same : clauses M h ≡ clauses M g = d h (inl refl) (text_sound (name h) (name g) e) in rw (e, same) refl)
  | inr e ↦
      let there : In g gs = rest i (λ s. let yes : bytes_eq (name h) (name g) ≡ true = rw s (text_same (name g)) in cc (e, yes)) in
      rw e (named_rule M name gs g there (λ k j. d k (inr j)))
]
  where
    rest : (g ≡ h) ⊎ In g gs → (name h ≡ name g → ⊥) → In g gs
    rest (inl s) n = absurd (n (ap name (sym s)))
    rest (inr j) n = j

known_listed : (declared met : List ClosedSymbol) (g : ClosedSymbol) → IsNonterminal g → IsKnown declared met g → In g (declared ++ met)
known_listed declared met (terminal a) n k = absurd n
known_listed declared met error n k = absurd n
known_listed declared met (wrapped w g) n k = absurd n
known_listed declared met (reference m b) n k = in_left _ declared met k
known_listed declared met _ n k = in_right _ declared met k

-- what the symbols reach is reached, so they are known
known_from : (declared met : List ClosedSymbol) (g : ClosedSymbol) →
    ((h : ClosedSymbol) → In h (meets g) → In h met) → IsDeclaredIn declared g → IsKnown declared met g
known_from declared met (terminal a) f r = tt
known_from declared met error f r = tt
known_from declared met (reference m b) f r = r
known_from declared met (wrapped w g) f r = known_from declared met g f r
known_from declared met (call m args) f r = f _ (in_right _ (meets_all args) _ (inl refl))
known_from declared met (group gs) f r = f _ (in_right _ (meets_all gs) _ (inl refl))
known_from declared met (star x) f r = f _ (in_right _ (meets x) _ (inl refl))
known_from declared met (plus x) f r = f _ (in_right _ (meets x) _ (inl refl))
known_from declared met (question x) f r = f _ (in_right _ (meets x) _ (inl refl))
known_from declared met (times n x) f r = f _ (in_right _ (meets x) _ (inl refl))
known_from declared met lookahead f r = f _ (inl refl)
known_from declared met lookbehind f r = f _ (inl refl)

all_known_from : (declared met : List ClosedSymbol) (gs : ClosedSymbols) →
    ((h : ClosedSymbol) → In h (meets_all gs) → In h met) → AreDeclaredIn declared gs → AllKnown (IsKnown declared met) gs
all_known_from declared met no_symbols f r = tt
all_known_from declared met (symbol_and g gs) f r = (
  known_from declared met g (λ h i. f h (in_left h (meets g) (meets_all gs) i)) r.0,
  all_known_from declared met gs (λ h i. f h (in_right h (meets g) (meets_all gs) i)) r.1,
)

clause_meets : (cs : List Clause) (p : ℕ) (c : Clause) → slice_get cs p ≡ Some c → (h : ClosedSymbol) → In h (meets_all c.parts) →
    In h (clauses_meet cs)
clause_meets [] p c e h i = absurd (grind arith)
clause_meets (x ∷ cs) zero c e h i =
    let same : x ≡ c = cc e in in_left h (meets_all x.parts) _ (rw same i)
clause_meets (x ∷ cs) (suc p) c e h i = in_right h (meets_all x.parts) _ (clause_meets cs p c e h i)

-- only nonterminals have clauses
pub nonterminal_of : (M : Meaning) (g : ClosedSymbol) (p : ℕ) (c : Clause) → slice_get (clauses M g) p ≡ Some c → IsNonterminal g
nonterminal_of M (terminal a) p c e = absurd (grind arith)
nonterminal_of M error p c e = absurd (grind arith)
nonterminal_of M (wrapped w g) p c e = absurd (grind arith)
nonterminal_of M _ p c e = tt

known_more : (roots declared met : List ClosedSymbol) (g : ClosedSymbol) → IsKnown declared met g → IsKnown (roots ++ declared) met g
known_more roots declared met (terminal a) k = tt
known_more roots declared met error k = tt
known_more roots declared met (reference m b) k = in_right (reference m b) roots declared k
known_more roots declared met (wrapped w g) k = known_more roots declared met g k
known_more roots declared met (call m args) k = k
known_more roots declared met (group gs) k = k
known_more roots declared met (star x) k = k
known_more roots declared met (plus x) k = k
known_more roots declared met (question x) k = k
known_more roots declared met (times n x) k = k
known_more roots declared met lookahead k = k
known_more roots declared met lookbehind k = k

all_known_more : (roots declared met : List ClosedSymbol) (gs : ClosedSymbols) → AllKnown (IsKnown declared met) gs →
    AllKnown (IsKnown (roots ++ declared) met) gs
all_known_more roots declared met no_symbols k = tt
all_known_more roots declared met (symbol_and g gs) k = (known_more roots declared met g k.0, all_known_more roots declared met gs k.1)

module _ (M : Meaning) (name : ClosedSymbol → Name) (roots declared met : List ClosedSymbol) (S : Stands M name roots declared met) where
  -- a known nonterminal has the name and the clauses of one whose rule is listed
  listed : (g : ClosedSymbol) → IsNonterminal g → IsKnown (roots ++ declared) met g →
      (h : ClosedSymbol) × In h (declared ++ met) × (name g ≡ name h) × (clauses M g ≡ clauses M h)
  listed g n k = elim (in_cases g (roots ++ declared) met (known_listed (roots ++ declared) met g n k)) [
    | inl i ↦ elim (in_cases g roots declared i) [
      | inl r ↦ (let (h, there, same, alike) = S.shared g r in (h, in_left h declared met there, same, alike))
      | inr d ↦ (g, in_left g declared met d, refl, refl)
    ]
    | inr m ↦ (g, in_right g declared met m, refl, refl)
  ]

  pub rules_realize_known : Realizes M name (table (map (rule_of_symbol M name) (declared ++ met))) (IsKnown (roots ++ declared) met)
  rules_realize_known = record {
    productions = λ g n k.
        let (h, here, same, alike) = listed g n k in
        rw (same, alike) (named_rule M name (declared ++ met) h here (λ x i s. S.distinct x h i here s));
    inner = λ w g k. k;
    parts_known = λ g p c k e.
        let (h, here, same, alike) = listed g (nonterminal_of M g p c e) k in
        let e' : slice_get (clauses M h) p ≡ Some c = rw (← alike) e in
        all_known_more roots declared met c.parts
        (all_known_from declared met c.parts (λ x i. S.done h x here (clause_meets (clauses M h) p c e' x i)) (S.resolved h here p c e'));
  }

pub rules_realize : RulesRealize
rules_realize M name roots declared met S = rules_realize_known M name roots declared met S

in_mapped : (name : ClosedSymbol → Name) (g : ClosedSymbol) (gs : List ClosedSymbol) → In g gs → In (name g) (map name gs)
in_mapped name g (h ∷ gs) (inl e) = inl (ap name e)
in_mapped name g (h ∷ gs) (inr i) = inr (in_mapped name g gs i)
in_mapped name g [] i = absurd i

-- where all names differ each means one rule
pub one_rule_from_distinct : (M : Meaning) (name : ClosedSymbol → Name) (gs : List ClosedSymbol) → IsDistinct (map name gs) →
    OneRuleAName M name gs
one_rule_from_distinct M name [] d g h i j e = absurd i
one_rule_from_distinct M name (x ∷ gs) d g h (inl i) (inl j) e = ap (clauses M) (i ∙ sym j)
one_rule_from_distinct M name (x ∷ gs) d g h (inr i) (inr j) e = one_rule_from_distinct M name gs d.1 g h i j e
one_rule_from_distinct M name (x ∷ gs) d g h (inl i) (inr j) e =
    absurd (d.0 (subst (λ n. In n (map name gs)) (sym e ∙ ap name i) (in_mapped name h gs j)))
one_rule_from_distinct M name (x ∷ gs) d g h (inr i) (inl j) e =
    absurd (d.0 (subst (λ n. In n (map name gs)) (e ∙ ap name j) (in_mapped name g gs i)))
