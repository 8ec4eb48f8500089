-- A grammar lowered from the grammar with levels realizes the written one, once its origins are composed.
use Rattle.std.proofs.Common.{◌≡◌, ◌≤◌, ◌<◌, ◌+◌, inl, inr, ℕ, zero, suc, List, [], ◌∷◌, length, map, refl, sym, ap, ap₂, ◌∙◌, subst, arith, append-nil}
use Rattle.std.specs.Prelude.{slice_get, Option, Some, None, option_map}
use Rattle.std.proofs.lemmas.Option.{slice_get-map, slice_get_cases}
use Rattle.lalrpop_norm_theory.specs.Symbols.{Name, ClosedSymbol, ClosedSymbols, terminal, error, reference, call, group, star, plus, question, times, wrapped, lookahead, lookbehind, no_symbols, symbol_and}
use Rattle.lalrpop_norm_theory.specs.Meaning.{Meaning, HasCounts, HasLevels}
use Rattle.lalrpop_norm_theory.specs.LoweredTrees.{Origin, from_times, ProductionTable, LoweredTree, LoweredTrees, lowered_leaf, lowered_node, no_lowered, lowered_and, LoweredSymbol, IsDerivation, AreDerivations, written}
use Rattle.lalrpop_norm_theory.specs.Clauses.{Clause, clause, clause_and, clauses, numbered, own_clauses, symbol_of, symbols_of, clause_production, IsNonterminal}
use Rattle.lalrpop_norm_theory.specs.Rounds.{In}
use Rattle.lalrpop_norm_theory.specs.Met.{IsResolvedIn, AreResolvedIn, IsResolved}
use Rattle.lalrpop_norm_theory.specs.Tables.{AllKnown, Realizes}
use Rattle.lalrpop_norm_theory.specs.Leveled.{level_reference, leveled_symbol, leveled_symbols, IsLeveled, composed, composed_clause, leveled_clause, recomposed_production, recomposed}
use Rattle.lalrpop_norm_theory.specs.Laws.{level_named}
use Rattle.lalrpop_norm_theory.proofs.TableLemmas.{nonterminal_of}
use Rattle.lalrpop_norm_theory.proofs.ResolvedLemmas.{clause_resolved}
use Rattle.lalrpop_norm_theory.proofs.CallLemmas.{mapped_at}
use Rattle.lalrpop_norm_theory.proofs.ReplicatedLemmas.{leveled_replicated}

abbrev pub leveled_parts : (Name → ℕ → Name) → Clause → ClosedSymbols
leveled_parts l c = leveled_symbols l c.parts

pub shifted : (k j : ℕ) → k + suc j ≡ suc k + j
shifted k j = omega arith

-- the alternatives of a level's rule are the clauses at their indices
numbered_clauses : (n : Name) (l : Name → ℕ → Name) (origin : Name → ℕ → Origin) (f : ℕ → Option ClosedSymbols) (k left : ℕ) (cs : List Clause) →
    length cs ≤ left → ((j : ℕ) → f (k + j) ≡ option_map (leveled_parts l) (slice_get cs j)) →
    ((j : ℕ) (c : Clause) → slice_get cs j ≡ Some c → origin n (k + j) ≡ c.origin) →
    map (composed_clause origin) (numbered n f k left) ≡ map (leveled_clause l) cs
numbered_clauses n l origin f k zero [] b h o = refl
numbered_clauses n l origin f k zero (c ∷ cs) b h o = absurd (omega arith)
numbered_clauses n l origin f k (suc left) [] b h o =
    let z : k + 0 ≡ k = omega arith in
    let here = rw z at (h 0) in
    rw here (numbered_clauses n l origin f (suc k) left [] (omega arith) (λ j. rw (← shifted k j) (h (suc j))) (λ j c e. absurd (grind arith)))
numbered_clauses n l origin f k (suc left) (c ∷ cs) b h o =
    let z : k + 0 ≡ k = omega arith in
    let here = rw z at (h 0) in
    let from = rw z at (o 0 c refl) in
    rw (here, from)
    (ap (λ r. leveled_clause l c ∷ r)
    (numbered_clauses n l origin f (suc k) left cs (omega arith) (λ j. rw (← shifted k j) (h (suc j))) (λ j d e. rw (← shifted k j) (o (suc j) d e))))

-- where the alternatives of a macro keep their numbers, a call has the same clauses
pub numbered_calls : (n : Name) (l : Name → ℕ → Name) (origin : Name → ℕ → Origin) (f h : ℕ → Option ClosedSymbols) (k left : ℕ) →
    ((j : ℕ) → f j ≡ option_map (leveled_symbols l) (h j)) → ((j : ℕ) (parts : ClosedSymbols) → h j ≡ Some parts → origin n j ≡ written n j) →
    map (composed_clause origin) (numbered n f k left) ≡ map (leveled_clause l) (numbered n h k left)
numbered_calls n l origin f h k zero e o = refl
numbered_calls n l origin f h k (suc left) e o = rw (e k) (at (h k) refl (numbered_calls n l origin f h (suc k) left e o))
  where
    at : (r : Option ClosedSymbols) → h k ≡ r →
        map (composed_clause origin) (numbered n f (suc k) left) ≡ map (leveled_clause l) (numbered n h (suc k) left) →
        map (composed_clause origin) (clause_and n k (option_map (leveled_symbols l) r) (numbered n f (suc k) left)) ≡
        map (leveled_clause l) (clause_and n k r (numbered n h (suc k) left))
    at None q ih = ih
    at (Some parts) q ih = ap₂ (λ a b. clause a (leveled_symbols l parts) ∷ b) (o k parts q) ih

module _ (M L : Meaning) (l : Name → ℕ → Name) (origin : Name → ℕ → Origin) (declared : List ClosedSymbol)
    (I : IsLeveled M L l origin declared) (C : HasCounts L) (V : HasLevels L) where
  -- a rule without levels has all its alternatives on its one level
  own_is_all : (n : Name) (k : ℕ) (o : Option ClosedSymbols) → L.reference_parts n None k ≡ o → L.own_parts n None k ≡ o
  own_is_all n k (Some parts) e = elim (V.split n None k parts e) [
    | inl own ↦ own
    | inr r ↦ let flat = I.flat n in absurd (let below = r.2 in none_some (sym flat ∙ below))
  ]
    where
      none_some : {A : Type 0} {x : A} → None ≡ Some x → ⊥
      none_some h = grind arith
  own_is_all n k None e = at (L.own_parts n None k) refl
    where
      at : (o : Option ClosedSymbols) → L.own_parts n None k ≡ o → L.own_parts n None k ≡ None
      at None q = q
      at (Some parts) q = let some = V.own n None k parts q in absurd (let both : None ≡ Some parts = sym e ∙ some in grind arith)

  enough_numbers : (n : Name) (cs : List Clause) → ((j : ℕ) → L.own_parts n None j ≡ option_map (leveled_parts l) (slice_get cs j)) →
      length cs ≤ L.reference_count n
  enough_numbers n cs h = elim (slice_get_cases cs (L.reference_count n)).1 [
    | inl r ↦
        let (c, within, is, same) = r in
        let parts = rw is at (h (L.reference_count n)) in
        absurd (let less : L.reference_count n < L.reference_count n = C.of_rules n None (L.reference_count n) (leveled_parts l c) parts in omega arith)
    | inr r ↦ r.0
  ]

  rule_clauses : (n : Name) (b : Option ℕ) → In (reference n b) declared →
      map (composed_clause origin) (clauses L (reference (level_reference l n b) None)) ≡ map (leveled_clause l) (clauses M (reference n b))
  rule_clauses n b r =
      let own = (λ (j : ℕ). own_is_all (level_reference l n b) j _ (I.rules n b j r)) in
      rw (I.flat (level_reference l n b), append-nil (own_clauses L (level_reference l n b) None))
      (numbered_clauses (level_reference l n b) l origin (L.own_parts (level_reference l n b) None) 0 (L.reference_count (level_reference l n b))
      (clauses M (reference n b)) (enough_numbers (level_reference l n b) (clauses M (reference n b)) own)
      (λ j. let z : 0 + j ≡ j = omega arith in rw z (own j))
      (λ j c e. let z : 0 + j ≡ j = omega arith in rw z (I.rule_origins n b j c r e)))

  -- the rule of a symbol in the grammar with levels is its rule in the written one
  pub leveled_clauses : (g : ClosedSymbol) → IsNonterminal g → IsResolvedIn declared g →
      map (composed_clause origin) (clauses L (leveled_symbol l g)) ≡ map (leveled_clause l) (clauses M g)
  leveled_clauses (terminal a) n r = absurd n
  leveled_clauses error n r = absurd n
  leveled_clauses (wrapped w g) n r = absurd n
  leveled_clauses (reference m b) n r = rule_clauses m b r
  leveled_clauses (call m args) n r = I.calls m args
  leveled_clauses (group gs) n r = refl
  leveled_clauses (star x) n r = refl
  leveled_clauses (plus x) n r = refl
  leveled_clauses (question x) n r = refl
  leveled_clauses (times m x) n r = ap (λ gs. clause from_times gs ∷ []) (sym (leveled_replicated l m x))
  leveled_clauses lookahead n r = refl
  leveled_clauses lookbehind n r = refl

leveled_nonterminal : (l : Name → ℕ → Name) (g : ClosedSymbol) → IsNonterminal g → IsNonterminal (leveled_symbol l g)
leveled_nonterminal l (terminal a) n = n
leveled_nonterminal l error n = n
leveled_nonterminal l (wrapped w g) n = n
leveled_nonterminal l (reference m b) n = n
leveled_nonterminal l (call m args) n = n
leveled_nonterminal l (group gs) n = n
leveled_nonterminal l (star x) n = n
leveled_nonterminal l (plus x) n = n
leveled_nonterminal l (question x) n = n
leveled_nonterminal l (times m x) n = n
leveled_nonterminal l lookahead n = n
leveled_nonterminal l lookbehind n = n

-- a symbol has one name in both grammars
pub symbol_named : (l : Name → ℕ → Name) (name : ClosedSymbol → Name) (g : ClosedSymbol) →
    symbol_of (level_named l name) g ≡ symbol_of name (leveled_symbol l g)
symbol_named l name (terminal a) = refl
symbol_named l name error = refl
symbol_named l name (wrapped w g) = symbol_named l name g
symbol_named l name (reference m b) = refl
symbol_named l name (call m args) = refl
symbol_named l name (group gs) = refl
symbol_named l name (star x) = refl
symbol_named l name (plus x) = refl
symbol_named l name (question x) = refl
symbol_named l name (times n x) = refl
symbol_named l name lookahead = refl
symbol_named l name lookbehind = refl

symbols_named : (l : Name → ℕ → Name) (name : ClosedSymbol → Name) (gs : ClosedSymbols) →
    symbols_of (level_named l name) gs ≡ symbols_of name (leveled_symbols l gs)
symbols_named l name no_symbols = refl
symbols_named l name (symbol_and g gs) = ap₂ ◌∷◌ (symbol_named l name g) (symbols_named l name gs)

recomposed_productions : (origin : Name → ℕ → Origin) (name : ClosedSymbol → Name) (cs : List Clause) →
    map (recomposed_production origin) (map (clause_production name) cs) ≡ map (clause_production name) (map (composed_clause origin) cs)
recomposed_productions origin name [] = refl
recomposed_productions origin name (c ∷ cs) = ap (λ r. clause_production name (composed_clause origin c) ∷ r) (recomposed_productions origin name cs)

leveled_productions : (l : Name → ℕ → Name) (name : ClosedSymbol → Name) (cs : List Clause) →
    map (clause_production name) (map (leveled_clause l) cs) ≡ map (clause_production (level_named l name)) cs
leveled_productions l name [] = refl
leveled_productions l name (c ∷ cs) =
    ap₂ (λ ss r. record { origin = c.origin; symbols = ss } ∷ r) (sym (symbols_named l name c.parts)) (leveled_productions l name cs)

module _ (M L : Meaning) (l : Name → ℕ → Name) (origin : Name → ℕ → Origin) (declared : List ClosedSymbol)
    (I : IsLeveled M L l origin declared) (D : IsResolved M declared) (W : HasLevels M) (C : HasCounts L) (V : HasLevels L)
    (name : ClosedSymbol → Name) (P : ProductionTable) (Known : ClosedSymbol → Type 0) (R : Realizes L name P Known) where
  -- the known symbols of the written grammar
  abbrev pub KnownLeveled : ClosedSymbol → Type 0
  KnownLeveled g = IsResolvedIn declared g × Known (leveled_symbol l g)

  all_leveled : (gs : ClosedSymbols) → AreResolvedIn declared gs → AllKnown Known (leveled_symbols l gs) → AllKnown KnownLeveled gs
  all_leveled no_symbols r k = tt
  all_leveled (symbol_and g gs) r k = ((r.0, k.0), all_leveled gs r.1 k.1)

  pub leveled_realizes : Realizes M (level_named l name) (recomposed origin P) KnownLeveled
  leveled_realizes = record {
    productions = λ g n k.
        ap (map (recomposed_production origin)) (R.productions (leveled_symbol l g) (leveled_nonterminal l g n) k.1)
        ∙ recomposed_productions origin name (clauses L (leveled_symbol l g))
        ∙ ap (map (clause_production name)) (leveled_clauses M L l origin declared I C V g n k.0)
        ∙ leveled_productions l name (clauses M g);
    inner = λ w g k. (k.0, R.inner w (leveled_symbol l g) k.1);
    parts_known = λ g p c k e.
        let n = nonterminal_of M g p c e in
        let there : option_map (composed_clause origin) (slice_get (clauses L (leveled_symbol l g)) p) ≡ Some (leveled_clause l c) =
        sym (slice_get-map (composed_clause origin) (clauses L (leveled_symbol l g)) p)
        ∙ ap (λ cs. slice_get cs p) (leveled_clauses M L l origin declared I C V g n k.0)
        ∙ slice_get-map (leveled_clause l) (clauses M g) p ∙ ap (option_map (leveled_clause l)) e in
        let (d, at, same) = mapped_at (composed_clause origin) _ _ there in
        all_leveled c.parts (clause_resolved M declared D W g p c k.0 e)
        (subst (AllKnown Known) (ap (λ x. x.parts) same) (R.parts_known (leveled_symbol l g) p d k.1 at));
  }

mutual
  -- origins are no matter for derivation trees
  pub derivation_recomposed : (origin : Name → ℕ → Origin) (P : ProductionTable) (u : LoweredTree) (s : LoweredSymbol) →
      IsDerivation P u s → IsDerivation (recomposed origin P) u s
  derivation_recomposed origin P (lowered_leaf a) s h = h
  derivation_recomposed origin P (lowered_node n p us) s (e, q, at, d) = (
    e,
    recomposed_production origin q,
    slice_get-map (recomposed_production origin) (P n) p ∙ ap (option_map (recomposed_production origin)) at,
    derivations_recomposed origin P us q.symbols d,
  )

  derivations_recomposed : (origin : Name → ℕ → Origin) (P : ProductionTable) (us : LoweredTrees) (ss : List LoweredSymbol) →
      AreDerivations P us ss → AreDerivations (recomposed origin P) us ss
  derivations_recomposed origin P no_lowered [] h = h
  derivations_recomposed origin P no_lowered (s ∷ ss) h = h
  derivations_recomposed origin P (lowered_and u us) [] h = h
  derivations_recomposed origin P (lowered_and u us) (s ∷ ss) h =
      (derivation_recomposed origin P u s h.0, derivations_recomposed origin P us ss h.1)
