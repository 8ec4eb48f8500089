-- A small grammar with levels, for examples, and the laws of its meaning.
use Rattle.std.proofs.Common.{◌≡◌, ◌⊎◌, ◌<◌, inl, inr, ℕ, zero, suc, [], ◌∷◌, refl, sym, subst, arith}
use Rattle.std.specs.Prelude.{Bool, true, false, bytes_eq, Option, Some, None}
use Rattle.lalrpop_norm_theory.specs.Symbols.{Name, Terminal, quoted, ClosedSymbol, ClosedSymbols, terminal, reference, no_symbols, symbol_and, only}
use Rattle.lalrpop_norm_theory.specs.Meaning.{Meaning, HasCounts, HasLevels}

pub none_some : {A : Type 0} {x : A} → None ≡ Some x → ⊥
none_some e = grind arith

-- Two names and two terminals: E and M, "n" and "+".
abbrev pub expression : Name
expression = 69 ∷ []

abbrev pub pick : Name
pick = 77 ∷ []

abbrev pub number : Terminal
number = quoted (110 ∷ [])

abbrev pub sign : Terminal
sign = quoted (43 ∷ [])

-- a reference to E within the bound b
abbrev pub within : ℕ → ClosedSymbol
within b = reference expression (Some b)

-- E = { #[precedence(level="1")] "n", #[precedence(level="2")] #[assoc(side="left")] E "+" E }
abbrev pub number_parts : ClosedSymbols
number_parts = only (terminal number)

abbrev pub sum_parts : ClosedSymbols
sum_parts = symbol_and (within 2) (symbol_and (terminal sign) (only (within 1)))

-- alternative k, if its level is at most h
abbrev pub parts_within : ℕ → ℕ → Option ClosedSymbols
parts_within (suc h) zero = Some number_parts
parts_within (suc (suc h)) (suc zero) = Some sum_parts
parts_within _ _ = None

-- alternative k, if its level is h
abbrev pub parts_at : ℕ → ℕ → Option ClosedSymbols
parts_at (suc zero) zero = Some number_parts
parts_at (suc (suc zero)) (suc zero) = Some sum_parts
parts_at _ _ = None

-- the greatest level below h
abbrev pub level_below : ℕ → Option (Option ℕ)
level_below zero = None
level_below (suc zero) = None
level_below (suc (suc zero)) = Some (Some 1)
level_below (suc (suc (suc h))) = Some (Some 2)

-- the highest level, where there is no bound
abbrev pub bound : Option ℕ → ℕ
bound None = 2
bound (Some b) = b

-- M<X> = { "n" if X == ".", X X }, called by other arguments: the first condition is false
abbrev pub pick_parts : ClosedSymbols → ℕ → Option ClosedSymbols
pick_parts (symbol_and x no_symbols) (suc zero) = Some (symbol_and x (only x))
pick_parts _ _ = None

-- the alternatives of a macro, if it is the one that is there
abbrev pub called_parts : Bool → ClosedSymbols → ℕ → Option ClosedSymbols
called_parts true args k = pick_parts args k
called_parts false args k = None

-- the one rule is E, so the name of a rule is not looked at
abbrev pub grammar : Meaning
grammar = record {
  reference_parts = λ m b k. parts_within (bound b) k;
  reference_count = λ m. 2;
  own_parts = λ m b k. parts_at (bound b) k;
  previous = λ m b. level_below (bound b);
  depth = λ m b. bound b;
  call_parts = λ m args k. called_parts (bytes_eq m pick) args k;
  call_count = λ m. 2;
}

at_counted : (h k : ℕ) (parts : ClosedSymbols) → parts_at h k ≡ Some parts → k < 2
at_counted zero k parts e = absurd (none_some e)
at_counted (suc zero) zero parts e = omega arith
at_counted (suc zero) (suc k) parts e = absurd (none_some e)
at_counted (suc (suc zero)) zero parts e = absurd (none_some e)
at_counted (suc (suc zero)) (suc zero) parts e = omega arith
at_counted (suc (suc zero)) (suc (suc k)) parts e = absurd (none_some e)
at_counted (suc (suc (suc h))) k parts e = absurd (none_some e)

pick_counted : (args : ClosedSymbols) (k : ℕ) (parts : ClosedSymbols) → pick_parts args k ≡ Some parts → k < 2
pick_counted no_symbols k parts e = absurd (none_some e)
pick_counted (symbol_and x (symbol_and y gs)) k parts e = absurd (none_some e)
pick_counted (symbol_and x no_symbols) zero parts e = absurd (none_some e)
pick_counted (symbol_and x no_symbols) (suc zero) parts e = omega arith
pick_counted (symbol_and x no_symbols) (suc (suc k)) parts e = absurd (none_some e)

pub called_counted : (t : Bool) (args : ClosedSymbols) (k : ℕ) (parts : ClosedSymbols) → called_parts t args k ≡ Some parts → k < 2
called_counted true args k parts e = pick_counted args k parts e
called_counted false args k parts e = absurd (none_some e)

pub grammar_counts : HasCounts grammar
grammar_counts = record {
  of_rules = λ n b k parts e. at_counted (bound b) k parts e;
  of_calls = λ n args k parts e. called_counted (bytes_eq n pick) args k parts e;
}

below_deeper : (h : ℕ) (c : Option ℕ) → level_below h ≡ Some c → bound c < h
below_deeper zero c e = absurd (none_some e)
below_deeper (suc zero) c e = absurd (none_some e)
below_deeper (suc (suc zero)) c e = let same : Some 1 ≡ c = cc e in subst (λ (o : Option ℕ). bound o < 2) same (omega arith)
below_deeper (suc (suc (suc h))) c e = let same : Some 2 ≡ c = cc e in subst (λ (o : Option ℕ). bound o < suc (suc (suc h))) same (omega arith)

at_within : (h k : ℕ) (parts : ClosedSymbols) → parts_at h k ≡ Some parts → parts_within h k ≡ Some parts
at_within zero k parts e = absurd (none_some e)
at_within (suc zero) zero parts e = e
at_within (suc zero) (suc k) parts e = absurd (none_some e)
at_within (suc (suc zero)) zero parts e = absurd (none_some e)
at_within (suc (suc zero)) (suc zero) parts e = e
at_within (suc (suc zero)) (suc (suc k)) parts e = absurd (none_some e)
at_within (suc (suc (suc h))) k parts e = absurd (none_some e)

-- the level below, its alternatives, and those of the level itself
below_within : (h g k : ℕ) (parts : ClosedSymbols) → level_below h ≡ Some (Some g) → parts_within g k ≡ Some parts →
    (parts_within h k ≡ Some parts) × (parts_at h k ≡ None)
below_within zero g k parts e i = absurd (none_some e)
below_within (suc zero) g k parts e i = absurd (none_some e)
below_within (suc (suc zero)) g k parts e i =
    let same : 1 ≡ g = cc e in let i' : parts_within 1 k ≡ Some parts = rw same i in lower k i'
  where
    lower : (k : ℕ) → parts_within 1 k ≡ Some parts → (parts_within 2 k ≡ Some parts) × (parts_at 2 k ≡ None)
    lower zero j = (j, refl)
    lower (suc k) j = absurd (none_some j)
below_within (suc (suc (suc h))) g k parts e i =
    let same : 2 ≡ g = cc e in let i' : parts_within 2 k ≡ Some parts = rw same i in lower k i'
  where
    lower : (k : ℕ) → parts_within 2 k ≡ Some parts → (parts_within (suc (suc (suc h))) k ≡ Some parts) × (parts_at (suc (suc (suc h))) k ≡ None)
    lower zero j = (j, refl)
    lower (suc zero) j = (j, refl)
    lower (suc (suc k)) j = absurd (none_some j)

some_level : (h : ℕ) (c : Option ℕ) → level_below h ≡ Some c → (g : ℕ) × (c ≡ Some g)
some_level zero c e = absurd (none_some e)
some_level (suc zero) c e = absurd (none_some e)
some_level (suc (suc zero)) c e = (1, (let same : Some 1 ≡ c = cc e in sym same))
some_level (suc (suc (suc h))) c e = (2, (let same : Some 2 ≡ c = cc e in sym same))

within_split : (h k : ℕ) (parts : ClosedSymbols) → parts_within h k ≡ Some parts →
    (parts_at h k ≡ Some parts) ⊎ ((c : Option ℕ) × (parts_at h k ≡ None) × (level_below h ≡ Some c) × (parts_within (bound c) k ≡ Some parts))
within_split zero k parts e = absurd (none_some e)
within_split (suc zero) zero parts e = inl e
within_split (suc zero) (suc k) parts e = absurd (none_some e)
within_split (suc (suc zero)) zero parts e = inr (Some 1, refl, refl, e)
within_split (suc (suc zero)) (suc zero) parts e = inl e
within_split (suc (suc zero)) (suc (suc k)) parts e = absurd (none_some e)
within_split (suc (suc (suc h))) zero parts e = inr (Some 2, refl, refl, e)
within_split (suc (suc (suc h))) (suc zero) parts e = inr (Some 2, refl, refl, e)
within_split (suc (suc (suc h))) (suc (suc k)) parts e = absurd (none_some e)

pub grammar_levels : HasLevels grammar
grammar_levels = record {
  deeper = λ n b c e. below_deeper (bound b) c e;
  own = λ n b k parts e. at_within (bound b) k parts e;
  chained = λ n b c k parts e i.
      let (g, same) = some_level (bound b) c e in
      let e' = rw same at e in
      let i' = rw same at i in
      (below_within (bound b) g k parts e' i').0;
  apart = λ n b c k parts e i.
      let (g, same) = some_level (bound b) c e in
      let e' = rw same at e in
      let i' = rw same at i in
      (below_within (bound b) g k parts e' i').1;
  split = λ n b k parts e. within_split (bound b) k parts e;
}
