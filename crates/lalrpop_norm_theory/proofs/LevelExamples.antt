-- The premises of the laws on levels hold of the small grammar, and so do the laws.
use Rattle.std.proofs.Common.{◌≡◌, ◌<◌, inl, inr, ℕ, zero, suc, List, [], ◌∷◌, ◌++◌, map, refl, sym, ap, ap₂, subst, arith}
use Rattle.std.specs.Prelude.{Bool, true, false, bytes_eq, slice_get, option_map, Option, Some, None}
use Rattle.std.proofs.lemmas.Bool.{cases_Bool}
use Rattle.lalrpop_norm_theory.specs.Symbols.{Name, ClosedSymbol, ClosedSymbols, terminal, reference, no_symbols, symbol_and, only}
use Rattle.lalrpop_norm_theory.specs.Meaning.{Meaning, HasCounts, HasLevels}
use Rattle.lalrpop_norm_theory.specs.LoweredTrees.{Origin, written, level_step}
use Rattle.lalrpop_norm_theory.specs.Clauses.{Clause, clauses}
use Rattle.lalrpop_norm_theory.specs.Rounds.{In}
use Rattle.lalrpop_norm_theory.specs.Met.{AreResolvedIn, IsResolved, AreDeclaredIn, rule_meets}
use Rattle.lalrpop_norm_theory.specs.Tables.{table, rule_of_symbol, Stands}
use Rattle.lalrpop_norm_theory.specs.Leveled.{level_reference, leveled_symbols, IsLeveled}
use Rattle.lalrpop_norm_theory.specs.Laws.{PairsInTwoSteps}
use Rattle.lalrpop_norm_theory.proofs.SameLemmas.{text_sound}
use Rattle.lalrpop_norm_theory.proofs.TableLemmas.{rules_realize}
use Rattle.lalrpop_norm_theory.proofs.LeveledLemmas.{numbered_calls}
use Rattle.lalrpop_norm_theory.proofs.Composed.{levels_two_steps}
use Rattle.lalrpop_norm_theory.proofs.ExampleGrammar.{none_some, expression, pick, sign, within, number_parts, sum_parts, parts_within, level_below, bound, called_parts, called_counted, grammar, grammar_counts, grammar_levels}

-- the references to E: by itself, and within each level
abbrev references : List ClosedSymbol
references = reference expression None ∷ within 2 ∷ within 1 ∷ []

parts_resolved : (h k : ℕ) (parts : ClosedSymbols) → parts_within h k ≡ Some parts → AreResolvedIn references parts
parts_resolved zero k parts e = absurd (none_some e)
parts_resolved (suc h) zero parts e = let same : number_parts ≡ parts = cc e in subst (AreResolvedIn references) same (tt, tt)
parts_resolved (suc zero) (suc k) parts e = absurd (none_some e)
parts_resolved (suc (suc h)) (suc zero) parts e =
    let same : sum_parts ≡ parts = cc e in subst (AreResolvedIn references) same (inr (inl refl), (tt, (inr (inr (inl refl)), tt)))
parts_resolved (suc (suc h)) (suc (suc k)) parts e = absurd (none_some e)

level_declared : (n : Name) (b c : Option ℕ) → In (reference n b) references → level_below (bound b) ≡ Some c → In (reference n c) references
level_declared n b c (inl i) e =
    let none : b ≡ None = cc i in let e' = rw none at e in let one : c ≡ Some 1 = cc e' in
    let name : n ≡ expression = cc i in inr (inr (inl (ap₂ reference name one)))
level_declared n b c (inr (inl i)) e =
    let two : b ≡ Some 2 = cc i in let e' = rw two at e in let one : c ≡ Some 1 = cc e' in
    let name : n ≡ expression = cc i in inr (inr (inl (ap₂ reference name one)))
level_declared n b c (inr (inr (inl i))) e = let one : b ≡ Some 1 = cc i in let e' = rw one at e in absurd (none_some e')
level_declared n b c (inr (inr (inr i))) e = absurd i

called_resolved : (t : Bool) (args : ClosedSymbols) (k : ℕ) (parts : ClosedSymbols) → AreResolvedIn references args →
    called_parts t args k ≡ Some parts → AreResolvedIn references parts
called_resolved false args k parts r e = absurd (none_some e)
called_resolved true no_symbols k parts r e = absurd (none_some e)
called_resolved true (symbol_and x (symbol_and y gs)) k parts r e = absurd (none_some e)
called_resolved true (symbol_and x no_symbols) zero parts r e = absurd (none_some e)
called_resolved true (symbol_and x no_symbols) (suc zero) parts r e =
    let same : symbol_and x (only x) ≡ parts = cc e in subst (AreResolvedIn references) same (r.0, (r.0, tt))
called_resolved true (symbol_and x no_symbols) (suc (suc k)) parts r e = absurd (none_some e)

grammar_resolved : IsResolved grammar references
grammar_resolved = record {
  rules = λ n b k parts r e. parts_resolved (bound b) k parts e;
  levels = λ n b c r e. level_declared n b c r e;
  macros = λ n args k parts r e. called_resolved (bytes_eq n pick) args k parts r e;
}

-- The grammar with levels: E = { E "+" E1, E1 }; E1 = { "n" }.
abbrev lower_expression : Name
lower_expression = 69 ∷ 49 ∷ []

abbrev level_name : Name → ℕ → Name
level_name n (suc zero) = lower_expression
level_name n b = n

abbrev high_parts : ℕ → Option ClosedSymbols
high_parts zero = Some (symbol_and (reference expression None) (symbol_and (terminal sign) (only (reference lower_expression None))))
high_parts (suc zero) = Some (only (reference lower_expression None))
high_parts _ = None

abbrev low_parts : ℕ → Option ClosedSymbols
low_parts zero = Some number_parts
low_parts _ = None

abbrev level_parts : Bool → ℕ → Option ClosedSymbols
level_parts true k = high_parts k
level_parts false k = low_parts k

abbrev leveled : Meaning
leveled = record {
  reference_parts = λ m b k. level_parts (bytes_eq m expression) k;
  reference_count = λ m. 2;
  own_parts = λ m b k. level_parts (bytes_eq m expression) k;
  previous = λ m b. None;
  depth = λ m b. 0;
  call_parts = λ m args k. called_parts (bytes_eq m pick) args k;
  call_count = λ m. 2;
}

level_counted : (t : Bool) (k : ℕ) (parts : ClosedSymbols) → level_parts t k ≡ Some parts → k < 2
level_counted true zero parts e = omega arith
level_counted true (suc zero) parts e = omega arith
level_counted true (suc (suc k)) parts e = absurd (none_some e)
level_counted false zero parts e = omega arith
level_counted false (suc k) parts e = absurd (none_some e)

leveled_counts : HasCounts leveled
leveled_counts = record {
  of_rules = λ n b k parts e. level_counted (bytes_eq n expression) k parts e;
  of_calls = λ n args k parts e. called_counted (bytes_eq n pick) args k parts e;
}

leveled_levels : HasLevels leveled
leveled_levels = record {
  deeper = λ n b c e. absurd (none_some e);
  own = λ n b k parts e. e;
  chained = λ n b c k parts e i. absurd (none_some e);
  apart = λ n b c k parts e i. absurd (none_some e);
  split = λ n b k parts e. inl e;
}

-- the origins: E 1, the step, E 0, and those of the macro
abbrev high_origin : ℕ → Origin
high_origin zero = written expression 1
high_origin _ = level_step

abbrev origin_of : Name → Bool → Bool → ℕ → Origin
origin_of n true t p = high_origin p
origin_of n false true p = written n p
origin_of n false false p = written expression 0

abbrev origin : Name → ℕ → Origin
origin n p = origin_of n (bytes_eq n expression) (bytes_eq n pick) p

-- what holds of the three references holds of each
by_reference : (F : Name → Option ℕ → Type 0) → F expression None → F expression (Some 2) → F expression (Some 1) →
    (n : Name) (b : Option ℕ) → In (reference n b) references → F n b
by_reference F x y z n b (inl i) = let name : n ≡ expression = cc i in let at : b ≡ None = cc i in rw (name, at) x
by_reference F x y z n b (inr (inl i)) = let name : n ≡ expression = cc i in let at : b ≡ Some 2 = cc i in rw (name, at) y
by_reference F x y z n b (inr (inr (inl i))) = let name : n ≡ expression = cc i in let at : b ≡ Some 1 = cc i in rw (name, at) z
by_reference F x y z n b (inr (inr (inr i))) = absurd i

abbrev RulesAt : Name → Option ℕ → Type 0
RulesAt n b = (p : ℕ) → leveled.reference_parts (level_reference level_name n b) None p ≡
    option_map (λ c. leveled_symbols level_name c.parts) (slice_get (clauses grammar (reference n b)) p)

high_rules : (p : ℕ) → high_parts p ≡
    option_map (λ c. leveled_symbols level_name c.parts) (slice_get (clauses grammar (within 2)) p)
high_rules zero = refl
high_rules (suc zero) = refl
high_rules (suc (suc p)) = refl

low_rules : RulesAt expression (Some 1)
low_rules zero = refl
low_rules (suc p) = refl

abbrev OriginsAt : Name → Option ℕ → Type 0
OriginsAt n b = (p : ℕ) (c : Clause) → slice_get (clauses grammar (reference n b)) p ≡ Some c →
    origin (level_reference level_name n b) p ≡ c.origin

origin_same : (d c : Clause) → Some d ≡ Some c → d.origin ≡ c.origin
origin_same d c e = let same : d ≡ c = cc e in ap (λ x. x.origin) same

high_origins : (p : ℕ) (c : Clause) → slice_get (clauses grammar (within 2)) p ≡ Some c → high_origin p ≡ c.origin
high_origins zero c e = origin_same _ c e
high_origins (suc zero) c e = origin_same _ c e
high_origins (suc (suc p)) c e = absurd (none_some e)

low_origins : OriginsAt expression (Some 1)
low_origins zero c e = origin_same _ c e
low_origins (suc p) c e = absurd (none_some e)

called_leveled : (t : Bool) (args : ClosedSymbols) (k : ℕ) →
    called_parts t (leveled_symbols level_name args) k ≡ option_map (leveled_symbols level_name) (called_parts t args k)
called_leveled false args k = refl
called_leveled true no_symbols k = refl
called_leveled true (symbol_and x (symbol_and y gs)) k = refl
called_leveled true (symbol_and x no_symbols) zero = refl
called_leveled true (symbol_and x no_symbols) (suc zero) = refl
called_leveled true (symbol_and x no_symbols) (suc (suc k)) = refl

called_origin : (n : Name) (args : ClosedSymbols) (k : ℕ) (parts : ClosedSymbols) → called_parts (bytes_eq n pick) args k ≡ Some parts →
    origin n k ≡ written n k
called_origin n args k parts e = elim (cases_Bool (bytes_eq n pick)) [
  | inl is ↦ (let same : n ≡ pick = text_sound n pick is in rw same refl)
  | inr other ↦ (let e' = rw other at e in absurd (none_some e'))
]

grammar_leveled : IsLeveled grammar leveled level_name origin references
grammar_leveled = record {
  rules = λ n b p r. by_reference RulesAt high_rules high_rules low_rules n b r p;
  flat = λ n. refl;
  calls = λ n args. numbered_calls n level_name origin (λ k. called_parts (bytes_eq n pick) (leveled_symbols level_name args) k)
      (λ k. called_parts (bytes_eq n pick) args k) 0 2 (λ k. called_leveled (bytes_eq n pick) args k) (λ k parts e. called_origin n args k parts e);
  rule_origins = λ n b p c r e. by_reference OriginsAt high_origins high_origins low_origins n b r p c e;
}

-- the names of the grammar with levels are the names of its rules
abbrev name : ClosedSymbol → Name
name (reference n b) = n
name g = []

abbrev declared : List ClosedSymbol
declared = reference expression None ∷ reference lower_expression None ∷ []

of_clause : (d c : Clause) → AreDeclaredIn declared d.parts → Some d ≡ Some c → AreDeclaredIn declared c.parts
of_clause d c r e = let same : d ≡ c = cc e in subst (λ (x : Clause). AreDeclaredIn declared x.parts) same r

high_declared : (p : ℕ) (c : Clause) → slice_get (clauses leveled (reference expression None)) p ≡ Some c → AreDeclaredIn declared c.parts
high_declared zero c e = of_clause _ c (inl refl, (tt, (inr (inl refl), tt))) e
high_declared (suc zero) c e = of_clause _ c (inr (inl refl), tt) e
high_declared (suc (suc p)) c e = absurd (none_some e)

low_declared : (p : ℕ) (c : Clause) → slice_get (clauses leveled (reference lower_expression None)) p ≡ Some c → AreDeclaredIn declared c.parts
low_declared zero c e = of_clause _ c (tt, tt) e
low_declared (suc p) c e = absurd (none_some e)

-- what holds of the two rules holds of each
by_rule : (F : ClosedSymbol → Type 0) → F (reference expression None) → F (reference lower_expression None) →
    (g : ClosedSymbol) → In g (declared ++ []) → F g
by_rule F x y g (inl i) = subst F (sym i) x
by_rule F x y g (inr (inl i)) = subst F (sym i) y
by_rule F x y g (inr (inr i)) = absurd i

names_apart : expression ≡ lower_expression → ⊥
names_apart e = cc e

-- each of the two names means one rule
one_rule : (g : ClosedSymbol) → In g (declared ++ []) → (h : ClosedSymbol) → In h (declared ++ []) → name g ≡ name h →
    clauses leveled g ≡ clauses leveled h
one_rule = by_rule (λ g. (h : ClosedSymbol) → In h (declared ++ []) → name g ≡ name h → clauses leveled g ≡ clauses leveled h)
    (by_rule (λ h. name (reference expression None) ≡ name h → clauses leveled (reference expression None) ≡ clauses leveled h)
    (λ e. refl) (λ e. absurd (names_apart e)))
    (by_rule (λ h. name (reference lower_expression None) ≡ name h → clauses leveled (reference lower_expression None) ≡ clauses leveled h)
    (λ e. absurd (names_apart (sym e))) (λ e. refl))

leveled_stands : Stands leveled name [] declared []
leveled_stands = record {
  distinct = λ g h i j e. one_rule g i h j e;
  shared = λ g i. absurd i;
  resolved = by_rule (λ g. (p : ℕ) (c : Clause) → slice_get (clauses leveled g) p ≡ Some c → AreDeclaredIn declared c.parts)
      high_declared low_declared;
  done = λ g h i m. by_rule (λ x. In h (rule_meets leveled x) → In h []) (λ j. j) (λ j. j) g i m;
}

-- so E's trees pair in two steps with those of the lowered grammar
expression_in_two_steps : PairsInTwoSteps grammar leveled level_name origin name
    (table (map (rule_of_symbol leveled name) (declared ++ []))) (reference expression None)
expression_in_two_steps = levels_two_steps grammar leveled level_name origin references grammar_resolved grammar_leveled
    grammar_counts grammar_levels leveled_counts leveled_levels name _ declared [] (rules_realize leveled name [] declared [] leveled_stands)
    (reference expression None) (inl refl) (inl refl)
