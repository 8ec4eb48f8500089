-- The rounds of an expansion in a grammar with levels: those of the written grammar, each bounded reference as the name of its
-- level.
use Rattle.std.proofs.Common.{◌≡◌, inl, inr, ℕ, zero, suc, List, [], ◌∷◌, ◌++◌, Bool, true, false, reverse, refl, sym, ap, ap₂, ◌∙◌, subst}
use Rattle.std.specs.Prelude.{flat_map, ◌&&◌, ◌||◌, Option, None, bytes_eq, nat_eq, if◌then◌else◌}
use Rattle.lalrpop_norm_theory.specs.Symbols.{Name, ClosedSymbol, ClosedSymbols, terminal, error, reference, call, group, star, plus, question, times, wrapped, lookahead, lookbehind, no_symbols, symbol_and}
use Rattle.lalrpop_norm_theory.specs.Rounds.{In, is_in, fresh_of, Round, rounds, next_round, all_rules_made, IsTest}
use Rattle.lalrpop_norm_theory.specs.Same.{same_symbol, same_symbols, same_wrapper}
use Rattle.lalrpop_norm_theory.specs.Met.{IsResolvedIn, AreResolvedIn}
use Rattle.lalrpop_norm_theory.specs.Leveled.{level_reference, leveled_symbol, leveled_symbols}
use Rattle.lalrpop_norm_theory.proofs.RoundsLemmas.{in_cases, of_reverse, of_flat, fresh_met}
use Rattle.lalrpop_norm_theory.proofs.SameLemmas.{symbol_test}

-- ---- two tests

-- Rounds of things that stay within P are the same for two tests that agree on P, one of which is a test of equality.
module _ {A : Type 0} (same like : A → A → Bool) (T : IsTest like) (P : A → Type 0) (agree : (a b : A) → P a → P b → same a b ≡ like a b)
    (meets_of : A → List A) (within : (a : A) → P a → (b : A) → In b (meets_of a) → P b)
    (start : List A) (begins : (a : A) → In a start → P a) where
  abbrev Within : List A → Type 0
  Within xs = (x : A) → In x xs → P x

  in_alike : (x : A) → P x → (xs : List A) → Within xs → is_in same x xs ≡ is_in like x xs
  in_alike x p [] h = refl
  in_alike x p (y ∷ ys) h = ap₂ ◌||◌ (agree x y p (h y (inl refl))) (in_alike x p ys (λ z i. h z (inr i)))

  fresh_alike : (seen xs : List A) → Within seen → Within xs → fresh_of same seen xs ≡ fresh_of like seen xs
  fresh_alike seen [] s h = refl
  fresh_alike seen (x ∷ xs) s h =
      ap (λ b. if b then fresh_of same seen xs else x ∷ fresh_of same (x ∷ seen) xs) (in_alike x (h x (inl refl)) seen s)
      ∙ ap₂ (λ (ys zs : List A). if is_in like x seen then ys else x ∷ zs)
      (fresh_alike seen xs s (λ y i. h y (inr i)))
      (fresh_alike (x ∷ seen) xs more (λ y i. h y (inr i)))
    where
      more : Within (x ∷ seen)
      more y (inl e) = subst P (sym e) (h x (inl refl))
      more y (inr i) = s y i

  round_alike : (k : ℕ) →
      (rounds same meets_of start k ≡ rounds like meets_of start k)
      × Within (rounds like meets_of start k).seen × Within (rounds like meets_of start k).fresh
  round_alike zero = (
    ap (λ (f : List A). let r : Round A = record { seen = []; fresh = f } in r) (fresh_alike [] start (λ x i. absurd i) begins),
    (λ x i. absurd i),
    (λ x i. begins x (fresh_met like T x [] start i).0),
  )
  round_alike (suc k) =
      let (e, s, f) = round_alike k in
      let r : Round A = rounds like meets_of start k in
      let seen : Within (r.seen ++ r.fresh) = (λ x i. elim (in_cases x r.seen r.fresh i) [ inl j ↦ s x j | inr j ↦ f x j ]) in
      let met : Within (flat_map meets_of (reverse r.fresh)) =
      (λ x i. let (y, there, j) = of_flat meets_of x (reverse r.fresh) i in within y (f y (of_reverse y r.fresh there)) x j) in (
        ap (next_round same meets_of) e
            ∙ ap (λ (f : List A). let q : Round A = record { seen = r.seen ++ r.fresh; fresh = f } in q) (fresh_alike (r.seen ++ r.fresh) (flat_map meets_of (reverse r.fresh)) seen met),
        seen,
        (λ x i. met x (fresh_met like T x (r.seen ++ r.fresh) (flat_map meets_of (reverse r.fresh)) i).0),
      )

  pub rounds_alike : (k : ℕ) → rounds same meets_of start k ≡ rounds like meets_of start k
  rounds_alike k = (round_alike k).0

  pub made_alike : (n : ℕ) → all_rules_made same meets_of start n ≡ all_rules_made like meets_of start n
  made_alike zero = refl
  made_alike (suc n) = ap₂ ◌++◌ (made_alike n) (ap (λ (r : Round A). reverse r.fresh) (rounds_alike n))

-- ---- symbols by the names of levels

module _ (l : Name → ℕ → Name) (declared : List ClosedSymbol)
    (once : (g h : ClosedSymbol) → In g declared → In h declared → leveled_symbol l g ≡ leveled_symbol l h → g ≡ h) where
  same_reference : (n m : Name) (b c : Option ℕ) → In (reference n b) declared → In (reference m c) declared →
      same_symbol (reference (level_reference l n b) None) (reference (level_reference l m c) None) ≡ same_symbol (reference n b) (reference m c)
  same_reference n m b c i j = by (same_symbol (leveled_symbol l (reference n b)) (leveled_symbol l (reference m c))) refl (same_symbol (reference n b) (reference m c)) refl
    where
      by : (x : Bool) → same_symbol (leveled_symbol l (reference n b)) (leveled_symbol l (reference m c)) ≡ x →
          (y : Bool) → same_symbol (reference n b) (reference m c) ≡ y → x ≡ y
      by true e true f = refl
      by false e false f = refl
      by true e false f =
          let one : reference n b ≡ reference m c = once (reference n b) (reference m c) i j (symbol_test.sound _ _ e) in
          sym (sym f ∙ ap (same_symbol (reference n b)) (sym one) ∙ symbol_test.complete (reference n b))
      by false e true f =
          let one : reference n b ≡ reference m c = symbol_test.sound (reference n b) (reference m c) f in
          sym e ∙ ap (λ x. same_symbol (leveled_symbol l (reference n b)) (leveled_symbol l x)) (sym one) ∙ symbol_test.complete (leveled_symbol l (reference n b))

  mutual
    pub symbol_alike : (g h : ClosedSymbol) → IsResolvedIn declared g → IsResolvedIn declared h →
        same_symbol (leveled_symbol l g) (leveled_symbol l h) ≡ same_symbol g h
    symbol_alike (reference n b) (reference m c) i j = same_reference n m b c i j
    symbol_alike (call n gs) (call m hs) i j = ap (λ x. bytes_eq n m && x) (symbols_alike gs hs i j)
    symbol_alike (group gs) (group hs) i j = symbols_alike gs hs i j
    symbol_alike (star g) (star h) i j = symbol_alike g h i j
    symbol_alike (plus g) (plus h) i j = symbol_alike g h i j
    symbol_alike (question g) (question h) i j = symbol_alike g h i j
    symbol_alike (times n g) (times m h) i j = ap (λ x. nat_eq n m && x) (symbol_alike g h i j)
    symbol_alike (wrapped v g) (wrapped w h) i j = ap (λ x. same_wrapper v w && x) (symbol_alike g h i j)
    symbol_alike (terminal a) (terminal b) i j = refl
    symbol_alike error error i j = refl
    symbol_alike lookahead lookahead i j = refl
    symbol_alike lookbehind lookbehind i j = refl
    symbol_alike _ _ i j = refl

    symbols_alike : (gs hs : ClosedSymbols) → AreResolvedIn declared gs → AreResolvedIn declared hs →
        same_symbols (leveled_symbols l gs) (leveled_symbols l hs) ≡ same_symbols gs hs
    symbols_alike no_symbols no_symbols i j = refl
    symbols_alike (symbol_and g gs) (symbol_and h hs) i j = ap₂ ◌&&◌ (symbol_alike g h i.0 j.0) (symbols_alike gs hs i.1 j.1)
    symbols_alike no_symbols (symbol_and h hs) i j = refl
    symbols_alike (symbol_and g gs) no_symbols i j = refl
