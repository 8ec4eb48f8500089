-- What an expansion makes of a grammar, and of its grammar with levels: the same symbols in the same order, each bounded
-- reference as the name of its level.
use Rattle.std.proofs.Common.{◌≡◌, inl, inr, ℕ, List, [], ◌∷◌, ◌++◌, map, refl, sym, ap, ap₂, ◌∙◌, subst}
use Rattle.std.specs.Prelude.{flat_map}
use Rattle.std.proofs.lemmas.List.{map-append}
use Rattle.lalrpop_norm_theory.specs.Symbols.{Name, ClosedSymbol, ClosedSymbols, reference, call, group, star, plus, question, times, wrapped, no_symbols, symbol_and}
use Rattle.lalrpop_norm_theory.specs.Meaning.{Meaning, HasCounts, HasLevels}
use Rattle.lalrpop_norm_theory.specs.LoweredTrees.{Origin}
use Rattle.lalrpop_norm_theory.specs.Clauses.{Clause, IsNonterminal, clauses, symbols_of}
use Rattle.lalrpop_norm_theory.specs.Rounds.{In, rounds, all_rules_made}
use Rattle.lalrpop_norm_theory.specs.Same.{same_symbol}
use Rattle.lalrpop_norm_theory.specs.Met.{meets, meets_all, clauses_meet, rule_meets, expansion, expanded_symbols, IsResolvedIn, IsResolved}
use Rattle.lalrpop_norm_theory.specs.Leveled.{leveled_symbol, leveled_symbols, composed_clause, leveled_clause, IsLeveled}
use Rattle.lalrpop_norm_theory.specs.Laws.{level_named}
use Rattle.lalrpop_norm_theory.proofs.RoundsLemmas.{of_flat}
use Rattle.lalrpop_norm_theory.proofs.SameLemmas.{symbol_test}
use Rattle.lalrpop_norm_theory.proofs.ResolvedLemmas.{rule_met_resolved}
use Rattle.lalrpop_norm_theory.proofs.LeveledLemmas.{leveled_parts, leveled_clauses, symbol_named}
use Rattle.lalrpop_norm_theory.proofs.ViewedLemmas.{same_view}
use Rattle.lalrpop_norm_tree.specs.Items.{RuleData}
use Rattle.lalrpop_norm_model.proofs.RoundReadLemmas.{rounds_viewed, made_viewed, made_within}
use Rattle.lalrpop_norm_model.proofs.PlainReadLemmas.{AllFit}
use Rattle.lalrpop_norm.proofs.TreesRounds.{rounds_alike, made_alike, symbol_alike}

-- the parts of a clause as they are
abbrev pub parts_of : Clause → ClosedSymbols
parts_of c = c.parts

-- ---- clauses

-- origins are no matter for parts
parts_composed : (origin : Name → ℕ → Origin) (cs : List Clause) → map parts_of (map (composed_clause origin) cs) ≡ map parts_of cs
parts_composed origin [] = refl
parts_composed origin (c ∷ cs) = ap (λ gs. c.parts ∷ gs) (parts_composed origin cs)

parts_leveled : (l : Name → ℕ → Name) (cs : List Clause) → map parts_of (map (leveled_clause l) cs) ≡ map (leveled_parts l) cs
parts_leveled l [] = refl
parts_leveled l (c ∷ cs) = ap (λ gs. leveled_parts l c ∷ gs) (parts_leveled l cs)

module _ (M L : Meaning) (l : Name → ℕ → Name) (origin : Name → ℕ → Origin) (declared : List ClosedSymbol)
    (I : IsLeveled M L l origin declared) (C : HasCounts L) (V : HasLevels L) where
  read_at : (g : ClosedSymbol) → IsNonterminal g → IsResolvedIn declared g →
      map parts_of (clauses L (leveled_symbol l g)) ≡ map (leveled_parts l) (clauses M g)
  read_at g n r =
      sym (parts_composed origin (clauses L (leveled_symbol l g))) ∙ ap (map parts_of) (leveled_clauses M L l origin declared I C V g n r)
      ∙ parts_leveled l (clauses M g)

  -- the rule of a symbol in the grammar with levels is its rule in the written one
  pub leveled_read : (g : ClosedSymbol) → IsResolvedIn declared g → map parts_of (clauses L (leveled_symbol l g)) ≡ map (leveled_parts l) (clauses M g)
  leveled_read (reference m b) r = read_at (reference m b) tt r
  leveled_read (call m args) r = read_at (call m args) tt r
  leveled_read (times n x) r = read_at (times n x) tt r
  leveled_read _ r = refl

-- ---- what is reached

module _ (l : Name → ℕ → Name) where
  mutual
    meets_leveled : (g : ClosedSymbol) → map (leveled_symbol l) (meets g) ≡ meets (leveled_symbol l g)
    meets_leveled (call n args) =
        map-append (leveled_symbol l) (meets_all args) (call n args ∷ []) ∙ ap (λ gs. gs ++ call n (leveled_symbols l args) ∷ []) (all_leveled args)
    meets_leveled (group gs) =
        map-append (leveled_symbol l) (meets_all gs) (group gs ∷ []) ∙ ap (λ hs. hs ++ group (leveled_symbols l gs) ∷ []) (all_leveled gs)
    meets_leveled (star x) = map-append (leveled_symbol l) (meets x) (star x ∷ []) ∙ ap (λ hs. hs ++ star (leveled_symbol l x) ∷ []) (meets_leveled x)
    meets_leveled (plus x) = map-append (leveled_symbol l) (meets x) (plus x ∷ []) ∙ ap (λ hs. hs ++ plus (leveled_symbol l x) ∷ []) (meets_leveled x)
    meets_leveled (question x) =
        map-append (leveled_symbol l) (meets x) (question x ∷ []) ∙ ap (λ hs. hs ++ question (leveled_symbol l x) ∷ []) (meets_leveled x)
    meets_leveled (times n x) =
        map-append (leveled_symbol l) (meets x) (times n x ∷ []) ∙ ap (λ hs. hs ++ times n (leveled_symbol l x) ∷ []) (meets_leveled x)
    meets_leveled (wrapped w g) = meets_leveled g
    meets_leveled _ = refl

    all_leveled : (gs : ClosedSymbols) → map (leveled_symbol l) (meets_all gs) ≡ meets_all (leveled_symbols l gs)
    all_leveled no_symbols = refl
    all_leveled (symbol_and g gs) = map-append (leveled_symbol l) (meets g) (meets_all gs) ∙ ap₂ ◌++◌ (meets_leveled g) (all_leveled gs)

  clauses_leveled : (cs ds : List Clause) → map parts_of ds ≡ map (leveled_parts l) cs → map (leveled_symbol l) (clauses_meet cs) ≡ clauses_meet ds
  clauses_leveled [] [] e = refl
  clauses_leveled [] (d ∷ ds) e = absurd (cc e)
  clauses_leveled (c ∷ cs) [] e = absurd (cc e)
  clauses_leveled (c ∷ cs) (d ∷ ds) e =
      let here : d.parts ≡ leveled_symbols l c.parts = cc e in
      map-append (leveled_symbol l) (meets_all c.parts) (clauses_meet cs)
      ∙ ap₂ ◌++◌ (all_leveled c.parts ∙ ap meets_all (sym here)) (clauses_leveled cs ds (cc e))

-- ---- rounds

-- M is a grammar of which each resolved symbol has in L the same clauses by the names of levels, where distinct references have
-- distinct names
module _ (M L : Meaning) (l : Name → ℕ → Name) (declared low : List ClosedSymbol) (D : IsResolved M declared) (V : HasLevels M)
    (own : (g : ClosedSymbol) → In g declared → IsResolvedIn declared g)
    (once : (g h : ClosedSymbol) → In g declared → In h declared → leveled_symbol l g ≡ leveled_symbol l h → g ≡ h)
    (lower : map (leveled_symbol l) declared ≡ low)
    (read : (g : ClosedSymbol) → IsResolvedIn declared g → map parts_of (clauses L (leveled_symbol l g)) ≡ map (leveled_parts l) (clauses M g)) where
  agree : (g : ClosedSymbol) → IsResolvedIn declared g → map (leveled_symbol l) (rule_meets M g) ≡ rule_meets L (leveled_symbol l g)
  agree g r = clauses_leveled l (clauses M g) (clauses L (leveled_symbol l g)) (read g r)

  within : (g : ClosedSymbol) → IsResolvedIn declared g → (h : ClosedSymbol) → In h (rule_meets M g) → IsResolvedIn declared h
  within g r h i = rule_met_resolved M declared D V g h r i

  begins : (g : ClosedSymbol) → In g (flat_map (rule_meets M) declared) → IsResolvedIn declared g
  begins g i = let (h, there, j) = of_flat (rule_meets M) g declared i in within h (own h there) g j

  start_leveled : (gs : List ClosedSymbol) → ((g : ClosedSymbol) → In g gs → IsResolvedIn declared g) →
      map (leveled_symbol l) (flat_map (rule_meets M) gs) ≡ flat_map (rule_meets L) (map (leveled_symbol l) gs)
  start_leveled [] h = refl
  start_leveled (g ∷ gs) h =
      map-append (leveled_symbol l) (rule_meets M g) (flat_map (rule_meets M) gs)
      ∙ ap₂ ◌++◌ (agree g (h g (inl refl))) (start_leveled gs (λ x i. h x (inr i)))

  start_low : map (leveled_symbol l) (flat_map (rule_meets M) declared) ≡ flat_map (rule_meets L) low
  start_low = start_leveled declared own ∙ ap (flat_map (rule_meets L)) lower

  same : (g h : ClosedSymbol) → IsResolvedIn declared g → IsResolvedIn declared h → same_view (leveled_symbol l) same_symbol g h ≡ same_symbol g h
  same g h r s = symbol_alike l declared once g h r s

  -- what is new in each round is the same
  pub fresh_leveled : (n : ℕ) → map (leveled_symbol l) (expansion M declared n).fresh ≡ (expansion L low n).fresh
  fresh_leveled n =
      ap (λ r. map (leveled_symbol l) r.fresh)
      (sym (rounds_alike (same_view (leveled_symbol l) same_symbol) same_symbol symbol_test (IsResolvedIn declared) same (rule_meets M) within
      (flat_map (rule_meets M) declared) begins n))
      ∙ (rounds_viewed (leveled_symbol l) same_symbol (rule_meets M) (rule_meets L) (IsResolvedIn declared) agree within (flat_map (rule_meets M) declared) begins n).1
      ∙ ap (λ start. (rounds same_symbol (rule_meets L) start n).fresh) start_low

  -- the symbols of the rules that are made are the same
  pub made_leveled : (n : ℕ) → map (leveled_symbol l) (expanded_symbols M declared n) ≡ expanded_symbols L low n
  made_leveled n =
      ap (map (leveled_symbol l))
      (sym (made_alike (same_view (leveled_symbol l) same_symbol) same_symbol symbol_test (IsResolvedIn declared) same (rule_meets M) within
      (flat_map (rule_meets M) declared) begins n))
      ∙ made_viewed (leveled_symbol l) same_symbol (rule_meets M) (rule_meets L) (IsResolvedIn declared) agree within (flat_map (rule_meets M) declared) begins n
      ∙ ap (λ start. all_rules_made same_symbol (rule_meets L) start n) start_low

  pub made_resolved : (n : ℕ) (g : ClosedSymbol) → In g (expanded_symbols M declared n) → IsResolvedIn declared g
  made_resolved n g i =
      made_within (leveled_symbol l) same_symbol (rule_meets M) (rule_meets L) (IsResolvedIn declared) agree within (flat_map (rule_meets M) declared) begins n g
      (subst (λ (gs : List ClosedSymbol). In g gs)
      (sym (made_alike (same_view (leveled_symbol l) same_symbol) same_symbol symbol_test (IsResolvedIn declared) same (rule_meets M) within
      (flat_map (rule_meets M) declared) begins n)) i)

  -- ---- rules of the expanded grammar

  module _ (name : ClosedSymbol → Name) where
    symbols_named : (gs : ClosedSymbols) → symbols_of name (leveled_symbols l gs) ≡ symbols_of (level_named l name) gs
    symbols_named no_symbols = refl
    symbols_named (symbol_and g gs) = ap₂ ◌∷◌ (sym (symbol_named l name g)) (symbols_named gs)

    clauses_named : (cs ds : List Clause) → map parts_of ds ≡ map (leveled_parts l) cs →
        map (λ (c : Clause). symbols_of name c.parts) ds ≡ map (λ (c : Clause). symbols_of (level_named l name) c.parts) cs
    clauses_named [] [] e = refl
    clauses_named [] (d ∷ ds) e = absurd (cc e)
    clauses_named (c ∷ cs) [] e = absurd (cc e)
    clauses_named (c ∷ cs) (d ∷ ds) e =
        let here : d.parts ≡ leveled_symbols l c.parts = cc e in
        ap₂ ◌∷◌ (ap (symbols_of name) here ∙ symbols_named c.parts) (clauses_named cs ds (cc e))

    -- rules of the grammar with levels are those of the written symbols
    pub fits_leveled : (rs : List RuleData) (gs : List ClosedSymbol) → ((g : ClosedSymbol) → In g gs → IsResolvedIn declared g) →
        AllFit L name rs (map (leveled_symbol l) gs) → AllFit M (level_named l name) rs gs
    fits_leveled [] [] r f = tt
    fits_leveled [] (g ∷ gs) r f = absurd f
    fits_leveled (d ∷ rs) [] r f = absurd f
    fits_leveled (d ∷ rs) (g ∷ gs) r f = (
      record {
        named = f.0.named;
        lowered = f.0.lowered ∙ clauses_named (clauses M g) (clauses L (leveled_symbol l g)) (read g (r g (inl refl)));
      },
      fits_leveled rs gs (λ x i. r x (inr i)) f.1,
    )
