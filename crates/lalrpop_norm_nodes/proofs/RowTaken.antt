-- What is left of a row, once its last symbols were taken with their numbers.
use Rattle.std.proofs.Common.{◌≡◌, ℕ, ◌<◌, List, [], ◌∷◌, ◌++◌, length, map, Option, Some, None, slice_get, sym, ap, ◌∙◌, subst, append_assoc, append-nil, length-append, arith}
use Rattle.std.specs.Prelude.{reverse}
use Rattle.std.proofs.lemmas.List.{map-append, reverse-append}
use Rattle.lalrpop_norm_tree.specs.declared.symbol.Symbol.{Symbol}
use Rattle.lalrpop_norm_tree.specs.Symbols.{Part}
use Rattle.lalrpop_norm_model.specs.MadeRules.{kind_of}
use Rattle.lalrpop_norm_nodes.specs.declared.given.Given.{Given}
use Rattle.lalrpop_norm_nodes.specs.NodeParts.{EndsRow}
use Rattle.lalrpop_norm_nodes.specs.Wholes.{Whole, one_symbol, part_at, symbols_at, AreSymbols}

module _ (ws : List Whole) where
  abbrev whole_of : Part → Option Whole
  whole_of p = Some (one_symbol (kind_of p))

  abbrev numbered : Given → Option Whole
  numbered g = slice_get ws g.number

  abbrev pub RowLeft : ℕ → List Symbol → List Given → List Part → List Symbol → Type 0
  RowLeft r now gs all every = record {
    row : AreSymbols ws r;
    long : length (symbols_at ws r) ≡ length now;
    numbers : map (λ p. Some (one_symbol (kind_of p))) (symbols_at ws r) ++ map (λ g. slice_get ws g.number) (reverse gs) ≡ map (λ p. Some (one_symbol (kind_of p))) all;
    symbols : now ++ map (λ g. g.symbol) (reverse gs) ≡ every;
  }

  pub all_left : (row : ℕ) (now : List Symbol) (gs : List Given) → gs ≡ [] → AreSymbols ws row → length (symbols_at ws row) ≡ length now → RowLeft row now gs (symbols_at ws row) now
  all_left row now gs none are long = subst (λ (hs : List Given). RowLeft row now hs (symbols_at ws row) now) (sym none) (record {
    row = are;
    long = long;
    numbers = append-nil _;
    symbols = append-nil now;
  })

  pub one_taken : (row before number : ℕ) (old now : List Symbol) (s : Symbol) (gs more : List Given) (all : List Part) (every : List Symbol) →
      EndsRow ws (symbols_at ws row) (Some (before, number)) → old ≡ now ++ s ∷ [] → more ≡ gs ++ (let g : Given = record { number = number; symbol = s } in g) ∷ [] →
      RowLeft row old gs all every → RowLeft before now more all every
  one_taken row before number old now s gs more all every ends popped pushed v =
      let g : Given = record { number = number; symbol = s } in
      let q : Part = part_at ws number in
      let ps : List Part = symbols_at ws before in
      let turned : reverse more ≡ g ∷ reverse gs = ap reverse pushed ∙ reverse-append gs (g ∷ []) in
      record {
        row = ends.0;
        long = omega (arith, v.long, ap length ends.2, ap length popped, length-append ps (q ∷ []), length-append now (s ∷ []));
        numbers = ap (λ (hs : List Given). map whole_of ps ++ map numbered hs) turned
            ∙ ap (λ (o : Option Whole). map whole_of ps ++ o ∷ map numbered (reverse gs)) ends.1
            ∙ sym (append_assoc (map whole_of ps) (whole_of q ∷ []) (map numbered (reverse gs)))
            ∙ ap (λ (os : List (Option Whole)). os ++ map numbered (reverse gs)) (sym (map-append whole_of ps (q ∷ [])) ∙ ap (map whole_of) (sym ends.2))
            ∙ v.numbers;
        symbols = ap (λ (hs : List Given). now ++ map (λ (h : Given). h.symbol) hs) turned
            ∙ sym (append_assoc now (s ∷ []) (map (λ (h : Given). h.symbol) (reverse gs)))
            ∙ ap (λ (ss : List Symbol). ss ++ map (λ (h : Given). h.symbol) (reverse gs)) (sym popped)
            ∙ v.symbols;
      }

  pub none_taken : (row : ℕ) (o : Option (ℕ × ℕ)) (old now : List Symbol) (s : Symbol) → EndsRow ws (symbols_at ws row) o → o ≡ None → old ≡ now ++ s ∷ [] →
      length (symbols_at ws row) ≡ length old → ⊥
  none_taken row o old now s ends none popped long =
      let empty : symbols_at ws row ≡ [] = subst (λ (x : Option (ℕ × ℕ)). EndsRow ws (symbols_at ws row) x) none ends in
      absurd (omega (arith, long, ap length empty, ap length popped, length-append now (s ∷ [])))

pub fewer : (old now : List Symbol) (s : Symbol) → old ≡ now ++ s ∷ [] → length now < length old
fewer old now s popped = omega (arith, ap length popped, length-append now (s ∷ []))
