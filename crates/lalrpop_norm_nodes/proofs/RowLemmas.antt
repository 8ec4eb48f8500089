-- What ids stand for, once more are behind them.
use Rattle.std.proofs.Common.{◌≡◌, ℕ, ◌<◌, suc, zero, List, [], ◌∷◌, ◌++◌, length, Some, slice_get, refl, sym, ap, ap₂, ◌∙◌, subst, arith, if◌then◌else◌, true, false, get_or}
use Rattle.std.proofs.lemmas.Option.{slice_get_within, slice_get-get_or}
use Rattle.std.proofs.lemmas.List.{length-append}
use Rattle.lalrpop_norm_tree.specs.declared.symbol.RepeatOp.TheVariants.{Star, Plus, Question, Times}
use Rattle.lalrpop_norm_tree.specs.Symbols.{ArgumentPattern, ArgumentPatterns, one_name, several, argument_patterns_of, Kind, Part, Parts, parts_of, group, ambiguous_id, terminal, nonterminal, call, repeated, chosen, named, tupled, lookahead, lookbehind, error_terminal, at}
use Rattle.lalrpop_norm_nodes.specs.Apart.{nowhere}
use Rattle.lalrpop_norm_nodes.proofs.ListedLemmas.{parts_apart, patterns_apart}
use Rattle.lalrpop_norm_nodes.specs.declared.node.Node.{Node}
use Rattle.lalrpop_norm_nodes.specs.declared.node.Node.TheVariants as node
use Rattle.lalrpop_norm_nodes.specs.declared.node.Leaf.TheVariants as leaf
use Rattle.lalrpop_norm_nodes.specs.declared.node.NamedLeaf.TheVariants as named_leaf
use Rattle.lalrpop_norm_nodes.specs.declared.node.Unary.TheVariants as unary
use Rattle.lalrpop_norm_nodes.specs.declared.node.NamedUnary.TheVariants as named_unary
use Rattle.lalrpop_norm_nodes.specs.declared.node.Binary.TheVariants as binary
use Rattle.lalrpop_norm_nodes.specs.Wholes.{Whole, one_symbol, symbols, one_pattern, patterns, as_kind, as_symbols, as_pattern, as_patterns, kind_at, symbols_at, pattern_at, patterns_at, built, Fits, IsKind, AreSymbols, IsPattern, ArePatterns, StandsFor, IsNew, AreRows, wholes_on}

-- ---- items of a list that grows

pub slice_kept : {A : Type 0} (xs ys : List A) (i : ℕ) (x : A) → slice_get xs i ≡ Some x → slice_get (xs ++ ys) i ≡ Some x
slice_kept [] ys i x e = absurd (cc e)
slice_kept (z ∷ xs) ys zero x e = e
slice_kept (z ∷ xs) ys (suc i) x e = slice_kept xs ys i x e

pub slice_last : {A : Type 0} (xs : List A) (x : A) → slice_get (xs ++ x ∷ []) (length xs) ≡ Some x
slice_last [] x = refl
slice_last (z ∷ xs) x = slice_last xs x

-- an item of the longer list is one of the shorter, or the last
pub data Behind {A : Type 0} (xs : List A) (y : A) (i : ℕ) (x : A) : Type 0 where
  before : slice_get xs i ≡ Some x → Behind xs y i x
  last : i ≡ length xs → x ≡ y → Behind xs y i x

pub slice_behind : {A : Type 0} (xs : List A) (y : A) (i : ℕ) (x : A) → slice_get (xs ++ y ∷ []) i ≡ Some x → Behind xs y i x
slice_behind [] y zero x e = last refl (cc e)
slice_behind [] y (suc i) x e = absurd (cc e)
slice_behind (z ∷ xs) y zero x e = before e
slice_behind (z ∷ xs) y (suc i) x e = further (slice_behind xs y i x e)
  where
    further : Behind xs y i x → Behind (z ∷ xs) y (suc i) x
    further (before h) = before h
    further (last h k) = last (ap suc h) k

-- ---- what an id stands for stays

module _ (ws more : List Whole) where
  pub symbol_stays : (n : ℕ) → IsKind ws n → kind_at (ws ++ more) n ≡ kind_at ws n
  symbol_stays n h = ap as_kind (slice_kept ws more n _ h)

  pub is_kind_stays : (n : ℕ) → IsKind ws n → IsKind (ws ++ more) n
  is_kind_stays n h = slice_kept ws more n _ h ∙ ap (λ k. Some (one_symbol k)) (sym (symbol_stays n h))

  symbols_stay : (n : ℕ) → AreSymbols ws n → symbols_at (ws ++ more) n ≡ symbols_at ws n
  symbols_stay n h = ap as_symbols (slice_kept ws more n _ h)

  pub are_symbols_stay : (n : ℕ) → AreSymbols ws n → AreSymbols (ws ++ more) n
  are_symbols_stay n h = slice_kept ws more n _ h ∙ ap (λ ps. Some (symbols ps)) (sym (symbols_stay n h))

  pattern_stays : (n : ℕ) → IsPattern ws n → pattern_at (ws ++ more) n ≡ pattern_at ws n
  pattern_stays n h = ap as_pattern (slice_kept ws more n _ h)

  pub is_pattern_stays : (n : ℕ) → IsPattern ws n → IsPattern (ws ++ more) n
  is_pattern_stays n h = slice_kept ws more n _ h ∙ ap (λ p. Some (one_pattern p)) (sym (pattern_stays n h))

  patterns_stay : (n : ℕ) → ArePatterns ws n → patterns_at (ws ++ more) n ≡ patterns_at ws n
  patterns_stay n h = ap as_patterns (slice_kept ws more n _ h)

  pub are_patterns_stay : (n : ℕ) → ArePatterns ws n → ArePatterns (ws ++ more) n
  are_patterns_stay n h = slice_kept ws more n _ h ∙ ap (λ ps. Some (patterns ps)) (sym (patterns_stay n h))

  pub built_stays : (n : Node) → Fits ws n → built (ws ++ more) n ≡ built ws n
  built_stays (node.Leaf leaf.NoSymbols) h = refl
  built_stays (node.Binary binary.Symbols l n) h = ap₂ (λ (ps : List Part) (k : Kind). symbols (ps ++ at nowhere k ∷ [])) (symbols_stay l h.0) (symbol_stays n h.1)
  built_stays (node.Binary binary.Patterns l n) h = ap₂ (λ (ps : List ArgumentPattern) (p : ArgumentPattern). patterns (ps ++ p ∷ [])) (patterns_stay l h.0) (pattern_stays n h.1)
  built_stays (node.Unary unary.Several l) h = ap (λ (ps : List ArgumentPattern). one_pattern (several (argument_patterns_of ps))) (patterns_stay l h)
  built_stays (node.NamedLeaf named_leaf.Rule a) h = refl
  built_stays (node.Unary unary.Group l) h = ap (λ (ps : List Part). one_symbol (group (parts_of ps))) (symbols_stay l h)
  built_stays (node.NamedUnary named_unary.Call a l) h = ap (λ (ps : List Part). one_symbol (call a (parts_of ps))) (symbols_stay l h)
  built_stays (node.Unary unary.Star n) h = ap (λ (k : Kind). one_symbol (repeated Star (at nowhere k))) (symbol_stays n h)
  built_stays (node.Unary unary.Plus n) h = ap (λ (k : Kind). one_symbol (repeated Plus (at nowhere k))) (symbol_stays n h)
  built_stays (node.Unary unary.Question n) h = ap (λ (k : Kind). one_symbol (repeated Question (at nowhere k))) (symbol_stays n h)
  built_stays (node.Unary (unary.Times c) n) h = ap (λ (k : Kind). one_symbol (repeated (Times c) (at nowhere k))) (symbol_stays n h)
  built_stays (node.Unary unary.Chosen n) h = ap (λ (k : Kind). one_symbol (chosen (at nowhere k))) (symbol_stays n h)
  built_stays (node.NamedUnary named_unary.Named a n) h = ap (λ (k : Kind). one_symbol (named (record { mutable = false; name = a }) (at nowhere k))) (symbol_stays n h)
  built_stays (node.NamedUnary named_unary.NamedMut a n) h = ap (λ (k : Kind). one_symbol (named (record { mutable = true; name = a }) (at nowhere k))) (symbol_stays n h)
  built_stays (node.Binary binary.Tuple l n) h = ap₂ (λ (ps : List ArgumentPattern) (k : Kind). one_symbol (tupled (argument_patterns_of ps) (at nowhere k))) (patterns_stay l h.0) (symbol_stays n h.1)
  built_stays _ h = refl

  pub fits_stays : (n : Node) → Fits ws n → Fits (ws ++ more) n
  fits_stays (node.Leaf leaf.NoSymbols) h = tt
  fits_stays (node.Binary binary.Symbols l n) h = (are_symbols_stay l h.0, is_kind_stays n h.1)
  fits_stays (node.Binary binary.Patterns l n) h = (are_patterns_stay l h.0, is_pattern_stays n h.1)
  fits_stays (node.Unary unary.Several l) h = are_patterns_stay l h
  fits_stays (node.NamedLeaf named_leaf.Rule a) h = tt
  fits_stays (node.Unary unary.Group l) h = are_symbols_stay l h
  fits_stays (node.NamedUnary named_unary.Call a l) h = are_symbols_stay l h
  fits_stays (node.Unary unary.Star n) h = is_kind_stays n h
  fits_stays (node.Unary unary.Plus n) h = is_kind_stays n h
  fits_stays (node.Unary unary.Question n) h = is_kind_stays n h
  fits_stays (node.Unary (unary.Times c) n) h = is_kind_stays n h
  fits_stays (node.Unary unary.Chosen n) h = is_kind_stays n h
  fits_stays (node.NamedUnary named_unary.Named a n) h = is_kind_stays n h
  fits_stays (node.NamedUnary named_unary.NamedMut a n) h = is_kind_stays n h
  fits_stays (node.Binary binary.Tuple l n) h = (are_patterns_stay l h.0, is_kind_stays n h.1)
  fits_stays _ h = tt

-- ---- one more

pub wholes_more : (ws : List Whole) (ns : List Node) (n : Node) → wholes_on ws (ns ++ n ∷ []) ≡ wholes_on ws ns ++ built (wholes_on ws ns) n ∷ []
wholes_more ws [] n = refl
wholes_more ws (m ∷ ns) n = wholes_more (ws ++ built ws m ∷ []) ns n

pub rows_more : (ns : List Node) (ws : List Whole) (n : Node) → AreRows ns ws → Fits ws n → IsNew ws (built ws n) →
    AreRows (ns ++ n ∷ []) (ws ++ built ws n ∷ [])
rows_more ns ws n rows fit new = record {
  long = omega (arith, length-append ws (w ∷ []), length-append ns (n ∷ []), rows.long);
  fit = λ i m e. fit_of i m (slice_behind ns n i m e);
  stand = λ i m e. stand_of i m (slice_behind ns n i m e);
  apart = λ i j v e f. apart_of i j v (slice_behind ws w i v e) (slice_behind ws w j v f);
}
  where
    w : Whole
    w = built ws n

    fit_of : (i : ℕ) (m : Node) → Behind ns n i m → Fits (ws ++ w ∷ []) m
    fit_of i m (before h) = fits_stays ws (w ∷ []) m (rows.fit i m h)
    fit_of i m (last h k) = fits_stays ws (w ∷ []) m (subst (λ (v : Node). Fits ws v) (sym k) fit)

    stand_of : (i : ℕ) (m : Node) → Behind ns n i m → slice_get (ws ++ w ∷ []) i ≡ Some (built (ws ++ w ∷ []) m)
    stand_of i m (before h) = slice_kept ws (w ∷ []) i _ (rows.stand i m h) ∙ ap Some (sym (built_stays ws (w ∷ []) m (rows.fit i m h)))
    stand_of i m (last h k) =
        ap (slice_get (ws ++ w ∷ [])) (h ∙ sym rows.long) ∙ slice_last ws w
        ∙ ap Some (sym (ap (built (ws ++ w ∷ [])) k ∙ built_stays ws (w ∷ []) n fit))

    apart_of : (i j : ℕ) (v : Whole) → Behind ws w i v → Behind ws w j v → i ≡ j
    apart_of i j v (before h) (before k) = rows.apart i j v h k
    apart_of i j v (before h) (last k l) = absurd (new i (h ∙ ap Some l))
    apart_of i j v (last h l) (before k) = absurd (new j (k ∙ ap Some l))
    apart_of i j v (last h l) (last k m) = h ∙ sym k

-- ---- a node is determined by what it stands for

last_apart : {A : Type 0} (xs ys : List A) (x y : A) → xs ++ x ∷ [] ≡ ys ++ y ∷ [] → (xs ≡ ys) × (x ≡ y)
last_apart [] [] x y e = (refl, cc e)
last_apart [] (z ∷ []) x y e = absurd (cc e)
last_apart [] (z ∷ v ∷ ys) x y e = absurd (cc e)
last_apart (z ∷ []) [] x y e = absurd (cc e)
last_apart (z ∷ v ∷ xs) [] x y e = absurd (cc e)
last_apart {A} (z ∷ xs) (v ∷ ys) x y e =
    let head : z ≡ v = cc in
    let tail : xs ++ x ∷ [] ≡ ys ++ y ∷ [] = cc in
    let rest = last_apart xs ys x y tail in
    (ap₂ (λ (a : A) (bs : List A). a ∷ bs) head rest.0, rest.1)

-- the node of what is there, as far as ids determine it
abbrev OfRow : List Whole → List Part → Node → Type 0
OfRow ws ps n = (l : ℕ) × (k : ℕ) × (qs : List Part) × (x : Kind) × (n ≡ node.Binary binary.Symbols l k) × StandsFor ws l (symbols qs) × StandsFor ws k (one_symbol x) × (qs ++ at nowhere x ∷ [] ≡ ps)

abbrev OfPatterns : List Whole → List ArgumentPattern → Node → Type 0
OfPatterns ws ps n = (l : ℕ) × (k : ℕ) × (qs : List ArgumentPattern) × (x : ArgumentPattern) × (n ≡ node.Binary binary.Patterns l k) × StandsFor ws l (patterns qs) × StandsFor ws k (one_pattern x) × (qs ++ x ∷ [] ≡ ps)

abbrev OfSymbols : List Whole → (ℕ → Node) → Parts → Node → Type 0
OfSymbols ws f ps n = (l : ℕ) × (qs : List Part) × (n ≡ f l) × StandsFor ws l (symbols qs) × (parts_of qs ≡ ps)

abbrev OfPart : List Whole → (ℕ → Node) → Part → Node → Type 0
OfPart ws f p n = (k : ℕ) × (x : Kind) × (n ≡ f k) × StandsFor ws k (one_symbol x) × (at nowhere x ≡ p)

abbrev OfSeveral : List Whole → ArgumentPatterns → Node → Type 0
OfSeveral ws ps n = (l : ℕ) × (qs : List ArgumentPattern) × (n ≡ node.Unary unary.Several l) × StandsFor ws l (patterns qs) × (argument_patterns_of qs ≡ ps)

abbrev OfTuple : List Whole → ArgumentPatterns → Part → Node → Type 0
OfTuple ws ps p n = (l : ℕ) × (k : ℕ) × (qs : List ArgumentPattern) × (x : Kind) × (n ≡ node.Binary binary.Tuple l k) × StandsFor ws l (patterns qs) × StandsFor ws k (one_symbol x) × (argument_patterns_of qs ≡ ps) × (at nowhere x ≡ p)

abbrev IsNodeOf : List Whole → Whole → Node → Type 0
IsNodeOf ws (symbols []) n = n ≡ (node.Leaf leaf.NoSymbols)
IsNodeOf ws (symbols (p ∷ ps)) n = OfRow ws (p ∷ ps) n
IsNodeOf ws (patterns []) n = n ≡ (node.Leaf leaf.NoPatterns)
IsNodeOf ws (patterns (p ∷ ps)) n = OfPatterns ws (p ∷ ps) n
IsNodeOf ws (one_pattern (one_name a)) n = n ≡ node.NamedLeaf (if a.mutable then named_leaf.MutPattern else named_leaf.Pattern) a.name
IsNodeOf ws (one_pattern (several ps)) n = OfSeveral ws ps n
IsNodeOf ws (one_symbol (group ps)) n = OfSymbols ws (node.Unary unary.Group) ps n
IsNodeOf ws (one_symbol (ambiguous_id a)) n = ⊥
IsNodeOf ws (one_symbol (terminal t)) n = n ≡ node.Terminal t
IsNodeOf ws (one_symbol (nonterminal a)) n = n ≡ node.NamedLeaf named_leaf.Rule a
IsNodeOf ws (one_symbol (call a ps)) n = OfSymbols ws (node.NamedUnary named_unary.Call a) ps n
IsNodeOf ws (one_symbol (repeated Star p)) n = OfPart ws (node.Unary unary.Star) p n
IsNodeOf ws (one_symbol (repeated Plus p)) n = OfPart ws (node.Unary unary.Plus) p n
IsNodeOf ws (one_symbol (repeated Question p)) n = OfPart ws (node.Unary unary.Question) p n
IsNodeOf ws (one_symbol (repeated (Times c) p)) n = OfPart ws (node.Unary (unary.Times c)) p n
IsNodeOf ws (one_symbol (chosen p)) n = OfPart ws (node.Unary unary.Chosen) p n
IsNodeOf ws (one_symbol (named a p)) n = OfPart ws (node.NamedUnary (if a.mutable then named_unary.NamedMut else named_unary.Named) a.name) p n
IsNodeOf ws (one_symbol (tupled ps p)) n = OfTuple ws ps p n
IsNodeOf ws (one_symbol lookahead) n = n ≡ (node.Leaf leaf.Lookahead)
IsNodeOf ws (one_symbol lookbehind) n = n ≡ (node.Leaf leaf.Lookbehind)
IsNodeOf ws (one_symbol error_terminal) n = n ≡ (node.Leaf leaf.Error)

row_is : (ws : List Whole) (l k : ℕ) (qs : List Part) (x : Kind) → StandsFor ws l (symbols qs) → StandsFor ws k (one_symbol x) →
    IsNodeOf ws (symbols (qs ++ at nowhere x ∷ [])) (node.Binary binary.Symbols l k)
row_is ws l k [] x h g = (l, k, [], x, refl, h, g, refl)
row_is ws l k (q ∷ qs) x h g = (l, k, (q ∷ qs), x, refl, h, g, refl)

patterns_are : (ws : List Whole) (l k : ℕ) (qs : List ArgumentPattern) (x : ArgumentPattern) → StandsFor ws l (patterns qs) → StandsFor ws k (one_pattern x) →
    IsNodeOf ws (patterns (qs ++ x ∷ [])) (node.Binary binary.Patterns l k)
patterns_are ws l k [] x h g = (l, k, [], x, refl, h, g, refl)
patterns_are ws l k (q ∷ qs) x h g = (l, k, (q ∷ qs), x, refl, h, g, refl)

is_node_of : (ws : List Whole) (n : Node) → Fits ws n → IsNodeOf ws (built ws n) n
is_node_of ws (node.Leaf leaf.NoSymbols) h = refl
is_node_of ws (node.Binary binary.Symbols l n) h = row_is ws l n (symbols_at ws l) (kind_at ws n) h.0 h.1
is_node_of ws (node.Binary binary.Patterns l n) h = patterns_are ws l n (patterns_at ws l) (pattern_at ws n) h.0 h.1
is_node_of ws (node.Unary unary.Several l) h = (l, patterns_at ws l, refl, h, refl)
is_node_of ws (node.NamedLeaf named_leaf.Rule a) h = refl
is_node_of ws (node.Unary unary.Group l) h = (l, symbols_at ws l, refl, h, refl)
is_node_of ws (node.NamedUnary named_unary.Call a l) h = (l, symbols_at ws l, refl, h, refl)
is_node_of ws (node.Unary unary.Star n) h = (n, kind_at ws n, refl, h, refl)
is_node_of ws (node.Unary unary.Plus n) h = (n, kind_at ws n, refl, h, refl)
is_node_of ws (node.Unary unary.Question n) h = (n, kind_at ws n, refl, h, refl)
is_node_of ws (node.Unary (unary.Times c) n) h = (n, kind_at ws n, refl, h, refl)
is_node_of ws (node.Unary unary.Chosen n) h = (n, kind_at ws n, refl, h, refl)
is_node_of ws (node.NamedUnary named_unary.Named a n) h = (n, kind_at ws n, refl, h, refl)
is_node_of ws (node.NamedUnary named_unary.NamedMut a n) h = (n, kind_at ws n, refl, h, refl)
is_node_of ws (node.Binary binary.Tuple l n) h = (l, n, patterns_at ws l, kind_at ws n, refl, h.0, h.1, refl, refl)
is_node_of ws _ h = refl

module _ (ns : List Node) (ws : List Whole) (rows : AreRows ns ws) where
  one_number : (i j : ℕ) (v w : Whole) → StandsFor ws i v → StandsFor ws j w → v ≡ w → i ≡ j
  one_number i j v w h k e = rows.apart i j v h (k ∙ ap Some (sym e))

  one_of_symbols : (f : ℕ → Node) (ps : Parts) (m n : Node) → OfSymbols ws f ps m → OfSymbols ws f ps n → m ≡ n
  one_of_symbols f ps m n (l, qs, e, h, k) (l', qs', e', h', k') =
      e ∙ ap f (one_number l l' _ _ h h' (ap symbols (parts_apart qs qs' (k ∙ sym k')))) ∙ sym e'

  one_of_part : (f : ℕ → Node) (p : Part) (m n : Node) → OfPart ws f p m → OfPart ws f p n → m ≡ n
  one_of_part f p m n (k, x, e, h, q) (k', x', e', h', q') =
      let same : x ≡ x' = cc (q, q') in
      e ∙ ap f (one_number k k' _ _ h h' (ap one_symbol same)) ∙ sym e'

  one_of_row : (ps : List Part) (m n : Node) → OfRow ws ps m → OfRow ws ps n → m ≡ n
  one_of_row ps m n (l, k, qs, x, e, h, g, q) (l', k', qs', x', e', h', g', q') =
      let both = last_apart qs qs' (at nowhere x) (at nowhere x') (q ∙ sym q') in
      let same : x ≡ x' = cc both.1 in
      e ∙ ap₂ (node.Binary binary.Symbols) (one_number l l' _ _ h h' (ap symbols both.0)) (one_number k k' _ _ g g' (ap one_symbol same)) ∙ sym e'

  one_of_patterns : (ps : List ArgumentPattern) (m n : Node) → OfPatterns ws ps m → OfPatterns ws ps n → m ≡ n
  one_of_patterns ps m n (l, k, qs, x, e, h, g, q) (l', k', qs', x', e', h', g', q') =
      let both = last_apart qs qs' x x' (q ∙ sym q') in
      e ∙ ap₂ (node.Binary binary.Patterns) (one_number l l' _ _ h h' (ap patterns both.0)) (one_number k k' _ _ g g' (ap one_pattern both.1)) ∙ sym e'

  one_of_several : (ps : ArgumentPatterns) (m n : Node) → OfSeveral ws ps m → OfSeveral ws ps n → m ≡ n
  one_of_several ps m n (l, qs, e, h, k) (l', qs', e', h', k') =
      e ∙ ap (node.Unary unary.Several) (one_number l l' _ _ h h' (ap patterns (patterns_apart qs qs' (k ∙ sym k')))) ∙ sym e'

  one_of_tuple : (ps : ArgumentPatterns) (p : Part) (m n : Node) → OfTuple ws ps p m → OfTuple ws ps p n → m ≡ n
  one_of_tuple ps p m n (l, k, qs, x, e, h, g, q, r) (l', k', qs', x', e', h', g', q', r') =
      let same : x ≡ x' = cc (r, r') in
      e ∙ ap₂ (node.Binary binary.Tuple) (one_number l l' _ _ h h' (ap patterns (patterns_apart qs qs' (q ∙ sym q')))) (one_number k k' _ _ g g' (ap one_symbol same)) ∙ sym e'

  one_node : (w : Whole) (m n : Node) → IsNodeOf ws w m → IsNodeOf ws w n → m ≡ n
  one_node (symbols []) m n h k = h ∙ sym k
  one_node (symbols (p ∷ ps)) m n h k = one_of_row (p ∷ ps) m n h k
  one_node (patterns []) m n h k = h ∙ sym k
  one_node (patterns (p ∷ ps)) m n h k = one_of_patterns (p ∷ ps) m n h k
  one_node (one_pattern (one_name a)) m n h k = h ∙ sym k
  one_node (one_pattern (several ps)) m n h k = one_of_several ps m n h k
  one_node (one_symbol (group ps)) m n h k = one_of_symbols (node.Unary unary.Group) ps m n h k
  one_node (one_symbol (ambiguous_id a)) m n h k = absurd h
  one_node (one_symbol (call a ps)) m n h k = one_of_symbols (node.NamedUnary named_unary.Call a) ps m n h k
  one_node (one_symbol (repeated Star p)) m n h k = one_of_part (node.Unary unary.Star) p m n h k
  one_node (one_symbol (repeated Plus p)) m n h k = one_of_part (node.Unary unary.Plus) p m n h k
  one_node (one_symbol (repeated Question p)) m n h k = one_of_part (node.Unary unary.Question) p m n h k
  one_node (one_symbol (repeated (Times c) p)) m n h k = one_of_part (node.Unary (unary.Times c)) p m n h k
  one_node (one_symbol (chosen p)) m n h k = one_of_part (node.Unary unary.Chosen) p m n h k
  one_node (one_symbol (named a p)) m n h k = one_of_part (node.NamedUnary (if a.mutable then named_unary.NamedMut else named_unary.Named) a.name) p m n h k
  one_node (one_symbol (tupled ps p)) m n h k = one_of_tuple ps p m n h k
  one_node (one_symbol _) m n h k = h ∙ sym k

  -- nodes that stand for the same are the same
  pub node_told : (m n : Node) → Fits ws m → Fits ws n → built ws m ≡ built ws n → m ≡ n
  node_told m n h k e =
      one_node (built ws n) m n (subst (λ (w : Whole). IsNodeOf ws w m) e (is_node_of ws m h)) (is_node_of ws n k)

-- what is there has a node
pub node_at : (ns : List Node) (ws : List Whole) → AreRows ns ws → (i : ℕ) (w : Whole) → slice_get ws i ≡ Some w → (m : Node) × (slice_get ns i ≡ Some m)
node_at ns ws rows i w h = by ns (subst (λ (k : ℕ). i < k) rows.long (slice_get_within ws i w h))
  where
    by : (ms : List Node) → i < length ms → (m : Node) × (slice_get ms i ≡ Some m)
    by [] k = absurd (omega arith)
    by (m ∷ ms) k = (get_or (m ∷ ms) i m, slice_get-get_or (m ∷ ms) i m k)
