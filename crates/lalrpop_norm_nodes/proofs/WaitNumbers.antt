-- What the ids of symbols on the worklist stand for.
use Rattle.std.proofs.Common.{◌≡◌, ℕ, zero, suc, Bool, true, false, cond, List, [], ◌∷◌, ◌++◌, map, Option, Some, None, option_and_then, slice_get, refl, ap, ap₂, ◌∙◌}
use Rattle.std.specs.List.{flat_map}
use Rattle.std.proofs.lemmas.List.{map-append}
use Rattle.lalrpop_norm_tree.specs.Symbols.{Kind, Part, at, symbol_view}
use Rattle.lalrpop_norm_tree.specs.SymbolTexts.{part_text}
use Rattle.lalrpop_norm_model.specs.Replaced.{is_desugared}
use Rattle.lalrpop_norm_nodes.specs.Apart.{nowhere, unplaced, unplaced_kind}
use Rattle.lalrpop_norm_nodes.specs.declared.table.Table.{Table}
use Rattle.lalrpop_norm_nodes.specs.declared.table.Waiting.{Waiting}
use Rattle.lalrpop_norm_nodes.specs.Wholes.{Whole, one_symbol, symbols, one_pattern, patterns, part_at, IsKind, StandsFor, Grows}
use Rattle.lalrpop_norm_nodes.specs.Tables.{wholes_in, own_in, own_text_in, seen_in, IsBare, IsNumbered, AreNumbered, IsNodeTable}
use Rattle.lalrpop_norm_nodes.proofs.RowItems.{is_kind}
use Rattle.lalrpop_norm_nodes.proofs.RowLemmas.{symbol_stays}
use Rattle.lalrpop_norm_nodes.proofs.WholeLemmas.{one_made}

-- ---- what was seen has no spans

own_bare : (w : Whole) → IsBare w → map unplaced (own_in w) ≡ own_in w
own_bare (symbols ps) h = refl
own_bare (one_pattern p) h = refl
own_bare (patterns ps) h = refl
own_bare (one_symbol k) h = by (is_desugared k)
  where
    by : (b : Bool) → map unplaced (cond b (at nowhere k ∷ []) []) ≡ cond b (at nowhere k ∷ []) []
    by true = ap (λ (l : Kind). at nowhere l ∷ []) h
    by false = refl

all_bare : (ws : List Whole) → ((i : ℕ) (w : Whole) → StandsFor ws i w → IsBare w) → map unplaced (flat_map own_in ws) ≡ flat_map own_in ws
all_bare [] h = refl
all_bare (w ∷ ws) h =
    map-append unplaced (own_in w) (flat_map own_in ws)
    ∙ ap₂ (λ (ps qs : List Part). ps ++ qs) (own_bare w (h zero w refl)) (all_bare ws (λ i v e. h (suc i) v e))

pub seen_bare : (t : Table) → IsNodeTable t → map unplaced (seen_in t) ≡ seen_in t
seen_bare t h = all_bare (wholes_in t) h.bare

-- ---- numbers

pub numbered_kind : (ws : List Whole) (w : Waiting) → IsNumbered ws w → IsKind ws w.number
numbered_kind ws w h = by (slice_get ws w.number) refl h
  where
    by : (o : Option Whole) → slice_get ws w.number ≡ o → option_and_then own_text_in o ≡ Some (part_text (symbol_view w.symbol)) → IsKind ws w.number
    by None e f = absurd (cc f)
    by (Some v) e f = let m = one_made v (part_text (symbol_view w.symbol)) f in is_kind ws w.number m.kind (e ∙ ap Some m.is)

numbers_grow : (ws more : List Whole) (xs : List Waiting) → AreNumbered ws xs →
    map (λ (w : Waiting). part_at (ws ++ more) w.number) xs ≡ map (λ (w : Waiting). part_at ws w.number) xs
numbers_grow ws more [] h = refl
numbers_grow ws more (x ∷ xs) h =
    ap₂ (λ (p : Part) (ps : List Part). p ∷ ps)
    (ap (at nowhere) (symbol_stays ws more x.number (numbered_kind ws x (h zero x refl))))
    (numbers_grow ws more xs (λ i w e. h (suc i) w e))

pub numbers_stay : (ws vs : List Whole) (xs : List Waiting) → Grows ws vs → AreNumbered ws xs →
    map (λ (w : Waiting). part_at vs w.number) xs ≡ map (λ (w : Waiting). part_at ws w.number) xs
numbers_stay ws vs xs (more, e) h = ap (λ (us : List Whole). map (λ (w : Waiting). part_at us w.number) xs) e ∙ numbers_grow ws more xs h
