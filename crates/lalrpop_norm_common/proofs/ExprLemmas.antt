-- The symbols whose values an alternative gives: the lists that are made in turn, and the choice among them.
use Rattle.std.proofs.Common.{◌≡◌, ◌<◌, ℕ, ◌+◌, ◌==◌, Bor, true, false, List, [], ◌∷◌, ◌++◌, map, length, drop, get_or, Option, Result, Ok, Err, arith, refl, ap, sym, ◌∙◌}
use Rattle.std.proofs.lemmas.List.{append_assoc}
use Rattle.std.specs.Prelude.{option_to_list, IfOk}
use Rattle.lalrpop_norm_tree.specs.declared.symbol.Symbol.{Symbol}
use Rattle.lalrpop_norm_tree.specs.declared.symbol.ExprSymbol.{ExprSymbol, out-ExprSymbol}
use Rattle.lalrpop_norm_tree.specs.declared.symbol.SymbolKind.TheFolds.{fold_out-ExprSymbol}
use Rattle.lalrpop_norm_tree.specs.Symbols.{Kind, Part, Parts, Call, Again, kind_step, expr_step, macro_step, repeat_step, symbol_step, chosen, at, no_parts, part_and, parts_view, kind_view, symbol_view, expr_view}
use Rattle.lalrpop_norm_model.specs.MadeRules.{kind_of, chosen_kinds, all_kinds, if_any, group_sources}
use Rattle.lalrpop_norm_faults.proofs.FaultLemmas.{at_drop_item}
use Rattle.lalrpop_norm_common.specs.ExprSymbols.{NamedPart, Placed, SymbolsSeen, with_names, with_any, named_in, named_parts, chosen_in, chosen_parts, all_parts, placed_sources}
use Rattle.lalrpop_norm_tree.proofs.SymbolViews.{seen_at}

pub seen_named : {A : Type 0} (f : A → NamedPart) (xs : List A) (n : ℕ) (ys : List NamedPart) (o : SymbolsSeen) →
    n ≡ length xs → map f xs ≡ ys → false ≡ (n == 0) → with_names (map f xs) ≡ with_any ys o
seen_named f [] n ys o l e h = let k : false ≡ true = (rw l at h) in cc
seen_named f (x ∷ xs) n ys o l e h = ap (λ zs. with_any zs o) e

pub parts_in : (x : ExprSymbol) (ss : List Symbol) → ss ≡ (out-ExprSymbol x).symbols.items → parts_view ss ≡ expr_view x
parts_in x ss e = ap parts_view e ∙ sym (fold_out-ExprSymbol Kind Parts Call Again Part kind_step expr_step macro_step repeat_step symbol_step x)

pub more_named : (xs : List Symbol) (i : ℕ) (x : Symbol) (old new all : List NamedPart) (o : Option NamedPart) →
    i < length xs → x ≡ get_or xs i x → o ≡ named_in i (kind_view x.kind) → new ≡ old ++ option_to_list o →
    old ++ named_parts i (parts_view (drop i xs)) ≡ all → new ++ named_parts (i + 1) (parts_view (drop (i + 1) xs)) ≡ all
more_named xs i x old new all o lt is here made before =
    rw (made, here, append_assoc) (ap (λ p. old ++ named_parts i (part_and p (parts_view (drop (i + 1) xs)))) (sym (seen_at x)) ∙ (sym (at_drop_item (λ ys. old ++ named_parts i (parts_view ys)) xs i x lt is) ∙ before))

pub more_chosen : (xs : List Symbol) (i : ℕ) (x : Symbol) (old new all : List Placed) (o : Option Placed) →
    i < length xs → x ≡ get_or xs i x → o ≡ chosen_in i (kind_view x.kind) → new ≡ old ++ option_to_list o →
    old ++ chosen_parts i (parts_view (drop i xs)) ≡ all → new ++ chosen_parts (i + 1) (parts_view (drop (i + 1) xs)) ≡ all
more_chosen xs i x old new all o lt is here made before =
    rw (made, here, append_assoc) (ap (λ p. old ++ chosen_parts i (part_and p (parts_view (drop (i + 1) xs)))) (sym (seen_at x)) ∙ (sym (at_drop_item (λ ys. old ++ chosen_parts i (parts_view ys)) xs i x lt is) ∙ before))

pub more_of_all : (xs : List Symbol) (i : ℕ) (x : Symbol) (old new all : List Placed) →
    i < length xs → x ≡ get_or xs i x → new ≡ old ++ (i, symbol_view x) ∷ [] →
    old ++ all_parts i (parts_view (drop i xs)) ≡ all → new ++ all_parts (i + 1) (parts_view (drop (i + 1) xs)) ≡ all
more_of_all xs i x old new all lt is made before =
    rw (made, append_assoc) (sym (at_drop_item (λ ys. old ++ all_parts i (parts_view ys)) xs i x lt is) ∙ before)

-- ---- the selected ones, or all

pub map_any : {A B : Type 0} (f : A → B) (xs ys : List A) → map f (if_any xs ys) ≡ if_any (map f xs) (map f ys)
map_any f [] ys = refl
map_any f (x ∷ xs) ys = refl

pub first_if_any : {A : Type 0} (f : A → Placed) (xs : List A) (n : ℕ) (ys others : List Placed) →
    n ≡ length xs → map f xs ≡ ys → false ≡ (n == 0) → map f xs ≡ if_any ys others
first_if_any f [] n ys others l e h = let k : false ≡ true = (rw l at h) in cc
first_if_any f (x ∷ xs) n ys others l e h = ap (λ zs. if_any zs others) e

pub second_if_any : {A : Type 0} (f : A → Placed) (xs : List A) (n : ℕ) (ys others : List Placed) →
    n ≡ length xs → map f xs ≡ ys → true ≡ (n == 0) → others ≡ if_any ys others
second_if_any f [] n ys others l e h = ap (λ zs. if_any zs others) e
second_if_any f (x ∷ xs) n ys others l e h = absurd (grind arith)

chosen_without_places : (k : ℕ) (ps : Parts) → map (λ (e : Placed). kind_of e.1) (chosen_parts k ps) ≡ chosen_kinds ps
chosen_without_places k no_parts = refl
chosen_without_places k (part_and (at s (chosen p)) ps) = ap (λ ks. kind_of p ∷ ks) (chosen_without_places (k + 1) ps)
chosen_without_places k (part_and (at s x) ps) = chosen_without_places (k + 1) ps

all_without_places : (k : ℕ) (ps : Parts) → map (λ (e : Placed). kind_of e.1) (all_parts k ps) ≡ all_kinds ps
all_without_places k no_parts = refl
all_without_places k (part_and p ps) = ap (λ ks. kind_of p ∷ ks) (all_without_places (k + 1) ps)

without_places : (ps : Parts) → map (λ (e : Placed). kind_of e.1) (placed_sources ps) ≡ group_sources ps
without_places ps =
    map_any (λ (e : Placed). kind_of e.1) (chosen_parts 0 ps) (all_parts 0 ps)
    ∙ ap (λ ks. if_any ks (map (λ (e : Placed). kind_of e.1) (all_parts 0 ps))) (chosen_without_places 0 ps)
    ∙ ap (if_any (chosen_kinds ps)) (all_without_places 0 ps)

kinds_seen : (xs : List (ℕ × Bor Symbol)) → map (λ (t : ℕ × Bor Symbol). kind_view t.1.now.kind) xs ≡ map (λ (e : Placed). kind_of e.1) (map (λ (t : ℕ × Bor Symbol). (t.0, symbol_view t.1.now)) xs)
kinds_seen [] = refl
kinds_seen (x ∷ xs) = rw (seen_at x.1.now, kinds_seen xs) refl

pub kinds_of_placed : (xs : List (ℕ × Bor Symbol)) (ps : Parts) → map (λ (t : ℕ × Bor Symbol). (t.0, symbol_view t.1.now)) xs ≡ placed_sources ps →
    map (λ (t : ℕ × Bor Symbol). kind_view t.1.now.kind) xs ≡ group_sources ps
kinds_of_placed xs ps e = kinds_seen xs ∙ ap (map (λ (e : Placed). kind_of e.1)) e ∙ without_places ps

pub kinds_of_all : {V E : Type 0} (r : Result V E) (items : V → List (ℕ × Bor Symbol)) (ps : Parts) →
    IfOk r (λ v. map (λ (t : ℕ × Bor Symbol). (t.0, symbol_view t.1.now)) (items v) ≡ placed_sources ps) →
    IfOk r (λ v. map (λ (t : ℕ × Bor Symbol). kind_view t.1.now.kind) (items v) ≡ group_sources ps)
kinds_of_all (Ok v) items ps e = kinds_of_placed (items v) ps e
kinds_of_all (Err e) items ps h = h
