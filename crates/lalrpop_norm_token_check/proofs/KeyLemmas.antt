-- What is among the keys of a set, and among the rows of a map, once one more is put in.
use Rattle.std.proofs.Common.{◌≡◌, ◌⊎◌, ℕ, Bool, true, ◌||◌, cond, List, [], ◌∷◌, Some, inl, inr, refl, sym, ap, ◌∙◌}
use Rattle.std.specs.declared.cmp.Ordering.{Ordering}
use Rattle.std.specs.declared.cmp.Ordering.TheVariants.{Less, Equal, Greater}
use Rattle.std.specs.Ordering.{is_eq, match_ordering}
use Rattle.std.specs.Cmp.Lexicographic.{nat_list_cmp_total}
use Rattle.std.specs.List.{list_any}
use Rattle.std.specs.BTreeMap.{is_at, insert_entry}
use Rattle.std.specs.BTreeSet.{insert_key}
use Rattle.std.proofs.lemmas.Cmp.{tied_itself}
use Rattle.std.proofs.lemmas.Map.Lookups.{CmpEqualImpliesEq, exact_bytes, exact_unsigned}
use Rattle.std.proofs.lemmas.Map.Text.{is_eq-slice_cmp}
use Rattle.lalrpop_norm_tree_names.specs.declared.names.Span.{Span}
use Rattle.lalrpop_norm_tree_names.specs.declared.names.TerminalLiteral.{TerminalLiteral}
use Rattle.lalrpop_norm_tree_names.specs.declared.names.TerminalLiteral.TheVariants.{Quoted, Regex}
use Rattle.lalrpop_norm_tree_names.specs.declared.names.TerminalString.{TerminalString}
use Rattle.lalrpop_norm_tree_names.specs.declared.names.TerminalString.TheVariants.{Literal, Bare, Error}
use Rattle.lalrpop_norm_tree.specs.declared.items.MatchEntry.{MatchEntry}
use Rattle.lalrpop_norm_tree.specs.declared.items.MatchMapping.{MatchMapping}
use Rattle.lalrpop_norm_tree.specs.declared.items.MatchMapping.TheVariants.{Terminal, Skip}
use Rattle.lalrpop_norm_theory.specs.Rounds.{In}
use Rattle.lalrpop_norm_model.specs.Terminals.{same_literal, same_terminal, literal_cmp, terminal_cmp}
use Rattle.lalrpop_norm_model.specs.Entries.{mapping_cmp, entry_cmp}
use Rattle.lalrpop_norm_token_check.specs.Keys.{with_keys, terminal_in, place_by}
use Rattle.lalrpop_norm_theory.proofs.BoolLemmas.{shadowed, swapped, or_moved, or_swap, or_twice}
use Rattle.lalrpop_norm_model.proofs.EntryOrder.{both_equal}

-- ---- keys of any order that ties only what is equal

module _ {K : Type 0} (cmp : K → K → Ordering) (exact : CmpEqualImpliesEq cmp) where
  any_at : (p : K → Bool) (x : K) (xs : List K) (k : K) (o : Ordering) → cmp k x ≡ o → list_any p (insert_key cmp xs k) ≡ (p k || list_any p xs) →
      list_any p (match_ordering o (k ∷ x ∷ xs) (x ∷ xs) (x ∷ insert_key cmp xs k)) ≡ (p k || (p x || list_any p xs))
  any_at p x xs k Less e deeper = refl
  any_at p x xs k Equal e deeper = or_twice (p x) (list_any p xs) ∙ ap (λ y. p y || (p x || list_any p xs)) (sym (exact k x e))
  any_at p x xs k Greater e deeper = ap (λ b. p x || b) deeper ∙ or_swap (p x) (p k) (list_any p xs)

  any_insert : (p : K → Bool) (keys : List K) (k : K) → list_any p (insert_key cmp keys k) ≡ (p k || list_any p keys)
  any_insert p [] k = refl
  any_insert p (x ∷ xs) k = any_at p x xs k (cmp k x) refl (any_insert p xs k)

  in_at : (x : K) (xs : List K) (k q : K) (o : Ordering) → cmp k x ≡ o → (In q (insert_key cmp xs k) → (q ≡ k) ⊎ In q xs) →
      In q (match_ordering o (k ∷ x ∷ xs) (x ∷ xs) (x ∷ insert_key cmp xs k)) → (q ≡ k) ⊎ In q (x ∷ xs)
  in_at x xs k q Less e deeper i = i
  in_at x xs k q Equal e deeper i = inr i
  in_at x xs k q Greater e deeper (inl is) = inr (inl is)
  in_at x xs k q Greater e deeper (inr i) = further (deeper i)
    where
      further : (q ≡ k) ⊎ In q xs → (q ≡ k) ⊎ In q (x ∷ xs)
      further (inl is) = inl is
      further (inr j) = inr (inr j)

  pub in_inserted : (keys : List K) (k q : K) → In q (insert_key cmp keys k) → (q ≡ k) ⊎ In q keys
  in_inserted [] k q i = i
  in_inserted (x ∷ xs) k q i = in_at x xs k q (cmp k x) refl (in_inserted xs k q) i

  kept_at : (x : K) (xs : List K) (k q : K) (o : Ordering) → cmp k x ≡ o → ((q ≡ k) ⊎ In q xs → In q (insert_key cmp xs k)) →
      (q ≡ k) ⊎ In q (x ∷ xs) → In q (match_ordering o (k ∷ x ∷ xs) (x ∷ xs) (x ∷ insert_key cmp xs k))
  kept_at x xs k q Less e deeper i = i
  kept_at x xs k q Equal e deeper (inl is) = inl (is ∙ exact k x e)
  kept_at x xs k q Equal e deeper (inr i) = i
  kept_at x xs k q Greater e deeper (inl is) = inr (deeper (inl is))
  kept_at x xs k q Greater e deeper (inr (inl is)) = inl is
  kept_at x xs k q Greater e deeper (inr (inr i)) = inr (deeper (inr i))

  pub kept_inserted : (keys : List K) (k q : K) → (q ≡ k) ⊎ In q keys → In q (insert_key cmp keys k)
  kept_inserted [] k q i = i
  kept_inserted (x ∷ xs) k q i = kept_at x xs k q (cmp k x) refl (kept_inserted xs k q) i

-- ---- terminals

agree_literals : (a b : TerminalLiteral) → is_eq (literal_cmp a b) ≡ same_literal a b
agree_literals (Quoted a) (Quoted b) = is_eq-slice_cmp a b
agree_literals (Quoted a) (Regex b) = refl
agree_literals (Regex a) (Quoted b) = refl
agree_literals (Regex a) (Regex b) = is_eq-slice_cmp a b

agree_terminals : (a b : TerminalString) → is_eq (terminal_cmp a b) ≡ same_terminal a b
agree_terminals (Literal a) (Literal b) = agree_literals a b
agree_terminals (Literal a) (Bare b) = refl
agree_terminals (Literal a) Error = refl
agree_terminals (Bare a) (Literal b) = refl
agree_terminals (Bare a) (Bare b) = is_eq-slice_cmp a b
agree_terminals (Bare a) Error = refl
agree_terminals Error (Literal b) = refl
agree_terminals Error (Bare b) = refl
agree_terminals Error Error = refl

exact_literals : CmpEqualImpliesEq literal_cmp
exact_literals (Quoted a) (Quoted b) e = ap Quoted (exact_bytes a b e)
exact_literals (Quoted a) (Regex b) e = cc
exact_literals (Regex a) (Quoted b) e = cc
exact_literals (Regex a) (Regex b) e = ap Regex (exact_bytes a b e)

exact_terminals : CmpEqualImpliesEq terminal_cmp
exact_terminals (Literal a) (Literal b) e = ap Literal (exact_literals a b e)
exact_terminals (Literal a) (Bare b) e = cc
exact_terminals (Literal a) Error e = cc
exact_terminals (Bare a) (Literal b) e = cc
exact_terminals (Bare a) (Bare b) e = ap Bare (exact_bytes a b e)
exact_terminals (Bare a) Error e = cc
exact_terminals Error (Literal b) e = cc
exact_terminals Error (Bare b) e = cc
exact_terminals Error Error e = refl

-- a terminal is among the keys with one more exactly where it is that one, or was among them
pub named_more : (keys : List TerminalString) (k t : TerminalString) → terminal_in (insert_key terminal_cmp keys k) t ≡ (same_terminal t k || terminal_in keys t)
named_more keys k t = any_insert terminal_cmp exact_terminals (is_at (terminal_cmp t)) keys k ∙ ap (λ b. b || terminal_in keys t) (agree_terminals t k)

pub named_all : (keys ks : List TerminalString) (t : TerminalString) → terminal_in (with_keys terminal_cmp keys ks) t ≡ (list_any (same_terminal t) ks || terminal_in keys t)
named_all keys [] t = refl
named_all keys (k ∷ ks) t =
    named_all (insert_key terminal_cmp keys k) ks t
    ∙ ap (λ b. list_any (same_terminal t) ks || b) (named_more keys k t)
    ∙ or_moved (same_terminal t k) (list_any (same_terminal t) ks) (terminal_in keys t)

-- ---- entries

exact_mappings : CmpEqualImpliesEq mapping_cmp
exact_mappings (Terminal t) (Terminal u) e = ap Terminal (exact_terminals t u e)
exact_mappings (Terminal t) Skip e = cc
exact_mappings Skip (Terminal u) e = cc
exact_mappings Skip Skip e = refl

pub exact_entries : CmpEqualImpliesEq entry_cmp
exact_entries d e h =
    let first = both_equal _ _ h in
    let second = both_equal _ _ first.1 in
    let p : d.precedence ≡ e.precedence = exact_unsigned _ _ first.0 in
    let l : d.match_literal ≡ e.match_literal = exact_literals _ _ second.0 in
    let m : d.user_name ≡ e.user_name = exact_mappings _ _ second.1 in
    whole d.precedence e.precedence d.match_literal e.match_literal d.user_name e.user_name p l m
  where
    entry : ℕ → TerminalLiteral → MatchMapping → MatchEntry
    entry p l m = record { precedence = p; match_literal = l; user_name = m }

    whole : (p q : ℕ) (l k : TerminalLiteral) (m n : MatchMapping) → p ≡ q → l ≡ k → m ≡ n →
        (let x : MatchEntry = record { precedence = p; match_literal = l; user_name = m } in x) ≡ record { precedence = q; match_literal = k; user_name = n }
    whole p q l k m n a b c = rw (a, b, c) refl

-- ---- spans

literal_itself : (l : TerminalLiteral) → literal_cmp l l ≡ Equal
literal_itself (Quoted a) = tied_itself nat_list_cmp_total a
literal_itself (Regex a) = tied_itself nat_list_cmp_total a

tied : (o : Ordering) → is_eq o ≡ true → o ≡ Equal
tied Less e = cc
tied Equal e = refl
tied Greater e = cc

apart_at : (q e k : TerminalLiteral) → literal_cmp k e ≡ Greater → is_at (literal_cmp q) e ≡ true → is_at (literal_cmp q) k ≡ true → ⊥
apart_at q e k above at_e at_k =
    let one : q ≡ e = exact_literals q e (tied _ at_e) in
    let two : q ≡ k = exact_literals q k (tied _ at_k) in
    let same : k ≡ e = sym two ∙ one in
    let equal : literal_cmp k e ≡ Equal = ap (λ x. literal_cmp k x) (sym same) ∙ literal_itself k in
    cc

row_at : (q : TerminalLiteral) (e : TerminalLiteral × Span) (es : List (TerminalLiteral × Span)) (k : TerminalLiteral) (s : Span) (o : Ordering) → literal_cmp k e.0 ≡ o →
    place_by (insert_entry literal_cmp es k s) q ≡ cond (is_at (literal_cmp q) k) (Some s) (place_by es q) →
    place_by (match_ordering o ((k, s) ∷ e ∷ es) ((e.0, s) ∷ es) (e ∷ insert_entry literal_cmp es k s)) q ≡ cond (is_at (literal_cmp q) k) (Some s) (place_by (e ∷ es) q)
row_at q e es k s Less is deeper = refl
row_at q e es k s Equal is deeper =
    shadowed (is_at (literal_cmp q) e.0) (Some s) (Some e.1) (place_by es q)
    ∙ ap (λ x. cond (is_at (literal_cmp q) x) (Some s) (place_by (e ∷ es) q)) (sym (exact_literals k e.0 is))
row_at q e es k s Greater is deeper =
    ap (λ o. cond (is_at (literal_cmp q) e.0) (Some e.1) o) deeper
    ∙ swapped (is_at (literal_cmp q) e.0) (is_at (literal_cmp q) k) (Some e.1) (Some s) (place_by es q) (apart_at q e.0 k is)

row_inserted : (q : TerminalLiteral) (es : List (TerminalLiteral × Span)) (k : TerminalLiteral) (s : Span) →
    place_by (insert_entry literal_cmp es k s) q ≡ cond (is_at (literal_cmp q) k) (Some s) (place_by es q)
row_inserted q [] k s = refl
row_inserted q (e ∷ es) k s = row_at q e es k s (literal_cmp k e.0) refl (row_inserted q es k s)

-- the span of a literal is the one that was put last
pub place_more : (q : TerminalLiteral) (es : List (TerminalLiteral × Span)) (k : TerminalLiteral) (s : Span) →
    place_by (insert_entry literal_cmp es k s) q ≡ cond (same_literal q k) (Some s) (place_by es q)
place_more q es k s = row_inserted q es k s ∙ ap (λ b. cond b (Some s) (place_by es q)) (agree_literals q k)
