-- What is reached where arguments stand for ids, or for symbols that are rewritten, is what is reached where they stand for
-- symbols: all that is inside an argument was reached before.
use Rattle.std.proofs.Common.{◌≡◌, ℕ, List, [], ◌∷◌, ◌++◌, Bool, true, false, cond, map, Option, Some, None, option_map, bytes_eq, refl, sym, ap, ap₂, ◌∙◌, subst, append-nil}
use Rattle.std.specs.Prelude.{not, ◌||◌}
use Rattle.std.proofs.lemmas.Bool.{and_parts, and_from}
use Rattle.std.proofs.lemmas.List.{map-append}
use Rattle.lalrpop_norm_tree_names.specs.declared.names.Span.{Span}
use Rattle.lalrpop_norm_tree.specs.Symbols.{Kind, Part, Parts, group, ambiguous_id, nonterminal, call, repeated, lookahead, lookbehind, at, no_parts, part_and}
use Rattle.lalrpop_norm_tree.specs.SymbolTexts.{part_text}
use Rattle.lalrpop_norm_tree.specs.Traversal.{inner}
use Rattle.lalrpop_norm_faults.specs.declared.kind.FaultKind.TheVariants.{SharedName}
use Rattle.lalrpop_norm_faults.specs.Faults.{Fault, fault_if}
use Rattle.lalrpop_norm_theory.specs.Symbols.{ClosedSymbol}
use Rattle.lalrpop_norm_theory.specs.Same.{same_symbol}
use Rattle.lalrpop_norm_model.specs.MadeRules.{kind_of, span_of, or_name, substituted_leaf, substituted, kind_substituted, all_substituted}
use Rattle.lalrpop_norm_model.specs.PlainRules.{met, all_met}
use Rattle.lalrpop_norm_model.specs.PlainTables.{closed}
use Rattle.lalrpop_norm_model.specs.Replaced.{replaced_kind}
use Rattle.lalrpop_norm_nodes.specs.Apart.{nowhere, unplaced_kind, unplaced, all_unplaced}
use Rattle.lalrpop_norm_nodes.specs.Meeting.{first_with_text, joined_by, after, differs, clash_faults, was_met, were_met}
use Rattle.lalrpop_norm_nodes.proofs.ApartLemmas.{part_closed, unplaced_twice}
use Rattle.lalrpop_norm_nodes.proofs.InnerLemmas.{All, every, each, row_alike, remade}
use Rattle.lalrpop_norm_nodes.proofs.InwardLemmas.{quiet, same_met, stays_after}
use Rattle.lalrpop_norm_nodes.proofs.MeetingLemmas.{after_both, clash_both}
use Rattle.lalrpop_norm_nodes.proofs.SamenessLemmas.{closed_text_same}
use Rattle.lalrpop_norm_nodes.specs.Waits.{parts_replaced}
use Rattle.lalrpop_norm_nodes.proofs.FirstMet.{has_text, fresh_after, fresh_both}
use Rattle.lalrpop_norm_nodes.proofs.MeetLemmas.{after_same, clash_same}
use Rattle.lalrpop_norm_nodes.proofs.ShallowKinds.{replaced_so, all_replaced_so}
use Rattle.lalrpop_norm_nodes.proofs.TwiceLemmas.{nothing_met, inside_text}

-- ---- spans

pub closed_bare : (x y : Part) → unplaced x ≡ unplaced y → closed x ≡ closed y
closed_bare x y e = sym (part_closed 0 0 0 0 x) ∙ ap closed e ∙ part_closed 0 0 0 0 y

-- the same is reached, up to spans
abbrev IsMetBare : Part → Type 0
IsMetBare p = (s t : Span) → map unplaced (met (at s (unplaced_kind (kind_of p)))) ≡ map unplaced (met (at t (kind_of p)))

row_met_bare : (ps : Parts) → All IsMetBare ps → map unplaced (all_met (all_unplaced ps)) ≡ map unplaced (all_met ps)
row_met_bare no_parts h = refl
row_met_bare (part_and (at s k) ps) h =
    map-append unplaced (met (at nowhere (unplaced_kind k))) (all_met (all_unplaced ps))
    ∙ ap₂ (λ (xs ys : List Part). xs ++ ys) (h.0 nowhere s) (row_met_bare ps h.1)
    ∙ sym (map-append unplaced (met (at s k)) (all_met ps))

-- behind what is inside, the symbol itself
last_bare : (s t : Span) (k : Kind) (xs ys : List Part) → map unplaced xs ≡ map unplaced ys → map unplaced (xs ++ at s (unplaced_kind k) ∷ []) ≡ map unplaced (ys ++ at t k ∷ [])
last_bare s t k xs ys e =
    map-append unplaced xs (at s (unplaced_kind k) ∷ [])
    ∙ ap₂ (λ (zs : List Part) (l : Kind). zs ++ at nowhere l ∷ []) e (unplaced_twice k)
    ∙ sym (map-append unplaced ys (at t k ∷ []))

bare_step : (u : Span) (k : Kind) → All IsMetBare (inner k) → (s t : Span) → map unplaced (met (at s (unplaced_kind k))) ≡ map unplaced (met (at t k))
bare_step u (group ps) h s t = last_bare s t (group ps) _ _ (row_met_bare ps h)
bare_step u (call n ps) h s t = last_bare s t (call n ps) _ _ (row_met_bare ps h)
bare_step u (repeated op (at v k)) h s t = last_bare s t (repeated op (at v k)) _ _ (h.0 nowhere v)
bare_step u lookahead h s t = refl
bare_step u lookbehind h s t = refl
bare_step u k h s t =
    ap (map unplaced) (sym (append-nil (met (at s (unplaced_kind k))))) ∙ row_met_bare (inner k) h ∙ ap (map unplaced) (append-nil (met (at t k)))

pub met_bare : (s t : Span) (k : Kind) → map unplaced (met (at s (unplaced_kind k))) ≡ map unplaced (met (at t k))
met_bare s t k = every IsMetBare bare_step (at nowhere k) s t

-- at any span of a symbol
pub met_moved : (s t : Span) (k : Kind) → map unplaced (met (at s k)) ≡ map unplaced (met (at t k))
met_moved s t k = sym (met_bare s s k) ∙ met_bare s t k

pub were_bare : (names : List ℕ → Bool) (seen xs ys : List Part) → map unplaced xs ≡ map unplaced ys → were_met names seen xs ≡ true → were_met names seen ys ≡ true
were_bare names seen [] [] e h = refl
were_bare names seen [] (y ∷ ys) e h = absurd (cc e)
were_bare names seen (x ∷ xs) [] e h = absurd (cc e)
were_bare names seen (x ∷ xs) (y ∷ ys) e h =
    let p = and_parts (was_met names seen x) (were_met names seen xs) h in
    and_from _ _ (same_met names seen x y (closed_bare x y (heads (unplaced x) (unplaced y) (map unplaced xs) (map unplaced ys) e)) p.0)
    (were_bare names seen xs ys (tails (unplaced x) (unplaced y) (map unplaced xs) (map unplaced ys) e) p.1)
  where
    heads : (u v : Part) (us vs : List Part) → u ∷ us ≡ v ∷ vs → u ≡ v
    heads u v us vs h = cc

    tails : (u v : Part) (us vs : List Part) → u ∷ us ≡ v ∷ vs → us ≡ vs
    tails u v us vs h = cc

pub parts_text : (p : Part) → part_text (parts_replaced p) ≡ part_text p
parts_text (at s k) = inside_text k

pub parts_texts : (ps : List Part) → map part_text (map parts_replaced ps) ≡ map part_text ps
parts_texts [] = refl
parts_texts (p ∷ ps) = ap₂ (λ (t : List ℕ) (ts : List (List ℕ)). t ∷ ts) (parts_text p) (parts_texts ps)

has_left : (t : List ℕ) (ts us : List (List ℕ)) → has_text t ts ≡ true → has_text t (ts ++ us) ≡ true
has_left t [] us h = absurd (cc h)
has_left t (u ∷ ts) us h = by (bytes_eq u t) (has_left t ts us) h
  where
    by : (b : Bool) → (has_text t ts ≡ true → has_text t (ts ++ us) ≡ true) → cond b true (has_text t ts) ≡ true → cond b true (has_text t (ts ++ us)) ≡ true
    by true deeper k = refl
    by false deeper k = deeper k

unplaced_substituted : (f : List ℕ → Option Kind) (k : Kind) → unplaced_kind (kind_substituted f k) ≡ remade (unplaced_kind (substituted_leaf f k)) k (all_unplaced (all_substituted f (inner k)))
unplaced_substituted f (group ps) = refl
unplaced_substituted f _ = refl

-- ---- lists that are reached alike

module _ (names : List ℕ → Bool) (start : List Part) where
  -- what was reached then was reached
  abbrev pub Keeps : List Part → Type 0
  Keeps seen = (z : Part) → was_met names start z ≡ true → was_met names seen z ≡ true

  abbrev pub HaveTexts : List (List ℕ) → Type 0
  HaveTexts ts = (z : Part) → was_met names start z ≡ true → has_text (part_text z) ts ≡ true

  -- Of symbols as they are reached: what is on the worklist of them where arguments are rewritten, the symbols in which arguments
  -- are as ids say, and the symbols themselves. The latter two are reached alike, with the same errors, and of the first those
  -- are on the worklist that are reached first of the last.
  pub record MeetAlike (shown whole deep : List Part) : Type 0 where
    pub met : (seen : List Part) → Keeps seen → map unplaced (after seen whole) ≡ map unplaced (after seen deep)
    pub clashes : (seen : List Part) → Keeps seen → clash_faults names seen whole ≡ clash_faults names seen deep
    pub waits : (ts : List (List ℕ)) → HaveTexts ts → fresh_after ts shown ≡ map parts_replaced (fresh_after ts deep)

  all_keep : (seen xs : List Part) → Keeps seen → were_met names start xs ≡ true → were_met names seen xs ≡ true
  all_keep seen [] k h = refl
  all_keep seen (x ∷ xs) k h = let p = and_parts _ _ h in and_from _ _ (k x p.0) (all_keep seen xs k p.1)

  none_fresh : (ts : List (List ℕ)) (xs : List Part) → HaveTexts ts → were_met names start xs ≡ true → fresh_after ts xs ≡ []
  none_fresh ts [] k h = refl
  none_fresh ts (x ∷ xs) k h =
      let p = and_parts (was_met names start x) (were_met names start xs) h in
      ap (λ (b : Bool). cond b (fresh_after ts xs) (x ∷ fresh_after (ts ++ part_text x ∷ []) xs)) (k x p.0) ∙ none_fresh ts xs k p.1

  -- what was reached is as nothing
  pub alike_met : (whole deep : List Part) → were_met names start whole ≡ true → were_met names start deep ≡ true → MeetAlike [] whole deep
  alike_met whole deep h j = record {
    met = λ seen k. ap (map unplaced) ((quiet names seen whole (all_keep seen whole k h)).1 ∙ sym (quiet names seen deep (all_keep seen deep k j)).1);
    clashes = λ seen k. (quiet names seen whole (all_keep seen whole k h)).0 ∙ sym (quiet names seen deep (all_keep seen deep k j)).0;
    waits = λ ts k. ap (map parts_replaced) (sym (none_fresh ts deep k j));
  }

  pub alike_none : MeetAlike [] [] []
  alike_none = alike_met [] [] refl refl

  -- one symbol in three forms
  pub alike_one : (x y z : Part) → x ≡ parts_replaced z → unplaced y ≡ unplaced z → span_of y ≡ span_of z → MeetAlike (x ∷ []) (y ∷ []) (z ∷ [])
  alike_one x y z shown same spans = record {
    met = λ seen k.
        ap (λ (t : List ℕ). map unplaced (joined_by (first_with_text t seen) seen y)) texts
        ∙ joins seen (first_with_text (part_text z) seen);
    clashes = λ seen k.
        ap₂ (λ (b : Bool) (s : Span). fault_if b (SharedName, s) ++ [])
        (ap (λ (t : List ℕ). names t || differs (first_with_text t seen) y) texts
        ∙ ap (λ (b : Bool). names (part_text z) || b) (differ (first_with_text (part_text z) seen))) spans;
    waits = λ ts k.
        ap (λ (p : Part). fresh_after ts (p ∷ [])) shown
        ∙ ap (λ (t : List ℕ). cond (has_text t ts) [] (parts_replaced z ∷ [])) (parts_text z)
        ∙ chosen_one (has_text (part_text z) ts);
  }
    where
      same_closed : closed y ≡ closed z
      same_closed = closed_bare y z same

      texts : part_text y ≡ part_text z
      texts = closed_text_same y z same_closed

      joins : (seen : List Part) (o : Option Part) → map unplaced (joined_by o seen y) ≡ map unplaced (joined_by o seen z)
      joins seen None =
          map-append unplaced seen (y ∷ []) ∙ ap (λ (p : Part). map unplaced seen ++ p ∷ []) same ∙ sym (map-append unplaced seen (z ∷ []))
      joins seen (Some w) = refl

      differ : (o : Option Part) → differs o y ≡ differs o z
      differ None = refl
      differ (Some w) = ap (λ (g : ClosedSymbol). not (same_symbol (closed w) g)) same_closed

      chosen_one : (b : Bool) → cond b [] (parts_replaced z ∷ []) ≡ map parts_replaced (cond b [] (z ∷ []))
      chosen_one true = refl
      chosen_one false = refl

  pub alike_both : (us vs ws xs ys zs : List Part) → MeetAlike us vs ws → MeetAlike xs ys zs → MeetAlike (us ++ xs) (vs ++ ys) (ws ++ zs)
  alike_both us vs ws xs ys zs a b = record {
    met = λ seen k.
        ap (map unplaced) (after_both seen vs ys)
        ∙ after_same (after seen vs) (after seen ws) ys (a.met seen k)
        ∙ b.met (after seen ws) (later seen k)
        ∙ ap (map unplaced) (sym (after_both seen ws zs));
    clashes = λ seen k.
        clash_both names seen vs ys
        ∙ ap₂ (λ (fs gs : List Fault). fs ++ gs) (a.clashes seen k)
        (clash_same names (after seen vs) (after seen ws) ys (a.met seen k) ∙ b.clashes (after seen ws) (later seen k))
        ∙ sym (clash_both names seen ws zs);
    waits = λ ts k.
        fresh_both ts us xs
        ∙ ap (λ (ps : List Part). ps ++ fresh_after (ts ++ map part_text ps) xs) (a.waits ts k)
        ∙ ap (λ (vs : List (List ℕ)). map parts_replaced (fresh_after ts ws) ++ fresh_after (ts ++ vs) xs) (parts_texts (fresh_after ts ws))
        ∙ ap (λ (ps : List Part). map parts_replaced (fresh_after ts ws) ++ ps)
        (b.waits (ts ++ map part_text (fresh_after ts ws)) (λ z h. has_left (part_text z) ts (map part_text (fresh_after ts ws)) (k z h)))
        ∙ sym (map-append parts_replaced (fresh_after ts ws) (fresh_after (ts ++ map part_text (fresh_after ts ws)) zs))
        ∙ ap (map parts_replaced) (sym (fresh_both ts ws zs));
  }
    where
      later : (seen : List Part) → Keeps seen → Keeps (after seen ws)
      later seen k z h = stays_after names seen ws z (k z h)

  -- ---- symbols with arguments substituted

  module _ (arg shown whole : List ℕ → Option Kind)
      (shown_is : (n : List ℕ) → shown n ≡ option_map replaced_kind (arg n))
      (whole_is : (n : List ℕ) → whole n ≡ option_map unplaced_kind (arg n))
      (were : (n : List ℕ) (k : Kind) → arg n ≡ Some k → (s : Span) → were_met names start (met (at s k)) ≡ true) where
    or_unplaced : (n : List ℕ) (o p : Option Kind) → p ≡ option_map unplaced_kind o → unplaced_kind (or_name n p) ≡ unplaced_kind (or_name n o)
    or_unplaced n None p e = ap (λ q. unplaced_kind (or_name n q)) e
    or_unplaced n (Some k) p e = ap (λ q. unplaced_kind (or_name n q)) e ∙ unplaced_twice k

    abbrev IsUnplacedSo : Part → Type 0
    IsUnplacedSo p = unplaced (substituted whole p) ≡ unplaced (substituted arg p)

    leaf_unplaced_so : (k : Kind) → unplaced_kind (substituted_leaf whole k) ≡ unplaced_kind (substituted_leaf arg k)
    leaf_unplaced_so (nonterminal n) = or_unplaced n (arg n) (whole n) (whole_is n)
    leaf_unplaced_so (ambiguous_id n) = or_unplaced n (arg n) (whole n) (whole_is n)
    leaf_unplaced_so _ = refl

    row_unplaced_so : (ps : Parts) → All IsUnplacedSo ps → all_unplaced (all_substituted whole ps) ≡ all_unplaced (all_substituted arg ps)
    row_unplaced_so =
        row_alike (λ p. unplaced (substituted whole p)) (λ p. unplaced (substituted arg p)) (λ ps. all_unplaced (all_substituted whole ps)) (λ ps. all_unplaced (all_substituted arg ps))
        part_and refl (λ p ps. refl) (λ p ps. refl)

    unplaced_step : (s : Span) (k : Kind) → All IsUnplacedSo (inner k) → IsUnplacedSo (at s k)
    unplaced_step s k h =
        ap (at nowhere) (unplaced_substituted whole k ∙ ap₂ (λ l qs. remade l k qs) (leaf_unplaced_so k) (row_unplaced_so (inner k) h) ∙ sym (unplaced_substituted arg k))

    unplaced_so : (p : Part) → unplaced (substituted whole p) ≡ unplaced (substituted arg p)
    unplaced_so = every IsUnplacedSo unplaced_step

    all_unplaced_so : (ps : Parts) → all_unplaced (all_substituted whole ps) ≡ all_unplaced (all_substituted arg ps)
    all_unplaced_so ps = row_unplaced_so ps (each IsUnplacedSo unplaced_step ps)

    -- a name, bound or not
    name_alike : (s : Span) (n : List ℕ) (o p q : Option Kind) → arg n ≡ o → p ≡ option_map replaced_kind o → q ≡ option_map unplaced_kind o →
        MeetAlike (map parts_replaced (met (at s (or_name n p)))) (met (at s (or_name n q))) (met (at s (or_name n o)))
    name_alike s n None p q e f g = rw (f, g) alike_none
    name_alike s n (Some k) p q e f g =
        rw (f, g, nothing_met (at s k))
        (alike_met (met (at s (unplaced_kind k))) (met (at s k))
        (were_bare names start (met (at s k)) (met (at s (unplaced_kind k))) (sym (met_bare s s k)) (were n k e s)) (were n k e s))

    -- what is on the worklist of what is inside, and of the symbol
    joined_alike : (us vs ws : List Part) (x y z : Part) → MeetAlike (map parts_replaced us) vs ws → parts_replaced x ≡ parts_replaced z → unplaced y ≡ unplaced z →
        span_of y ≡ span_of z → MeetAlike (map parts_replaced (us ++ x ∷ [])) (vs ++ y ∷ []) (ws ++ z ∷ [])
    joined_alike us vs ws x y z h shown same spans =
        subst (λ (xs : List Part). MeetAlike xs (vs ++ y ∷ []) (ws ++ z ∷ [])) (sym (map-append parts_replaced us (x ∷ [])))
        (alike_both (map parts_replaced us) vs ws (parts_replaced x ∷ []) (y ∷ []) (z ∷ []) h (alike_one (parts_replaced x) y z shown same spans))

    abbrev IsAlike : Part → Type 0
    IsAlike p = MeetAlike (map parts_replaced (met (substituted shown p))) (met (substituted whole p)) (met (substituted arg p))

    rows_alike : (ps : Parts) → All IsAlike ps → MeetAlike (map parts_replaced (all_met (all_substituted shown ps))) (all_met (all_substituted whole ps)) (all_met (all_substituted arg ps))
    rows_alike no_parts h = alike_none
    rows_alike (part_and p ps) h =
        subst (λ (xs : List Part). MeetAlike xs (met (substituted whole p) ++ all_met (all_substituted whole ps)) (met (substituted arg p) ++ all_met (all_substituted arg ps)))
        (sym (map-append parts_replaced (met (substituted shown p)) (all_met (all_substituted shown ps))))
        (alike_both (map parts_replaced (met (substituted shown p))) (met (substituted whole p)) (met (substituted arg p)) _ _ _ h.0 (rows_alike ps h.1))

    -- with nothing behind it
    alone : (us vs ws : List Part) → MeetAlike (map parts_replaced (us ++ [])) (vs ++ []) (ws ++ []) → MeetAlike (map parts_replaced us) vs ws
    alone us vs ws h =
        subst (λ (xs : List Part). MeetAlike (map parts_replaced xs) vs ws) (append-nil us)
        (subst (λ (xs : List Part). MeetAlike (map parts_replaced (us ++ [])) xs ws) (append-nil vs)
        (subst (λ (xs : List Part). MeetAlike (map parts_replaced (us ++ [])) (vs ++ []) xs) (append-nil ws) h))

    alike_step : (s : Span) (k : Kind) → All IsAlike (inner k) → IsAlike (at s k)
    alike_step s (nonterminal n) h = name_alike s n (arg n) (shown n) (whole n) refl (shown_is n) (whole_is n)
    alike_step s (ambiguous_id n) h = name_alike s n (arg n) (shown n) (whole n) refl (shown_is n) (whole_is n)
    alike_step s (group ps) h =
        joined_alike (all_met (all_substituted shown ps)) (all_met (all_substituted whole ps)) (all_met (all_substituted arg ps))
        (at s (group (all_substituted shown ps))) (at s (group (all_substituted whole ps))) (at s (group (all_substituted arg ps))) (rows_alike ps h)
        (ap (λ qs. at s (group qs)) (all_replaced_so arg shown shown_is ps)) (ap (λ qs. at nowhere (group qs)) (all_unplaced_so ps)) refl
    alike_step s (call n ps) h =
        joined_alike (all_met (all_substituted shown ps)) (all_met (all_substituted whole ps)) (all_met (all_substituted arg ps))
        (at s (call n (all_substituted shown ps))) (at s (call n (all_substituted whole ps))) (at s (call n (all_substituted arg ps))) (rows_alike ps h)
        (ap (λ qs. at s (call n qs)) (all_replaced_so arg shown shown_is ps)) (ap (λ qs. at nowhere (call n qs)) (all_unplaced_so ps)) refl
    alike_step s (repeated op p) h =
        joined_alike (met (substituted shown p)) (met (substituted whole p)) (met (substituted arg p))
        (at s (repeated op (substituted shown p))) (at s (repeated op (substituted whole p))) (at s (repeated op (substituted arg p))) h.0
        (ap (λ q. at s (repeated op q)) (replaced_so arg shown shown_is p)) (ap (λ q. at nowhere (repeated op q)) (unplaced_so p)) refl
    alike_step s lookahead h = alike_one (at s lookahead) (at s lookahead) (at s lookahead) refl refl refl
    alike_step s lookbehind h = alike_one (at s lookbehind) (at s lookbehind) (at s lookbehind) refl refl refl
    alike_step s k h = alone (met (substituted shown (at s k))) (met (substituted whole (at s k))) (met (substituted arg (at s k))) (rows_alike (inner k) h)

    pub all_alike : (ps : Parts) → MeetAlike (map parts_replaced (all_met (all_substituted shown ps))) (all_met (all_substituted whole ps)) (all_met (all_substituted arg ps))
    all_alike ps = rows_alike ps (each IsAlike alike_step ps)
