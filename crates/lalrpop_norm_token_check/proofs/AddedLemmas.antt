-- What is found of the terminals used, by the definitions of entries and of faults.
use Rattle.std.proofs.Common.{◌≡◌, ◌⊎◌, ℕ, Bool, true, false, ◌||◌, cond, not, List, [], ◌∷◌, ◌++◌, map, Option, Some, None, is_none, inl, inr, refl, sym, ap, ap₂, ◌∙◌}
use Rattle.std.specs.List.{flat_map}
use Rattle.std.specs.Cmp.Lexicographic.{nat_list_eq_equiv}
use Rattle.lalrpop_norm_tree_names.specs.declared.names.Span.{Span}
use Rattle.lalrpop_norm_tree_names.specs.declared.names.TerminalLiteral.{TerminalLiteral}
use Rattle.lalrpop_norm_tree_names.specs.declared.names.TerminalLiteral.TheVariants.{Quoted, Regex}
use Rattle.lalrpop_norm_tree_names.specs.declared.names.TerminalString.{TerminalString}
use Rattle.lalrpop_norm_tree_names.specs.declared.names.TerminalString.TheVariants.{Literal, Bare, Error}
use Rattle.lalrpop_norm_tree.specs.declared.items.MatchEntry.{MatchEntry}
use Rattle.lalrpop_norm_tree.specs.Accessors.{or_else, first_of}
use Rattle.lalrpop_norm_theory.specs.Rounds.{In}
use Rattle.lalrpop_norm_faults.specs.Faults.{Fault, fault_if}
use Rattle.lalrpop_norm_faults.specs.declared.kind.FaultKind.TheVariants.{NoMapping}
use Rattle.lalrpop_norm_model.specs.Terminals.{same_literal}
use Rattle.lalrpop_norm_model.specs.Entries.{entry_in, own_mapping, entry_cmp}
use Rattle.lalrpop_norm_model.specs.LexerFaults.{place_if}
use Rattle.lalrpop_norm_common.specs.Uses.{Use}
use Rattle.lalrpop_norm_token_check.specs.Keys.{terminal_in, place_by}
use Rattle.lalrpop_norm_token_check.specs.Found.{FoundData, lacks_entry, with_added, with_terminal, uses_faults, with_uses}
use Rattle.lalrpop_norm_token_check.proofs.KeyLemmas.{named_more, place_more, in_inserted, kept_inserted, exact_entries}
use Rattle.lalrpop_norm_token_check.proofs.FoundLemmas.{HasPlaces, placed_more}
use Rattle.lalrpop_norm_theory.proofs.BoolLemmas.{or_true, and_false, right_false}
use Rattle.lalrpop_norm_model.proofs.SameTerminalLemmas.{literals_same}

by_test : {A : Type 0} (P : A → Type 0) (b : Bool) (x y : A) → (b ≡ true → P x) → (b ≡ false → P y) → P (cond b x y)
by_test P true x y f g = f refl
by_test P false x y f g = g refl

symm_literals : (a b : TerminalLiteral) → same_literal a b ≡ same_literal b a
symm_literals (Quoted a) (Quoted b) = nat_list_eq_equiv.symm a b
symm_literals (Quoted a) (Regex b) = refl
symm_literals (Regex a) (Quoted b) = refl
symm_literals (Regex a) (Regex b) = nat_list_eq_equiv.symm a b

-- ---- faults

lacks_added : (p : ℕ) (f : FoundData) (l : TerminalLiteral) (s : Span) (t : TerminalString) →
    lacks_entry (Some p) (with_added p f l s).names t ≡ lacks_entry (Some p) f.names t
lacks_added p f l s (Literal k) = and_false _ ∙ sym (and_false _)
lacks_added p f l s (Bare a) = ap not (named_more f.names (Literal l) (Bare a))
lacks_added p f l s Error = refl

-- what lacks an entry still does, and what has one still has it
lacks_same : (c : Option ℕ) (f : FoundData) (u : TerminalString) (s : Span) (t : TerminalString) →
    lacks_entry c (with_terminal c f u s).names t ≡ lacks_entry c f.names t
lacks_same None f (Literal l) s t = refl
lacks_same (Some p) f (Literal l) s t =
    by_test (λ (g : FoundData). lacks_entry (Some p) g.names t ≡ lacks_entry (Some p) f.names t)
    (terminal_in f.names (Literal l)) f (with_added p f l s) (λ h. refl) (λ h. lacks_added p f l s t)
lacks_same c f (Bare a) s t = refl
lacks_same c f Error s t = refl

lacking_same : (c : Option ℕ) (f : FoundData) (u : TerminalString) (s : Span) (us : List Use) →
    flat_map (λ (w : Use). fault_if (lacks_entry c (with_terminal c f u s).names w.0) (NoMapping, w.1)) us
    ≡ flat_map (λ (w : Use). fault_if (lacks_entry c f.names w.0) (NoMapping, w.1)) us
lacking_same c f u s [] = refl
lacking_same c f u s (w ∷ us) =
    ap₂ (λ (xs ys : List Fault). xs ++ ys) (ap (λ b. fault_if b (NoMapping, w.1)) (lacks_same c f u s w.0)) (lacking_same c f u s us)

-- the faults of the terminals used are those by the names that the match block gives
pub uses_same : (c : Option ℕ) (f : FoundData) (uses : List Use) →
    uses_faults c f uses ≡ flat_map (λ (w : Use). fault_if (lacks_entry c f.names w.0) (NoMapping, w.1)) uses
uses_same c f [] = refl
uses_same c f (u ∷ uses) =
    ap (λ (xs : List Fault). fault_if (lacks_entry c f.names u.0) (NoMapping, u.1) ++ xs)
    (uses_same c (with_terminal c f u.0 u.1) uses ∙ lacking_same c f u.0 u.1 uses)

-- ---- spans

-- the span of a literal that is added: at its first use
abbrev pub added_in : Option ℕ → List TerminalString → TerminalLiteral → List Use → Option Span
added_in c names l uses = cond (terminal_in names (Literal l) || is_none c) None (first_of (place_if l) uses)

stays : (b n : Bool) (o : Option Span) (s : Span) (before : Option Span) → (b ≡ true → n ≡ true) →
    or_else (cond (n || false) None o) before ≡ or_else (cond (n || false) None (or_else (cond b (Some s) None) o)) before
stays true true o s before h = refl
stays true false o s before h = let no : false ≡ true = h refl in cc
stays false n o s before h = refl

comes : (b n : Bool) (o : Option Span) (s : Span) (before : Option Span) → (b ≡ true → n ≡ false) →
    or_else (cond ((b || n) || false) None o) (cond b (Some s) before) ≡ or_else (cond (n || false) None (or_else (cond b (Some s) None) o)) before
comes true true o s before h = let no : true ≡ false = h refl in cc
comes true false o s before h = refl
comes false n o s before h = refl

place_added : (p : ℕ) (f : FoundData) (k l : TerminalLiteral) (s : Span) (uses : List Use) → terminal_in f.names (Literal k) ≡ false →
    or_else (added_in (Some p) (with_added p f k s).names l uses) (place_by (with_added p f k s).places l)
    ≡ or_else (added_in (Some p) f.names l ((Literal k, s) ∷ uses)) (place_by f.places l)
place_added p f k l s uses new =
    let o = first_of (place_if l) uses in
    ap₂ (λ (n : Bool) (before : Option Span). or_else (cond (n || false) None o) before) (named_more f.names (Literal k) (Literal l)) (place_more l f.places k s)
    ∙ comes (same_literal l k) (terminal_in f.names (Literal l)) o s (place_by f.places l)
    (λ same. ap (λ x. terminal_in f.names (Literal x)) (literals_same l k same) ∙ new)
    ∙ ap (λ b. or_else (cond (terminal_in f.names (Literal l) || false) None (or_else (cond b (Some s) None) o)) (place_by f.places l)) (symm_literals l k)

place_known : (p : ℕ) (f : FoundData) (k l : TerminalLiteral) (s : Span) (uses : List Use) → terminal_in f.names (Literal k) ≡ true →
    or_else (added_in (Some p) f.names l uses) (place_by f.places l)
    ≡ or_else (added_in (Some p) f.names l ((Literal k, s) ∷ uses)) (place_by f.places l)
place_known p f k l s uses known =
    stays (same_literal k l) (terminal_in f.names (Literal l)) (first_of (place_if l) uses) s (place_by f.places l)
    (λ same. ap (λ x. terminal_in f.names (Literal x)) (sym (literals_same k l same)) ∙ known)

none_added : (names : List TerminalString) (l : TerminalLiteral) (us : List Use) → added_in None names l us ≡ None
none_added names l us = ap (λ b. cond b None (first_of (place_if l) us)) (or_true (terminal_in names (Literal l)))

nothing_added : (f : FoundData) (u : TerminalString) (s : Span) → with_terminal None f u s ≡ f
nothing_added f (Literal l) s = refl
nothing_added f (Bare a) s = refl
nothing_added f Error s = refl

place_step : (c : Option ℕ) (f : FoundData) (u : TerminalString) (s : Span) (l : TerminalLiteral) (uses : List Use) →
    or_else (added_in c (with_terminal c f u s).names l uses) (place_by (with_terminal c f u s).places l)
    ≡ or_else (added_in c f.names l ((u, s) ∷ uses)) (place_by f.places l)
place_step None f u s l uses =
    ap (λ (g : FoundData). or_else (added_in None g.names l uses) (place_by g.places l)) (nothing_added f u s)
    ∙ ap (λ o. or_else o (place_by f.places l)) (none_added f.names l uses ∙ sym (none_added f.names l ((u, s) ∷ uses)))
place_step (Some p) f (Literal k) s l uses =
    by_test (λ (g : FoundData). or_else (added_in (Some p) g.names l uses) (place_by g.places l)
    ≡ or_else (added_in (Some p) f.names l ((Literal k, s) ∷ uses)) (place_by f.places l))
    (terminal_in f.names (Literal k)) f (with_added p f k s) (place_known p f k l s uses) (place_added p f k l s uses)
place_step (Some p) f (Bare a) s l uses = refl
place_step (Some p) f Error s l uses = refl

no_uses : (b : Bool) (o : Option Span) → o ≡ or_else (cond b None None) o
no_uses true o = refl
no_uses false o = refl

-- the span of a literal is that of its first use if it is added, else the one that it had
pub uses_places : (c : Option ℕ) (f : FoundData) (uses : List Use) (l : TerminalLiteral) →
    place_by (with_uses c f uses).places l ≡ or_else (added_in c f.names l uses) (place_by f.places l)
uses_places c f [] l = no_uses _ _
uses_places c f (u ∷ uses) l = uses_places c (with_terminal c f u.0 u.1) uses l ∙ place_step c f u.0 u.1 l uses

-- ---- entries

-- the entry of a literal that is used, not named, and let in
pub record IsAdded (c : Option ℕ) (names : List TerminalString) (uses : List Use) (e : MatchEntry) : Type 0 where
  pub literal : TerminalLiteral
  pub precedence : ℕ
  pub is : e ≡ entry_in precedence literal (own_mapping literal)
  pub let_in : c ≡ Some precedence
  pub used : In (Literal literal) (map (λ (u : Use). u.0) uses)
  pub not_named : terminal_in names (Literal literal) ≡ false

later_use : (c : Option ℕ) (names : List TerminalString) (u : Use) (uses : List Use) (e : MatchEntry) → IsAdded c names uses e → IsAdded c names (u ∷ uses) e
later_use c names u uses e h = record { literal = h.literal; precedence = h.precedence; is = h.is; let_in = h.let_in; used = inr h.used; not_named = h.not_named }

module _ (p : ℕ) (f : FoundData) (k : TerminalLiteral) (s : Span) (uses : List Use) (e : MatchEntry) (new : terminal_in f.names (Literal k) ≡ false) where
  still_added : IsAdded (Some p) (with_added p f k s).names uses e → IsAdded (Some p) f.names ((Literal k, s) ∷ uses) e
  still_added h = record {
    literal = h.literal;
    precedence = h.precedence;
    is = h.is;
    let_in = h.let_in;
    used = inr h.used;
    not_named = right_false (same_literal h.literal k) _ (sym (named_more f.names (Literal k) (Literal h.literal)) ∙ h.not_named);
  }

  here_added : (e ≡ entry_in p k (own_mapping k)) ⊎ In e f.entries → IsAdded (Some p) f.names ((Literal k, s) ∷ uses) e ⊎ In e f.entries
  here_added (inl is) = inl (record { literal = k; precedence = p; is = is; let_in = refl; used = inl refl; not_named = new })
  here_added (inr i) = inr i

  added_to : IsAdded (Some p) (with_added p f k s).names uses e ⊎ In e (with_added p f k s).entries →
      IsAdded (Some p) f.names ((Literal k, s) ∷ uses) e ⊎ In e f.entries
  added_to (inl h) = inl (still_added h)
  added_to (inr i) = here_added (in_inserted entry_cmp exact_entries f.entries (entry_in p k (own_mapping k)) e i)

  own : In e (with_added p f k s).entries → IsAdded (Some p) (with_added p f k s).names uses e ⊎ In e (with_added p f k s).entries
  own i = inr i

  -- the literal added is that one, or another
  other_added : (h : IsAdded (Some p) f.names ((Literal k, s) ∷ uses) e) (b : Bool) → same_literal h.literal k ≡ b → In (Literal h.literal) (map (λ (u : Use). u.0) uses) →
      IsAdded (Some p) (with_added p f k s).names uses e ⊎ In e (with_added p f k s).entries
  other_added h true same i = inr (is_put h (literals_same h.literal k same))
    where
      is_put : (h : IsAdded (Some p) f.names ((Literal k, s) ∷ uses) e) → h.literal ≡ k → In e (with_added p f k s).entries
      is_put h same =
          let q : p ≡ h.precedence = cc (h.let_in) in
          let is : e ≡ entry_in p k (own_mapping k) = h.is ∙ ap₂ (λ (x : ℕ) (y : TerminalLiteral). entry_in x y (own_mapping y)) (sym q) same in
          kept_inserted entry_cmp exact_entries f.entries (entry_in p k (own_mapping k)) e (inl is)
  other_added h false apart i = inl (record {
    literal = h.literal;
    precedence = h.precedence;
    is = h.is;
    let_in = h.let_in;
    used = i;
    not_named = named_more f.names (Literal k) (Literal h.literal) ∙ ap₂ (λ (a b : Bool). a || b) apart h.not_named;
  })

  used_first : (h : IsAdded (Some p) f.names ((Literal k, s) ∷ uses) e) → In (Literal h.literal) (Literal k ∷ map (λ (u : Use). u.0) uses) →
      IsAdded (Some p) (with_added p f k s).names uses e ⊎ In e (with_added p f k s).entries
  used_first h (inl same) =
      let one : h.literal ≡ k = cc same in
      let q : p ≡ h.precedence = cc (h.let_in) in
      let is : e ≡ entry_in p k (own_mapping k) = h.is ∙ ap₂ (λ (x : ℕ) (y : TerminalLiteral). entry_in x y (own_mapping y)) (sym q) one in
      inr (kept_inserted entry_cmp exact_entries f.entries (entry_in p k (own_mapping k)) e (inl is))
  used_first h (inr i) = other_added h (same_literal h.literal k) refl i

  added_from : IsAdded (Some p) f.names ((Literal k, s) ∷ uses) e ⊎ In e f.entries →
      IsAdded (Some p) (with_added p f k s).names uses e ⊎ In e (with_added p f k s).entries
  added_from (inl h) = used_first h h.used
  added_from (inr i) = inr (kept_inserted entry_cmp exact_entries f.entries (entry_in p k (own_mapping k)) e (inr i))

-- a literal that is named is not added
known_from : (p : ℕ) (f : FoundData) (k : TerminalLiteral) (s : Span) (uses : List Use) (e : MatchEntry) → terminal_in f.names (Literal k) ≡ true →
    IsAdded (Some p) f.names ((Literal k, s) ∷ uses) e ⊎ In e f.entries → IsAdded (Some p) f.names uses e ⊎ In e f.entries
known_from p f k s uses e known (inr i) = inr i
known_from p f k s uses e known (inl h) = by_use h.used
  where
    by_use : In (Literal h.literal) (Literal k ∷ map (λ (u : Use). u.0) uses) → IsAdded (Some p) f.names uses e ⊎ In e f.entries
    by_use (inl same) =
        let not : terminal_in f.names (Literal h.literal) ≡ false = h.not_named in
        let named : terminal_in f.names (Literal h.literal) ≡ true = ap (terminal_in f.names) same ∙ known in
        cc
    by_use (inr i) = inl (record { literal = h.literal; precedence = h.precedence; is = h.is; let_in = h.let_in; used = i; not_named = h.not_named })

-- what is neither a literal nor let in adds nothing
other_from : (c : Option ℕ) (f : FoundData) (t : TerminalString) (s : Span) (uses : List Use) (e : MatchEntry) →
    ((l : TerminalLiteral) (p : ℕ) → Literal l ≡ t → c ≡ Some p → ⊥) →
    IsAdded c f.names ((t, s) ∷ uses) e ⊎ In e f.entries → IsAdded c f.names uses e ⊎ In e f.entries
other_from c f t s uses e none (inr i) = inr i
other_from c f t s uses e none (inl h) = by_use h.used
  where
    by_use : In (Literal h.literal) (t ∷ map (λ (u : Use). u.0) uses) → IsAdded c f.names uses e ⊎ In e f.entries
    by_use (inl same) = absurd (none h.literal h.precedence same h.let_in)
    by_use (inr i) = inl (record { literal = h.literal; precedence = h.precedence; is = h.is; let_in = h.let_in; used = i; not_named = h.not_named })

to_weaker : (c : Option ℕ) (f : FoundData) (u : Use) (uses : List Use) (e : MatchEntry) →
    IsAdded c f.names uses e ⊎ In e f.entries → IsAdded c f.names (u ∷ uses) e ⊎ In e f.entries
to_weaker c f u uses e (inl h) = inl (later_use c f.names u uses e h)
to_weaker c f u uses e (inr i) = inr i

step_to : (c : Option ℕ) (f : FoundData) (t : TerminalString) (s : Span) (uses : List Use) (e : MatchEntry) →
    IsAdded c (with_terminal c f t s).names uses e ⊎ In e (with_terminal c f t s).entries → IsAdded c f.names ((t, s) ∷ uses) e ⊎ In e f.entries
step_to None f (Literal k) s uses e h = to_weaker None f (Literal k, s) uses e h
step_to (Some p) f (Literal k) s uses e h =
    by_test (λ (g : FoundData). IsAdded (Some p) g.names uses e ⊎ In e g.entries → IsAdded (Some p) f.names ((Literal k, s) ∷ uses) e ⊎ In e f.entries)
    (terminal_in f.names (Literal k)) f (with_added p f k s) (λ known. to_weaker (Some p) f (Literal k, s) uses e) (added_to p f k s uses e) h
step_to c f (Bare a) s uses e h = to_weaker c f (Bare a, s) uses e h
step_to c f Error s uses e h = to_weaker c f (Error, s) uses e h

step_from : (c : Option ℕ) (f : FoundData) (t : TerminalString) (s : Span) (uses : List Use) (e : MatchEntry) →
    IsAdded c f.names ((t, s) ∷ uses) e ⊎ In e f.entries → IsAdded c (with_terminal c f t s).names uses e ⊎ In e (with_terminal c f t s).entries
step_from None f (Literal k) s uses e h = other_from None f (Literal k) s uses e (λ l p same none. cc none) h
step_from (Some p) f (Literal k) s uses e h =
    by_test (λ (g : FoundData). IsAdded (Some p) f.names ((Literal k, s) ∷ uses) e ⊎ In e f.entries → IsAdded (Some p) g.names uses e ⊎ In e g.entries)
    (terminal_in f.names (Literal k)) f (with_added p f k s) (known_from p f k s uses e) (added_from p f k s uses e) h
step_from c f (Bare a) s uses e h = other_from c f (Bare a) s uses e (λ l p same none. cc same) h
step_from c f Error s uses e h = other_from c f Error s uses e (λ l p same none. cc same) h

-- each entry that is found is one that is added, or was found before
pub uses_entries_are : (c : Option ℕ) (f : FoundData) (uses : List Use) (e : MatchEntry) →
    In e (with_uses c f uses).entries → IsAdded c f.names uses e ⊎ In e f.entries
uses_entries_are c f [] e i = inr i
uses_entries_are c f (u ∷ uses) e i = step_to c f u.0 u.1 uses e (uses_entries_are c (with_terminal c f u.0 u.1) uses e i)

pub uses_have_entries : (c : Option ℕ) (f : FoundData) (uses : List Use) (e : MatchEntry) →
    IsAdded c f.names uses e ⊎ In e f.entries → In e (with_uses c f uses).entries
uses_have_entries c f [] e (inl h) = absurd h.used
uses_have_entries c f [] e (inr i) = i
uses_have_entries c f (u ∷ uses) e h = uses_have_entries c (with_terminal c f u.0 u.1) uses e (step_from c f u.0 u.1 uses e h)

-- ---- each entry's literal has a span

terminal_placed : (c : Option ℕ) (f : FoundData) (t : TerminalString) (s : Span) → HasPlaces f → HasPlaces (with_terminal c f t s)
terminal_placed None f (Literal l) s h e i = h e i
terminal_placed (Some p) f (Literal l) s h e i =
    by_test HasPlaces (terminal_in f.names (Literal l)) f (with_added p f l s) (λ known. h)
    (λ new d j. placed_more f (entry_in p l (own_mapping l)) d s h (in_inserted entry_cmp exact_entries f.entries (entry_in p l (own_mapping l)) d j)) e i
terminal_placed c f (Bare a) s h e i = h e i
terminal_placed c f Error s h e i = h e i

pub uses_placed : (c : Option ℕ) (f : FoundData) (uses : List Use) → HasPlaces f → HasPlaces (with_uses c f uses)
uses_placed c f [] h = h
uses_placed c f (u ∷ uses) h = uses_placed c (with_terminal c f u.0 u.1) uses (terminal_placed c f u.0 u.1 h)
