-- What is found of a grammar is its entries, and the spans of their literals.
use Rattle.std.proofs.Common.{◌≡◌, ◌⊎◌, Bool, true, false, ◌||◌, ◌&&◌, cond, not, List, [], ◌∷◌, ◌++◌, Option, None, is_none, inl, inr, refl, sym, ap, ap₂, subst, ◌∙◌}
use Rattle.std.specs.List.{list_any}
use Rattle.lalrpop_norm_tree_names.specs.declared.names.Span.{Span}
use Rattle.lalrpop_norm_tree_names.specs.declared.names.TerminalLiteral.{TerminalLiteral}
use Rattle.lalrpop_norm_tree_names.specs.declared.names.TerminalString.{TerminalString}
use Rattle.lalrpop_norm_tree_names.specs.declared.names.TerminalString.TheVariants.{Literal, Bare, Error}
use Rattle.lalrpop_norm_tree.specs.declared.items.MatchEntry.{MatchEntry}
use Rattle.lalrpop_norm_tree.specs.Accessors.{or_else, first_of}
use Rattle.lalrpop_norm_tree.specs.Items.{MatchTokenData, GrammarData}
use Rattle.lalrpop_norm_theory.specs.Rounds.{In}
use Rattle.lalrpop_norm_faults.specs.Faults.{Fault, fault_if}
use Rattle.lalrpop_norm_faults.proofs.FaultLemmas.{left_none}
use Rattle.lalrpop_norm_faults.specs.declared.kind.FaultKind.TheVariants.{NoMapping}
use Rattle.lalrpop_norm_model.specs.Terminals.{same_terminal}
use Rattle.lalrpop_norm_model.specs.Entries.{match_block, match_entries, catch_all, user_names, IsEntry, written, added, AreEntries}
use Rattle.lalrpop_norm_model.specs.TokenFaults.{places_used, has_entry, entry_faults}
use Rattle.lalrpop_norm_model.specs.LexerFaults.{place_if}
use Rattle.lalrpop_norm_token_check.specs.Found.{FoundData, IsOrdered, lacks_entry, with_block, found_faults, all_found}
use Rattle.lalrpop_norm_token_check.specs.Checked.{ArePlaced, ArePlacesOf, HasFound}
use Rattle.lalrpop_norm_token_check.proofs.FoundLemmas.{block_same, block_names, block_entries_are, block_has_entries, block_places, block_placed}
use Rattle.lalrpop_norm_common.specs.Uses.{Use}
use Rattle.lalrpop_norm_token_check.proofs.AddedLemmas.{IsAdded, uses_same, uses_places, uses_entries_are, uses_have_entries, uses_placed}
use Rattle.lalrpop_norm_theory.proofs.ListLemmas.{flat_same}
use Rattle.lalrpop_norm_common.proofs.UsedLemmas.{terminals_are_used}
use Rattle.lalrpop_norm_model.proofs.SameTerminalLemmas.{literal_itself, terminals_same}

-- ---- faults

de_morgan : (a b : Bool) → (not a && b) ≡ not (a || not b)
de_morgan true b = refl
de_morgan false true = refl
de_morgan false false = refl

lacks_is : (g : GrammarData) (t : TerminalString) → lacks_entry (catch_all g) (with_block (match_block g)).names t ≡ not (has_entry g t)
lacks_is g (Literal l) =
    ap (λ b. not b && is_none (catch_all g)) (block_names (match_block g) (Literal l))
    ∙ de_morgan (list_any (same_terminal (Literal l)) (user_names (match_entries g))) (is_none (catch_all g))
lacks_is g (Bare a) = ap not (block_names (match_block g) (Bare a))
lacks_is g Error = refl

-- the faults of what is found are those of entries
pub found_faults_are : (g : GrammarData) → found_faults (match_block g) (places_used g) ≡ entry_faults g
found_faults_are g =
    ap₂ (λ (xs ys : List Fault). xs ++ ys) (block_same (match_block g))
    (uses_same (catch_all g) (with_block (match_block g)) (places_used g)
    ∙ flat_same _ _ (λ (u : Use). ap (λ b. fault_if b (NoMapping, u.1)) (lacks_is g u.0)) (places_used g))

-- ---- entries

any_in : (l : TerminalLiteral) (ts : List TerminalString) → In (Literal l) ts → list_any (same_terminal (Literal l)) ts ≡ true
any_in l [] i = absurd i
any_in l (t ∷ ts) (inl is) = ap (λ b. b || list_any (same_terminal (Literal l)) ts) (ap (same_terminal (Literal l)) (sym is) ∙ literal_itself l)
any_in l (t ∷ ts) (inr i) = ap (λ b. same_terminal (Literal l) t || b) (any_in l ts i) ∙ or_true (same_terminal (Literal l) t)
  where
    or_true : (b : Bool) → (b || true) ≡ true
    or_true true = refl
    or_true false = refl

none_in : (l : TerminalLiteral) (ts : List TerminalString) → (In (Literal l) ts → ⊥) → list_any (same_terminal (Literal l)) ts ≡ false
none_in l [] none = refl
none_in l (t ∷ ts) none = neither _ _ (by_case (same_terminal (Literal l) t) refl) (none_in l ts (λ i. none (inr i)))
  where
    neither : (a b : Bool) → a ≡ false → b ≡ false → (a || b) ≡ false
    neither a b e f = rw (e, f) refl

    by_case : (b : Bool) → same_terminal (Literal l) t ≡ b → same_terminal (Literal l) t ≡ false
    by_case true e = absurd (none (inl (terminals_same (Literal l) t e)))
    by_case false e = e

module _ (g : GrammarData) where
  is_entry : (e : MatchEntry) → IsAdded (catch_all g) (with_block (match_block g)).names (places_used g) e ⊎ In e (with_block (match_block g)).entries → IsEntry g e
  is_entry e (inl h) =
      subst (IsEntry g) (sym h.is)
      (added h.literal h.precedence (subst (In (Literal h.literal)) (sym (terminals_are_used g)) h.used)
      (λ i. apart (sym (block_names (match_block g) (Literal h.literal)) ∙ h.not_named) (any_in h.literal _ i)) h.let_in)
    where
      apart : {b : Bool} → b ≡ false → b ≡ true → ⊥
      apart {b = b} off on = let both : true ≡ false = sym on ∙ off in cc
  is_entry e (inr i) = written e (block_entries_are (match_block g) e i)

  has_entry_of : (e : MatchEntry) → IsEntry g e → IsAdded (catch_all g) (with_block (match_block g)).names (places_used g) e ⊎ In e (with_block (match_block g)).entries
  has_entry_of e (written _ i) = inr (block_has_entries (match_block g) e i)
  has_entry_of e (added l precedence used none let_in) = inl (record {
    literal = l;
    precedence = precedence;
    is = refl;
    let_in = let_in;
    used = subst (In (Literal l)) (terminals_are_used g) used;
    not_named = block_names (match_block g) (Literal l) ∙ none_in l _ none;
  })

  -- what is found, in its order, is the entries of the grammar
  pub found_entries : IsOrdered (all_found (match_block g) (places_used g)) → AreEntries g (all_found (match_block g) (places_used g)).entries
  found_entries rising = record {
    all = λ e. (
      λ i. is_entry e (uses_entries_are (catch_all g) (with_block (match_block g)) (places_used g) e i),
      λ h. uses_have_entries (catch_all g) (with_block (match_block g)) (places_used g) e (has_entry_of e h),
    );
    rising = rising;
  }

  pub found_placed : ArePlaced (all_found (match_block g) (places_used g)).places (all_found (match_block g) (places_used g)).entries
  found_placed e i = uses_placed (catch_all g) (with_block (match_block g)) (places_used g) (block_placed (match_block g)) e i

  found_places : found_faults (match_block g) (places_used g) ≡ [] → ArePlacesOf g (all_found (match_block g) (places_used g)).places
  found_places none l =
      uses_places (catch_all g) (with_block (match_block g)) (places_used g) l
      ∙ ap₂ (λ (b : Bool) (o : Option Span). or_else (cond (b || is_none (catch_all g)) None (first_of (place_if l) (places_used g))) o)
      (block_names (match_block g) (Literal l)) (block_places (match_block g) l (left_none _ _ none))

  -- where nothing is wrong, what is found is all of it
  pub found_all : found_faults (match_block g) (places_used g) ≡ [] → IsOrdered (all_found (match_block g) (places_used g)) →
      HasFound g (all_found (match_block g) (places_used g)).entries (all_found (match_block g) (places_used g)).places
  found_all none rising = record { entries_all = found_entries rising; placed = found_placed; where_they_stand = found_places none }

-- what is found, of the block and the terminals that the code reads
module _ (g : GrammarData) (b : Option MatchTokenData) (uses : List Use) (of_block : b ≡ match_block g) (of_uses : uses ≡ places_used g) where
  pub faults_are : found_faults b uses ≡ entry_faults g
  faults_are = ap₂ (λ (x : Option MatchTokenData) (y : List Use). found_faults x y) of_block of_uses ∙ found_faults_are g

  module _ (f : FoundData) (is : f ≡ all_found b uses) where
    whole : f ≡ all_found (match_block g) (places_used g)
    whole = is ∙ ap₂ (λ (x : Option MatchTokenData) (y : List Use). all_found x y) of_block of_uses

    pub read_placed : ArePlaced f.places f.entries
    read_placed = subst (λ (h : FoundData). ArePlaced h.places h.entries) (sym whole) (found_placed g)

    pub read_all : entry_faults g ≡ [] → IsOrdered f → HasFound g f.entries f.places
    read_all none = subst (λ (h : FoundData). IsOrdered h → HasFound g h.entries h.places) (sym whole) (found_all g (found_faults_are g ∙ none))
