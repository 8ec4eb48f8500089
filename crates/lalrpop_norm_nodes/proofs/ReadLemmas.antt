-- What a symbol is rewritten to, and what it reaches.
use Rattle.std.proofs.Common.{◌≡◌, ℕ, List, [], ◌∷◌, ◌++◌, Bool, Option, Some, None, map, option_map, refl, sym, ap, ap₂, ◌∙◌, subst}
use Rattle.lalrpop_norm_tree_names.specs.declared.names.Span.{Span}
use Rattle.lalrpop_norm_tree.specs.declared.symbol.Symbol.{Symbol}
use Rattle.lalrpop_norm_tree.specs.Symbols.{Kind, Part, at, group, nonterminal, call, repeated, kind_view, symbol_view}
use Rattle.lalrpop_norm_tree.specs.SymbolTexts.{kind_text}
use Rattle.lalrpop_norm_tree.proofs.SymbolViews.{seen_at}
use Rattle.lalrpop_norm_model.specs.Replaced.{replaced_kind}
use Rattle.std.specs.Prelude.{not, ◌||◌}
use Rattle.std.proofs.lemmas.List.{map-append}
use Rattle.lalrpop_norm_faults.specs.declared.kind.FaultKind.TheVariants.{SharedName}
use Rattle.lalrpop_norm_faults.specs.Faults.{fault_if}
use Rattle.lalrpop_norm_theory.specs.Symbols.{ClosedSymbol}
use Rattle.lalrpop_norm_theory.specs.Same.{same_symbol}
use Rattle.lalrpop_norm_model.specs.PlainRules.{met}
use Rattle.lalrpop_norm_model.specs.PlainTables.{closed}
use Rattle.lalrpop_norm_nodes.specs.Apart.{nowhere, unplaced, unplaced_kind}
use Rattle.lalrpop_norm_nodes.specs.Meeting.{met_inside, own, own_text, first_with_text, joined_by, after, differs, clashes, clash_faults}
use Rattle.lalrpop_norm_nodes.proofs.ApartLemmas.{part_closed, unplaced_twice}
use Rattle.lalrpop_norm_model.specs.MadeRules.{or_name}
use Rattle.lalrpop_norm_nodes.specs.declared.given.Given.{Given}
use Rattle.lalrpop_norm_nodes.specs.declared.given.Environment.{Environment}
use Rattle.lalrpop_norm_nodes.specs.Filled.{filled_kind}
use Rattle.lalrpop_norm_nodes.specs.Given.{given_to, shown_for, IsGiven, AreGiven, read_whole, kind_whole, read_shown, kind_shown}
use Rattle.lalrpop_norm_nodes.specs.declared.table.Table.{Table}
use Rattle.lalrpop_norm_nodes.proofs.MeetLemmas.{kind_text_unplaced, meets_both, refused_later, standing_met}
use Rattle.lalrpop_norm_nodes.proofs.SymbolLemmas.{split_at}
use Rattle.lalrpop_norm_nodes.specs.Wholes.{Whole, one_symbol, kind_at, StandsFor}
use Rattle.lalrpop_norm_nodes.specs.Tables.{wholes_in, own_at, is_declared_in, seen_in, IsNodeTable, TableMeets, refused_in}
use Rattle.lalrpop_norm_nodes.specs.Filled.{inside_replaced}
use Rattle.lalrpop_norm_nodes.specs.Readings.{topped, topped_kind}
use Rattle.lalrpop_norm_nodes.proofs.GivenLemmas.{shown_text}
use Rattle.lalrpop_norm_nodes.proofs.TwiceLemmas.{inside_text}

-- a symbol, its parts rewritten, itself rewritten, is the symbol rewritten
pub topped_inside : (k : Kind) → topped_kind (inside_replaced k) ≡ replaced_kind k
topped_inside (group ps) = ap nonterminal (inside_text (group ps))
topped_inside (call n ps) = ap nonterminal (inside_text (call n ps))
topped_inside (repeated op p) = ap nonterminal (inside_text (repeated op p))
topped_inside _ = refl

-- ---- a symbol that is read reaches what is inside it, then itself

module _ (names : List ℕ → Bool) (seen : List Part) (s : Span) where
  clash_unplaced : (k : Kind) → clashes names seen (at s (unplaced_kind k)) ≡ clashes names seen (at s k)
  clash_unplaced k =
      ap (λ (t : List ℕ). names t || differs (first_with_text t seen) (at s (unplaced_kind k))) (kind_text_unplaced k)
      ∙ ap (λ (b : Bool). names (kind_text k) || b) (by (first_with_text (kind_text k) seen))
    where
      by : (o : Option Part) → differs o (at s (unplaced_kind k)) ≡ differs o (at s k)
      by None = refl
      by (Some y) = ap (λ (g : ClosedSymbol). not (same_symbol (closed y) g)) (part_closed 0 0 0 0 (at s k))

  fault_unplaced : (k : Kind) → clash_faults names seen (at s (unplaced_kind k) ∷ []) ≡ clash_faults names seen (at s k ∷ [])
  fault_unplaced k = ap (λ (b : Bool). fault_if b (SharedName, s) ++ []) (clash_unplaced k)

  after_unplaced : (k : Kind) → map unplaced (after seen (at s (unplaced_kind k) ∷ [])) ≡ map unplaced (after seen (at s k ∷ []))
  after_unplaced k =
      ap (λ (t : List ℕ). map unplaced (joined_by (first_with_text t seen) seen (at s (unplaced_kind k)))) (kind_text_unplaced k)
      ∙ by (first_with_text (kind_text k) seen)
    where
      twice : unplaced (at s (unplaced_kind k)) ≡ unplaced (at s k)
      twice = ap (at nowhere) (unplaced_twice k)

      by : (o : Option Part) → map unplaced (joined_by o seen (at s (unplaced_kind k))) ≡ map unplaced (joined_by o seen (at s k))
      by None =
          map-append unplaced seen (at s (unplaced_kind k) ∷ []) ∙ ap (λ (p : Part). map unplaced seen ++ p ∷ []) twice
          ∙ sym (map-append unplaced seen (at s k ∷ []))
      by (Some y) = refl

  pub own_faults : (k : Kind) → clash_faults names seen (own s (unplaced_kind k)) ≡ clash_faults names seen (own s k)
  own_faults (group ps) = fault_unplaced (group ps)
  own_faults (call n ps) = fault_unplaced (call n ps)
  own_faults (repeated op q) = fault_unplaced (repeated op q)
  own_faults _ = refl

  pub own_after : (k : Kind) → map unplaced (after seen (own s (unplaced_kind k))) ≡ map unplaced (after seen (own s k))
  own_after (group ps) = after_unplaced (group ps)
  own_after (call n ps) = after_unplaced (call n ps)
  own_after (repeated op q) = after_unplaced (repeated op q)
  own_after _ = refl

-- reached, and its errors, in terms of the whole symbol
pub read_meets : (a b d : Table) (s : Span) (k : Kind) → TableMeets a b (met_inside k) → TableMeets b d (own_at s (one_symbol (unplaced_kind k))) → TableMeets a d (met (at s k))
read_meets a b d s k h g =
    subst (λ (xs : List Part). TableMeets a d xs) (sym (split_at s k))
    (meets_both a b d (met_inside k) (own s k) h (record {
      seen = g.seen ∙ own_after (is_declared_in b) (seen_in b) s k;
      names = g.names;
      grows = g.grows;
      table = g.table;
    }))

pub read_refused : (a b : Table) (s : Span) (k : Kind) → TableMeets a b (met_inside k) → refused_in a (met_inside k) ≡ [] →
    refused_in a (met (at s k)) ≡ refused_in b (own_at s (one_symbol (unplaced_kind k)))
read_refused a b s k h none =
    ap (refused_in a) (split_at s k) ∙ refused_later a b (met_inside k) (own s k) h none ∙ sym (own_faults (is_declared_in b) (seen_in b) s k)

-- ---- a name that is bound

pub record Bound (ws : List Whole) (e : Environment) (k : Kind) (g : Given) : Type 0 where
  pub whole : kind_whole ws e k ≡ kind_at ws g.number
  pub shown : filled_kind (shown_for e) k ≡ kind_view g.symbol.kind
  pub given : IsGiven ws g

pub bound_is : (ws : List Whole) (e : Environment) (k : Kind) (g : Given) → AreGiven ws e → given_to e k ≡ Some g → Bound ws e k g
bound_is ws e (nonterminal n) g h f = record {
  whole = ap (λ (o : Option Given). or_name n (option_map (λ x. kind_at ws x.number) o)) f;
  shown = ap (λ (o : Option Given). or_name n (option_map (λ x. kind_view x.symbol.kind) o)) f;
  given = h n g f;
}
bound_is ws e (group ps) g h f = absurd (cc f)
bound_is ws e _ g h f = absurd (cc f)

-- what is read at a symbol
pub read_at : (ws : List Whole) (e : Environment) (s : Symbol) → read_whole ws e (symbol_view s) ≡ at s.span (kind_whole ws e (kind_view s.kind))
read_at ws e s = ap (read_whole ws e) (seen_at s)

pub shown_at : (e : Environment) (s : Symbol) → read_shown e (symbol_view s) ≡ at s.span (replaced_kind (filled_kind (shown_for e) (kind_view s.kind)))
shown_at e s = ap (read_shown e) (seen_at s)

pub bound_met : (t : Table) (e : Environment) (s : Symbol) (g : Given) → IsNodeTable t → AreGiven (wholes_in t) e → given_to e (kind_view s.kind) ≡ Some g →
    (refused_in t (met (read_whole (wholes_in t) e (symbol_view s))) ≡ []) × TableMeets t t (met (read_whole (wholes_in t) e (symbol_view s)))
bound_met t e s g h given f =
    let b = bound_is (wholes_in t) e (kind_view s.kind) g given f in
    let same : met (read_whole (wholes_in t) e (symbol_view s)) ≡ met (at s.span (kind_at (wholes_in t) g.number)) =
    ap met (read_at (wholes_in t) e s ∙ ap (at s.span) b.whole) in
    let m = standing_met t g.number (kind_at (wholes_in t) g.number) s.span h b.given.stands in
    (ap (refused_in t) same ∙ m.0, subst (λ (xs : List Part). TableMeets t t xs) (sym same) m.1)

pub bound_value : (ws : List Whole) (e : Environment) (s : Symbol) (g : Given) → AreGiven ws e → given_to e (kind_view s.kind) ≡ Some g →
    at s.span (kind_view g.symbol.kind) ≡ read_shown e (symbol_view s)
bound_value ws e s g given f =
    let b = bound_is ws e (kind_view s.kind) g given f in
    ap (at s.span) (sym (ap replaced_kind b.shown ∙ b.given.replaced)) ∙ sym (shown_at e s)

pub bound_number : (t : Table) (e : Environment) (k : Kind) (g : Given) → IsNodeTable t → AreGiven (wholes_in t) e → given_to e k ≡ Some g →
    StandsFor (wholes_in t) g.number (one_symbol (unplaced_kind (kind_whole (wholes_in t) e k)))
bound_number t e k g h given f =
    let b = bound_is (wholes_in t) e k g given f in
    b.given.stands ∙ ap (λ (l : Kind). Some (one_symbol l)) (sym (ap unplaced_kind b.whole ∙ h.bare g.number (one_symbol (kind_at (wholes_in t) g.number)) b.given.stands))

-- ---- a symbol that is no argument's name

pub text_kept : (ws : List Whole) (e : Environment) (s : Span) (k : Kind) → AreGiven ws e → given_to e k ≡ None →
    own_text (at nowhere (unplaced_kind (kind_whole ws e k))) ≡ own_text (at s (kind_shown e k))
text_kept ws e s (group ps) h f = ap Some (kind_text_unplaced (kind_whole ws e (group ps)) ∙ sym (shown_text ws e h (group ps)))
text_kept ws e s (call n ps) h f = ap Some (kind_text_unplaced (kind_whole ws e (call n ps)) ∙ sym (shown_text ws e h (call n ps)))
text_kept ws e s (repeated op q) h f = ap Some (kind_text_unplaced (kind_whole ws e (repeated op q)) ∙ sym (shown_text ws e h (repeated op q)))
text_kept ws e s (nonterminal n) h f =
    ap (λ (o : Option Given). own_text (at nowhere (unplaced_kind (or_name n (option_map (λ x. kind_at ws x.number) o))))) f
    ∙ sym (ap (λ (o : Option Given). own_text (at s (inside_replaced (or_name n (option_map (λ x. kind_view x.symbol.kind) o))))) f)
text_kept ws e s _ h f = refl

pub value_kept : (e : Environment) (s : Symbol) → topped (at s.span (kind_shown e (kind_view s.kind))) ≡ read_shown e (symbol_view s)
value_kept e s = ap (at s.span) (topped_inside (filled_kind (shown_for e) (kind_view s.kind))) ∙ sym (shown_at e s)
