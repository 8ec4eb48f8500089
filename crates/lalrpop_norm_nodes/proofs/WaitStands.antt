-- The ids of the symbols on the worklist stand for these.
use Rattle.std.proofs.Common.{◌≡◌, inl, inr, ℕ, suc, List, [], ◌∷◌, ◌++◌, true, map, Option, Some, None, slice_get, option_and_then, refl, sym, ap, ap₂, ◌∙◌}
use Rattle.std.proofs.lemmas.Bool.{and_parts}
use Rattle.lalrpop_norm_tree.specs.Symbols.{Kind, Part, at, kind_view, symbol_view}
use Rattle.lalrpop_norm_tree.specs.SymbolTexts.{part_text}
use Rattle.lalrpop_norm_tree.proofs.SymbolViews.{seen_at}
use Rattle.lalrpop_norm_theory.specs.Rounds.{In}
use Rattle.lalrpop_norm_model.specs.MadeRules.{kind_of}
use Rattle.lalrpop_norm_model.specs.Replaced.{replaced}
use Rattle.lalrpop_norm_nodes.specs.Apart.{nowhere, unplaced_kind, unplaced}
use Rattle.lalrpop_norm_nodes.specs.Meeting.{first_with_text, was_met, were_met}
use Rattle.lalrpop_norm_nodes.specs.declared.table.Table.{Table}
use Rattle.lalrpop_norm_nodes.specs.declared.table.Waiting.{Waiting}
use Rattle.lalrpop_norm_nodes.specs.Filled.{inside_replaced}
use Rattle.lalrpop_norm_nodes.specs.NodeParts.{IsWaiting, AreWaiting}
use Rattle.lalrpop_norm_nodes.specs.Tables.{wholes_in, seen_in, is_declared_in, own_text_in, inner_of, own_in, IsNumbered, AreNumbered, IsNodeTable}
use Rattle.lalrpop_norm_nodes.specs.Waits.{parts_replaced}
use Rattle.lalrpop_norm_nodes.specs.Wholes.{Whole, one_symbol, kind_at, as_kind, StandsFor}
use Rattle.lalrpop_norm_nodes.proofs.MeetLemmas.{were_right}
use Rattle.lalrpop_norm_nodes.proofs.RowItems.{is_kind}
use Rattle.lalrpop_norm_nodes.proofs.ShallowMeetings.{parts_text}
use Rattle.lalrpop_norm_nodes.proofs.ShallowRounds.{text_tells}
use Rattle.lalrpop_norm_nodes.proofs.TwiceLemmas.{inside_bare, inside_twice}
use Rattle.lalrpop_norm_nodes.proofs.WholeLemmas.{met_split, Made, one_made}

kind_of_parts : (p : Part) → kind_of (parts_replaced p) ≡ inside_replaced (kind_of p)
kind_of_parts (at s k) = refl

unplaced_is : (p : Part) → unplaced p ≡ at nowhere (unplaced_kind (kind_of p))
unplaced_is (at s k) = refl

-- ---- a symbol on the worklist

module _ (t : Table) (h : IsNodeTable t) (start : List Part) (same : map unplaced (seen_in t) ≡ map unplaced start) where
  -- what has a number was reached
  stands_was_met : (i : ℕ) (w : Whole) (x : List ℕ) → StandsFor (wholes_in t) i w → (m : Made w x) → was_met (is_declared_in t) (seen_in t) (at nowhere m.kind) ≡ true
  stands_was_met i w x e m =
      let all : were_met (is_declared_in t) (seen_in t) (inner_of w ++ own_in w) ≡ true =
      ap (were_met (is_declared_in t) (seen_in t)) (sym (met_split w)) ∙ h.met i w e in
      let own_met : were_met (is_declared_in t) (seen_in t) (own_in w) ≡ true = were_right (is_declared_in t) (seen_in t) (inner_of w) (own_in w) all in
      (and_parts _ _ (ap (were_met (is_declared_in t) (seen_in t)) (sym (m.at_place nowhere)) ∙ own_met)).0

  record Stands (w : Waiting) (p : Part) : Type 0 where
    whole : StandsFor (wholes_in t) w.number (one_symbol (unplaced_kind (kind_of p)))

  stands_by : (w : Waiting) (p : Part) (o : Option Whole) → slice_get (wholes_in t) w.number ≡ o → option_and_then own_text_in o ≡ Some (part_text p) →
      first_with_text (part_text p) start ≡ Some p → Stands w p
  stands_by w p None e f first = absurd (cc f)
  stands_by w p (Some v) e f first =
      let m : Made v (part_text p) = one_made v (part_text p) f in
      let bare : unplaced_kind m.kind ≡ m.kind = h.bare w.number (one_symbol m.kind) (e ∙ ap Some m.is) in
      let told : at nowhere m.kind ≡ unplaced p =
      text_tells (is_declared_in t) (seen_in t) start m.kind p same bare (stands_was_met w.number v (part_text p) e m) (sym m.text) first in
      let kinds : m.kind ≡ unplaced_kind (kind_of p) = ap kind_of (told ∙ unplaced_is p) in
      record { whole = e ∙ ap Some m.is ∙ ap (λ (k : Kind). Some (one_symbol k)) kinds }

  -- its number stands for it
  pub record IsOf (w : Waiting) (p : Part) : Type 0 where
    pub waiting : IsWaiting (wholes_in t) w
    pub whole : kind_at (wholes_in t) w.number ≡ unplaced_kind (kind_of p)

  pub waiting_is : (w : Waiting) (p : Part) → IsNumbered (wholes_in t) w → symbol_view w.symbol ≡ parts_replaced p → first_with_text (part_text p) start ≡ Some p → IsOf w p
  waiting_is w p numbered view first =
      let text : part_text (symbol_view w.symbol) ≡ part_text p = ap part_text view ∙ parts_text p in
      let s : Stands w p = stands_by w p (slice_get (wholes_in t) w.number) refl (numbered ∙ ap Some text) first in
      let kind : kind_view w.symbol.kind ≡ inside_replaced (kind_of p) = ap kind_of (sym (seen_at w.symbol) ∙ view) ∙ kind_of_parts p in
      let at_number : kind_at (wholes_in t) w.number ≡ unplaced_kind (kind_of p) = ap as_kind s.whole in
      record {
        waiting = (
          numbered,
          record {
            stands = is_kind (wholes_in t) w.number (unplaced_kind (kind_of p)) s.whole;
            same =
                ap unplaced_kind kind ∙ sym (inside_bare (kind_of p))
                ∙ ap (λ (k : Kind). unplaced_kind (inside_replaced k)) (sym at_number);
            replaced = ap inside_replaced kind ∙ inside_twice (kind_of p) ∙ sym kind;
          },
        );
        whole = at_number;
      }

  abbrev pub with_number : Waiting → Kind × Part
  with_number w = (kind_at (wholes_in t) w.number, symbol_view w.symbol)

  abbrev pub with_whole : Part → Kind × Part
  with_whole p = (unplaced_kind (kind_of p), parts_replaced p)

  pub waiting_are : (xs : List Waiting) (ps : List Part) → map (λ w. symbol_view w.symbol) xs ≡ map parts_replaced ps → AreNumbered (wholes_in t) xs →
      ((p : Part) → In p ps → first_with_text (part_text p) start ≡ Some p) → AreWaiting (wholes_in t) xs × (map with_number xs ≡ map with_whole ps)
  waiting_are [] [] e numbered first = (tt, refl)
  waiting_are [] (p ∷ ps) e numbered first = absurd (cc e)
  waiting_are (w ∷ xs) [] e numbered first = absurd (cc e)
  waiting_are (w ∷ xs) (p ∷ ps) e numbered first =
      let view : symbol_view w.symbol ≡ parts_replaced p = heads (symbol_view w.symbol) (parts_replaced p) (map (λ v. symbol_view v.symbol) xs) (map parts_replaced ps) e in
      let here : IsOf w p = waiting_is w p (numbered 0 w refl) view (first p (inl refl)) in
      let rest = waiting_are xs ps (tails (symbol_view w.symbol) (parts_replaced p) (map (λ v. symbol_view v.symbol) xs) (map parts_replaced ps) e) (λ i v f. numbered (suc i) v f) (λ q i. first q (inr i)) in
      ((here.waiting, rest.0), ap₂ (λ (x : Kind × Part) (ys : List (Kind × Part)). x ∷ ys) (ap₂ (λ (k : Kind) (q : Part). (k, q)) here.whole view) rest.1)
    where
      heads : (u v : Part) (us vs : List Part) → u ∷ us ≡ v ∷ vs → u ≡ v
      heads u v us vs h = cc

      tails : (u v : Part) (us vs : List Part) → u ∷ us ≡ v ∷ vs → us ≡ vs
      tails u v us vs h = cc
