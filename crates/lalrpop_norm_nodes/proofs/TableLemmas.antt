-- A table with one more node.
use Rattle.std.proofs.Common.{◌≡◌, ℕ, Bool, true, false, cond, List, [], ◌∷◌, ◌++◌, map, length, Option, Some, None, option_map, option_and_then, slice_get, Result, Ok, Err, bytes_eq, nat_eq, is_some, ◌≤◌, arith, refl, sym, ap, ap₂, ◌∙◌, subst, append-nil, Vec, Global}
use Rattle.std.specs.Prelude.{not, ◌||◌, OnOk}
use Rattle.std.specs.List.{flat_map}
use Rattle.std.proofs.lemmas.Bool.{and_from}
use Rattle.std.proofs.lemmas.List.{map-append, length-append, length-map}
use Rattle.std.proofs.lemmas.Option.{slice_get-map}
use Rattle.lalrpop_norm_tree.specs.Symbols.{Kind, Part, at, symbol_view}
use Rattle.lalrpop_norm_tree.specs.SymbolTexts.{part_text}
use Rattle.lalrpop_norm_model.specs.PlainRules.{same_apart_from_spans}
use Rattle.lalrpop_norm_theory.proofs.BoolLemmas.{both_false}
use Rattle.lalrpop_norm_model.specs.Replaced.{is_desugared}
use Rattle.lalrpop_norm_nodes.specs.Apart.{nowhere, unplaced}
use Rattle.lalrpop_norm_nodes.specs.Meeting.{first_with_text, was_met, were_met, has_key}
use Rattle.lalrpop_norm_nodes.proofs.SamenessLemmas.{closed_same}
use Rattle.lalrpop_norm_nodes.proofs.InwardLemmas.{met_by, all_stay, were_both}
use Rattle.lalrpop_norm_nodes.proofs.FirstLemmas.{first_at}
use Rattle.lalrpop_norm_nodes.specs.declared.node.Node.{Node}
use Rattle.lalrpop_norm_nodes.specs.Wholes.{Whole, one_symbol, symbols, one_pattern, patterns, built, Fits, StandsFor, texts_of, AreNodes, EntersPlain, stood, came_last, Grows}
use Rattle.lalrpop_norm_nodes.specs.declared.table.Table.{Table}
use Rattle.lalrpop_norm_nodes.specs.Tables.{wholes_in, own_in, own_text_in, met_of, inner_of, IsBare, IsNodeTable, TableMeets, seen_in, is_declared_in, text_noted}
use Rattle.std.specs.HashMap.{get}
use Rattle.std.specs.Cmp.Lexicographic.{pointwise}
use Rattle.lalrpop_norm_nodes.specs.declared.table.Waiting.{Waiting}
use Rattle.lalrpop_norm_nodes.specs.Tables.{IsNumbered}
use Rattle.lalrpop_norm_nodes.proofs.RowLemmas.{Behind, before, last, slice_behind, slice_kept}
use Rattle.lalrpop_norm_nodes.proofs.WholeLemmas.{met_split, inner_met, bare_built, seen_more, none_made, Made, one_made}

-- ---- a table with one more node

first_or : (t : List ℕ) (seen : List Part) (x : Part) → is_some (first_with_text t (seen ++ x ∷ [])) ≡ (is_some (first_with_text t seen) || bytes_eq (part_text x) t)
first_or t [] x = by (bytes_eq (part_text x) t)
  where
    by : (b : Bool) → is_some (cond b (Some x) None) ≡ (false || b)
    by true = refl
    by false = refl
first_or t (y ∷ seen) x = by (bytes_eq (part_text y) t) (first_or t seen x)
  where
    by : (b : Bool) → is_some (first_with_text t (seen ++ x ∷ [])) ≡ (is_some (first_with_text t seen) || bytes_eq (part_text x) t)
        → is_some (cond b (Some y) (first_with_text t (seen ++ x ∷ []))) ≡ (is_some (cond b (Some y) (first_with_text t seen)) || bytes_eq (part_text x) t)
    by true h = refl
    by false h = h

noted_more : {A : Type 0} (b : Bool) (i : ℕ) (g : Option ℕ) (f : Option A) → is_some g ≡ is_some f → is_some (cond b (Some i) g) ≡ (is_some f || b)
noted_more true i g None h = refl
noted_more true i g (Some y) h = refl
noted_more false i g None h = h
noted_more false i g (Some y) h = h

-- a symbol on the worklist keeps its id
numbered_stays : (ws vs : List Whole) (w : Waiting) → Grows ws vs → IsNumbered ws w → IsNumbered vs w
numbered_stays ws vs w (more, e) h = by (slice_get ws w.number) refl h
  where
    by : (o : Option Whole) → slice_get ws w.number ≡ o → option_and_then own_text_in o ≡ Some (part_text (symbol_view w.symbol)) → IsNumbered vs w
    by None f k = absurd (cc k)
    by (Some x) f k = ap (λ (us : List Whole). option_and_then own_text_in (slice_get us w.number)) e ∙ ap (option_and_then own_text_in) (slice_kept ws more w.number x f) ∙ k

module _ (a b : Table) (n : Node) (h : IsNodeTable a) (fit : Fits (wholes_in a) n) (nm : b.names ≡ a.names) (nodes : AreNodes b.nodes)
    (ws : wholes_in b ≡ wholes_in a ++ built (wholes_in a) n ∷ []) where
  abbrev added : Whole
  added = built (wholes_in a) n

  bare_more : (i : ℕ) (v : Whole) → StandsFor (wholes_in b) i v → IsBare v
  bare_more i v e = by (slice_behind (wholes_in a) added i v (subst (λ (vs : List Whole). StandsFor vs i v) ws e))
    where
      by : Behind (wholes_in a) added i v → IsBare v
      by (before k) = h.bare i v k
      by (last k l) = subst IsBare (sym l) (bare_built (wholes_in a) h.bare n fit)

  texts_more : (t : Option (List ℕ)) → texts_of b.nodes ≡ texts_of a.nodes ++ t ∷ [] → own_text_in added ≡ t → texts_of b.nodes ≡ map own_text_in (wholes_in b)
  texts_more t e k =
      e ∙ ap₂ (λ (ts : List (Option (List ℕ))) (u : Option (List ℕ)). ts ++ u ∷ []) h.texts (sym k)
      ∙ sym (map-append own_text_in (wholes_in a) (added ∷ [])) ∙ ap (map own_text_in) (sym ws)

  waiting_kept : b.waiting ≡ a.waiting → (i : ℕ) (w : Waiting) → slice_get b.waiting.items i ≡ Some w → IsNumbered (wholes_in b) w
  waiting_kept same i w e =
      numbered_stays (wholes_in a) (wholes_in b) w (added ∷ [], ws)
      (h.waiting i w (ap (λ (v : Vec Waiting Global). slice_get v.items i) (sym same) ∙ e))

  seen_is : seen_in b ≡ seen_in a ++ own_in added
  seen_is = ap (flat_map own_in) ws ∙ seen_more (wholes_in a) added

  -- made into no rule
  pub plain_table : b.waiting ≡ a.waiting → b.places ≡ a.places → texts_of b.nodes ≡ texts_of a.nodes ++ None ∷ [] → own_text_in added ≡ None → TableMeets a b []
  plain_table wt pl tx plain = record {
    seen = ap (map unplaced) same;
    names = nm;
    grows = (added ∷ [], ws);
    table = record {
      nodes = nodes;
      texts = texts_more None tx plain;
      bare = bare_more;
      met = λ i v e. ap₂ (λ (ns : List ℕ → Bool) (ss : List Part). were_met ns ss (met_of v)) (ap has_key nm) same ∙ by i v (slice_behind (wholes_in a) added i v (subst (λ (vs : List Whole). StandsFor vs i v) ws e));
      places = λ x. ap (λ p. is_some (get (pointwise nat_eq) p x)) pl ∙ h.places x ∙ ap (λ (ss : List Part). is_some (first_with_text x ss)) (sym same);
      waiting = waiting_kept wt;
    };
  }
    where
      same : seen_in b ≡ seen_in a
      same = seen_is ∙ ap (λ (xs : List Part). seen_in a ++ xs) (none_made added plain) ∙ append-nil (seen_in a)

      by : (i : ℕ) (v : Whole) → Behind (wholes_in a) added i v → were_met (is_declared_in a) (seen_in a) (met_of v) ≡ true
      by i v (before k) = h.met i v k
      by i v (last k l) =
          ap (λ (u : Whole). were_met (is_declared_in a) (seen_in a) (met_of u)) l
          ∙ ap (were_met (is_declared_in a) (seen_in a)) (met_split added ∙ ap (λ (xs : List Part). inner_of added ++ xs) (none_made added plain) ∙ append-nil (inner_of added))
          ∙ inner_met (is_declared_in a) (wholes_in a) (seen_in a) h.met n fit

  -- desugared of that text
  pub made_table : b.waiting ≡ a.waiting → (t : List ℕ) (i : ℕ) → own_text_in added ≡ Some t → texts_of b.nodes ≡ texts_of a.nodes ++ Some t ∷ [] →
      first_with_text t (seen_in a) ≡ None → is_declared_in a t ≡ false →
      ((x : List ℕ) → text_noted b x ≡ cond (bytes_eq t x) (Some i) (text_noted a x)) → IsNodeTable b
  made_table wt t i some tx first free pl = record {
    nodes = nodes;
    texts = texts_more (Some t) tx some;
    bare = bare_more;
    met = λ j v e. ap₂ (λ (ns : List ℕ → Bool) (ss : List Part). were_met ns ss (met_of v)) (ap has_key nm) seen_now ∙ by j v (slice_behind (wholes_in a) added j v (subst (λ (vs : List Whole). StandsFor vs j v) ws e));
    places = λ y.
        ap is_some (pl y) ∙ noted_more (bytes_eq t y) i (text_noted a y) (first_with_text y (seen_in a)) (h.places y)
        ∙ ap (λ (u : List ℕ). is_some (first_with_text y (seen_in a)) || bytes_eq u y) m.text
        ∙ sym (ap (λ (ss : List Part). is_some (first_with_text y ss)) seen_now ∙ first_or y (seen_in a) x);
    waiting = waiting_kept wt;
  }
    where
      m : Made added t
      m = one_made added t some

      x : Part
      x = at nowhere m.kind

      seen_now : seen_in b ≡ seen_in a ++ x ∷ []
      seen_now = seen_is ∙ ap (λ (xs : List Part). seen_in a ++ xs) (m.at_place nowhere)

      here : was_met (is_declared_in a) (seen_in a ++ x ∷ []) x ≡ true
      here = met_by (is_declared_in a) (seen_in a ++ x ∷ []) x (record {
        one = x;
        is_first = first_at (seen_in a) x (ap (λ (u : List ℕ). first_with_text u (seen_in a)) (sym m.text) ∙ first);
        free = both_false (is_declared_in a (part_text x)) (not (same_apart_from_spans x x)) (ap (is_declared_in a) (sym m.text) ∙ free) (ap not (closed_same x x refl));
      })

      by : (j : ℕ) (v : Whole) → Behind (wholes_in a) added j v → were_met (is_declared_in a) (seen_in a ++ x ∷ []) (met_of v) ≡ true
      by j v (before k) = all_stay (is_declared_in a) (seen_in a) (x ∷ []) (met_of v) (h.met j v k)
      by j v (last k l) =
          ap (λ (u : Whole). were_met (is_declared_in a) (seen_in a ++ x ∷ []) (met_of u)) l
          ∙ ap (were_met (is_declared_in a) (seen_in a ++ x ∷ [])) (met_split added ∙ ap (λ (xs : List Part). inner_of added ++ xs) (m.at_place nowhere))
          ∙ were_both (is_declared_in a) (seen_in a ++ x ∷ []) (inner_of added) (x ∷ [])
          (all_stay (is_declared_in a) (seen_in a) (x ∷ []) (inner_of added) (inner_met (is_declared_in a) (wholes_in a) (seen_in a) h.met n fit))
          (and_from _ _ here refl)

-- ---- a node that is not desugared

pub entered_meets : (a b : Table) (n : Node) → IsNodeTable a → Fits (wholes_in a) n → own_text_in (built (wholes_in a) n) ≡ None → AreNodes b.nodes → b.names ≡ a.names →
    b.waiting ≡ a.waiting → b.places ≡ a.places → EntersPlain a.nodes b.nodes (built (wholes_in a) n) → TableMeets a b []
entered_meets a b n h fit plain nodes names waiting places (came_last ws texts) = plain_table a b n h fit names nodes ws waiting places texts plain
entered_meets a b n h fit plain nodes names waiting places (stood ws texts) = record {
  seen = ap (λ (vs : List Whole). map unplaced (flat_map own_in vs)) ws;
  names = names;
  grows = ([], ws ∙ sym (append-nil (wholes_in a)));
  table = record {
    nodes = nodes;
    texts = texts ∙ h.texts ∙ ap (map own_text_in) (sym ws);
    bare = λ i v e. h.bare i v (stands i v e);
    met = λ i v e. ap₂ (λ ns vs. were_met (has_key ns) (flat_map own_in vs) (met_of v)) names ws ∙ h.met i v (stands i v e);
    places = λ x. ap (λ p. is_some (get (pointwise nat_eq) p x)) places ∙ h.places x ∙ ap (λ (vs : List Whole). is_some (first_with_text x (flat_map own_in vs))) (sym ws);
    waiting = λ i w e. subst (λ vs. IsNumbered vs w) (sym ws) (h.waiting i w (ap (λ (v : Vec Waiting Global). slice_get v.items i) (sym waiting) ∙ e));
  };
}
  where
    stands : (i : ℕ) (v : Whole) → StandsFor (wholes_in b) i v → StandsFor (wholes_in a) i v
    stands i v e = subst (λ vs. StandsFor vs i v) ws e

-- ---- a symbol on the worklist

pub waiting_more : (a : Table) (v : Vec Waiting Global) (w : Waiting) → IsNodeTable a → v.items ≡ a.waiting.items ++ w ∷ [] → IsNumbered (wholes_in a) w →
    let b : Table = record { names = a.names; nodes = a.nodes; places = a.places; made = a.made; waiting = v; no_symbols = a.no_symbols } in IsNodeTable b
waiting_more a v w h more numbered = record {
  nodes = h.nodes;
  texts = h.texts;
  bare = h.bare;
  met = h.met;
  places = h.places;
  waiting = λ i x e. by i x (slice_behind a.waiting.items w i x (ap (λ (xs : List Waiting). slice_get xs i) (sym more) ∙ e));
}
  where
    by : (i : ℕ) (x : Waiting) → Behind a.waiting.items w i x → IsNumbered (wholes_in a) x
    by i x (before k) = h.waiting i x k
    by i x (last k l) = subst (λ (y : Waiting). IsNumbered (wholes_in a) y) (sym l) numbered

pub waiting_none : (a : Table) (v : Vec Waiting Global) → IsNodeTable a → v.items ≡ [] →
    let b : Table = record { names = a.names; nodes = a.nodes; places = a.places; made = a.made; waiting = v; no_symbols = a.no_symbols } in IsNodeTable b
waiting_none a v h none = record {
  nodes = h.nodes;
  texts = h.texts;
  bare = h.bare;
  met = h.met;
  places = h.places;
  waiting = λ i w e. absurd (nothing i w (ap (λ (xs : List Waiting). slice_get xs i) (sym none) ∙ e));
}
  where
    nothing : (i : ℕ) (w : Waiting) → slice_get [] i ≡ Some w → ⊥
    nothing i w e = cc e

-- ---- no more symbols than nodes

few_made : (w : Whole) → length (own_in w) ≤ 1
few_made (symbols ps) = omega arith
few_made (one_pattern p) = omega arith
few_made (patterns ps) = omega arith
few_made (one_symbol k) = by (is_desugared k)
  where
    by : (b : Bool) → length (cond b (at nowhere k ∷ []) []) ≤ 1
    by true = omega arith
    by false = omega arith

few : (ws : List Whole) → length (flat_map own_in ws) ≤ length ws
few [] = omega arith
few (w ∷ ws) = omega (arith, few_made w, few ws, length-append (own_in w) (flat_map own_in ws))

pub few_seen : (t : Table) → IsNodeTable t → length (seen_in t) ≤ length t.nodes.rows.entries
few_seen t h = omega (arith, few (wholes_in t), h.nodes.long, length-map t.nodes.rows.entries (λ e. e.0))

-- the text of a number
joined : {A : Type 0} → Option (Option A) → Option A
joined None = None
joined (Some o) = o

then_joined : {A B : Type 0} (f : A → Option B) (o : Option A) → option_and_then f o ≡ joined (option_map f o)
unfolding joined
then_joined f None = refl
then_joined f (Some x) = refl

pub text_found : (t : Table) (i : ℕ) (o : Option (Node × Option (List ℕ))) → IsNodeTable t → o ≡ slice_get t.nodes.rows.entries i →
    option_and_then (λ e. e.1) o ≡ option_and_then own_text_in (slice_get (wholes_in t) i)
text_found t i o h e =
    ap (option_and_then (λ e. e.1)) e
    ∙ then_joined (λ e. e.1) (slice_get t.nodes.rows.entries i)
    ∙ ap joined (sym (slice_get-map (λ e. e.1) t.nodes.rows.entries i) ∙ ap (λ ts. slice_get ts i) h.texts ∙ slice_get-map own_text_in (wholes_in t) i)
    ∙ sym (then_joined own_text_in (slice_get (wholes_in t) i))

-- ---- answers

pub on_ok_both : {A E : Type 0} (r : Result A E) (P Q R : Type 0) → (P → Q → R) → OnOk r P → OnOk r Q → OnOk r R
on_ok_both (Ok x) P Q R f p q = f p q
on_ok_both (Err e) P Q R f p q = tt
