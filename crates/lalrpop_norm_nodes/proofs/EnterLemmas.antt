-- A symbol that is interned: it is there already, or it is new.
use Rattle.std.proofs.Common.{◌≡◌, ℕ, ◌+◌, length, length-append, Bool, true, false, List, [], ◌∷◌, ◌++◌, map, Option, Some, None, Result, is_some, refl, sym, ap, ap₂, ◌∙◌, subst, append-nil, Vec, Global, slice_get, option_and_then}
use Rattle.std.specs.Prelude.{not, ◌||◌}
use Rattle.std.specs.List.{flat_map}
use Rattle.std.proofs.lemmas.Bool.{and_parts, and_from}
use Rattle.std.proofs.lemmas.List.{map-append}
use Rattle.std.specs.Result.{IsErrAnd}
use Rattle.lalrpop_norm_faults.specs.declared.failure.NormFailure.{NormFailure}
use Rattle.lalrpop_norm_faults.specs.Faults.{Fault, fault_if, IsFirst, Refuses}
use Rattle.lalrpop_norm_nodes.proofs.MeetingLemmas.{err_refuses}
use Rattle.lalrpop_norm_faults.specs.declared.kind.FaultKind.TheVariants.{SharedName}
use Rattle.lalrpop_norm_tree_names.specs.declared.names.Span.{Span}
use Rattle.lalrpop_norm_tree.specs.Symbols.{Kind, Part, at, symbol_view}
use Rattle.lalrpop_norm_model.specs.PlainRules.{same_apart_from_spans}
use Rattle.lalrpop_norm_nodes.specs.Apart.{nowhere, unplaced_kind, unplaced}
use Rattle.lalrpop_norm_nodes.specs.Meeting.{first_with_text, joined_by, after, differs, were_met}
use Rattle.lalrpop_norm_nodes.proofs.ApartLemmas.{unplaced_same}
use Rattle.lalrpop_norm_nodes.proofs.InwardLemmas.{quiet, same_met}
use Rattle.lalrpop_norm_nodes.specs.declared.node.Node.{Node}
use Rattle.lalrpop_norm_nodes.specs.Wholes.{Whole, one_symbol, as_kind, part_at, built, Fits, StandsFor, IsNew, Grows, wholes}
use Rattle.lalrpop_norm_nodes.specs.declared.node.Nodes.{Nodes}
use Rattle.lalrpop_norm_nodes.specs.declared.table.Table.{Table}
use Rattle.lalrpop_norm_nodes.specs.Tables.{wholes_in, own_at, own_in, own_text_in, inner_of, IsBare, IsNodeTable, IsCounted, TableMeets, seen_in, is_declared_in, refused_in}
use Rattle.lalrpop_norm_nodes.proofs.MeetLemmas.{were_right}
use Rattle.lalrpop_norm_nodes.proofs.WholeLemmas.{met_split, bare_built, Made, one_made, Standing, seen_stands}
use Rattle.lalrpop_norm_nodes.specs.declared.table.Waiting.{Waiting}
use Rattle.lalrpop_norm_nodes.specs.declared.texts.Counter.{Counter}
use Rattle.lalrpop_norm_nodes.specs.Tables.{waiting_in, numbered_in}
use Rattle.lalrpop_norm_nodes.specs.Waits.{LeavesWaiting}
use Rattle.lalrpop_norm_nodes.proofs.WaitLemmas.{waits_seen, waits_new}
use Rattle.lalrpop_norm_nodes.proofs.WaitNumbers.{numbers_stay}
use Rattle.lalrpop_norm_tree.specs.SymbolTexts.{part_text, kind_text}

-- ---- a symbol that is there already

pub stands_met : (t : Table) (w : Whole) (i : ℕ) (x : List ℕ) (s : Span) → IsNodeTable t → StandsFor (wholes_in t) i w → own_text_in w ≡ Some x →
    (refused_in t (own_at s w) ≡ []) × TableMeets t t (own_at s w)
stands_met t w i x s h e some =
    let m = one_made w x some in
    let all : were_met (is_declared_in t) (seen_in t) (inner_of w ++ own_in w) ≡ true =
    ap (were_met (is_declared_in t) (seen_in t)) (sym (met_split w)) ∙ h.met i w e in
    let own_met : were_met (is_declared_in t) (seen_in t) (own_in w) ≡ true = were_right (is_declared_in t) (seen_in t) (inner_of w) (own_in w) all in
    let bare : were_met (is_declared_in t) (seen_in t) (at nowhere m.kind ∷ []) ≡ true = ap (were_met (is_declared_in t) (seen_in t)) (sym (m.at_place nowhere)) ∙ own_met in
    let here : were_met (is_declared_in t) (seen_in t) (at s m.kind ∷ []) ≡ true =
    and_from _ _ (same_met (is_declared_in t) (seen_in t) (at nowhere m.kind) (at s m.kind) refl (and_parts _ _ bare).0) refl in
    let still = quiet (is_declared_in t) (seen_in t) (at s m.kind ∷ []) here in (
      ap (refused_in t) (m.at_place s) ∙ still.0,
      record {
        seen = ap (map unplaced) (sym (ap (after (seen_in t)) (m.at_place s) ∙ still.1));
        names = refl;
        grows = ([], sym (append-nil (wholes_in t)));
        table = h;
      },
    )

-- ---- a symbol that is new

module _ (t : Table) (w : Whole) (x : List ℕ) (h : IsNodeTable t) (some : own_text_in w ≡ Some x) (bare : IsBare w) (new : IsNew (wholes_in t) w) where
  m : Made w x
  m = one_made w x some

  -- none that was reached is the same
  another : (y : Part) → first_with_text x (seen_in t) ≡ Some y → (s : Span) → same_apart_from_spans y (at s m.kind) ≡ false
  another y e s = by (same_apart_from_spans y (at s m.kind)) refl (seen_stands x (wholes_in t) y e)
    where
      flat : unplaced_kind m.kind ≡ m.kind
      flat = subst IsBare m.is bare

      by : (b : Bool) → same_apart_from_spans y (at s m.kind) ≡ b → Standing (wholes_in t) y → b ≡ false
      by false f g = refl
      by true f g =
          let same : unplaced y ≡ at nowhere (unplaced_kind m.kind) = unplaced_same y (at s m.kind) f in
          let there : at nowhere (unplaced_kind g.kind) ≡ at nowhere (unplaced_kind m.kind) = ap unplaced (sym g.is) ∙ same in
          let kinds : unplaced_kind g.kind ≡ unplaced_kind m.kind = cc there in
          let one : g.kind ≡ m.kind = sym (t_bare g) ∙ kinds ∙ flat in
          absurd (new g.number (g.stands ∙ ap (λ (k : Kind). Some (one_symbol k)) one ∙ ap Some (sym m.is)))
        where
          t_bare : (g : Standing (wholes_in t) y) → unplaced_kind g.kind ≡ g.kind
          t_bare g = h.bare g.number (one_symbol g.kind) g.stands

  differ : (o : Option Part) (s : Span) → first_with_text x (seen_in t) ≡ o → differs o (at s m.kind) ≡ is_some o
  differ None s e = refl
  differ (Some y) s e = ap not (another y e s)

  -- it is an error where its text is taken
  pub clash_is : (s : Span) → refused_in t (own_at s w) ≡ fault_if (is_declared_in t x || is_some (first_with_text x (seen_in t))) (SharedName, s)
  clash_is s =
      ap (refused_in t) (m.at_place s)
      ∙ ap (λ (u : List ℕ). fault_if (is_declared_in t u || differs (first_with_text u (seen_in t)) (at s m.kind)) (SharedName, s) ++ []) (sym m.text)
      ∙ append-nil _
      ∙ ap (λ (b : Bool). fault_if (is_declared_in t x || b) (SharedName, s)) (differ (first_with_text x (seen_in t)) s refl)

  -- where it is not, it is one more
  pub one_more : (s : Span) → first_with_text x (seen_in t) ≡ None → map unplaced (seen_in t ++ own_in w) ≡ map unplaced (after (seen_in t) (own_at s w))
  one_more s first =
      ap (λ (xs : List Part). map unplaced (seen_in t ++ xs)) (m.at_place nowhere)
      ∙ map-append unplaced (seen_in t) (at nowhere m.kind ∷ [])
      ∙ sym (map-append unplaced (seen_in t) (at s m.kind ∷ []))
      ∙ ap (map unplaced) (sym joined)
    where
      joined : after (seen_in t) (own_at s w) ≡ seen_in t ++ at s m.kind ∷ []
      joined =
          ap (after (seen_in t)) (m.at_place s)
          ∙ ap (λ (u : List ℕ). joined_by (first_with_text u (seen_in t)) (seen_in t) (at s m.kind)) (sym m.text)
          ∙ ap (λ (o : Option Part). joined_by o (seen_in t) (at s m.kind)) first

pub free_none : {A : Type 0} (b : Bool) (o : Option A) (f : Fault) → fault_if (b || is_some o) f ≡ [] → o ≡ None
free_none b None f e = refl
free_none true (Some x) f e = absurd (cc e)
free_none false (Some x) f e = absurd (cc e)

pub free_name : {A : Type 0} (b : Bool) (o : Option A) (f : Fault) → fault_if (b || is_some o) f ≡ [] → b ≡ false
free_name false o f e = refl
free_name true o f e = absurd (cc e)

-- a table whose texts alone were counted
pub counted_alone : (a b : Table) → IsNodeTable a → b.names ≡ a.names → b.nodes ≡ a.nodes → b.places ≡ a.places → b.waiting ≡ a.waiting → IsNodeTable b
counted_alone a b h names nodes places waiting =
    let here : IsNodeTable (record a { made = b.made; no_symbols = b.no_symbols }) =
    record { nodes = h.nodes; texts = h.texts; bare = h.bare; met = h.met; places = h.places; waiting = h.waiting } in
    subst (λ v. IsNodeTable (record b { waiting = v })) (sym waiting)
    (subst (λ v. IsNodeTable (record b { places = v; waiting = a.waiting })) (sym places)
    (subst (λ v. IsNodeTable (record b { nodes = v; places = a.places; waiting = a.waiting })) (sym nodes)
    (subst (λ v. IsNodeTable (record a { names = v; made = b.made; no_symbols = b.no_symbols })) (sym names) here)))

-- one more text was made, and one more symbol put
pub counted_made : (a f b d : Table) (n : Node) (x : List ℕ) → IsCounted a → own_text_in (built (wholes_in a) n) ≡ Some x → f.nodes ≡ a.nodes → f.made.count ≡ a.made.count + 1 →
    b.made ≡ f.made → seen_in b ≡ seen_in f ++ own_in (built (wholes_in f) n) → d.nodes ≡ b.nodes → d.made ≡ b.made → IsCounted d
counted_made a f b d n x h some nodes made kept seen more same =
    ap (λ (c : Counter). c.count) (same ∙ kept) ∙ made ∙ ap (λ (k : ℕ). k + 1) h
    ∙ sym (ap (λ (ns : Nodes). length (flat_map own_in (wholes ns))) more
    ∙ ap length (seen ∙ ap (λ (ns : Nodes). flat_map own_in (wholes ns) ++ own_in (built (wholes ns) n)) nodes ∙ ap (λ (xs : List Part). seen_in a ++ xs) ((one_made (built (wholes_in a) n) x some).at_place nowhere))
    ∙ length-append (seen_in a) _)

-- a new symbol is put, once its text is made
pub made_meets : (a b d : Table) (n : Node) (x : List ℕ) (s : Span) → IsNodeTable a → Fits (wholes_in a) n → IsNew (wholes_in a) (built (wholes_in a) n) →
    own_text_in (built (wholes_in a) n) ≡ Some x → first_with_text x (seen_in a) ≡ None → b.nodes ≡ a.nodes → b.names ≡ a.names → d.names ≡ b.names → IsNodeTable d →
    seen_in d ≡ seen_in b ++ own_in (built (wholes_in b) n) → Grows (wholes_in b) (wholes_in d) → TableMeets a d (own_at s (built (wholes_in a) n))
made_meets a b d n x s h fit new some first nodes names more table seen grows = record {
  seen =
      ap (map unplaced) (seen ∙ ap (λ (ns : Nodes). flat_map own_in (wholes ns) ++ own_in (built (wholes ns) n)) nodes)
      ∙ one_more a (built (wholes_in a) n) x h some (bare_built (wholes_in a) h.bare n fit) new s first;
  names = more ∙ names;
  grows = subst (λ (ns : Nodes). Grows (wholes ns) (wholes_in d)) nodes grows;
  table = table;
}

pub err_same : {T : Type 0} (r : Result T NormFailure) (e : NormFailure) (fs gs : List Fault) → gs ≡ fs → IsErrAnd r (λ x. x ≡ e) → IsFirst fs e → Refuses r gs
err_same r e fs gs same from h = err_refuses r e gs from (subst (λ (hs : List Fault). IsFirst hs e) (sym same) h)

-- ---- and is added to the worklist

pub meets_waiting : (a b d : Table) (xs : List Part) → TableMeets a b xs → IsNodeTable d → d.nodes ≡ b.nodes → d.names ≡ b.names → TableMeets a d xs
meets_waiting a b d xs h table nodes names = record {
  seen = ap (λ (ns : Nodes). map unplaced (flat_map own_in (wholes ns))) nodes ∙ h.seen;
  names = names ∙ h.names;
  grows = subst (λ (ns : Nodes). Grows (wholes_in a) (wholes ns)) (sym nodes) h.grows;
  table = table;
}

-- the number of a node that is desugared has its text
pub numbered_by : (a f : Table) (ws : List Whole) (i : ℕ) (n : Node) (t : List ℕ) → f.nodes ≡ a.nodes → StandsFor ws i (built (wholes_in f) n) →
    own_text_in (built (wholes_in a) n) ≡ Some t → option_and_then own_text_in (slice_get ws i) ≡ Some t
numbered_by a f ws i n t nodes stands some =
    ap (option_and_then own_text_in) stands ∙ ap (λ (ns : Nodes). own_text_in (built (wholes ns) n)) nodes ∙ some

-- the first symbol of the text of one that is there
seen_first : (t : Table) (w : Whole) (i : ℕ) (x : List ℕ) → IsNodeTable t → StandsFor (wholes_in t) i w → own_text_in w ≡ Some x →
    (y : Part) × (first_with_text x (seen_in t) ≡ Some y)
seen_first t w i x h e some =
    let m = one_made w x some in
    let all : were_met (is_declared_in t) (seen_in t) (inner_of w ++ own_in w) ≡ true =
    ap (were_met (is_declared_in t) (seen_in t)) (sym (met_split w)) ∙ h.met i w e in
    let own_met : were_met (is_declared_in t) (seen_in t) (own_in w) ≡ true = were_right (is_declared_in t) (seen_in t) (inner_of w) (own_in w) all in
    let bare : were_met (is_declared_in t) (seen_in t) (at nowhere m.kind ∷ []) ≡ true = ap (were_met (is_declared_in t) (seen_in t)) (sym (m.at_place nowhere)) ∙ own_met in
    let here : is_some (first_with_text (kind_text m.kind) (seen_in t)) ≡ true = (and_parts _ _ (and_parts _ _ bare).0).0 in
    some_of (first_with_text x (seen_in t)) (ap (λ (u : List ℕ). is_some (first_with_text u (seen_in t))) m.text ∙ here)
  where
    some_of : (o : Option Part) → is_some o ≡ true → (y : Part) × (o ≡ Some y)
    some_of None f = absurd (cc f)
    some_of (Some y) f = (y, refl)

pub stands_waits : (t : Table) (w : Whole) (i : ℕ) (p : Part) → IsNodeTable t → StandsFor (wholes_in t) i w → own_text_in w ≡ Some (part_text p) → LeavesWaiting t t (p ∷ [])
stands_waits t w i p h e some = let y = seen_first t w i (part_text p) h e some in waits_seen t p y.0 y.1

-- where a node was put of a text that is new, and its symbol is on the worklist
pub made_waits : (a f b d : Table) (n : Node) (p : Part) (i : ℕ) → IsNodeTable a → own_text_in (built (wholes_in a) n) ≡ Some (part_text p) →
    first_with_text (part_text p) (seen_in a) ≡ None → f.nodes ≡ a.nodes → f.waiting ≡ a.waiting →
    seen_in b ≡ seen_in f ++ own_in (built (wholes_in f) n) → b.waiting ≡ f.waiting → Grows (wholes_in f) (wholes_in b) → StandsFor (wholes_in b) i (built (wholes_in f) n) →
    d.nodes ≡ b.nodes → waiting_in d ≡ waiting_in b ++ p ∷ [] → numbered_in d ≡ numbered_in b ++ part_at (wholes_in b) i ∷ [] → LeavesWaiting a d (p ∷ [])
made_waits a f b d n p i table some first nodes same seen kept grows stands more waiting numbered =
    waits_new a d p (at nowhere m.kind) first
    (waiting ∙ ap (λ (v : Vec Waiting Global). map (λ (w : Waiting). symbol_view w.symbol) v.items ++ p ∷ []) (kept ∙ same))
    (ap (λ (ns : Nodes). flat_map own_in (wholes ns)) more ∙ seen
    ∙ ap (λ (ns : Nodes). flat_map own_in (wholes ns) ++ own_in (built (wholes ns) n)) nodes
    ∙ ap (λ (xs : List Part). seen_in a ++ xs) (m.at_place nowhere))
    (numbered ∙ ap₂ (λ (ps : List Part) (q : Part). ps ++ q ∷ []) stay here)
    (sym m.text)
  where
    m : Made (built (wholes_in a) n) (part_text p)
    m = one_made (built (wholes_in a) n) (part_text p) some

    stay : numbered_in b ≡ numbered_in a
    stay =
        ap (λ (v : Vec Waiting Global). map (λ (w : Waiting). part_at (wholes_in b) w.number) v.items) (kept ∙ same)
        ∙ numbers_stay (wholes_in a) (wholes_in b) a.waiting.items (subst (λ (ns : Nodes). Grows (wholes ns) (wholes_in b)) nodes grows) table.waiting

    here : part_at (wholes_in b) i ≡ at nowhere m.kind
    here =
        ap (λ (o : Option Whole). at nowhere (as_kind o)) stands
        ∙ ap (λ (v : Whole). at nowhere (as_kind (Some v))) (ap (λ (ns : Nodes). built (wholes ns) n) nodes ∙ m.is)
