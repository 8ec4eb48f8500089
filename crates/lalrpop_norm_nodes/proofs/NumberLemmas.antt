-- The numbers that a search finds.
use Rattle.std.proofs.Common.{◌≡◌, ℕ, ◌+◌, Bool, true, false, not, cond, List, [], ◌∷◌, ◌++◌, zero, suc, map, if◌then◌else◌, ap₂, Option, Some, None, option_map, slice_get, refl, sym, ap, ◌∙◌, subst, position, length, arith}
use Rattle.std.specs.Option.{IfSome, IfNone}
use Rattle.std.specs.List.{position_or_len}
use Rattle.lalrpop_norm_nodes.specs.declared.node.Node.{Node}
use Rattle.lalrpop_norm_nodes.specs.Wholes.{Whole, built, Fits, StandsFor, IsNew, AreRows, AreNodes, EntersPlain, stood, came_last, nodes_of, texts_of, wholes}
use Rattle.lalrpop_norm_nodes.specs.Tables.{own_text_in}
use Rattle.lalrpop_norm_nodes.specs.declared.node.Nodes.{Nodes}
use Rattle.lalrpop_norm_nodes.specs.NodeSameness.{same_node, node_sound}
use Rattle.lalrpop_norm_nodes.proofs.NodeTests.{node_complete, position_found, position_new, place_found, place_new}
use Rattle.std.proofs.lemmas.List.{map-append, length-map}
use Rattle.std.proofs.lemmas.Option.{slice_get-map}
use Rattle.indexmap.specs.IndexMap.{insert_entry}
use Rattle.lalrpop_norm_nodes.specs.Wholes.{wholes_on}
use Rattle.lalrpop_norm_nodes.proofs.RowLemmas.{node_told, node_at, rows_more, wholes_more, slice_last}

module _ (ns : List Node) (ws : List Whole) (rows : AreRows ns ws) (n : Node) (fit : Fits ws n) where
  pub number_found : (r : Option ℕ) → r ≡ position (same_node n) ns → IfSome r (λ i. StandsFor ws i (built ws n))
  number_found None e = tt
  number_found (Some i) e = by (position_found (same_node n) ns i (sym e))
    where
      by : (m : Node) × (slice_get ns i ≡ Some m) × (same_node n m ≡ true) → StandsFor ws i (built ws n)
      by (m, h, k) = rows.stand i m h ∙ ap (λ (v : Node). Some (built ws v)) (sym (node_sound n m k))

  pub number_new : (r : Option ℕ) → r ≡ position (same_node n) ns → IfNone r (IsNew ws (built ws n))
  number_new (Some i) e = tt
  number_new None e = λ i h. by i h (node_at ns ws rows i (built ws n) h)
    where
      by : (i : ℕ) → StandsFor ws i (built ws n) → (m : Node) × (slice_get ns i ≡ Some m) → ⊥
      by i h (m, k) =
          let stands : Some (built ws m) ≡ Some (built ws n) = sym (rows.stand i m k) ∙ h in
          let told : built ws m ≡ built ws n = cc stands in
          let same : m ≡ n = node_told ns ws rows m n (rows.fit i m k) fit told in
          let no : same_node n m ≡ false = position_new (same_node n) ns i m (sym e) k in
          let yes : same_node n m ≡ true = ap (same_node n) same ∙ node_complete n in
          cc (no, yes)

-- ---- a node that is new

module _ (ns : List Node) (ws : List Whole) (rows : AreRows ns ws) (n : Node) (fit : Fits ws n) (new : IsNew ws (built ws n)) where
  untested : (i : ℕ) (m : Node) → slice_get ns i ≡ Some m → same_node n m ≡ false
  untested i m h = by (same_node n m) refl
    where
      by : (b : Bool) → same_node n m ≡ b → b ≡ false
      by false e = refl
      by true e = absurd (new i (rows.stand i m h ∙ ap (λ (v : Node). Some (built ws v)) (sym (node_sound n m e))))

put_last : {V : Type 0} (es : List (Node × V)) (n : Node) (v : V) → ((i : ℕ) (m : Node) → slice_get (map (λ e. e.0) es) i ≡ Some m → same_node n m ≡ false) →
    insert_entry same_node es n v ≡ es ++ (n, v) ∷ []
put_last [] n v h = refl
put_last (e ∷ es) n v h =
    ap (λ (b : Bool). if b then (e.0, v) ∷ es else e ∷ insert_entry same_node es n v) (h zero e.0 refl)
    ∙ ap (λ (fs : List (Node × _)). e ∷ fs) (put_last es n v (λ i m k. h (suc i) m k))

-- the entries once it is put
pub entries_more : {V : Type 0} (es : List (Node × V)) (n : Node) (v : V) (ws : List Whole) → AreRows (map (λ e. e.0) es) ws → Fits ws n → IsNew ws (built ws n) →
    insert_entry same_node es n v ≡ es ++ (n, v) ∷ []
entries_more es n v ws rows fit new = put_last es n v (untested (map (λ e. e.0) es) ws rows n fit new)

pub record Put {V : Type 0} (es fs : List (Node × V)) (n : Node) (v : V) (i : ℕ) : Type 0 where
  pub rows : AreRows (map (λ e. e.0) fs) (wholes_on [] (map (λ e. e.0) fs))
  pub wholes : wholes_on [] (map (λ e. e.0) fs) ≡ wholes_on [] (map (λ e. e.0) es) ++ built (wholes_on [] (map (λ e. e.0) es)) n ∷ []
  pub number : StandsFor (wholes_on [] (map (λ e. e.0) fs)) i (built (wholes_on [] (map (λ e. e.0) es)) n)
  pub values : map (λ e. e.1) fs ≡ map (λ e. e.1) es ++ v ∷ []

pub put : {V : Type 0} (es fs : List (Node × V)) (n : Node) (v : V) (i : ℕ) → fs ≡ insert_entry same_node es n v → i ≡ length es →
    AreRows (map (λ e. e.0) es) (wholes_on [] (map (λ e. e.0) es)) → Fits (wholes_on [] (map (λ e. e.0) es)) n →
    IsNew (wholes_on [] (map (λ e. e.0) es)) (built (wholes_on [] (map (λ e. e.0) es)) n) → Put es fs n v i
put {V} es fs n v i e at rows fit new = record {
  rows = subst (λ (ks : List Node). AreRows ks (wholes_on [] ks)) (sym keys) (subst (λ (vs : List Whole). AreRows (ns ++ n ∷ []) vs) (sym (wholes_more [] ns n)) (rows_more ns ws n rows fit new));
  wholes = stand;
  number = ap₂ (λ (vs : List Whole) (j : ℕ). slice_get vs j) stand place ∙ slice_last ws (built ws n);
  values = ap (map (λ e. e.1)) entries ∙ map-append (λ e. e.1) es ((n, v) ∷ []);
}
  where
    ns : List Node
    ns = map (λ e. e.0) es

    ws : List Whole
    ws = wholes_on [] ns

    entries : fs ≡ es ++ (n, v) ∷ []
    entries = e ∙ entries_more es n v ws rows fit new

    keys : map (λ e. e.0) fs ≡ ns ++ n ∷ []
    keys = ap (map (λ e. e.0)) entries ∙ map-append (λ e. e.0) es ((n, v) ∷ [])

    stand : wholes_on [] (map (λ e. e.0) fs) ≡ ws ++ built ws n ∷ []
    stand = ap (wholes_on []) keys ∙ wholes_more [] ns n

    place : i ≡ length ws
    place = at ∙ sym (length-map es (λ e. e.0)) ∙ sym rows.long

-- ---- a node that is not desugared

-- a row that is put once more stays
put_again : {V : Type 0} (es : List (Node × V)) (n : Node) (v : V) → slice_get (map (λ e. e.1) es) (position_or_len (same_node n) (map (λ e. e.0) es)) ≡ Some v →
    insert_entry same_node es n v ≡ es
put_again [] n v h = absurd (cc h)
put_again {V} (e ∷ es) n v h = by (same_node n e.0) (put_again es n v) h
  where
    first : ℕ
    first = position_or_len (same_node n) (map (λ e. e.0) es)

    by : (b : Bool) → (slice_get (map (λ e. e.1) es) first ≡ Some v → insert_entry same_node es n v ≡ es) →
        slice_get (e.1 ∷ map (λ e. e.1) es) (cond (not b) (1 + first) 0) ≡ Some v → (if b then (e.0, v) ∷ es else e ∷ insert_entry same_node es n v) ≡ e ∷ es
    by true further k = let same : e.1 ≡ v = cc k in ap (λ (x : V). (e.0, x) ∷ es) (sym same)
    by false further k =
        let next : suc first ≡ 1 + first = omega arith in
        ap (λ (fs : List (Node × V)). e ∷ fs) (further (ap (slice_get (e.1 ∷ map (λ e. e.1) es)) next ∙ k))

pub record Entered (a b : Nodes) (n : Node) (i : ℕ) : Type 0 where
  pub nodes : AreNodes b
  pub entered : EntersPlain a b (built (wholes a) n)
  pub number : StandsFor (wholes b) i (built (wholes a) n)

module _ (a b : Nodes) (n : Node) (i : ℕ) (h : AreNodes a) (texts : texts_of a ≡ map own_text_in (wholes a)) (fit : Fits (wholes a) n)
    (plain : own_text_in (built (wholes a) n) ≡ None) (entries : b.rows.entries ≡ insert_entry same_node a.rows.entries n None)
    (index : i ≡ position_or_len (same_node n) (nodes_of a)) where
  place : (r : Option ℕ) → position (same_node n) (nodes_of a) ≡ r → Entered a b n i
  place None e =
      let new : IsNew (wholes a) (built (wholes a) n) = number_new (nodes_of a) (wholes a) h n fit None (sym e) in
      let last : i ≡ length a.rows.entries = index ∙ place_new (same_node n) (nodes_of a) e ∙ length-map a.rows.entries (λ e. e.0) in
      let p = put a.rows.entries b.rows.entries n None i entries last h fit new in
      record { nodes = p.rows; entered = came_last p.wholes p.values; number = p.number }
  place (Some j) e =
      let at : position_or_len (same_node n) (nodes_of a) ≡ j = place_found (same_node n) (nodes_of a) j e in
      let stands : StandsFor (wholes a) j (built (wholes a) n) = number_found (nodes_of a) (wholes a) h n fit (Some j) (sym e) in
      let text : slice_get (texts_of a) j ≡ Some None =
      ap (λ ts. slice_get ts j) texts ∙ slice_get-map own_text_in (wholes a) j ∙ ap (option_map own_text_in) stands ∙ ap Some plain in
      let same : b.rows.entries ≡ a.rows.entries = entries ∙ put_again a.rows.entries n None (ap (slice_get (texts_of a)) at ∙ text) in
      record {
        nodes = subst (λ es. AreRows (map (λ e. e.0) es) (wholes_on [] (map (λ e. e.0) es))) (sym same) h;
        entered = stood (ap (λ es. wholes_on [] (map (λ e. e.0) es)) same) (ap (map (λ e. e.1)) same);
        number = ap₂ (λ es k. slice_get (wholes_on [] (map (λ e. e.0) es)) k) same (index ∙ at) ∙ stands;
      }

  pub entered : Entered a b n i
  entered = place (position (same_node n) (nodes_of a)) refl
