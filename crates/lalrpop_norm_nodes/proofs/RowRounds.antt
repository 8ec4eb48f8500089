-- Symbols in a row that are read one after another: the rounds of the loop, and its ways out.
use Rattle.std.proofs.Common.{◌≡◌, ◌≢◌, ◌<◌, ◌≤◌, ◌+◌, ◌++◌, ℕ, List, [], Result, Ok, Option, length, map, take, drop, set, get_or, slice_index_or, get_or-set_other, append-nil, sym, ap, ◌∙◌, subst, refl, rules, arith}
use Rattle.std.specs.List.{flat_map}
use Rattle.std.specs.Result.{IsErrAnd}
use Rattle.std.proofs.lemmas.List.{length-map, get_or_default, take_all, drop_all}
use Rattle.lalrpop_norm_faults.specs.declared.failure.NormFailure.{NormFailure}
use Rattle.lalrpop_norm_faults.specs.Faults.{IsFirst}
use Rattle.lalrpop_norm_tree.specs.declared.symbol.Symbol.{Symbol}
use Rattle.lalrpop_norm_tree.specs.Symbols.{Kind, Part, Parts, parts_of, parts_view, symbol_view}
use Rattle.lalrpop_norm_model.specs.PlainRules.{met, all_met}
use Rattle.lalrpop_norm_nodes.specs.Apart.{unplaced}
use Rattle.lalrpop_norm_nodes.specs.declared.given.Environment.{Environment}
use Rattle.lalrpop_norm_nodes.specs.declared.node.Node.TheVariants as node
use Rattle.lalrpop_norm_nodes.specs.declared.node.Binary.TheVariants as binary
use Rattle.lalrpop_norm_nodes.specs.declared.table.Table.{Table}
use Rattle.lalrpop_norm_nodes.specs.Filled.{filled, all_filled}
use Rattle.lalrpop_norm_nodes.specs.Given.{AreGiven, whole_for, shown_for, read_whole, read_shown}
use Rattle.lalrpop_norm_nodes.specs.Readings.{bare_wholes}
use Rattle.lalrpop_norm_nodes.specs.Reads.{SymbolRead, RowRead}
use Rattle.lalrpop_norm_nodes.specs.Tables.{wholes_in, IsNodeTable, IsCounted, TableMeets, refused_in}
use Rattle.lalrpop_norm_nodes.specs.Waits.{shown_met, LeavesWaiting}
use Rattle.lalrpop_norm_nodes.specs.Wholes.{Whole, symbols, built, StandsFor}
use Rattle.lalrpop_norm_nodes.proofs.GivenLemmas.{all_given_stay, wholes_stay}
use Rattle.lalrpop_norm_nodes.proofs.InPlace.{still, partly_more, partly_met, partly_quiet, partly_exit}
use Rattle.lalrpop_norm_nodes.proofs.MeetingLemmas.{err_refuses, refuses_same}
use Rattle.lalrpop_norm_nodes.proofs.ReadLemmas.{read_at}
use Rattle.lalrpop_norm_nodes.proofs.RowReads.{meets_row, met_one_by_one, shown_one_by_one, first_same, counted_row, row_more}
use Rattle.lalrpop_norm_nodes.proofs.SymbolReads.{refused_number}
use Rattle.lalrpop_norm_nodes.proofs.WaitLemmas.{waits_plain, waits_row}
use Rattle.lalrpop_norm_nodes.proofs.WaitReads.{shown_met_one_by_one, partly_waits}

-- a row was entered, which reaches nothing
abbrev pub RowEntered : Table → Table → ℕ → Whole → Type 0
RowEntered b d i w = record {
  meets : TableMeets b d [];
  counted : d.made ≡ b.made;
  waiting : d.waiting ≡ b.waiting;
  number : StandsFor (wholes_in d) i w;
}

pub refused_row : (r : Result ℕ NormFailure) (a b : Table) (e : Environment) (ss : List Symbol) (now : Parts) (f : NormFailure) → IsErrAnd r (λ g. g ≡ f) →
    IsFirst (refused_in a (all_met (all_filled (whole_for (wholes_in a) e) (parts_view ss)))) f → RowRead r a b e ss now
refused_row r a b e ss now f from h = refused_number r a b _ _ _ _ f from (err_refuses r f _ from h)

-- the first i were read
abbrev pub FirstRead : Table → Table → Environment → List Symbol → List Symbol → ℕ → ℕ → Type 0
FirstRead a b e ss cur i j = record {
  rest : (k : ℕ) (d : Symbol) → i ≤ k → slice_index_or cur k d ≡ slice_index_or ss k d;
  value : map symbol_view cur ≡ map (read_shown e) (take i (map symbol_view ss)) ++ drop i (map symbol_view ss);
  refuses : refused_in a (flat_map (λ p. met (read_whole (wholes_in a) e p)) (take i (map symbol_view ss))) ≡ [];
  meets : TableMeets a b (flat_map (λ p. met (read_whole (wholes_in a) e p)) (take i (map symbol_view ss)));
  waits : LeavesWaiting a b (flat_map (λ p. shown_met e p) (take i (map symbol_view ss)));
  counted : IsCounted b;
  given : AreGiven (wholes_in b) e;
  row : StandsFor (wholes_in b) j (symbols (bare_wholes (wholes_in a) e (take i (map symbol_view ss))));
}

pub row_begun : (a b : Table) (e : Environment) (ss : List Symbol) (j : ℕ) → AreGiven (wholes_in a) e → IsNodeTable a → IsCounted a → RowEntered a b j (symbols []) → FirstRead a b e ss ss 0 j
row_begun a b e ss j are table made r = record {
  rest = λ k d h. refl;
  value = refl;
  refuses = refl;
  meets = r.meets;
  waits = waits_plain a b table r.meets r.waiting;
  counted = counted_row a b made r.counted r.meets;
  given = all_given_stay (wholes_in a) (wholes_in b) e r.meets.grows are;
  row = r.number;
}

-- the next one is read (f would stand for one that is not there)
module _ (a b : Table) (e : Environment) (ss cur : List Symbol) (i j : ℕ) (f : Symbol) (are : AreGiven (wholes_in a) e) (before : i < length ss) (inside : i < length cur) (v : FirstRead a b e ss cur i j) where
  here : i < length (map symbol_view ss)
  here = omega (arith, length-map ss symbol_view, before)

  same : symbol_view (get_or cur i f) ≡ get_or (map symbol_view ss) i (symbol_view (get_or cur i f))
  same = still symbol_view (read_shown e) cur (map symbol_view ss) i (get_or cur i f) here inside v.value (get_or_default cur i f (get_or cur i f) inside)

  stay : whole_for (wholes_in b) e ≡ whole_for (wholes_in a) e
  stay = wholes_stay (wholes_in a) (wholes_in b) e v.meets.grows are

  pub row_further : (d z : Table) (n m : ℕ) (y : Symbol) → SymbolRead (Ok n) b d e (get_or cur i f) (symbol_view y) → RowEntered d z m (built (wholes_in d) (node.Binary binary.Symbols j n)) →
      FirstRead a z e ss (set cur i y) (i + 1) m
  row_further d z n m y s r =
      let ps = map symbol_view ss in
      let x = get_or cur i f in
      let p = symbol_view x in
      let g = λ (q : Part). met (read_whole (wholes_in a) e q) in
      let reads = subst (λ (h : List ℕ → Option Kind). TableMeets b d (met (filled h p))) stay s.meets in
      let all = partly_met g ps i p here same a b z v.meets (meets_row b d z _ reads r.meets) in
      record {
        rest = λ k q h. get_or-set_other cur i k y q (omega arith) ∙ v.rest k q (omega arith);
        value = partly_more symbol_view (read_shown e) cur ps i x y here inside v.value (get_or_default cur i f x inside) s.value;
        refuses = partly_quiet g ps i p here same a b v.meets v.refuses (ap (λ (h : List ℕ → Option Kind). refused_in b (met (filled h p))) (sym stay) ∙ s.refuses);
        meets = all;
        waits = partly_waits (shown_met e) ps i p here same a b z v.waits (waits_row b d z _ s.waits s.meets.table r.meets r.waiting);
        counted = counted_row d z s.counted r.counted r.meets;
        given = all_given_stay (wholes_in a) (wholes_in z) e all.grows are;
        row = row_more (wholes_in b) (wholes_in d) (wholes_in z) j n m (λ q. unplaced (read_whole (wholes_in a) e q)) ps i p _ here same v.row s.meets.grows s.number
            (ap unplaced (sym (read_at (wholes_in b) e x) ∙ ap (λ (h : List ℕ → Option Kind). filled h p) stay)) r.number;
      }

  -- and is refused
  pub row_stopped : (r : Result ℕ NormFailure) (d : Table) (now : Parts) (x : NormFailure) → IsErrAnd r (λ y. y ≡ x) → IsFirst (refused_in b (met (read_whole (wholes_in b) e (symbol_view (get_or cur i f))))) x →
      RowRead r a d e ss now
  row_stopped r d now x from h =
      let ps = map symbol_view ss in
      let p = symbol_view (get_or cur i f) in
      let all : all_met (all_filled (whole_for (wholes_in a) e) (parts_of ps)) ≡ flat_map (λ q. met (read_whole (wholes_in a) e q)) ps = met_one_by_one (whole_for (wholes_in a) e) ps in
      refused_number r a d _ _ _ _ x from
      (refuses_same r _ _ (ap (refused_in a) (sym all))
      (partly_exit (λ (q : Part). met (read_whole (wholes_in a) e q)) ps i p here same a b r x v.meets v.refuses from
      (first_same _ _ x (ap (λ (k : List ℕ → Option Kind). refused_in b (met (filled k p))) stay) h)))

-- all were read
pub row_ended : (a b : Table) (e : Environment) (ss cur : List Symbol) (i j : ℕ) → length ss ≤ i → FirstRead a b e ss cur i j → RowRead (Ok j) a b e ss (parts_view cur)
row_ended a b e ss cur i j past v =
    let ps = map symbol_view ss in
    let long : length ps ≤ i = omega (arith, length-map ss symbol_view, past) in
    let all = take_all i ps long in
    record {
      refuses = ap (refused_in a) (met_one_by_one (whole_for (wholes_in a) e) ps ∙ ap (λ qs. flat_map (λ (p : Part). met (read_whole (wholes_in a) e p)) qs) (sym all)) ∙ v.refuses;
      meets = subst (λ (xs : List Part). TableMeets a b xs) (ap (λ qs. flat_map (λ (p : Part). met (read_whole (wholes_in a) e p)) qs) all ∙ sym (met_one_by_one (whole_for (wholes_in a) e) ps)) v.meets;
      counted = v.counted;
      waits = subst (λ (xs : List Part). LeavesWaiting a b xs) (ap (λ qs. flat_map (λ (p : Part). shown_met e p) qs) all ∙ sym (shown_met_one_by_one (shown_for e) ps)) v.waits;
      value = ap parts_of (v.value ∙ ap (λ qs. map (read_shown e) qs ++ drop i ps) all ∙ ap (λ qs. map (read_shown e) ps ++ qs) (drop_all i ps long) ∙ append-nil (map (read_shown e) ps))
          ∙ sym (shown_one_by_one (shown_for e) ps);
      number = subst (λ (qs : List Part). StandsFor (wholes_in b) j (symbols (bare_wholes (wholes_in a) e qs))) all v.row;
    }
