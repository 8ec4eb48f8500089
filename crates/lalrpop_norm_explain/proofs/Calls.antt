-- The two calls, from the names at which trees may begin.
use Rattle.std.proofs.Common.{◌≡◌, ◌≤◌, ℕ, Bool, true, false, List, [], ◌∷◌, sym, ap, ◌∙◌, subst, refl}
use Rattle.std.specs.Prelude.{Option, None, if◌then◌else◌}
use Rattle.lalrpop_norm_theory.specs.Symbols.{Name, ClosedSymbol, reference}
use Rattle.lalrpop_norm_theory.specs.Meaning.{Meaning, HasCounts, HasLevels}
use Rattle.lalrpop_norm_theory.specs.WrittenTrees.{WrittenTree, WrittenTrees, leaf, nothing, list, node, IsTreeOf}
use Rattle.lalrpop_norm_theory.specs.LoweredTrees.{ProductionTable, LoweredTree, nonterminal_symbol, IsDerivation}
use Rattle.lalrpop_norm_theory.specs.Pairs.{Pairs}
use Rattle.lalrpop_norm_theory.specs.Translations.{written_tree}
use Rattle.lalrpop_norm_theory.specs.Met.{IsKnown}
use Rattle.lalrpop_norm_theory.specs.Tables.{Realizes}
use Rattle.lalrpop_norm_theory.specs.Laws.{TranslationsFit}
use Rattle.lalrpop_norm_theory.proofs.PairSides.{tree_of}
use Rattle.lalrpop_norm_theory.proofs.Trees.{translations_inverse}
use Rattle.lalrpop_norm_explain.specs.declared.errors.ExplainFault.TheVariants.{Root as NoRoot}
use Rattle.lalrpop_norm_explain.specs.TreeFaults.{Found}
use Rattle.lalrpop_norm_explain.specs.Plans.{most_steps}
use Rattle.lalrpop_norm_explain.specs.TreeLowering.{shape_faults, lowered_by, lower_faults, lowered_root}
use Rattle.lalrpop_norm_explain.specs.WrittenShapes.{misshapen, written_faults}
use Rattle.lalrpop_norm_explain.specs.Laws.{IsWritten, WaysFit, CallsFit, RealizedCallsFit}
use Rattle.lalrpop_norm_explain.proofs.Derivations.{faultless_rooted}
use Rattle.lalrpop_norm_explain.proofs.Ways.{ways_inverse}
use Rattle.lalrpop_norm_explain.proofs.ShapedTrees.{trees_are_shaped}
use Rattle.lalrpop_norm_explain.proofs.Shapes.{faults_written}

-- a tree of a rule is a node of it
pub is_node : (M : Meaning) (n : Name) (b : Option ℕ) (t : WrittenTree) → IsTreeOf M t (reference n b) → (k : ℕ) × (ts : WrittenTrees) × (t ≡ node n k ts)
is_node M n b (leaf a) h = absurd h
is_node M n b nothing h = absurd h
is_node M n b (list ts) h = absurd h
is_node M n b (node m k ts) h = (k, ts, ap (λ x. node x k ts) h.0)

-- faults of a whole tree are the same, if they are where trees may begin
at_name : (b : Bool) (fs gs : List Found) → (b ≡ true → fs ≡ gs) → (if b then fs else (NoRoot, []) ∷ []) ≡ (if b then gs else (NoRoot, []) ∷ [])
at_name true fs gs h = h refl
at_name false fs gs h = refl

-- a whole tree without a fault is one of a rule at which trees may begin
module _ (M : Meaning) (roots : Name → Bool) where
  begun : (m : Name) (k : ℕ) (ts : WrittenTrees) (b : Bool) → roots m ≡ b → (if b then misshapen M (node m k ts) (reference m None) else (NoRoot, []) ∷ []) ≡ [] →
      IsWritten M roots (node m k ts)
  begun m k ts true r e = (m, r, (trees_are_shaped M (node m k ts) (reference m None)).0 e)
  begun m k ts false r e = absurd (cc e)

  is_written : (t : WrittenTree) → written_faults M roots t ≡ [] → IsWritten M roots t
  is_written (leaf a) e = absurd (cc e)
  is_written nothing e = absurd (cc e)
  is_written (list ts) e = absurd (cc e)
  is_written (node m k ts) e = begun m k ts (roots m) refl e

  faultless : (t : WrittenTree) → IsWritten M roots t → written_faults M roots t ≡ []
  faultless t (n, r, h) =
      let (k, ts, is) = is_node M n None t h in
      let none = (trees_are_shaped M (node n k ts) (reference n None)).1 (subst (λ s. IsTreeOf M s (reference n None)) is h) in
      ap (written_faults M roots) is ∙ rw r none

module _ (M : Meaning) (C : HasCounts M) (V : HasLevels M) (name : ClosedSymbol → Name) (P : ProductionTable) (declared met : List ClosedSymbol)
    (R : Realizes M name P (IsKnown declared met))
    (deep : (n : Name) (b : Option ℕ) → IsKnown declared met (reference n b) → M.depth n b ≤ most_steps)
    (roots : Name → Bool) (rooted : (n : Name) → roots n ≡ true → IsKnown declared met (reference n None) × (name (reference n None) ≡ n)) where
  fit : (n : Name) → roots n ≡ true → WaysFit M name P most_steps (reference n None)
  fit n r = ways_inverse M C V name P declared met R most_steps (λ m b. M.depth m b) (λ m b c e. V.deeper m b c e) deep (reference n None) (rooted n r).0

  -- the faults of a rule's tree are those of the written language
  faults_at : (m : Name) → roots m ≡ true → (t : WrittenTree) → shape_faults P most_steps t (nonterminal_symbol m) ≡ misshapen M t (reference m None)
  faults_at m r t =
      ap (λ x. shape_faults P most_steps t (nonterminal_symbol x)) (sym (rooted m r).1)
      ∙ faults_written M C V name P declared met R most_steps (λ n b. M.depth n b) (λ n b c e. V.deeper n b c e) deep (reference m None) (rooted m r).0 t

  as_written : (t : WrittenTree) → lower_faults roots P most_steps t ≡ written_faults M roots t
  as_written (leaf a) = refl
  as_written nothing = refl
  as_written (list ts) = refl
  as_written (node m k ts) = at_name (roots m) _ _ (λ r. faults_at m r (node m k ts))

  -- what a tree of a rule is lowered to
  root_lowered : (n : Name) → roots n ≡ true → (t : WrittenTree) → IsTreeOf M t (reference n None) →
      lowered_root P most_steps t ≡ lowered_by P most_steps t (nonterminal_symbol (name (reference n None)))
  root_lowered n r t h =
      let (k, ts, is) = is_node M n None t h in
      let here : lowered_root P most_steps t ≡ lowered_by P most_steps (node n k ts) (nonterminal_symbol n) = ap (lowered_root P most_steps) is in
      here ∙ ap (λ s. lowered_by P most_steps s (nonterminal_symbol n)) (sym is) ∙ ap (λ x. lowered_by P most_steps t (nonterminal_symbol x)) (sym (rooted n r).1)

  translations : (n : Name) → roots n ≡ true → TranslationsFit M name P (reference n None)
  translations n r = translations_inverse M C V name P declared met R (reference n None) (rooted n r).0

  read : (u : LoweredTree) (n : Name) → roots n ≡ true → IsDerivation P u (nonterminal_symbol n) →
      IsTreeOf M (written_tree P u) (reference n None) × Pairs M name (reference n None) (written_tree P u) u
  read u n r d =
      (translations n r).back u
      (subst (λ x. IsDerivation P u (nonterminal_symbol x)) (sym (rooted n r).1) d)

  lowers_to : (t : WrittenTree) (n : Name) → roots n ≡ true → IsTreeOf M t (reference n None) → Pairs M name (reference n None) t (lowered_root P most_steps t)
  lowers_to t n r h = subst (Pairs M name (reference n None) t) (sym (root_lowered n r t h)) ((fit n r).paired t h)

  pub calls_fit : CallsFit M name P roots
  calls_fit = record {
    explains = λ u. faultless_rooted roots P u;
    explained = read;
    lowers = as_written;
    written = λ t. (is_written M roots t, faultless M roots t);
    lowered = λ t n r h.
        let pair = lowers_to t n r h in
        let tree = (translations n r).paired t (lowered_root P most_steps t) pair in
        let down = ((translations n r).forward t h).0 in (
          subst (λ x. IsDerivation P (lowered_root P most_steps t) (nonterminal_symbol x)) (rooted n r).1
              (subst (λ u. IsDerivation P u (nonterminal_symbol (name (reference n None)))) tree.0 down),
          pair,
        );
    back_forward = λ t w.
        let (n, r, h) = w in
        ap (written_tree P) (root_lowered n r t h) ∙ (fit n r).back_forward t h;
    forward_back = λ u w.
        let (n, r, d) = w in
        let b = read u n r d in
        root_lowered n r (written_tree P u) b.0
        ∙ (fit n r).forward_back u (subst (λ x. IsDerivation P u (nonterminal_symbol x)) (sym (rooted n r).1) d);
    paired = λ t u n r pair.
        let same = (translations n r).paired t u pair in
        let other = (translations n r).paired t (lowered_root P most_steps t) (lowers_to t n r (tree_of M name V pair)) in
        (same.1, sym other.0 ∙ same.0);
  }

pub realized_calls : RealizedCallsFit
realized_calls M C V name P declared met R deep roots rooted = calls_fit M C V name P declared met R deep roots rooted
