-- Trees that begin at any nonterminal.
use Rattle.std.proofs.Common.{◌≡◌, inl, inr, ℕ, zero, suc, List, [], ◌∷◌, sym, ap, subst, ◌∙◌, refl, true}
use Rattle.std.specs.Prelude.{slice_get, Some}
use Rattle.lalrpop_norm_theory.specs.Symbols.{Name, ClosedSymbol}
use Rattle.lalrpop_norm_theory.specs.Meaning.{Meaning}
use Rattle.lalrpop_norm_theory.specs.WrittenTrees.{WrittenTree, IsTreeOf}
use Rattle.lalrpop_norm_theory.specs.LoweredTrees.{ProductionTable, Production, LoweredTree, LoweredTrees, lowered_leaf, lowered_node, no_lowered, lowered_and, nonterminal_symbol, from_start, IsDerivation, AreDerivations}
use Rattle.lalrpop_norm_theory.specs.Translations.{written_tree, lowered_tree}
use Rattle.lalrpop_norm_theory.specs.Met.{IsKnown}
use Rattle.lalrpop_norm_theory.specs.Laws.{ExactlyOne, TranslationsFit}
use Rattle.lalrpop_norm_theory.proofs.Trees.{translations_inverse}
use Rattle.lalrpop_norm_explain.specs.TreeFaults.{explain_faults, has_productions, is_any}
use Rattle.lalrpop_norm_explain.specs.Forms.{production}
use Rattle.lalrpop_norm_explain.specs.Anywhere.{FaultlessIsDerived, IsNonterminalOf, IsStartOf, IsReadAt, CallFitsAnywhere, RealizedCallFitsAnywhere, IsMeant, IsReadAnywhere, FaultlessIsReadAnywhere}
use Rattle.lalrpop_norm_explain.proofs.Derivations.{faultless_rooted}

-- a list with something at an index has something
any_there : (qs : List Production) (p : ℕ) (q : Production) → slice_get qs p ≡ Some q → is_any qs ≡ true
any_there [] p q e = absurd (cc e)
any_there (x ∷ qs) p q e = refl

-- a derivation tree is one of a nonterminal that has productions
begins_there : (P : ProductionTable) (u : LoweredTree) (n : Name) → IsDerivation P u (nonterminal_symbol n) → has_productions P n ≡ true
begins_there P (lowered_leaf a) n d = absurd (cc d)
begins_there P (lowered_node m p us) n (e, q, at, ds) =
    let same : m ≡ n = cc e in
    subst (λ (x : Name). has_productions P x ≡ true) same (any_there (P m) p q at)

pub faultless_derived : FaultlessIsDerived
faultless_derived P u = (
  λ e. (let w = (faultless_rooted (has_productions P) P u).0 e in (w.0, w.2)),
  λ d. (faultless_rooted (has_productions P) P u).1 (d.0, begins_there P u d.0 d.1, d.1),
)

same_node : (m n : Name) (p q : ℕ) (us vs : LoweredTrees) → m ≡ n → p ≡ q → us ≡ vs → lowered_node m p us ≡ lowered_node n q vs
same_node m n p q us vs e f h = rw (e, f, h) refl

-- a tree of a start symbol is a node over a tree of its rule, and reads as that
module _ (P : ProductionTable) (start n : Name) (one : IsStartOf P start n) where
  over_one : (us : LoweredTrees) → AreDerivations P us (nonterminal_symbol n ∷ []) →
      (v : LoweredTree) × (us ≡ lowered_and v no_lowered) × IsDerivation P v (nonterminal_symbol n)
  over_one no_lowered d = absurd d
  over_one (lowered_and v no_lowered) d = (v, refl, d.0)
  over_one (lowered_and v (lowered_and w us)) d = absurd d.1

  first_one : (p : ℕ) (q : Production) → slice_get (production from_start (nonterminal_symbol n ∷ []) ∷ []) p ≡ Some q →
      (p ≡ 0) × (q ≡ production from_start (nonterminal_symbol n ∷ []))
  first_one zero q e = (refl, cc e)
  first_one (suc p) q e = absurd (cc e)

  reads_as_child : (v : LoweredTree) → written_tree P (lowered_node start 0 (lowered_and v no_lowered)) ≡ written_tree P v
  reads_as_child v = rw one refl

  pub start_over : (u : LoweredTree) → IsDerivation P u (nonterminal_symbol start) →
      (v : LoweredTree) × (u ≡ lowered_node start 0 (lowered_and v no_lowered)) × IsDerivation P v (nonterminal_symbol n)
      × (written_tree P u ≡ written_tree P v)
  start_over (lowered_leaf a) d = absurd (cc d)
  start_over (lowered_node m p us) (e, q, at, ds) =
      let same : m ≡ start = cc e in
      let first = first_one p q (sym (ap (λ qs. slice_get qs p) (ap P same ∙ one)) ∙ at) in
      let (v, alone, below) = over_one us (subst (λ (r : Production). AreDerivations P us r.symbols) first.1 ds) in
      let whole : lowered_node m p us ≡ lowered_node start 0 (lowered_and v no_lowered) = same_node m start p 0 us (lowered_and v no_lowered) same first.0 alone in
      (v, whole, below, ap (written_tree P) whole ∙ reads_as_child v)

module _ (M : Meaning) (name : ClosedSymbol → Name) (P : ProductionTable) (g : ClosedSymbol) (n : Name) (at : IsNonterminalOf name g n) (fit : TranslationsFit M name P g) where
  read_there : (u : LoweredTree) → IsDerivation P u (nonterminal_symbol n) → IsReadAt M name P g u u
  read_there u d = fit.back u (subst (IsDerivation P u) (sym at) d)

  read_once : (t : WrittenTree) → IsTreeOf M t g → ExactlyOne (λ u. IsDerivation P u (nonterminal_symbol n) × (written_tree P u ≡ t))
  read_once t h = (
    lowered_tree M name t g,
    (subst (IsDerivation P (lowered_tree M name t g)) at (fit.forward t h).0, fit.back_forward t h),
    λ u w. sym (fit.forward_back u (subst (IsDerivation P u) (sym at) w.0)) ∙ ap (λ s. lowered_tree M name s g) w.1,
  )

  read_started : (start : Name) → IsStartOf P start n → (u : LoweredTree) → IsDerivation P u (nonterminal_symbol start) →
      (v : LoweredTree) × (u ≡ lowered_node start 0 (lowered_and v no_lowered))
      × IsDerivation P v (nonterminal_symbol n) × IsReadAt M name P g u v
  read_started start one u d =
      let (v, whole, below, same) = start_over P start n one u d in
      let r = read_there v below in
      (v, whole, below, (subst (λ (t : WrittenTree). IsTreeOf M t g) (sym same) r.0, rw same r.1))

pub realized_anywhere : RealizedCallFitsAnywhere
realized_anywhere M C V name P declared met R = record {
  explains = faultless_derived P;
  explained = λ g n k at. read_there M name P g n at (translations_inverse M C V name P declared met R g k);
  once = λ g n k at. read_once M name P g n at (translations_inverse M C V name P declared met R g k);
  started = λ start g n one k at. read_started M name P g n at (translations_inverse M C V name P declared met R g k) start one;
}

module _ (M : Meaning) (name : ClosedSymbol → Name) (P : ProductionTable) (Known : ClosedSymbol → Type 0) (fits : CallFitsAnywhere M name P Known) where
  read_meant : (u : LoweredTree) (n : Name) → IsDerivation P u (nonterminal_symbol n) → IsMeant name P Known n → IsReadAnywhere M name P Known u
  read_meant u n d (g, m, k, at, inl e) =
      (g, u, k, inl refl, fits.explained g m k at u (subst (λ (x : Name). IsDerivation P u (nonterminal_symbol x)) e d))
  read_meant u n d (g, m, k, at, inr one) =
      let (v, whole, below, r) = fits.started n g m one k at u d in
      (g, v, k, inr (n, whole), r)

  pub read_faultless : ((n : Name) → has_productions P n ≡ true → IsMeant name P Known n) → (u : LoweredTree) →
      explain_faults (has_productions P) P u ≡ [] → IsReadAnywhere M name P Known u
  read_faultless meant u e =
      let (n, d) = (fits.explains u).0 e in
      read_meant u n d (meant n (begins_there P u n d))

pub faultless_read_anywhere : FaultlessIsReadAnywhere
faultless_read_anywhere M C V name P declared met R =
    read_faultless M name P (IsKnown declared met) (realized_anywhere M C V name P declared met R)
