-- Nothing is wrong with the tuple patterns of a grammar if and only if they fit.
use Rattle.std.proofs.Common.{◌≡◌, ◌↔◌, ℕ, Bool, true, false, List, [], ◌∷◌, map, Option, Some, None, if◌then◌else◌, refl}
use Rattle.lalrpop_norm_tree.specs.Items.{GrammarData}
use Rattle.lalrpop_norm_tree_parts.specs.Reprs.{ReprData, Reprs, tuple, no_reprs, repr_and}
use Rattle.lalrpop_norm_tree.specs.Symbols.{ArgumentPattern, ArgumentPatterns, one_name, several, no_arguments, argument_and, Kind, Part, nonterminal}
use Rattle.lalrpop_norm_faults.specs.declared.kind.FaultKind.{FaultKind}
use Rattle.lalrpop_norm_faults.specs.declared.kind.FaultKind.TheVariants.{TupleLength}
use Rattle.lalrpop_norm_model.specs.MadeRules.{kind_of}
use Rattle.lalrpop_norm_model.specs.PlainRules.{all_rules}
use Rattle.lalrpop_norm_model.specs.TypeTables.{Table, IsTable}
use Rattle.lalrpop_norm_model.specs.TuplePatterns.{pattern_fits, fit_all, as_many, misfits, misfits_of, Pattern, tuple_symbols, PatternFits, PatternsFit, over_found, over_kind, symbol_misfits, alternative_misfits, rule_misfits, pattern_misfits}
use Rattle.lalrpop_norm_model.proofs.InferenceLemmas.{both_empty, none_made, all_empty}
use Rattle.lalrpop_norm_theory.proofs.BoolLemmas.{both_true, both_hold}

-- ---- patterns and types

empty_if : (b : Bool) (ms : List FaultKind) → (if b then ms else TupleLength ∷ []) ≡ [] → (b ≡ true) × (ms ≡ [])
empty_if true ms e = (refl, e)
empty_if false ms e = absurd cc

mutual
  fit_from : (p : ArgumentPattern) (x : ReprData) → misfits p x ≡ [] → pattern_fits p x ≡ true
  fit_from (one_name n) x e = refl
  fit_from (several ps) (tuple ts) e =
      let h = empty_if (as_many ps ts) (misfits_of ps ts) e in
      fit_all_from ps ts h.0 h.1
  fit_from (several ps) _ e = absurd cc

  fit_all_from : (ps : ArgumentPatterns) (xs : Reprs) → as_many ps xs ≡ true → misfits_of ps xs ≡ [] → fit_all ps xs ≡ true
  fit_all_from no_arguments no_reprs c e = refl
  fit_all_from no_arguments (repr_and x xs) c e = absurd cc
  fit_all_from (argument_and p ps) no_reprs c e = absurd cc
  fit_all_from (argument_and p ps) (repr_and x xs) c e =
      let h = both_empty (misfits p x) (misfits_of ps xs) e in
      both_hold (pattern_fits p x) (fit_all ps xs) (fit_from p x h.0) (fit_all_from ps xs c h.1)

mutual
  from_fit : (p : ArgumentPattern) (x : ReprData) → pattern_fits p x ≡ true → misfits p x ≡ []
  from_fit (one_name n) x e = refl
  from_fit (several ps) (tuple ts) e = let h = from_fit_all ps ts e in rw (h.0, h.1) refl
  from_fit (several ps) _ e = absurd cc

  from_fit_all : (ps : ArgumentPatterns) (xs : Reprs) → fit_all ps xs ≡ true → (as_many ps xs ≡ true) × (misfits_of ps xs ≡ [])
  from_fit_all no_arguments no_reprs e = (refl, refl)
  from_fit_all no_arguments (repr_and x xs) e = absurd cc
  from_fit_all (argument_and p ps) no_reprs e = absurd cc
  from_fit_all (argument_and p ps) (repr_and x xs) e =
      let h = both_true (pattern_fits p x) (fit_all ps xs) e in
      let rest = from_fit_all ps xs h.1 in
      (rest.0, rw (from_fit p x h.0, rest.1) refl)

-- ---- tuple symbols

over_found_fits : (g : GrammarData) (f : Table) → IsTable g f → (ns : ArgumentPatterns) (p : Part) (n : List ℕ) → kind_of p ≡ nonterminal n → (v : Option ReprData) → f n ≡ v →
    over_found ns v ≡ [] → PatternFits g (ns, p)
over_found_fits g f table ns p n k None is e = absurd cc
over_found_fits g f table ns p n k (Some x) is e =
    record { name = n; type = x; nonterminal_below = k; has = (table n x).0 is; fitting = fit_from (several ns) x e }

over_kind_fits : (g : GrammarData) (f : Table) → IsTable g f → (ns : ArgumentPatterns) (p : Part) (k : Kind) → kind_of p ≡ k → over_kind f ns k ≡ [] → PatternFits g (ns, p)
over_kind_fits g f table ns p (nonterminal n) k e = over_found_fits g f table ns p n k (f n) refl e
over_kind_fits g f table ns p _ k e = absurd cc

pub no_map : {A B : Type 0} (h : A → B) (xs : List A) → map h xs ≡ [] → xs ≡ []
no_map h [] e = refl
no_map h (x ∷ xs) e = absurd cc

symbol_fits : (g : GrammarData) (f : Table) → IsTable g f → (p : Pattern) → symbol_misfits f p ≡ [] → PatternFits g p
symbol_fits g f table (ns, p) e = over_kind_fits g f table ns p (kind_of p) refl (no_map _ (over_kind f ns (kind_of p)) e)

fits_symbol : (g : GrammarData) (f : Table) → IsTable g f → (p : Pattern) → PatternFits g p → symbol_misfits f p ≡ []
fits_symbol g f table p h =
    let found : f h.name ≡ Some h.type = (table h.name h.type).1 h.has in
    rw (h.nonterminal_below, found, from_fit (several p.0) h.type h.fitting) refl

-- Where the table is the relation of types, nothing is wrong if and only if each tuple symbol fits.
pub patterns_exactly : (g : GrammarData) (f : Table) → IsTable g f → (pattern_misfits g f ≡ []) ↔ PatternsFit g
patterns_exactly g f table = (
  λ e a h p i. symbol_fits g f table p
      (none_made (symbol_misfits f) (tuple_symbols a.parts)
      (none_made (alternative_misfits f) h.0.alternatives (none_made (rule_misfits f) (all_rules g) e h.0 h.1) a h.2) p i),
  λ h. all_empty (rule_misfits f) (all_rules g) (λ r i.
      all_empty (alternative_misfits f) r.alternatives (λ a j.
      all_empty (symbol_misfits f) (tuple_symbols a.parts) (λ p k. fits_symbol g f table p (h a (r, i, j) p k)))),
)
