-- Tuple symbols and their patterns.
use Rattle.std.proofs.Common.{◌≡◌, ◌<◌, ◌+◌, ℕ, suc, true, false, Result, Some, None, List, [], ◌∷◌, ◌++◌, length, drop, get_or, refl, sym, ap, ◌∙◌, arith}
use Rattle.std.specs.List.{flat_map}
use Rattle.std.specs.Prelude.{if◌then◌else◌}
use Rattle.std.proofs.lemmas.List.{map-append, at_drop_more}
use Rattle.lalrpop_norm_tree_names.specs.declared.names.Span.{Span}
use Rattle.lalrpop_norm_shared_types.specs.Shared.{shared_view, shared_all}
use Rattle.lalrpop_norm_shared_types.specs.declared.shared.SharedType.{SharedType}
use Rattle.lalrpop_norm_tree.specs.declared.symbol.ArgPattern.{ArgPattern}
use Rattle.lalrpop_norm_tree.specs.declared.symbol.ArgPattern.TheFolds.{fold_out-Tuple}
use Rattle.lalrpop_norm_tree.specs.declared.symbol.Tuple.{Tuple}
use Rattle.lalrpop_norm_tree_parts.specs.Reprs.{ReprData, Reprs, tuple, slice, nominal, associated, of_lifetime, reference, trait_object, function}
use Rattle.lalrpop_norm_tree.specs.Symbols.{ArgumentPattern, ArgumentPatterns, several, argument_pattern_step, tuple_step, tuple_view, Kind, Parts, tupled, at, no_parts, part_and, argument_pattern_view, argument_patterns_view}
use Rattle.lalrpop_norm_faults.specs.declared.failure.NormFailure.{NormFailure}
use Rattle.lalrpop_norm_faults.specs.declared.kind.FaultKind.TheVariants.{TupleLength, TupleOverType}
use Rattle.lalrpop_norm_faults.specs.Faults.{Fault, Refuses}
use Rattle.lalrpop_norm_model.specs.TuplePatterns.{tuple_symbols, symbol_misfits, misfits, misfits_of, as_many}
use Rattle.lalrpop_norm_model.specs.TypeTables.{Table}
use Rattle.lalrpop_norm_tyinfer_steps.specs.TableFaults.{faults_at, parts_misfits, types_in_tuple}

misfits_one : (f : Table) (s : Span) (k : Kind) (ps : Parts) → flat_map (symbol_misfits f) (tuple_symbols ps) ≡ parts_misfits f ps →
    flat_map (symbol_misfits f) (tuple_symbols (part_and (at s k) ps)) ≡ parts_misfits f (part_and (at s k) ps)
misfits_one f s (tupled ns p) ps e = ap (λ fs. symbol_misfits f (ns, p) ++ fs) e
misfits_one f s _ ps e = e

-- what is wrong with the tuple symbols is what is wrong symbol by symbol
pub misfits_are : (f : Table) (ps : Parts) → flat_map (symbol_misfits f) (tuple_symbols ps) ≡ parts_misfits f ps
misfits_are f no_parts = refl
misfits_are f (part_and (at s k) ps) = misfits_one f s k ps (misfits_are f ps)

-- the names of a tuple
pub tuple_is : (t : Tuple) → tuple_view t ≡ argument_patterns_view t.tuples.items
tuple_is t = fold_out-Tuple ArgumentPattern ArgumentPatterns argument_pattern_step tuple_step t

-- ---- lengths

pub as_many_is : (ps : List ArgPattern) (ts : List SharedType) → length ps ≡ length ts → as_many (argument_patterns_view ps) (shared_all ts) ≡ true
as_many_is [] [] e = refl
as_many_is [] (t ∷ ts) e = absurd (omega arith)
as_many_is (p ∷ ps) [] e = absurd (omega arith)
as_many_is (p ∷ ps) (t ∷ ts) e = as_many_is ps ts (omega arith)

pub not_as_many : (ps : List ArgPattern) (ts : List SharedType) → (length ps ≡ length ts → ⊥) → as_many (argument_patterns_view ps) (shared_all ts) ≡ false
not_as_many [] [] e = absurd (e refl)
not_as_many [] (t ∷ ts) e = refl
not_as_many (p ∷ ps) [] e = refl
not_as_many (p ∷ ps) (t ∷ ts) e = not_as_many ps ts (λ same. e (ap suc same))

-- ---- a loop over patterns and types

at_both : (s : Span) (ps : List ArgPattern) (ts : List SharedType) (i : ℕ) (p : ArgPattern) (t : SharedType) → i < length ps → i < length ts → p ≡ get_or ps i p → t ≡ get_or ts i t →
    faults_at s (misfits_of (argument_patterns_view (drop i ps)) (shared_all (drop i ts)))
    ≡ faults_at s (misfits (argument_pattern_view p) (shared_view t)) ++ faults_at s (misfits_of (argument_patterns_view (drop (i + 1) ps)) (shared_all (drop (i + 1) ts)))
at_both s ps ts i p t lp lt ip it =
    at_drop_more (λ qs. faults_at s (misfits_of (argument_patterns_view qs) (shared_all (drop i ts)))) ps i p lp
    ∙ (at_drop_more (λ us. faults_at s (misfits_of (argument_patterns_view (get_or ps i p ∷ drop (i + 1) ps)) (shared_all us))) ts i t lt
    ∙ (ap (λ q. faults_at s (misfits_of (argument_patterns_view (q ∷ drop (i + 1) ps)) (shared_all (get_or ts i t ∷ drop (i + 1) ts)))) (sym ip)
    ∙ (ap (λ u. faults_at s (misfits_of (argument_patterns_view (p ∷ drop (i + 1) ps)) (shared_all (u ∷ drop (i + 1) ts)))) (sym it)
    ∙ map-append _ (misfits (argument_pattern_view p) (shared_view t)) (misfits_of (argument_patterns_view (drop (i + 1) ps)) (shared_all (drop (i + 1) ts))))))

pub next_misfits : (s : Span) (ps : List ArgPattern) (ts : List SharedType) (i : ℕ) (p : ArgPattern) (t : SharedType) → i < length ps → i < length ts → p ≡ get_or ps i p → t ≡ get_or ts i t →
    (all : List Fault) → faults_at s (misfits_of (argument_patterns_view (drop i ps)) (shared_all (drop i ts))) ≡ all →
    all ≡ faults_at s (misfits (argument_pattern_view p) (shared_view t)) ++ faults_at s (misfits_of (argument_patterns_view (drop (i + 1) ps)) (shared_all (drop (i + 1) ts)))
next_misfits s ps ts i p t lp lt ip it all e = sym e ∙ at_both s ps ts i p t lp lt ip it

-- ---- a pattern over a type

pub over_types : {T : Type 0} (s : Span) (ps : ArgumentPatterns) (x : ReprData) (ts : Reprs) (r : Result T NormFailure) → Some ts ≡ types_in_tuple x →
    Refuses r (faults_at s (if as_many ps ts then misfits_of ps ts else (TupleLength ∷ []))) → Refuses r (faults_at s (misfits (several ps) x))
over_types s ps (tuple us) ts r e h = let same : us ≡ ts = cc in rw same h
over_types s ps (slice x) ts r e h = absurd (cc e)
over_types s ps (nominal p us) ts r e h = absurd (cc e)
over_types s ps (associated p a) ts r e h = absurd (cc e)
over_types s ps (of_lifetime l) ts r e h = absurd (cc e)
over_types s ps (reference l m x) ts r e h = absurd (cc e)
over_types s ps (trait_object p us) ts r e h = absurd (cc e)
over_types s ps (function fs p us y) ts r e h = absurd (cc e)

pub over_no_tuple : (s : Span) (ps : ArgumentPatterns) (x : ReprData) → None ≡ types_in_tuple x → faults_at s (misfits (several ps) x) ≡ (TupleOverType, s) ∷ []
over_no_tuple s ps (tuple us) e = absurd (cc e)
over_no_tuple s ps (slice x) e = refl
over_no_tuple s ps (nominal p us) e = refl
over_no_tuple s ps (associated p a) e = refl
over_no_tuple s ps (of_lifetime l) e = refl
over_no_tuple s ps (reference l m x) e = refl
over_no_tuple s ps (trait_object p us) e = refl
over_no_tuple s ps (function fs p us y) e = refl
