-- Symbols reached in two parts, up to spans; and what is there already.
use Rattle.std.proofs.Common.{◌≡◌, ℕ, List, [], ◌∷◌, ◌++◌, Bool, true, false, cond, map, Option, Some, None, option_map, bytes_eq, refl, sym, ap, ap₂, ◌∙◌, append-nil, append_assoc}
use Rattle.std.specs.Prelude.{not, ◌||◌}
use Rattle.std.proofs.lemmas.Bool.{and_parts, and_from}
use Rattle.std.proofs.lemmas.List.{map-append}
use Rattle.lalrpop_norm_tree_names.specs.declared.names.Span.{Span}
use Rattle.lalrpop_norm_tree.specs.Symbols.{Kind, Part, at}
use Rattle.lalrpop_norm_tree.specs.SymbolTexts.{part_text, kind_text}
use Rattle.lalrpop_norm_faults.specs.Faults.{Fault, fault_if}
use Rattle.lalrpop_norm_faults.specs.declared.kind.FaultKind.TheVariants.{SharedName}
use Rattle.lalrpop_norm_theory.specs.Symbols.{ClosedSymbol}
use Rattle.lalrpop_norm_theory.specs.Same.{same_symbol}
use Rattle.lalrpop_norm_model.specs.MadeRules.{span_of}
use Rattle.lalrpop_norm_model.specs.PlainRules.{met}
use Rattle.lalrpop_norm_model.specs.PlainTables.{closed}
use Rattle.lalrpop_norm_model.specs.Replaced.{is_desugared}
use Rattle.lalrpop_norm_nodes.specs.Apart.{nowhere, unplaced_kind, unplaced}
use Rattle.lalrpop_norm_nodes.specs.Meeting.{met_inside, own, first_with_text, joined_by, after_one, after, differs, clashes, clash_faults, were_met, has_key}
use Rattle.lalrpop_norm_nodes.proofs.ApartLemmas.{part_closed}
use Rattle.lalrpop_norm_nodes.proofs.SamenessLemmas.{closed_text_same}
use Rattle.lalrpop_norm_nodes.proofs.MeetingLemmas.{after_both, clash_both}
use Rattle.lalrpop_norm_nodes.proofs.SymbolLemmas.{split_at}
use Rattle.lalrpop_norm_nodes.proofs.InwardLemmas.{quiet, were_both, same_met}
use Rattle.lalrpop_norm_nodes.specs.declared.table.Table.{Table}
use Rattle.lalrpop_norm_nodes.specs.Wholes.{Whole, one_symbol, StandsFor, Grows}
use Rattle.lalrpop_norm_nodes.specs.Tables.{wholes_in, is_declared_in, seen_in, IsNodeTable, TableMeets, refused_in}

-- ---- spans of what was reached add nothing

pub text_unplaced : (p : Part) → part_text (unplaced p) ≡ part_text p
text_unplaced p = closed_text_same (unplaced p) p (part_closed 0 0 0 0 p)

pub kind_text_unplaced : (k : Kind) → kind_text (unplaced_kind k) ≡ kind_text k
kind_text_unplaced k = text_unplaced (at nowhere k)

pub first_bare : (t : List ℕ) (seen : List Part) → first_with_text t (map unplaced seen) ≡ option_map unplaced (first_with_text t seen)
first_bare t [] = refl
first_bare t (p ∷ seen) =
    ap (λ (u : List ℕ). cond (bytes_eq u t) (Some (unplaced p)) (first_with_text t (map unplaced seen))) (text_unplaced p)
    ∙ by (bytes_eq (part_text p) t) (first_bare t seen)
  where
    by : (b : Bool) → first_with_text t (map unplaced seen) ≡ option_map unplaced (first_with_text t seen)
        → cond b (Some (unplaced p)) (first_with_text t (map unplaced seen)) ≡ option_map unplaced (cond b (Some p) (first_with_text t seen))
    by true h = refl
    by false h = h

differs_bare : (o : Option Part) (x : Part) → differs (option_map unplaced o) x ≡ differs o x
differs_bare None x = refl
differs_bare (Some y) x = ap (λ (g : ClosedSymbol). not (same_symbol g (closed x))) (part_closed 0 0 0 0 y)

module _ (names : List ℕ → Bool) where
  clashes_bare : (seen : List Part) (x : Part) → clashes names (map unplaced seen) x ≡ clashes names seen x
  clashes_bare seen x =
      ap (λ (o : Option Part). names (part_text x) || differs o x) (first_bare (part_text x) seen)
      ∙ ap (λ (b : Bool). names (part_text x) || b) (differs_bare (first_with_text (part_text x) seen) x)

  clashes_same : (a b : List Part) (x : Part) → map unplaced a ≡ map unplaced b → clashes names a x ≡ clashes names b x
  clashes_same a b x e = sym (clashes_bare a x) ∙ ap (λ (s : List Part). clashes names s x) e ∙ clashes_bare b x

one_bare : (seen : List Part) (x : Part) → map unplaced (after_one seen x) ≡ joined_by (first_with_text (part_text x) (map unplaced seen)) (map unplaced seen) (unplaced x)
one_bare seen x = by (first_with_text (part_text x) seen) ∙ ap (λ (o : Option Part). joined_by o (map unplaced seen) (unplaced x)) (sym (first_bare (part_text x) seen))
  where
    by : (o : Option Part) → map unplaced (joined_by o seen x) ≡ joined_by (option_map unplaced o) (map unplaced seen) (unplaced x)
    by None = map-append unplaced seen (x ∷ [])
    by (Some y) = refl

one_same : (a b : List Part) (x : Part) → map unplaced a ≡ map unplaced b → map unplaced (after_one a x) ≡ map unplaced (after_one b x)
one_same a b x e =
    one_bare a x ∙ ap (λ (s : List Part). joined_by (first_with_text (part_text x) s) s (unplaced x)) e ∙ sym (one_bare b x)

pub after_same : (a b xs : List Part) → map unplaced a ≡ map unplaced b → map unplaced (after a xs) ≡ map unplaced (after b xs)
after_same a b [] e = e
after_same a b (x ∷ xs) e = after_same (after_one a x) (after_one b x) xs (one_same a b x e)

pub clash_same : (names : List ℕ → Bool) (a b xs : List Part) → map unplaced a ≡ map unplaced b → clash_faults names a xs ≡ clash_faults names b xs
clash_same names a b [] e = refl
clash_same names a b (x ∷ xs) e =
    ap₂ (λ (c : Bool) (fs : List Fault). fault_if c (SharedName, span_of x) ++ fs)
    (clashes_same names a b x e) (clash_same names (after_one a x) (after_one b x) xs (one_same a b x e))

-- ---- in two parts

pub grows_both : (a b c : List Whole) → Grows a b → Grows b c → Grows a c
grows_both a b c (more, e) (still, f) = (more ++ still, f ∙ ap (λ (ws : List Whole). ws ++ still) e ∙ append_assoc a more still)

pub meets_both : (a b c : Table) (xs ys : List Part) → TableMeets a b xs → TableMeets b c ys → TableMeets a c (xs ++ ys)
meets_both a b c xs ys h k = record {
  seen = k.seen ∙ after_same (seen_in b) (after (seen_in a) xs) ys h.seen ∙ sym (ap (map unplaced) (after_both (seen_in a) xs ys));
  names = k.names ∙ h.names;
  grows = grows_both (wholes_in a) (wholes_in b) (wholes_in c) h.grows k.grows;
  table = k.table;
}

pub refused_both : (a b : Table) (xs ys : List Part) → TableMeets a b xs → refused_in a (xs ++ ys) ≡ refused_in a xs ++ refused_in b ys
refused_both a b xs ys h =
    clash_both (is_declared_in a) (seen_in a) xs ys
    ∙ ap (λ (fs : List Fault). refused_in a xs ++ fs) (clash_same (is_declared_in a) (after (seen_in a) xs) (seen_in b) ys (sym h.seen))
    ∙ ap (λ n. refused_in a xs ++ clash_faults (has_key n) (seen_in b) ys) (sym h.names)

pub refused_later : (a b : Table) (xs ys : List Part) → TableMeets a b xs → refused_in a xs ≡ [] → refused_in a (xs ++ ys) ≡ refused_in b ys
refused_later a b xs ys h none = refused_both a b xs ys h ∙ ap (λ (fs : List Fault). fs ++ refused_in b ys) none

-- ---- a symbol that is there reaches nothing new, wherever it is

own_moved : (names : List ℕ → Bool) (seen : List Part) (s : Span) (k : Kind) → were_met names seen (own nowhere k) ≡ true → were_met names seen (own s k) ≡ true
own_moved names seen s k h = by (is_desugared k) h
  where
    by : (b : Bool) → were_met names seen (cond b (at nowhere k ∷ []) []) ≡ true → were_met names seen (cond b (at s k ∷ []) []) ≡ true
    by true g = and_from _ _ (same_met names seen (at nowhere k) (at s k) refl (and_parts _ _ g).0) refl
    by false g = refl

pub were_left : (names : List ℕ → Bool) (seen xs ys : List Part) → were_met names seen (xs ++ ys) ≡ true → were_met names seen xs ≡ true
were_left names seen [] ys h = refl
were_left names seen (x ∷ xs) ys h = and_from _ _ (and_parts _ _ h).0 (were_left names seen xs ys (and_parts _ _ h).1)

pub were_right : (names : List ℕ → Bool) (seen xs ys : List Part) → were_met names seen (xs ++ ys) ≡ true → were_met names seen ys ≡ true
were_right names seen [] ys h = h
were_right names seen (x ∷ xs) ys h = were_right names seen xs ys (and_parts _ _ h).1

pub standing_met : (t : Table) (i : ℕ) (k : Kind) (s : Span) → IsNodeTable t → StandsFor (wholes_in t) i (one_symbol k) →
    (refused_in t (met (at s k)) ≡ []) × TableMeets t t (met (at s k))
standing_met t i k s h e =
    let all : were_met (is_declared_in t) (seen_in t) (met_inside k ++ own nowhere k) ≡ true =
    ap (were_met (is_declared_in t) (seen_in t)) (sym (split_at nowhere k)) ∙ h.met i (one_symbol k) e in
    let moved : were_met (is_declared_in t) (seen_in t) (own s k) ≡ true =
    own_moved (is_declared_in t) (seen_in t) s k (were_right (is_declared_in t) (seen_in t) (met_inside k) (own nowhere k) all) in
    let here : were_met (is_declared_in t) (seen_in t) (met (at s k)) ≡ true =
    ap (were_met (is_declared_in t) (seen_in t)) (split_at s k)
    ∙ were_both (is_declared_in t) (seen_in t) (met_inside k) (own s k) (were_left (is_declared_in t) (seen_in t) (met_inside k) (own nowhere k) all) moved in
    let still = quiet (is_declared_in t) (seen_in t) (met (at s k)) here in (
      still.0,
      record {
        seen = ap (map unplaced) (sym still.1);
        names = refl;
        grows = ([], sym (append-nil (wholes_in t)));
        table = h;
      },
    )

-- ---- nothing is reached

pub meets_nothing : (t : Table) → IsNodeTable t → TableMeets t t []
meets_nothing t h = record { seen = refl; names = refl; grows = ([], sym (append-nil (wholes_in t))); table = h }
