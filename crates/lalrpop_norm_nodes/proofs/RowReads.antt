-- Symbols read one after another.
use Rattle.std.proofs.Common.{◌≡◌, ℕ, ◌+◌, ◌<◌, List, [], ◌∷◌, ◌++◌, length, map, take, get_or, Some, Option, refl, sym, ap, ap₂, ◌∙◌, subst, append-nil}
use Rattle.std.specs.List.{flat_map}
use Rattle.std.proofs.lemmas.List.{take_more, map-append, length-map}
use Rattle.lalrpop_norm_tree.specs.Symbols.{Kind, Part, part_and, parts_of, at}
use Rattle.lalrpop_norm_model.specs.PlainRules.{met, all_met}
use Rattle.lalrpop_norm_model.specs.Replaced.{replaced, all_replaced}
use Rattle.lalrpop_norm_faults.specs.declared.failure.NormFailure.{NormFailure}
use Rattle.lalrpop_norm_faults.specs.Faults.{Fault, IsFirst}
use Rattle.lalrpop_norm_nodes.specs.Apart.{nowhere, unplaced}
use Rattle.lalrpop_norm_nodes.specs.declared.node.Node.TheVariants as node
use Rattle.lalrpop_norm_nodes.specs.declared.node.Binary.TheVariants as binary
use Rattle.lalrpop_norm_nodes.specs.declared.table.Table.{Table}
use Rattle.lalrpop_norm_nodes.specs.Filled.{filled, all_filled}
use Rattle.lalrpop_norm_nodes.specs.Wholes.{Whole, one_symbol, symbols, as_kind, as_symbols, built, StandsFor, Grows}
use Rattle.lalrpop_norm_nodes.specs.declared.texts.Counter.{Counter}
use Rattle.lalrpop_norm_nodes.specs.Tables.{seen_in, IsCounted, TableMeets}
use Rattle.lalrpop_norm_nodes.proofs.MeetLemmas.{meets_both}
use Rattle.lalrpop_norm_nodes.proofs.RowItems.{stands_later}

pub met_one_by_one : (f : List ℕ → Option Kind) (ps : List Part) → all_met (all_filled f (parts_of ps)) ≡ flat_map (λ p. met (filled f p)) ps
met_one_by_one f [] = refl
met_one_by_one f (p ∷ ps) = ap (λ qs. met (filled f p) ++ qs) (met_one_by_one f ps)

pub shown_one_by_one : (f : List ℕ → Option Kind) (ps : List Part) → all_replaced (all_filled f (parts_of ps)) ≡ parts_of (map (λ p. replaced (filled f p)) ps)
shown_one_by_one f [] = refl
shown_one_by_one f (p ∷ ps) = ap (λ qs. part_and (replaced (filled f p)) qs) (shown_one_by_one f ps)

pub first_same : (xs ys : List Fault) (e : NormFailure) → xs ≡ ys → IsFirst xs e → IsFirst ys e
first_same xs ys e h k = subst (λ (fs : List Fault). IsFirst fs e) h k

-- and then a row is entered, which reaches nothing
pub counted_row : (d z : Table) → IsCounted d → z.made ≡ d.made → TableMeets d z [] → IsCounted z
counted_row d z h same k =
    ap (λ (n : Counter). n.count) same ∙ h ∙ sym (length-map (seen_in d) unplaced) ∙ ap length (sym k.seen) ∙ length-map (seen_in z) unplaced

pub meets_row : (a b d : Table) (xs : List Part) → TableMeets a b xs → TableMeets b d [] → TableMeets a d xs
meets_row a b d xs h k = subst (λ (ys : List Part). TableMeets a d ys) (append-nil xs) (meets_both a b d xs [] h k)

pub row_more : (ws vs us : List Whole) (row n more : ℕ) (f : Part → Part) (ps : List Part) (i : ℕ) (p : Part) (k : Kind) → i < length ps → p ≡ get_or ps i p →
    StandsFor ws row (symbols (map f (take i ps))) → Grows ws vs → StandsFor vs n (one_symbol k) → at nowhere k ≡ f p →
    StandsFor us more (built vs (node.Binary binary.Symbols row n)) → StandsFor us more (symbols (map f (take (i + 1) ps)))
row_more ws vs us row n more f ps i p k l e h grows here same new =
    new ∙ ap (λ qs. Some (symbols qs))
    (ap₂ (λ (qs : List Part) (q : Part). qs ++ q ∷ [])
    (ap as_symbols (stands_later ws vs row _ grows h)) (ap (λ o. at nowhere (as_kind o)) here ∙ same)
    ∙ sym (map-append f (take i ps) (p ∷ []))
    ∙ ap (map f) (ap (λ y. take i ps ++ y ∷ []) e ∙ sym (take_more ps i p l)))
