-- What is added to the worklist where a symbol is read.
use Rattle.std.proofs.Common.{◌≡◌, ℕ, ◌+◌, ◌<◌, length, take, get_or, List, [], ◌∷◌, ◌++◌, true, false, map, Option, Some, None, is_some, cond, true≢false, refl, sym, ap, ◌∙◌, subst}
use Rattle.std.specs.List.{flat_map}
use Rattle.std.proofs.lemmas.List.{map-append}
use Rattle.lalrpop_norm_tree_names.specs.declared.names.Span.{Span}
use Rattle.lalrpop_norm_tree.specs.declared.symbol.Symbol.{Symbol}
use Rattle.lalrpop_norm_tree.specs.Symbols.{Kind, Part, parts_of, group, nonterminal, at, kind_view, symbol_view}
use Rattle.lalrpop_norm_tree.proofs.SymbolViews.{seen_at}
use Rattle.lalrpop_norm_tree.specs.SymbolTexts.{part_text, kind_text}
use Rattle.lalrpop_norm_model.specs.PlainRules.{met, all_met}
use Rattle.lalrpop_norm_nodes.specs.Meeting.{met_inside, own, own_text, met_itself}
use Rattle.lalrpop_norm_nodes.specs.Apart.{nowhere}
use Rattle.lalrpop_norm_nodes.specs.declared.given.Given.{Given}
use Rattle.lalrpop_norm_nodes.specs.declared.given.Environment.{Environment}
use Rattle.lalrpop_norm_nodes.specs.declared.table.Table.{Table}
use Rattle.lalrpop_norm_nodes.specs.Filled.{filled, filled_kind, all_filled, inside_replaced}
use Rattle.lalrpop_norm_nodes.specs.Given.{given_to, shown_for, AreGiven, kind_shown}
use Rattle.lalrpop_norm_nodes.specs.Readings.{topped}
use Rattle.lalrpop_norm_nodes.specs.Tables.{wholes_in, own_at, own_text_in, IsNodeTable, TableMeets}
use Rattle.lalrpop_norm_nodes.specs.Wholes.{Whole, one_symbol, symbols, one_pattern, patterns}
use Rattle.lalrpop_norm_nodes.specs.Waits.{parts_replaced, shown_met, LeavesWaiting}
use Rattle.lalrpop_norm_nodes.proofs.InPlace.{met_more}
use Rattle.lalrpop_norm_nodes.proofs.SymbolLemmas.{split_at, desugared, own_if}
use Rattle.lalrpop_norm_nodes.proofs.ReadLemmas.{bound_is}
use Rattle.lalrpop_norm_nodes.proofs.TwiceLemmas.{nothing_met}
use Rattle.lalrpop_norm_nodes.proofs.WaitLemmas.{waits_both, waits_nothing, waits_plain}

-- what a name is bound to was reached
pub bound_waits : (t : Table) (e : Environment) (s : Symbol) (g : Given) → AreGiven (wholes_in t) e → given_to e (kind_view s.kind) ≡ Some g →
    LeavesWaiting t t (shown_met e (symbol_view s))
bound_waits t e s g given f =
    let b = bound_is (wholes_in t) e (kind_view s.kind) g given f in
    let none : shown_met e (symbol_view s) ≡ [] =
    ap (λ (p : Part). map parts_replaced (met (filled (shown_for e) p))) (seen_at s)
    ∙ ap (λ (k : Kind). map parts_replaced (met (at s.span k))) (b.shown ∙ sym b.given.replaced)
    ∙ ap (map parts_replaced) (nothing_met (at s.span (kind_view g.symbol.kind))) in
    subst (λ (xs : List Part). LeavesWaiting t t xs) (sym none) (waits_nothing t)

own_parts : (s : Span) (k : Kind) → map parts_replaced (own s k) ≡ own s (inside_replaced k)
own_parts s (group ps) = refl
own_parts s _ = refl

-- a symbol that is read is on the worklist behind what is inside it
pub read_waits : (a b d : Table) (e : Environment) (s : Symbol) → LeavesWaiting a b (map parts_replaced (met_inside (filled_kind (shown_for e) (kind_view s.kind)))) →
    LeavesWaiting b d (own s.span (kind_shown e (kind_view s.kind))) → LeavesWaiting a d (shown_met e (symbol_view s))
read_waits a b d e s h g =
    let k = filled_kind (shown_for e) (kind_view s.kind) in
    let split : shown_met e (symbol_view s) ≡ map parts_replaced (met_inside k) ++ own s.span (inside_replaced k) =
    ap (λ (p : Part). map parts_replaced (met (filled (shown_for e) p))) (seen_at s)
    ∙ ap (map parts_replaced) (split_at s.span k)
    ∙ map-append parts_replaced (met_inside k) (own s.span k)
    ∙ ap (λ (xs : List Part). map parts_replaced (met_inside k) ++ xs) (own_parts s.span k) in
    subst (λ (xs : List Part). LeavesWaiting a d xs) (sym split) (waits_both a b d _ _ h g)

-- one that is not desugared does not
pub kept_waits : (a b : Table) (s : Symbol) → is_some (own_text (symbol_view s)) ≡ false → IsNodeTable a → TableMeets a b [] → b.waiting ≡ a.waiting →
    LeavesWaiting a b (met_itself (symbol_view s))
kept_waits a b s none table h same =
    subst (λ (xs : List Part). LeavesWaiting a b xs) (sym (ap met_itself (seen_at s) ∙ own_if s.span (kind_view s.kind) false (desugared s.span (kind_view s.kind) false (ap (λ (p : Part). is_some (own_text p)) (sym (seen_at s)) ∙ none)))) (waits_plain a b table h same)

-- one that is does
pub made_waits_itself : (a b : Table) (p : Part) → is_some (own_text p) ≡ true → LeavesWaiting a b (p ∷ []) → LeavesWaiting a b (met_itself p)
made_waits_itself a b p some h = subst (λ (xs : List Part). LeavesWaiting a b xs) (sym (itself p some)) h
  where
    itself : (p : Part) → is_some (own_text p) ≡ true → met_itself p ≡ p ∷ []
    itself (at s k) f = own_if s k true (desugared s k true f)

-- a symbol rewritten to the nonterminal of its text
pub made_topped : (s : Symbol) → is_some (own_text (symbol_view s)) ≡ true → at s.span (nonterminal (part_text (symbol_view s))) ≡ topped (symbol_view s)
made_topped s some =
    ap (λ (p : Part). at s.span (nonterminal (part_text p))) (seen_at s)
    ∙ by (kind_view s.kind) (ap (λ (p : Part). is_some (own_text p)) (sym (seen_at s)) ∙ some) ∙ ap topped (sym (seen_at s))
  where
    by : (k : Kind) → is_some (own_text (at s.span k)) ≡ true → at s.span (nonterminal (kind_text k)) ≡ topped (at s.span k)
    by k f = ap (λ b. at s.span (cond b (nonterminal (kind_text k)) k)) (sym (desugared s.span k true f))

-- and its text
pub own_is_text : (p : Part) (o : Option (List ℕ)) → is_some (own_text p) ≡ true → o ≡ own_text p → o ≡ Some (part_text p)
own_is_text p o some e = e ∙ by p some
  where
    by : (p : Part) → is_some (own_text p) ≡ true → own_text p ≡ Some (part_text p)
    by (at s k) f = ap (λ b. cond b (Some (kind_text k)) None) (desugared s k true f)

pub shown_met_one_by_one : (f : List ℕ → Option Kind) (ps : List Part) →
    map parts_replaced (all_met (all_filled f (parts_of ps))) ≡ flat_map (λ p. map parts_replaced (met (filled f p))) ps
shown_met_one_by_one f [] = refl
shown_met_one_by_one f (p ∷ ps) =
    map-append parts_replaced (met (filled f p)) (all_met (all_filled f (parts_of ps)))
    ∙ ap (λ qs. map parts_replaced (met (filled f p)) ++ qs) (shown_met_one_by_one f ps)

pub partly_waits : {D : Type 0} (m : D → List Part) (vs : List D) (i : ℕ) (w : D) → i < length vs → w ≡ get_or vs i w → (a b c : Table) →
    LeavesWaiting a b (flat_map m (take i vs)) → LeavesWaiting b c (m w) → LeavesWaiting a c (flat_map m (take (i + 1) vs))
partly_waits m vs i w l e a b c h k = rw (met_more m vs i w l e) (waits_both a b c _ _ h k)

-- ---- what is not desugared

pub no_text : (o p : Option (List ℕ)) → o ≡ p → is_some p ≡ false → o ≡ None
no_text o None e f = e
no_text o (Some x) e f = absurd (true≢false f)

-- what is not desugared stands for nothing that is reached
pub own_none : (s : Span) (w : Whole) → own_text_in w ≡ None → own_at s w ≡ []
own_none s (symbols ps) e = refl
own_none s (one_pattern p) e = refl
own_none s (patterns ps) e = refl
own_none s (one_symbol k) e = own_if s k false (desugared nowhere k false (ap is_some e))

pub same_topped : (s : Symbol) → is_some (own_text (symbol_view s)) ≡ false → symbol_view s ≡ topped (symbol_view s)
same_topped s none = by (symbol_view s) none
  where
    by : (p : Part) → is_some (own_text p) ≡ false → p ≡ topped p
    by (at s k) f = ap (λ b. at s (cond b (nonterminal (kind_text k)) k)) (sym (desugared s k false f))
