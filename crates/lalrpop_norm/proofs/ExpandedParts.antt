-- Symbols whose terminals and names are among given ones, and in which no open identifier occurs: what they are replaced by is plain.
use Rattle.std.proofs.Common.{◌≡◌, inl, inr, ℕ, true, ◌&&◌, List, [], ◌∷◌, refl, ap₂, sym, subst}
use Rattle.lalrpop_norm_tree_names.specs.declared.names.Span.{Span}
use Rattle.lalrpop_norm_tree_names.specs.declared.names.TerminalString.{TerminalString}
use Rattle.lalrpop_norm_tree.specs.Symbols.{Kind, Part, Parts, ambiguous_id, terminal, nonterminal, chosen, named, tupled, at, no_parts, part_and}
use Rattle.lalrpop_norm_theory.specs.Rounds.{In}
use Rattle.lalrpop_norm_theory.proofs.RoundsLemmas.{in_cases}
use Rattle.lalrpop_norm_model.specs.Replaced.{replaced_kind, replaced, all_replaced}
use Rattle.lalrpop_norm_model.specs.Terminals.{terminals_in, terminals_in_parts}
use Rattle.lalrpop_norm_model.specs.Expanded.{is_plain_terminal, is_plain_kind, is_plain, are_plain}
use Rattle.lalrpop_norm_model.proofs.TraversalLemmas.{HoldsOfKind, HoldsOfPart, HoldsOfParts}

-- ---- the predicate

-- At every depth a terminal is one of P, a name that is no macro's one of N; no open identifier occurs there.
module _ (P : TerminalString → Type 0) (N : List ℕ → Type 0) where
  abbrev pub IsReadyLeaf : Kind → Type 0
  IsReadyLeaf (terminal t) = P t
  IsReadyLeaf (nonterminal n) = N n
  IsReadyLeaf (ambiguous_id a) = ⊥
  IsReadyLeaf _ = Unit {0}

  abbrev pub IsReadyKind : Kind → Type 0
  IsReadyKind = HoldsOfKind IsReadyLeaf

  abbrev pub IsReady : Part → Type 0
  IsReady = HoldsOfPart IsReadyLeaf

  abbrev pub AreReady : Parts → Type 0
  AreReady = HoldsOfParts IsReadyLeaf

  -- ---- plain symbols

  module _ (plain : (t : TerminalString) → P t → is_plain_terminal t ≡ true) where
    mutual
      pub kind_plain : (k : Kind) → IsReadyKind k → is_plain_kind (replaced_kind k) ≡ true
      kind_plain (terminal t) h = plain t h
      kind_plain (ambiguous_id a) h = absurd h
      kind_plain (chosen p) h = part_plain p h
      kind_plain (named n p) h = part_plain p h
      kind_plain (tupled ns p) h = part_plain p h
      kind_plain _ h = refl

      pub part_plain : (p : Part) → IsReady p → is_plain (replaced p) ≡ true
      part_plain (at s k) h = kind_plain k h

    pub parts_plain : (ps : Parts) → AreReady ps → are_plain (all_replaced ps) ≡ true
    parts_plain no_parts h = refl
    parts_plain (part_and p ps) h = ap₂ ◌&&◌ (part_plain p h.0) (parts_plain ps h.1)

  -- ---- their terminals

  only_terminal : (t u : TerminalString) → P u → In t (u ∷ []) → P t
  only_terminal t u h (inl e) = subst P (sym e) h
  only_terminal t u h (inr i) = absurd i

  mutual
    kind_terminals : (s : Span) (k : Kind) → IsReadyKind k → (t : TerminalString) → In t (terminals_in (at s (replaced_kind k))) → P t
    kind_terminals s (terminal u) h t i = only_terminal t u h i
    kind_terminals s (chosen p) h t i = part_terminals p h t i
    kind_terminals s (named n p) h t i = part_terminals p h t i
    kind_terminals s (tupled ns p) h t i = part_terminals p h t i
    kind_terminals s _ h t i = absurd i

    part_terminals : (p : Part) → IsReady p → (t : TerminalString) → In t (terminals_in (replaced p)) → P t
    part_terminals (at s k) h t i = kind_terminals s k h t i

  pub parts_terminals : (ps : Parts) → AreReady ps → (t : TerminalString) → In t (terminals_in_parts (all_replaced ps)) → P t
  parts_terminals no_parts h t i = absurd i
  parts_terminals (part_and p ps) h t i = elim (in_cases t (terminals_in (replaced p)) (terminals_in_parts (all_replaced ps)) i) [
    | inl j ↦ part_terminals p h.0 t j
    | inr j ↦ parts_terminals ps h.1 t j
  ]
