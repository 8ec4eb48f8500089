-- The rules of levels have no name fault but the steps of macros, and nothing is left to resolve in them.
use Rattle.std.proofs.Common.{◌≡◌, ℕ, suc, ◌+◌, List, [], Option, Some, None, Bool, true, false, refl, ap, ap₂, ◌∙◌}
use Rattle.std.specs.Prelude.{if◌then◌else◌}
use Rattle.lalrpop_norm_tree_names.specs.declared.names.Span.{Span}
use Rattle.lalrpop_norm_tree.specs.declared.items.Condition.{Condition}
use Rattle.lalrpop_norm_tree.specs.Symbols.{Kind, Part, Parts, group, ambiguous_id, nonterminal, call, repeated, chosen, named, tupled, at, no_parts, part_and}
use Rattle.lalrpop_norm_model.specs.Occurrences.{count_part, count_parts}
use Rattle.lalrpop_norm_model.specs.Scopes.{a_rule, a_macro, a_terminal, Sense, an_argument, a_global, by_sense, resolved_kind, resolved_part, resolved_parts}
use Rattle.lalrpop_norm_model.specs.LevelRules.{leveled_kind, leveled_part, leveled_parts, level_nonterminal}
use Rattle.lalrpop_norm_model.proofs.ReadingLemmas.{name_settled}
use Rattle.lalrpop_norm_resolve.specs.NameFaults.{condition_faults, tested_faults, id_faults, nonterminal_faults, macro_name_faults, parts_count, kind_name_faults, part_name_faults, parts_name_faults}
use Rattle.lalrpop_norm_faults.proofs.FaultLemmas.{left_none, right_none, both_none}

-- s and t are what names mean before and after; the names that `level` gives are rules
module _ (s t : List ℕ → Option Sense) (kept : (n : List ℕ) (x : Sense) → s n ≡ Some x → t n ≡ Some x) where
  pub condition_none : (c : Option Condition) → condition_faults s c ≡ [] → condition_faults t c ≡ []
  unfolding tested_faults
  condition_none None h = refl
  condition_none (Some c) h = by (s c.lhs.0) refl h
    where
      by : (o : Option Sense) → s c.lhs.0 ≡ o → tested_faults c.span o ≡ [] → tested_faults c.span (t c.lhs.0) ≡ []
      by None e none = absurd (cc none)
      by (Some x) e none = ap (tested_faults c.span) (kept c.lhs.0 x e) ∙ none

  module _ (own : List ℕ → Bool) (level : ℕ → ℕ → List ℕ) (leveled : (n : List ℕ) → own n ≡ true → (b a : ℕ) → t (level b a) ≡ Some (a_global a_rule)) where
    same_count : (b a : ℕ) (ps : Parts) → parts_count (leveled_parts own (level_nonterminal level) b a ps) ≡ parts_count ps
    same_count b a no_parts = refl
    same_count b a (part_and p ps) = ap suc (same_count (b + count_part own p) a ps)

    name_none : (sp : Span) (n : List ℕ) (b a : ℕ) (x : Bool) → own n ≡ x → nonterminal_faults sp (s n) ≡ [] →
        kind_name_faults t sp (if x then nonterminal (level b a) else nonterminal n) ≡ []
    unfolding nonterminal_faults
    name_none sp n b a true e h = ap (nonterminal_faults sp) (leveled n e b a)
    name_none sp n b a false e h = by (s n) refl h
      where
        by : (o : Option Sense) → s n ≡ o → nonterminal_faults sp o ≡ [] → nonterminal_faults sp (t n) ≡ []
        by None f none = absurd (cc none)
        by (Some x) f none = ap (nonterminal_faults sp) (kept n x f) ∙ none

    id_none : (sp : Span) (n : List ℕ) (o : Option Sense) → s n ≡ o → id_faults sp o ≡ [] → id_faults sp (t n) ≡ []
    unfolding id_faults
    id_none sp n None e h = absurd (cc h)
    id_none sp n (Some x) e h = ap (id_faults sp) (kept n x e) ∙ h

    macro_none : (sp : Span) (n : List ℕ) (k : ℕ) (o : Option Sense) → s n ≡ o → macro_name_faults sp k o ≡ [] → macro_name_faults sp k (t n) ≡ []
    unfolding macro_name_faults
    macro_none sp n k None e h = absurd (cc h)
    macro_none sp n k (Some x) e h = ap (macro_name_faults sp k) (kept n x e) ∙ h

    mutual
      kind_none : (sp : Span) (b a : ℕ) (k : Kind) → kind_name_faults s sp k ≡ [] → kind_name_faults t sp (leveled_kind own (level_nonterminal level) b a k) ≡ []
      kind_none sp b a (nonterminal n) h = name_none sp n b a (own n) refl h
      kind_none sp b a (ambiguous_id n) h = id_none sp n (s n) refl h
      kind_none sp b a (group ps) h = parts_none b a ps h
      kind_none sp b a (call n ps) h =
          let here = left_none (macro_name_faults sp (parts_count ps) (s n)) (parts_name_faults s ps) h in
          both_none _ _ (ap (λ k. macro_name_faults sp k (t n)) (same_count b a ps) ∙ macro_none sp n (parts_count ps) (s n) refl here)
          (parts_none b a ps (right_none (macro_name_faults sp (parts_count ps) (s n)) (parts_name_faults s ps) h))
      kind_none sp b a (repeated op p) h = part_none b a p h
      kind_none sp b a (chosen p) h = part_none b a p h
      kind_none sp b a (named n p) h = part_none b a p h
      kind_none sp b a (tupled ns p) h = part_none b a p h
      kind_none sp b a _ h = refl

      part_none : (b a : ℕ) (p : Part) → part_name_faults s p ≡ [] → part_name_faults t (leveled_part own (level_nonterminal level) b a p) ≡ []
      part_none b a (at sp k) h = kind_none sp b a k h

      pub parts_none : (b a : ℕ) (ps : Parts) → parts_name_faults s ps ≡ [] → parts_name_faults t (leveled_parts own (level_nonterminal level) b a ps) ≡ []
      parts_none b a no_parts h = refl
      parts_none b a (part_and p ps) h =
          both_none _ _ (part_none b (a + count_parts own ps) p (left_none (part_name_faults s p) (parts_name_faults s ps) h))
          (parts_none (b + count_part own p) a ps (right_none (part_name_faults s p) (parts_name_faults s ps) h))

-- ---- what is resolved stays so, whatever names mean in the grammar with levels

module _ (s t : List ℕ → Option Sense) (own : List ℕ → Bool) (level : ℕ → ℕ → List ℕ) where
  id_settled : (sp : Span) (b a : ℕ) (n : List ℕ) (o : Option Sense) → id_faults sp o ≡ [] →
      resolved_kind t (leveled_kind own (level_nonterminal level) b a (by_sense o n)) ≡ leveled_kind own (level_nonterminal level) b a (by_sense o n)
  unfolding id_faults
  id_settled sp b a n None h = absurd (cc h)
  id_settled sp b a n (Some an_argument) h = name_settled t (own n) (level b a) n
  id_settled sp b a n (Some (a_global a_rule)) h = name_settled t (own n) (level b a) n
  id_settled sp b a n (Some (a_global a_terminal)) h = refl
  id_settled sp b a n (Some (a_global (a_macro k))) h = absurd (cc h)

  mutual
    kind_settled : (sp : Span) (b a : ℕ) (k : Kind) → kind_name_faults s sp k ≡ [] →
        resolved_kind t (leveled_kind own (level_nonterminal level) b a (resolved_kind s k)) ≡ leveled_kind own (level_nonterminal level) b a (resolved_kind s k)
    kind_settled sp b a (nonterminal n) h = name_settled t (own n) (level b a) n
    kind_settled sp b a (ambiguous_id n) h = id_settled sp b a n (s n) h
    kind_settled sp b a (group ps) h = ap group (parts_settled b a ps h)
    kind_settled sp b a (call n ps) h = ap (call n) (parts_settled b a ps (right_none (macro_name_faults sp (parts_count ps) (s n)) (parts_name_faults s ps) h))
    kind_settled sp b a (repeated op p) h = ap (repeated op) (part_settled b a p h)
    kind_settled sp b a (chosen p) h = ap chosen (part_settled b a p h)
    kind_settled sp b a (named n p) h = ap (named n) (part_settled b a p h)
    kind_settled sp b a (tupled ns p) h = ap (tupled ns) (part_settled b a p h)
    kind_settled sp b a _ h = refl

    part_settled : (b a : ℕ) (p : Part) → part_name_faults s p ≡ [] →
        resolved_part t (leveled_part own (level_nonterminal level) b a (resolved_part s p)) ≡ leveled_part own (level_nonterminal level) b a (resolved_part s p)
    part_settled b a (at sp k) h = ap (at sp) (kind_settled sp b a k h)

    pub parts_settled : (b a : ℕ) (ps : Parts) → parts_name_faults s ps ≡ [] →
        resolved_parts t (leveled_parts own (level_nonterminal level) b a (resolved_parts s ps)) ≡ leveled_parts own (level_nonterminal level) b a (resolved_parts s ps)
    parts_settled b a no_parts h = refl
    parts_settled b a (part_and p ps) h =
        ap₂ part_and (part_settled b (a + count_parts own (resolved_parts s ps)) p (left_none (part_name_faults s p) (parts_name_faults s ps) h))
        (parts_settled (b + count_part own (resolved_part s p)) a ps (right_none (part_name_faults s p) (parts_name_faults s ps) h))
