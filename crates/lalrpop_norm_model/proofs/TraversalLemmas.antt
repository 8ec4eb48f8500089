-- Laws of the traversal of symbols: induction, values level by level, and what holds of each leaf.
use Rattle.std.proofs.Common.{◌≡◌, ℕ, ◌+◌, Bool, true, false, List, refl, ap, ap₂, sym}
use Rattle.std.specs.Prelude.{if◌then◌else◌}
use Rattle.lalrpop_norm_tree_names.specs.declared.names.Span.{Span}
use Rattle.lalrpop_norm_tree.specs.Symbols.{Kind, Part, Parts, group, nonterminal, call, repeated, chosen, named, tupled, at, no_parts, part_and}
use Rattle.lalrpop_norm_tree.specs.Traversal.{inner, map_kind, map_part, map_parts, fold_kind, fold_part, fold_parts, gathered_kind, gathered_part, gathered_parts}
use Rattle.lalrpop_norm_model.specs.Occurrences.{count_part, count_parts}
use Rattle.lalrpop_norm_model.specs.LevelRules.{leveled_kind, leveled_part, leveled_parts}

-- ---- induction

-- what holds of a symbol if it holds of what is right inside of it holds of each symbol
module _ (P : Kind → Type 0) (Q : Parts → Type 0) (none : Q no_parts) (more : (s : Span) (k : Kind) (ps : Parts) → P k → Q ps → Q (part_and (at s k) ps))
    (around : (k : Kind) → Q (inner k) → P k) where
  mutual
    pub each_kind : (k : Kind) → P k
    each_kind (group ps) = around (group ps) (each_parts ps)
    each_kind (call n ps) = around (call n ps) (each_parts ps)
    each_kind (repeated op p) = around (repeated op p) (each_one p)
    each_kind (chosen p) = around (chosen p) (each_one p)
    each_kind (named n p) = around (named n p) (each_one p)
    each_kind (tupled ns p) = around (tupled ns p) (each_one p)
    each_kind k = around k none

    each_one : (p : Part) → Q (part_and p no_parts)
    each_one (at s k) = more s k no_parts (each_kind k) none

    pub each_parts : (ps : Parts) → Q ps
    each_parts no_parts = none
    each_parts (part_and (at s k) ps) = more s k ps (each_kind k) (each_parts ps)

-- ---- values

-- the value of a symbol by that of what is right inside of it
module _ {A : Type 0} (own : Span → Kind → A → A) (empty : A) (join : A → A → A) (alone : (a : A) → join a empty ≡ a) where
  pub fold_level : (s : Span) (k : Kind) → fold_kind own empty join s k ≡ own s k (fold_parts own empty join (inner k))
  fold_level s (repeated op p) = ap (own s (repeated op p)) (sym (alone (fold_part own empty join p)))
  fold_level s (chosen p) = ap (own s (chosen p)) (sym (alone (fold_part own empty join p)))
  fold_level s (named n p) = ap (own s (named n p)) (sym (alone (fold_part own empty join p)))
  fold_level s (tupled ns p) = ap (own s (tupled ns p)) (sym (alone (fold_part own empty join p)))
  fold_level s _ = refl

module _ {A : Type 0} (own : Kind → A → A) (empty : A) (join : A → A → A) (alone : (a : A) → join a empty ≡ a) where
  pub gathered_level : (k : Kind) → gathered_kind own empty join k ≡ own k (gathered_parts own empty join (inner k))
  gathered_level (repeated op p) = ap (own (repeated op p)) (sym (alone (gathered_part own empty join p)))
  gathered_level (chosen p) = ap (own (chosen p)) (sym (alone (gathered_part own empty join p)))
  gathered_level (named n p) = ap (own (named n p)) (sym (alone (gathered_part own empty join p)))
  gathered_level (tupled ns p) = ap (own (tupled ns p)) (sym (alone (gathered_part own empty join p)))
  gathered_level _ = refl

-- ---- leaves

-- L holds of each leaf
module _ (L : Kind → Type 0) where
  abbrev mutual
    pub HoldsOfKind : Kind → Type 0
    HoldsOfKind (group ps) = HoldsOfParts ps
    HoldsOfKind (call n ps) = HoldsOfParts ps
    HoldsOfKind (repeated op p) = HoldsOfPart p
    HoldsOfKind (chosen p) = HoldsOfPart p
    HoldsOfKind (named n p) = HoldsOfPart p
    HoldsOfKind (tupled ns p) = HoldsOfPart p
    HoldsOfKind k = L k

    pub HoldsOfPart : Part → Type 0
    HoldsOfPart (at s k) = HoldsOfKind k

    pub HoldsOfParts : Parts → Type 0
    HoldsOfParts no_parts = Unit {0}
    HoldsOfParts (part_and p ps) = HoldsOfPart p × HoldsOfParts ps

  pub holds_inside : (k : Kind) → HoldsOfKind k → HoldsOfParts (inner k)
  holds_inside (group ps) h = h
  holds_inside (call n ps) h = h
  holds_inside (repeated op p) h = (h, tt)
  holds_inside (chosen p) h = (h, tt)
  holds_inside (named n p) h = (h, tt)
  holds_inside (tupled ns p) h = (h, tt)
  holds_inside _ h = tt

  pub holds_around : (k : Kind) → L k → HoldsOfParts (inner k) → HoldsOfKind k
  holds_around (group ps) l h = h
  holds_around (call n ps) l h = h
  holds_around (repeated op p) l h = h.0
  holds_around (chosen p) l h = h.0
  holds_around (named n p) l h = h.0
  holds_around (tupled ns p) l h = h.0
  holds_around _ l h = l

-- ---- maps

-- what is made of a leaf that L holds of is one that M holds of
module _ (L M : Kind → Type 0) (leaf : Kind → Kind) (made : (k : Kind) → HoldsOfKind L k → HoldsOfKind M (leaf k)) where
  mutual
    kind_holds : (k : Kind) → HoldsOfKind L k → HoldsOfKind M (map_kind leaf k)
    kind_holds (group ps) h = mapped_holds ps h
    kind_holds (call n ps) h = mapped_holds ps h
    kind_holds (repeated op p) h = part_holds p h
    kind_holds (chosen p) h = part_holds p h
    kind_holds (named n p) h = part_holds p h
    kind_holds (tupled ns p) h = part_holds p h
    kind_holds k h = made k h

    part_holds : (p : Part) → HoldsOfPart L p → HoldsOfPart M (map_part leaf p)
    part_holds (at s k) h = kind_holds k h

    pub mapped_holds : (ps : Parts) → HoldsOfParts L ps → HoldsOfParts M (map_parts leaf ps)
    mapped_holds no_parts h = tt
    mapped_holds (part_and p ps) h = (part_holds p h.0, mapped_holds ps h.1)

-- what L holds of stays so where each recursive occurrence becomes one that L holds of
module _ (L : Kind → Type 0) (own : List ℕ → Bool) (level : ℕ → ℕ → Kind) (fits : (before after : ℕ) → HoldsOfKind L (level before after)) where
  occurrence_holds : (x : Bool) (before after : ℕ) (n : List ℕ) → L (nonterminal n) → HoldsOfKind L (if x then level before after else nonterminal n)
  occurrence_holds true before after n h = fits before after
  occurrence_holds false before after n h = h

  mutual
    level_holds : (before after : ℕ) (k : Kind) → HoldsOfKind L k → HoldsOfKind L (leveled_kind own level before after k)
    level_holds before after (nonterminal n) h = occurrence_holds (own n) before after n h
    level_holds before after (group ps) h = leveled_holds before after ps h
    level_holds before after (call n ps) h = leveled_holds before after ps h
    level_holds before after (repeated op p) h = leveled_part_holds before after p h
    level_holds before after (chosen p) h = leveled_part_holds before after p h
    level_holds before after (named n p) h = leveled_part_holds before after p h
    level_holds before after (tupled ns p) h = leveled_part_holds before after p h
    level_holds before after _ h = h

    leveled_part_holds : (before after : ℕ) (p : Part) → HoldsOfPart L p → HoldsOfPart L (leveled_part own level before after p)
    leveled_part_holds before after (at s k) h = level_holds before after k h

    pub leveled_holds : (before after : ℕ) (ps : Parts) → HoldsOfParts L ps → HoldsOfParts L (leveled_parts own level before after ps)
    leveled_holds before after no_parts h = tt
    leveled_holds before after (part_and p ps) h =
        (leveled_part_holds before (after + count_parts own ps) p h.0, leveled_holds (before + count_part own p) after ps h.1)

-- whether a symbol has nothing inside of it, by its kind
abbrev pub is_leaf : Kind → Bool
is_leaf (group ps) = false
is_leaf (call n ps) = false
is_leaf (repeated op p) = false
is_leaf (chosen p) = false
is_leaf (named n p) = false
is_leaf (tupled ns p) = false
is_leaf _ = true

-- a map that changes nothing in what another makes of leaves changes nothing in what that makes of symbols
module _ (f g : Kind → Kind) (kept : (k : Kind) → is_leaf k ≡ true → map_kind f (g k) ≡ g k) where
  mutual
    kind_kept : (k : Kind) → map_kind f (map_kind g k) ≡ map_kind g k
    kind_kept (group ps) = ap group (parts_kept ps)
    kind_kept (call n ps) = ap (call n) (parts_kept ps)
    kind_kept (repeated op p) = ap (repeated op) (part_kept p)
    kind_kept (chosen p) = ap chosen (part_kept p)
    kind_kept (named n p) = ap (named n) (part_kept p)
    kind_kept (tupled ns p) = ap (tupled ns) (part_kept p)
    kind_kept k = kept k refl

    part_kept : (p : Part) → map_part f (map_part g p) ≡ map_part g p
    part_kept (at s k) = ap (at s) (kind_kept k)

    pub parts_kept : (ps : Parts) → map_parts f (map_parts g ps) ≡ map_parts g ps
    parts_kept no_parts = refl
    parts_kept (part_and p ps) = ap₂ part_and (part_kept p) (parts_kept ps)
