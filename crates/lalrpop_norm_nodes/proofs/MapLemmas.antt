-- Laws of the map over the leaves of a symbol.
use Rattle.std.proofs.Common.{◌≡◌, refl, sym, ap, ap₂, ◌∙◌}
use Rattle.lalrpop_norm_tree_names.specs.declared.names.Span.{Span}
use Rattle.lalrpop_norm_tree.specs.Symbols.{Kind, Part, Parts, at, part_and}
use Rattle.lalrpop_norm_tree.specs.SymbolTexts.{kind_text, part_text}
use Rattle.lalrpop_norm_tree.specs.Traversal.{inner, map_kind, map_part, map_parts}
use Rattle.lalrpop_norm_nodes.specs.Apart.{nowhere}
use Rattle.lalrpop_norm_nodes.proofs.InnerLemmas.{All, every, each, row_alike, remade, remade_itself, remade_text, mapped, texts_alike}

-- what changes no leaf changes no symbol
module _ (leaf : Kind → Kind) (same : (k : Kind) → leaf k ≡ k) where
  abbrev Kept : Part → Type 0
  Kept p = map_part leaf p ≡ p

  row_kept : (ps : Parts) → All Kept ps → map_parts leaf ps ≡ ps
  row_kept = row_alike (map_part leaf) (λ p. p) (map_parts leaf) (λ ps. ps) part_and refl (λ p ps. refl) (λ p ps. refl)

  kept : (s : Span) (k : Kind) → All Kept (inner k) → Kept (at s k)
  kept s k h = ap (at s) (mapped leaf k ∙ ap₂ (λ l qs. remade l k qs) (same k) (row_kept (inner k) h) ∙ remade_itself k)

  pub parts_kept : (ps : Parts) → map_parts leaf ps ≡ ps
  parts_kept ps = row_kept ps (each Kept kept ps)

-- if each leaf has one text under two maps, so has each symbol
module _ (f g : Kind → Kind) (same : (k : Kind) → kind_text (f k) ≡ kind_text (g k)) where
  abbrev TextKept : Part → Type 0
  TextKept p = part_text (map_part f p) ≡ part_text (map_part g p)

  text_kept : (s : Span) (k : Kind) → All TextKept (inner k) → TextKept (at s k)
  text_kept s k h =
      ap kind_text (mapped f k)
      ∙ remade_text (f k) (g k) _ _ (same k) (texts_alike (map_part f) (map_part g) (map_parts f) (map_parts g) refl (λ p ps. refl) (λ p ps. refl) (inner k) h) k
      ∙ ap kind_text (sym (mapped g k))

  pub kind_text_kept : (k : Kind) → kind_text (map_kind f k) ≡ kind_text (map_kind g k)
  kind_text_kept k = every TextKept text_kept (at nowhere k)
