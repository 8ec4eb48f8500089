-- One traversal of symbols: what is inside of one, a map over its leaves, a fold, and what is left without wrappers.
use Rattle.lalrpop_norm_tree_names.specs.declared.names.Span.{Span}
use Rattle.lalrpop_norm_tree.specs.Symbols.{Kind, Part, Parts, group, call, repeated, chosen, named, tupled, at, no_parts, part_and}

-- the symbols right inside of a symbol; a leaf has none
abbrev pub inner : Kind → Parts
inner (group ps) = ps
inner (call n ps) = ps
inner (repeated op p) = part_and p no_parts
inner (chosen p) = part_and p no_parts
inner (named n p) = part_and p no_parts
inner (tupled ns p) = part_and p no_parts
inner _ = no_parts

-- a symbol with `leaf k` in place of each leaf `k` in it; all else stays, spans too
abbrev mutual
  pub map_kind : (Kind → Kind) → Kind → Kind
  map_kind leaf (group ps) = group (map_parts leaf ps)
  map_kind leaf (call n ps) = call n (map_parts leaf ps)
  map_kind leaf (repeated op p) = repeated op (map_part leaf p)
  map_kind leaf (chosen p) = chosen (map_part leaf p)
  map_kind leaf (named n p) = named n (map_part leaf p)
  map_kind leaf (tupled ns p) = tupled ns (map_part leaf p)
  map_kind leaf k = leaf k

  pub map_part : (Kind → Kind) → Part → Part
  map_part leaf (at s k) = at s (map_kind leaf k)

  pub map_parts : (Kind → Kind) → Parts → Parts
  map_parts leaf no_parts = no_parts
  map_parts leaf (part_and p ps) = part_and (map_part leaf p) (map_parts leaf ps)

-- A value of a symbol: `own s k inside` of a symbol `k` at `s`, where `inside` is the value of what is right inside of it, joined in
-- order; of a leaf it is `empty`.
abbrev mutual
  pub fold_part : {A : Type 0} → (Span → Kind → A → A) → A → (A → A → A) → Part → A
  fold_part own empty join (at s k) = fold_kind own empty join s k

  pub fold_kind : {A : Type 0} → (Span → Kind → A → A) → A → (A → A → A) → Span → Kind → A
  fold_kind own empty join s (group ps) = own s (group ps) (fold_parts own empty join ps)
  fold_kind own empty join s (call n ps) = own s (call n ps) (fold_parts own empty join ps)
  fold_kind own empty join s (repeated op p) = own s (repeated op p) (fold_part own empty join p)
  fold_kind own empty join s (chosen p) = own s (chosen p) (fold_part own empty join p)
  fold_kind own empty join s (named n p) = own s (named n p) (fold_part own empty join p)
  fold_kind own empty join s (tupled ns p) = own s (tupled ns p) (fold_part own empty join p)
  fold_kind own empty join s k = own s k empty

  pub fold_parts : {A : Type 0} → (Span → Kind → A → A) → A → (A → A → A) → Parts → A
  fold_parts own empty join no_parts = empty
  fold_parts own empty join (part_and p ps) = join (fold_part own empty join p) (fold_parts own empty join ps)

-- A value of a symbol whatever its span: `own k inside` of a symbol `k`, likewise.
abbrev mutual
  pub gathered_kind : {A : Type 0} → (Kind → A → A) → A → (A → A → A) → Kind → A
  gathered_kind own empty join (group ps) = own (group ps) (gathered_parts own empty join ps)
  gathered_kind own empty join (call n ps) = own (call n ps) (gathered_parts own empty join ps)
  gathered_kind own empty join (repeated op p) = own (repeated op p) (gathered_part own empty join p)
  gathered_kind own empty join (chosen p) = own (chosen p) (gathered_part own empty join p)
  gathered_kind own empty join (named n p) = own (named n p) (gathered_part own empty join p)
  gathered_kind own empty join (tupled ns p) = own (tupled ns p) (gathered_part own empty join p)
  gathered_kind own empty join k = own k empty

  pub gathered_part : {A : Type 0} → (Kind → A → A) → A → (A → A → A) → Part → A
  gathered_part own empty join (at s k) = gathered_kind own empty join k

  pub gathered_parts : {A : Type 0} → (Kind → A → A) → A → (A → A → A) → Parts → A
  gathered_parts own empty join no_parts = empty
  gathered_parts own empty join (part_and p ps) = join (gathered_part own empty join p) (gathered_parts own empty join ps)

-- The symbol under wrappers: under `<..>`, a name and a tuple pattern. Any other is its own.
abbrev mutual
  pub unwrapped : Part → Part
  unwrapped (at s k) = unwrapped_kind s k

  pub unwrapped_kind : Span → Kind → Part
  unwrapped_kind s (chosen p) = unwrapped p
  unwrapped_kind s (named n p) = unwrapped p
  unwrapped_kind s (tupled ns p) = unwrapped p
  unwrapped_kind s k = at s k

-- What a symbol is under wrappers, without its span.
abbrev mutual
  pub wrapped_kind : Kind → Kind
  wrapped_kind (chosen p) = wrapped_part p
  wrapped_kind (named n p) = wrapped_part p
  wrapped_kind (tupled ns p) = wrapped_part p
  wrapped_kind k = k

  pub wrapped_part : Part → Kind
  wrapped_part (at s k) = wrapped_kind k
