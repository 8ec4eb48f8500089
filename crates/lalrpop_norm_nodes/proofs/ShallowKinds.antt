-- What a macro's arguments are bound to, with what is desugared rewritten in them: symbols and types with these substituted.
use Rattle.std.proofs.Common.{◌≡◌, ℕ, List, cond, Option, Some, None, option_map, refl, sym, ap, ap₂, ◌∙◌}
use Rattle.lalrpop_norm_tree.specs.Symbols.{Kind, Part, Parts, group, ambiguous_id, nonterminal, at, part_and}
use Rattle.lalrpop_norm_tree_names.specs.declared.names.Span.{Span}
use Rattle.lalrpop_norm_tree.specs.SymbolTexts.{kind_text}
use Rattle.lalrpop_norm_tree.specs.Traversal.{inner}
use Rattle.lalrpop_norm_tree.specs.Types.{TypeData, TypesData, MaybeType, tuple, slice, nominal, reference, trait_object, of_lifetime, id, of_symbol, function, no_types, type_and, no_type, returns}
use Rattle.lalrpop_norm_model.specs.MadeRules.{or_name, substituted_leaf, substituted, kind_substituted, all_substituted, type_of_name, type_substituted, types_substituted, returned_substituted}
use Rattle.lalrpop_norm_model.specs.Replaced.{is_desugared, replaced, replaced_kind, all_replaced}
use Rattle.lalrpop_norm_nodes.specs.Filled.{filled_leaf, filled, filled_kind, all_filled}
use Rattle.lalrpop_norm_nodes.proofs.InnerLemmas.{All, every, each, row_alike, remade, mapped}
use Rattle.lalrpop_norm_nodes.proofs.TwiceLemmas.{kind_twice, kind_text_replaced}
use Rattle.lalrpop_norm_nodes.proofs.MapLemmas.{kind_text_kept}

-- ---- a macro's alternatives are copied with no argument bound, which makes an identifier a nonterminal, and then substituted

module _ (f : List ℕ → Option Kind) where
  abbrev IsFilledLater : Part → Type 0
  IsFilledLater p = filled f (substituted (λ n. None) p) ≡ substituted f p

  filled_by : (k : Kind) → filled_kind f (kind_substituted (λ n. None) k) ≡ remade (filled_leaf f (substituted_leaf (λ n. None) k)) k (all_filled f (all_substituted (λ n. None) (inner k)))
  filled_by (group ps) = refl
  filled_by _ = refl

  leaf_later : (k : Kind) → filled_leaf f (substituted_leaf (λ n. None) k) ≡ substituted_leaf f k
  leaf_later (nonterminal n) = refl
  leaf_later _ = refl

  row_later : (ps : Parts) → All IsFilledLater ps → all_filled f (all_substituted (λ n. None) ps) ≡ all_substituted f ps
  row_later =
      row_alike (λ p. filled f (substituted (λ n. None) p)) (substituted f) (λ ps. all_filled f (all_substituted (λ n. None) ps)) (all_substituted f) part_and refl (λ p ps. refl) (λ p ps. refl)

  later_step : (s : Span) (k : Kind) → All IsFilledLater (inner k) → IsFilledLater (at s k)
  later_step s k h = ap (at s) (filled_by k ∙ ap₂ (λ l qs. remade l k qs) (leaf_later k) (row_later (inner k) h) ∙ sym (mapped (substituted_leaf f) k))

  pub all_filled_later : (ps : Parts) → all_filled f (all_substituted (λ n. None) ps) ≡ all_substituted f ps
  all_filled_later ps = row_later ps (each IsFilledLater later_step ps)

-- ---- texts: two ways of binding with one text for each argument give one text

module _ (f g : List ℕ → Option Kind) (same : (n : List ℕ) → option_map kind_text (f n) ≡ option_map kind_text (g n)) where
  or_text : (n : List ℕ) (o p : Option Kind) → option_map kind_text o ≡ option_map kind_text p → kind_text (or_name n o) ≡ kind_text (or_name n p)
  or_text n None None e = refl
  or_text n (Some k) (Some l) e = cc e
  or_text n None (Some l) e = absurd (cc e)
  or_text n (Some k) None e = absurd (cc e)

  leaf_bound : (k : Kind) → kind_text (substituted_leaf f k) ≡ kind_text (substituted_leaf g k)
  leaf_bound (nonterminal n) = or_text n (f n) (g n) (same n)
  leaf_bound (ambiguous_id n) = or_text n (f n) (g n) (same n)
  leaf_bound _ = refl

  kind_text_bound : (k : Kind) → kind_text (kind_substituted f k) ≡ kind_text (kind_substituted g k)
  kind_text_bound k = kind_text_kept (substituted_leaf f) (substituted_leaf g) leaf_bound k

-- ---- what arguments are bound to, and the same replaced

replaced_substituted : (f : List ℕ → Option Kind) (k : Kind) → replaced_kind (kind_substituted f k)
    ≡ cond (is_desugared k) (nonterminal (kind_text (kind_substituted f k))) (remade (replaced_kind (substituted_leaf f k)) k (all_replaced (all_substituted f (inner k))))
replaced_substituted f (group ps) = refl
replaced_substituted f _ = refl

module _ (arg shown : List ℕ → Option Kind) (same : (n : List ℕ) → shown n ≡ option_map replaced_kind (arg n)) where
  bound_text : (o p : Option Kind) → p ≡ option_map replaced_kind o → option_map kind_text p ≡ option_map kind_text o
  bound_text None p e = ap (option_map kind_text) e
  bound_text (Some k) p e = ap (option_map kind_text) e ∙ ap Some (kind_text_replaced k)

  abbrev Texts : Type 0
  Texts = (n : List ℕ) → option_map kind_text (shown n) ≡ option_map kind_text (arg n)

  shown_texts : Texts
  shown_texts n = bound_text (arg n) (shown n) (same n)

  or_replaced : (n : List ℕ) (o p : Option Kind) → p ≡ option_map replaced_kind o → replaced_kind (or_name n p) ≡ replaced_kind (or_name n o)
  or_replaced n None p e = ap (λ q. replaced_kind (or_name n q)) e
  or_replaced n (Some k) p e = ap (λ q. replaced_kind (or_name n q)) e ∙ kind_twice k

  abbrev IsReplacedSo : Part → Type 0
  IsReplacedSo p = replaced (substituted shown p) ≡ replaced (substituted arg p)

  leaf_so : (k : Kind) → replaced_kind (substituted_leaf shown k) ≡ replaced_kind (substituted_leaf arg k)
  leaf_so (nonterminal n) = or_replaced n (arg n) (shown n) (same n)
  leaf_so (ambiguous_id n) = or_replaced n (arg n) (shown n) (same n)
  leaf_so _ = refl

  row_so : (ps : Parts) → All IsReplacedSo ps → all_replaced (all_substituted shown ps) ≡ all_replaced (all_substituted arg ps)
  row_so = row_alike (λ p. replaced (substituted shown p)) (λ p. replaced (substituted arg p)) (λ ps. all_replaced (all_substituted shown ps)) (λ ps. all_replaced (all_substituted arg ps))
      part_and refl (λ p ps. refl) (λ p ps. refl)

  replaced_step : (s : Span) (k : Kind) → All IsReplacedSo (inner k) → IsReplacedSo (at s k)
  replaced_step s k h =
      ap (at s) (replaced_substituted shown k
      ∙ ap₂ (cond (is_desugared k)) (ap nonterminal (kind_text_bound shown arg shown_texts k)) (ap₂ (λ l qs. remade l k qs) (leaf_so k) (row_so (inner k) h))
      ∙ sym (replaced_substituted arg k))

  pub replaced_so : (p : Part) → replaced (substituted shown p) ≡ replaced (substituted arg p)
  replaced_so = every IsReplacedSo replaced_step

  pub all_replaced_so : (ps : Parts) → all_replaced (all_substituted shown ps) ≡ all_replaced (all_substituted arg ps)
  all_replaced_so ps = row_so ps (each IsReplacedSo replaced_step ps)

  -- ---- types: the type of a symbol is that of the symbol replaced

  type_named_so : (n : List ℕ) (o p : Option Kind) → p ≡ option_map replaced_kind o → type_of_name n p ≡ type_of_name n o
  type_named_so n None p e = ap (type_of_name n) e
  type_named_so n (Some k) p e = ap (type_of_name n) e ∙ ap of_symbol (kind_twice k)

  mutual
    pub type_so : (t : TypeData) → type_substituted shown t ≡ type_substituted arg t
    type_so (id n) = type_named_so n (arg n) (shown n) (same n)
    type_so (tuple ts) = ap tuple (types_so ts)
    type_so (slice t) = ap slice (type_so t)
    type_so (nominal p ts) = ap (nominal p) (types_so ts)
    type_so (reference l m t) = ap (reference l m) (type_so t)
    type_so (trait_object p ts) = ap (trait_object p) (types_so ts)
    type_so (of_lifetime l) = refl
    type_so (of_symbol k) = refl
    type_so (function fs p ts r) = ap₂ (function fs p) (types_so ts) (returned_so r)

    types_so : (ts : TypesData) → types_substituted shown ts ≡ types_substituted arg ts
    types_so no_types = refl
    types_so (type_and t ts) = ap₂ type_and (type_so t) (types_so ts)

    returned_so : (r : MaybeType) → returned_substituted shown r ≡ returned_substituted arg r
    returned_so no_type = refl
    returned_so (returns t) = ap returns (type_so t)
