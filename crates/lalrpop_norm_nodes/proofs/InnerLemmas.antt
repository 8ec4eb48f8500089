-- Induction over what is right inside of a symbol, and a symbol with others in place of those: the one list of kinds for lemmas on
-- walks.
use Rattle.std.specs.Prelude.{⊤}
use Rattle.std.proofs.Common.{◌≡◌, ℕ, List, ◌∷◌, ◌++◌, codes, refl, ap, ap₂, ◌∙◌}
use Rattle.lalrpop_norm_tree_names.specs.declared.names.Span.{Span}
use Rattle.lalrpop_norm_tree_names.specs.Texts.{joined}
use Rattle.lalrpop_norm_tree.specs.Symbols.{Kind, Part, Parts, group, call, repeated, chosen, named, tupled, at, no_parts, part_and}
use Rattle.lalrpop_norm_tree.specs.SymbolTexts.{kind_text, part_text, part_texts, op_text, name_text, tuple_text}
use Rattle.lalrpop_norm_tree.specs.Traversal.{inner, map_kind, map_parts}

-- each of the symbols has the property
abbrev pub All : (Part → Type 0) → Parts → Type 0
All P no_parts = ⊤
All P (part_and p ps) = P p × All P ps

-- what a symbol has if all right inside of it have it, each symbol has
module _ (P : Part → Type 0) (step : (s : Span) (k : Kind) → All P (inner k) → P (at s k)) where
  mutual
    pub every : (p : Part) → P p
    every (at s (group ps)) = step s (group ps) (each ps)
    every (at s (call n ps)) = step s (call n ps) (each ps)
    every (at s (repeated op p)) = step s (repeated op p) (every p, tt)
    every (at s (chosen p)) = step s (chosen p) (every p, tt)
    every (at s (named n p)) = step s (named n p) (every p, tt)
    every (at s (tupled ns p)) = step s (tupled ns p) (every p, tt)
    every (at s k) = step s k tt

    pub each : (ps : Parts) → All P ps
    each no_parts = tt
    each (part_and p ps) = (every p, each ps)

-- two walks over symbols in a row that are alike at each are alike
module _ {A B : Type 0} (f g : Part → A) (fs gs : Parts → B) (join : A → B → B) (none : fs no_parts ≡ gs no_parts)
    (f_more : (p : Part) (ps : Parts) → fs (part_and p ps) ≡ join (f p) (fs ps)) (g_more : (p : Part) (ps : Parts) → join (g p) (gs ps) ≡ gs (part_and p ps)) where
  pub row_alike : (ps : Parts) → All (λ p. f p ≡ g p) ps → fs ps ≡ gs ps
  row_alike no_parts h = none
  row_alike (part_and p ps) h = f_more p ps ∙ ap₂ join h.0 (row_alike ps h.1) ∙ g_more p ps

-- ---- others inside

abbrev first_of : Part → Parts → Part
first_of p no_parts = p
first_of p (part_and q qs) = q

-- a symbol with these in place of those right inside of it; `leaf` in place of a leaf
abbrev pub remade : Kind → Kind → Parts → Kind
remade leaf (group ps) qs = group qs
remade leaf (call n ps) qs = call n qs
remade leaf (repeated op p) qs = repeated op (first_of p qs)
remade leaf (chosen p) qs = chosen (first_of p qs)
remade leaf (named n p) qs = named n (first_of p qs)
remade leaf (tupled ns p) qs = tupled ns (first_of p qs)
remade leaf k qs = leaf

pub remade_itself : (k : Kind) → remade k k (inner k) ≡ k
remade_itself (group ps) = refl
remade_itself _ = refl

pub mapped : (leaf : Kind → Kind) (k : Kind) → map_kind leaf k ≡ remade (leaf k) k (map_parts leaf (inner k))
mapped leaf (group ps) = refl
mapped leaf _ = refl

-- its text is made of their texts
module _ (l m : Kind) (qs rs : Parts) (leaves : kind_text l ≡ kind_text m) (texts : part_texts qs ≡ part_texts rs) where
  first_text : (p : Part) (xs ys : Parts) → part_texts xs ≡ part_texts ys → part_text (first_of p xs) ≡ part_text (first_of p ys)
  first_text p no_parts no_parts e = refl
  first_text p no_parts (part_and y ys) e = absurd (cc e)
  first_text p (part_and x xs) no_parts e = absurd (cc e)
  first_text p (part_and x xs) (part_and y ys) e = cc e

  pub remade_text : (k : Kind) → kind_text (remade l k qs) ≡ kind_text (remade m k rs)
  remade_text (group ps) = ap (λ ts. codes "(" ++ joined (codes " ") ts ++ codes ")") texts
  remade_text (call n ps) = ap (λ ts. n ++ codes "<" ++ joined (codes ", ") ts ++ codes ">") texts
  remade_text (repeated op p) = ap (λ t. t ++ op_text op) (first_text p qs rs texts)
  remade_text (chosen p) = ap (λ t. codes "<" ++ t ++ codes ">") (first_text p qs rs texts)
  remade_text (named n p) = ap (λ t. name_text n ++ codes ":" ++ t) (first_text p qs rs texts)
  remade_text (tupled ns p) = ap (λ t. tuple_text ns ++ codes ":" ++ t) (first_text p qs rs texts)
  remade_text _ = leaves

-- the texts of symbols in a row
pub texts_alike : (f g : Part → Part) (fs gs : Parts → Parts) → fs no_parts ≡ gs no_parts → ((p : Part) (ps : Parts) → fs (part_and p ps) ≡ part_and (f p) (fs ps)) →
    ((p : Part) (ps : Parts) → part_and (g p) (gs ps) ≡ gs (part_and p ps)) → (ps : Parts) → All (λ p. part_text (f p) ≡ part_text (g p)) ps → part_texts (fs ps) ≡ part_texts (gs ps)
texts_alike f g fs gs none f_more g_more =
    row_alike (λ p. part_text (f p)) (λ p. part_text (g p)) (λ ps. part_texts (fs ps)) (λ ps. part_texts (gs ps)) (λ (t : List ℕ) (ts : List (List ℕ)). t ∷ ts)
    (ap part_texts none) (λ p ps. ap part_texts (f_more p ps)) (λ p ps. ap part_texts (g_more p ps))
