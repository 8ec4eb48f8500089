-- What is reached first, by the texts that were seen.
use Rattle.std.proofs.Common.{◌≡◌, ℕ, List, [], ◌∷◌, ◌++◌, Bool, true, false, cond, map, length, drop, Option, Some, None, is_some, bytes_eq, refl, sym, ap, ◌∙◌, append-nil, append_assoc}
use Rattle.std.proofs.Math.Seq.{drop-append_seam}
use Rattle.std.proofs.lemmas.List.{map-append}
use Rattle.lalrpop_norm_tree.specs.Symbols.{Part}
use Rattle.lalrpop_norm_tree.specs.SymbolTexts.{part_text}
use Rattle.lalrpop_norm_nodes.specs.Meeting.{first_with_text, joined_by, after}
use Rattle.lalrpop_norm_nodes.specs.Waits.{first_met}

abbrev pub has_text : List ℕ → List (List ℕ) → Bool
has_text t [] = false
has_text t (u ∷ us) = cond (bytes_eq u t) true (has_text t us)

abbrev pub fresh_after : List (List ℕ) → List Part → List Part
fresh_after ts [] = []
fresh_after ts (x ∷ xs) = cond (has_text (part_text x) ts) (fresh_after ts xs) (x ∷ fresh_after (ts ++ part_text x ∷ []) xs)

pub text_is_seen : (t : List ℕ) (seen : List Part) → is_some (first_with_text t seen) ≡ has_text t (map part_text seen)
text_is_seen t [] = refl
text_is_seen t (y ∷ seen) = by (bytes_eq (part_text y) t) (text_is_seen t seen)
  where
    by : (b : Bool) → is_some (first_with_text t seen) ≡ has_text t (map part_text seen)
        → is_some (cond b (Some y) (first_with_text t seen)) ≡ cond b true (has_text t (map part_text seen))
    by true h = refl
    by false h = h

pub after_fresh : (seen xs : List Part) → after seen xs ≡ seen ++ fresh_after (map part_text seen) xs
after_fresh seen [] = sym (append-nil seen)
after_fresh seen (x ∷ xs) =
    by (first_with_text (part_text x) seen) (has_text (part_text x) (map part_text seen)) (text_is_seen (part_text x) seen)
    (after_fresh (seen ++ x ∷ []) xs) (after_fresh seen xs)
  where
    by : (o : Option Part) (b : Bool) → is_some o ≡ b
        → after (seen ++ x ∷ []) xs ≡ (seen ++ x ∷ []) ++ fresh_after (map part_text (seen ++ x ∷ [])) xs
        → after seen xs ≡ seen ++ fresh_after (map part_text seen) xs
        → after (joined_by o seen x) xs ≡ seen ++ cond b (fresh_after (map part_text seen) xs) (x ∷ fresh_after (map part_text seen ++ part_text x ∷ []) xs)
    by None false e more stays =
        more
        ∙ ap (λ (us : List (List ℕ)). (seen ++ x ∷ []) ++ fresh_after us xs) (map-append part_text seen (x ∷ []))
        ∙ append_assoc seen (x ∷ []) (fresh_after (map part_text seen ++ part_text x ∷ []) xs)
    by None true e more stays = absurd (cc e)
    by (Some y) true e more stays = stays
    by (Some y) false e more stays = absurd (cc e)

pub first_fresh : (seen xs : List Part) → first_met seen xs ≡ fresh_after (map part_text seen) xs
first_fresh seen xs = ap (drop (length seen)) (after_fresh seen xs) ∙ drop-append_seam seen (fresh_after (map part_text seen) xs)

pub fresh_both : (ts : List (List ℕ)) (xs ys : List Part) →
    fresh_after ts (xs ++ ys) ≡ fresh_after ts xs ++ fresh_after (ts ++ map part_text (fresh_after ts xs)) ys
fresh_both ts [] ys = ap (λ (us : List (List ℕ)). fresh_after us ys) (sym (append-nil ts))
fresh_both ts (x ∷ xs) ys = by (has_text (part_text x) ts) (fresh_both ts xs ys) (fresh_both (ts ++ part_text x ∷ []) xs ys)
  where
    more : List (List ℕ)
    more = ts ++ part_text x ∷ []

    by : (b : Bool)
        → fresh_after ts (xs ++ ys) ≡ fresh_after ts xs ++ fresh_after (ts ++ map part_text (fresh_after ts xs)) ys
        → fresh_after more (xs ++ ys) ≡ fresh_after more xs ++ fresh_after (more ++ map part_text (fresh_after more xs)) ys
        → cond b (fresh_after ts (xs ++ ys)) (x ∷ fresh_after more (xs ++ ys))
        ≡ cond b (fresh_after ts xs) (x ∷ fresh_after more xs) ++ fresh_after (ts ++ map part_text (cond b (fresh_after ts xs) (x ∷ fresh_after more xs))) ys
    by true h k = h
    by false h k =
        ap (λ (zs : List Part). x ∷ zs)
        (k ∙ ap (λ (us : List (List ℕ)). fresh_after more xs ++ fresh_after us ys) (append_assoc ts (part_text x ∷ []) (map part_text (fresh_after more xs))))

pub texts_after : (seen xs : List Part) → map part_text (after seen xs) ≡ map part_text seen ++ map part_text (fresh_after (map part_text seen) xs)
texts_after seen xs = ap (map part_text) (after_fresh seen xs) ∙ map-append part_text seen (fresh_after (map part_text seen) xs)

pub same_texts : (a b xs : List Part) → map part_text a ≡ map part_text b → map part_text (after a xs) ≡ map part_text (after b xs)
same_texts a b xs e =
    texts_after a xs ∙ ap (λ (ts : List (List ℕ)). ts ++ map part_text (fresh_after ts xs)) e ∙ sym (texts_after b xs)
