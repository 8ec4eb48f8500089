-- The texts of lists that may be open, one after another.
use Rattle.std.proofs.Common.{Result, ◌≡◌, ℕ, ◌+◌, List, [], ◌∷◌, ◌++◌, ◌≤◌, ◌<◌, true, Option, Some, None, IfSome, length, take, get_or, map, refl, sym, ap, subst, codes, Vec, Global, ◌∙◌, append_assoc}
use Rattle.std.proofs.lemmas.List.{take_all, take_more, append-nil}
use Rattle.std.specs.List.{flat_map}
use Rattle.std.specs.Fmt.{◌++?◌, IsPlainFormatter, HasWritten, DisplaysOnOk}
use Rattle.std.specs.declared.fmt.Formatter.{Formatter}
use Rattle.std.specs.declared.fmt.Error.{Error}
use Rattle.lalrpop_norm_tree_parts.specs.declared.bound.TypeBoundParameter.{TypeBoundParameter}
use Rattle.lalrpop_norm_tree_parts.specs.declared.bound.TypeBound.{TypeBound}
use Rattle.lalrpop_norm_tree_parts.specs.declared.bound.TypeBound.TheVariants.{Trait}
use Rattle.lalrpop_norm_tree_parts.specs.declared.bound.WhereClause.{WhereClause}
use Rattle.lalrpop_norm_tree_parts.specs.declared.bound.WhereClause.TheVariants.{OfType}
use Rattle.lalrpop_norm_tree_parts.specs.Bounds.{bound_parameter_view, bound_view, where_clause_view}
use Rattle.lalrpop_norm_tree_parts.specs.BoundTexts.{bound_parameter_text, bound_text, where_clause_text}
use Rattle.std.proofs.Output.{has_written_append}
use Rattle.lalrpop_norm_tree_names.specs.declared.names.TypeParameter.{TypeParameter}
use Rattle.lalrpop_norm_tree_parts.specs.declared.path.Path.{Path}
use Rattle.lalrpop_norm_tree_parts.specs.Paths.{PathData, path_view}
use Rattle.lalrpop_norm_tree_parts.specs.TypeTexts.{angled, forall_text, path_text, signature_text}
use Rattle.lalrpop_norm_tree_names.specs.Texts.{joined}
use Rattle.lalrpop_norm_tree_parts.specs.KnownTexts.{texts_after, joined_known, angled_known, bounds_known, signature_known}

-- ---- texts that may be open

pub known_assoc : (o p q : Option (List ℕ)) → (o ++? p) ++? q ≡ o ++? (p ++? q)
known_assoc None p q = refl
known_assoc (Some a) None q = refl
known_assoc (Some a) (Some b) None = refl
known_assoc (Some a) (Some b) (Some c) = ap Some (append_assoc a b c)

nothing_then : (o : Option (List ℕ)) → Some [] ++? o ≡ o
nothing_then None = refl
nothing_then (Some a) = refl

then_nothing : (o : Option (List ℕ)) → o ++? Some [] ≡ o
then_nothing None = refl
then_nothing (Some a) = ap Some (append-nil a)

-- one more text at the end
pub each_after-end : (separator : List ℕ) (ts : List (Option (List ℕ))) (u : Option (List ℕ)) → texts_after separator (ts ++ u ∷ []) ≡ texts_after separator ts ++? (Some separator ++? u)
each_after-end separator [] u = then_nothing (Some separator ++? u) ∙ sym (nothing_then _)
each_after-end separator (t ∷ ts) u = rw (each_after-end separator ts u) (sym (known_assoc (Some separator ++? t) _ _))

module _ {X : Type 0} (text : X → Option (List ℕ)) (separator : List ℕ) where
  each_after-push : (xs : List X) (x : X) → texts_after separator (map text (xs ++ x ∷ [])) ≡ texts_after separator (map text xs) ++? (Some separator ++? text x)
  each_after-push [] x = then_nothing (Some separator ++? text x) ∙ sym (nothing_then _)
  each_after-push (y ∷ xs) x = rw (each_after-push xs x) (sym (known_assoc (Some separator ++? text y) _ _))

  -- one more
  pub each_after-more : (xs : List X) (i : ℕ) (x : X) → i < length xs → x ≡ get_or xs i x
      → texts_after separator (map text (take (i + 1) xs)) ≡ texts_after separator (map text (take i xs)) ++? (Some separator ++? text x)
  each_after-more xs i x h e = rw (take_more xs i x h, ← e, each_after-push (take i xs) x)

pub map_twice : {X Y Z : Type 0} (g : Y → Z) (f : X → Y) (xs : List X) → map (λ x. g (f x)) xs ≡ map g (map f xs)
map_twice g f [] = refl
map_twice g f (x ∷ xs) = ap (λ zs. g (f x) ∷ zs) (map_twice g f xs)

-- one level of a bound, and of a where clause
module _ {T : Type 0} (text : T → Option (List ℕ)) where
  pub trait_bound_text : (b : TypeBound T) (fs : Vec TypeParameter Global) (p : Path) (ps : Vec (TypeBoundParameter T) Global) → b ≡ Trait fs p ps
      → Some (forall_text fs.items ++ path_text (path_view p)) ++? angled_known (map (λ q. bound_parameter_text (bound_parameter_view text q)) ps.items) ≡ bound_text (bound_view text b)
  trait_bound_text b fs p ps e = rw (e, map_twice bound_parameter_text (bound_parameter_view text) ps.items)

  pub type_clause_text : (w : WhereClause T) (fs : Vec TypeParameter Global) (t : T) (bs : Vec (TypeBound T) Global) → w ≡ OfType fs t bs
      → Some (forall_text fs.items) ++? text t ++? Some (codes ": ") ++? bounds_known (map (λ b. bound_text (bound_view text b)) bs.items) ≡ where_clause_text (where_clause_view text w)
  type_clause_text w fs t bs e = rw (e, map_twice bound_text (bound_view text) bs.items)

module _ {W : Type 0} (took : W → List ℕ → W → Type 0) where
  -- a text that may be open, and then another
  shown_then : (f g h : Formatter W) (o p : Option (List ℕ)) → IfSome o (λ a. HasWritten took f a g)
      → IfSome p (λ b. IsPlainFormatter g → true ≡ true → HasWritten took g b h) → IfSome (o ++? p) (λ c. HasWritten took f c h)
  shown_then f g h None p x y = tt
  shown_then f g h (Some a) None x y = tt
  shown_then f g h (Some a) (Some b) x y = has_written_append took f a g b h x (y x.plain refl)

  -- a write that succeeded, and then the last one
  pub known_then : (f g h : Formatter W) (r : Result (Unit {0}) Error) (o p : Option (List ℕ)) → IfSome o (λ a. IsPlainFormatter f → true ≡ true → HasWritten took f a g)
      → DisplaysOnOk took g r p h → DisplaysOnOk took f r (o ++? p) h
  known_then f g h r None p x y = tt
  known_then f g h r (Some a) None x y = tt
  known_then f g h r (Some a) (Some b) x y = λ plain ok. has_written_append took f a g b h (x plain refl) (y (x plain refl).plain ok)

  pub written_then : (f g h : Formatter W) (r : Result (Unit {0}) Error) (bs : List ℕ) (p : Option (List ℕ)) → (IsPlainFormatter f → true ≡ true → HasWritten took f bs g)
      → DisplaysOnOk took g r p h → DisplaysOnOk took f r (Some bs ++? p) h
  written_then f g h r bs p x y = known_then f g h r (Some bs) p x y

  -- after the texts so far, one more
  pub shown_more : (f g h k : Formatter W) (done : Option (List ℕ)) (separator : List ℕ) (o : Option (List ℕ)) → IfSome done (λ a. HasWritten took f a g)
      → (IsPlainFormatter g → true ≡ true → HasWritten took g separator h) → IfSome o (λ b. IsPlainFormatter h → true ≡ true → HasWritten took h b k)
      → IfSome (done ++? (Some separator ++? o)) (λ c. HasWritten took f c k)
  shown_more f g h k done separator o x y z =
      subst (λ (t : Option (List ℕ)). IfSome t (λ c. HasWritten took f c k)) (known_assoc done (Some separator) o)
      (shown_then f h k (done ++? Some separator) o (shown_then f g h done (Some separator) x y) z)

  -- the first, and then the others
  first_shown_then : (f g h : Formatter W) (o p : Option (List ℕ)) → IfSome o (λ a. IsPlainFormatter f → true ≡ true → HasWritten took f a g)
      → (IsPlainFormatter g → IfSome p (λ b. HasWritten took g b h)) → IfSome (o ++? p) (λ c. IsPlainFormatter f → true ≡ true → HasWritten took f c h)
  first_shown_then f g h None p x y = tt
  first_shown_then f g h (Some a) None x y = tt
  first_shown_then f g h (Some a) (Some b) x y = λ plain ok. has_written_append took f a g b h (x plain ok) (y (x plain ok).plain)

  module _ {X : Type 0} (text : X → Option (List ℕ)) (separator : List ℕ) where
    pub joined_shown : (f g h : Formatter W) (xs : List X) (x : X) (others : List X) (i : ℕ) → xs ≡ x ∷ others → length others ≤ i
        → IfSome (text x) (λ a. IsPlainFormatter f → true ≡ true → HasWritten took f a g)
        → (IsPlainFormatter g → IfSome (texts_after separator (map text (take i others))) (λ b. HasWritten took g b h))
        → IfSome (joined_known separator (map text xs)) (λ c. IsPlainFormatter f → true ≡ true → HasWritten took f c h)
    joined_shown f g h xs x others i e all first rest =
        rw e (first_shown_then f g h (text x) (texts_after separator (map text others)) first (rw (take_all i others all) at rest))

-- where each has a text, those texts
module _ {X : Type 0} (text : X → List ℕ) (separator : List ℕ) where
  each_after-known : (xs : List X) → texts_after separator (map (λ x. Some (text x)) xs) ≡ Some (flat_map (λ u. separator ++ u) (map text xs))
  each_after-known [] = refl
  each_after-known (x ∷ xs) = rw (each_after-known xs)

  pub joined_known-all : (xs : List X) → joined_known separator (map (λ x. Some (text x)) xs) ≡ Some (joined separator (map text xs))
  joined_known-all [] = refl
  joined_known-all (x ∷ xs) = rw (each_after-known xs)

-- where each has a text, those texts between angle brackets
pub angled_known-all : {X : Type 0} (text : X → List ℕ) (xs : List X) → angled_known (map (λ x. Some (text x)) xs) ≡ Some (angled (map text xs))
angled_known-all text [] = refl
angled_known-all text (x ∷ xs) = rw (joined_known-all text (codes ", ") (x ∷ xs))

-- where each parameter has a text, the signature with those texts
pub signature_known-all : {X : Type 0} (text : X → List ℕ) (fs : List TypeParameter) (p : PathData) (xs : List X)
    → signature_known fs p (map (λ x. Some (text x)) xs) ≡ Some (signature_text fs p (map text xs))
signature_known-all text fs p xs = rw (joined_known-all text (codes ", ") xs)
