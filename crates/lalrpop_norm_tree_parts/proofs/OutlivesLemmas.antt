-- Lists that grow at the end, and clauses by which parameters outlive lifetimes.
use Rattle.std.proofs.Common.{◌≡◌, ◌==◌, ℕ, ◌+◌, ◌<◌, Bool, false, ◌||◌, List, [], ◌∷◌, ◌++◌, map, drop, length, get_or, refl, ap, subst, append_assoc}
use Rattle.std.proofs.Math.Numerals.{add-one}
use Rattle.std.proofs.Math.Seq.{drop-cons}
use Rattle.std.specs.List.{list_any}
use Rattle.lalrpop_norm_tree_parts.specs.declared.lowered.TypeRepr.{TypeRepr}
use Rattle.lalrpop_norm_tree_parts.specs.declared.lowered.NominalTypeRepr.{NominalTypeRepr}
use Rattle.lalrpop_norm_tree_names.specs.declared.names.TypeParameter.{TypeParameter}
use Rattle.lalrpop_norm_tree_names.specs.declared.names.TypeParameter.TheVariants as parameter
use Rattle.lalrpop_norm_tree_parts.specs.FreeVariables.{with_new}
use Rattle.lalrpop_norm_tree_names.specs.NewLifetimes.{BeginsWith}
use Rattle.lalrpop_norm_tree_parts.specs.LifetimeNames.{is_parameter}
use Rattle.lalrpop_norm_tree_parts.specs.Paths.{PathData}
use Rattle.lalrpop_norm_tree_parts.specs.Reprs.{nominal, reprs_view, applied_view}
use Rattle.lalrpop_norm_tree_parts.proofs.ReprSeen.{applied_is}

pub begins_then : {A : Type 0} (xs ys zs : List A) → BeginsWith ys xs → BeginsWith zs ys → BeginsWith zs xs
begins_then xs ys zs (m, e) (n, f) = (m ++ n, rw (f, e) (append_assoc xs m n))

pub any_mapped : {X Y : Type 0} (p : Y → Bool) (v : X → Y) (xs : List X) → list_any p (map v xs) ≡ list_any (λ x. p (v x)) xs
any_mapped p v [] = refl
any_mapped p v (x ∷ xs) = ap (λ b. p (v x) || b) (any_mapped p v xs)

-- a path with arguments is no parameter
with_arguments : (a : List ℕ) (p : PathData) (ts : List TypeRepr) → (length ts == 0) ≡ false → is_parameter (parameter.Id a) (nominal p (reprs_view ts)) ≡ false
with_arguments a p [] e = absurd cc
with_arguments a p (t ∷ ts) e = refl

pub applied_is_none : (q : TypeParameter) (a : List ℕ) (n : NominalTypeRepr) → q ≡ parameter.Id a → (length n.types.items == 0) ≡ false → false ≡ is_parameter q (nominal (applied_view n).0 (applied_view n).1)
applied_is_none q a n is some = rw (is, applied_is n, with_arguments a _ n.types.items some) refl

-- the new one at i has been added
pub new_more : {A B : Type 0} (is : B → A → Bool) (made : B → A) (ys : List B) (i : ℕ) (y : B) (xs new whole : List A) → i < length ys → with_new is made xs (drop i ys) ≡ whole → new ≡ with_new is made xs (get_or ys i y ∷ []) → with_new is made new (drop (i + 1) ys) ≡ whole
new_more is made ys i y xs new whole h done one = rw (one, add-one i) (subst (λ r. with_new is made xs r ≡ whole) (drop-cons ys i y h) done)
