-- Where clauses that are the same apart from their types, seen through a view of those.
use Rattle.std.proofs.Common.{◌≡◌, List, [], ◌∷◌, map, Option, Some, None, option_map, refl, ap}
use Rattle.std.specs.List.{AllZip}
use Rattle.lalrpop_norm_tree_parts.specs.declared.bound.TypeBound.{TypeBound}
use Rattle.lalrpop_norm_tree_parts.specs.declared.bound.TypeBound.TheVariants as bound
use Rattle.lalrpop_norm_tree_parts.specs.declared.bound.TypeBoundParameter.{TypeBoundParameter}
use Rattle.lalrpop_norm_tree_parts.specs.declared.bound.TypeBoundParameter.TheVariants as parameter
use Rattle.lalrpop_norm_tree_parts.specs.declared.bound.WhereClause.{WhereClause}
use Rattle.lalrpop_norm_tree_parts.specs.declared.bound.WhereClause.TheVariants as clause
use Rattle.lalrpop_norm_tree_parts.specs.Bounds.{bound_parameter_view, bound_view, where_clause_view, type_parameter, SameOption, SameBoundParameter, SameBound, SameWhereClause}

-- lists whose elements are related, seen by a view that takes related elements to one value
same_map : {X D E : Type 0} (S : D → D → Type 0) (v : X → D) (w : X → E) → ((x y : X) → S (v x) (v y) → w y ≡ w x) → (xs ys : List X) → AllZip S (map v xs) (map v ys) → map w ys ≡ map w xs
same_map S v w one [] [] h = refl
same_map S v w one [] (y ∷ ys) h = absurd h
same_map S v w one (x ∷ xs) [] h = absurd h
same_map S v w one (x ∷ xs) (y ∷ ys) h =
    let first = one x y h.0 in
    let rest = same_map S v w one xs ys h.1 in
    cc

same_option : {T V : Type 0} (R : T → T → Type 0) (f : T → V) → ((t u : T) → R t u → f u ≡ f t) → (r s : Option T) → SameOption R (option_map (λ t. t) r) (option_map (λ t. t) s) → option_map f s ≡ option_map f r
same_option R f one None None h = refl
same_option R f one (Some t) (Some u) h = ap Some (one t u h)
same_option R f one _ _ h = absurd h

same_parameter_views : {T V : Type 0} (R : T → T → Type 0) (f : T → V) → ((t u : T) → R t u → f u ≡ f t) → (p q : TypeBoundParameter T) → SameBoundParameter R (bound_parameter_view (λ t. t) p) (bound_parameter_view (λ t. t) q) → bound_parameter_view f q ≡ bound_parameter_view f p
same_parameter_views R f one (parameter.Lifetime l) (parameter.Lifetime m) h = cc
same_parameter_views R f one (parameter.TypeParameter t) (parameter.TypeParameter u) h = ap type_parameter (one t u h)
same_parameter_views R f one (parameter.Associated a t) (parameter.Associated b u) h = let e = one t u h.1 in cc h.0
same_parameter_views R f one _ _ h = absurd h

-- bounds that are the same apart from related types have equal views, where f takes related types to one value
pub same_bound_views : {T V : Type 0} (R : T → T → Type 0) (f : T → V) → ((t u : T) → R t u → f u ≡ f t) → (b c : TypeBound T) → SameBound R (bound_view (λ t. t) b) (bound_view (λ t. t) c) → bound_view f c ≡ bound_view f b
same_bound_views R f one (bound.Lifetime l) (bound.Lifetime m) h = cc
same_bound_views R f one (bound.Fn fs p ts r) (bound.Fn gs q us s) h =
    let types = same_map R (λ t. t) f one ts.items us.items h.2 in
    let ret = same_option R f one r s h.3 in
    cc (h.0, h.1)
same_bound_views R f one (bound.Trait fs p ps) (bound.Trait gs q qs) h =
    let parameters = same_map (SameBoundParameter R) (bound_parameter_view (λ t. t)) (bound_parameter_view f) (same_parameter_views R f one) ps.items qs.items h.2 in
    cc (h.0, h.1)
same_bound_views R f one _ _ h = absurd h

-- where clauses that are the same apart from related types have equal views, where f takes related types to one value
pub same_clause_views : {T V : Type 0} (R : T → T → Type 0) (f : T → V) → ((t u : T) → R t u → f u ≡ f t) → (c d : WhereClause T) → SameWhereClause R (where_clause_view (λ t. t) c) (where_clause_view (λ t. t) d) → where_clause_view f d ≡ where_clause_view f c
same_clause_views R f one (clause.Lifetime l ls) (clause.Lifetime m ms) h = cc (h.0, h.1)
same_clause_views R f one (clause.OfType fs t bs) (clause.OfType gs u cs) h =
    let type = one t u h.1 in
    let bounds = same_map (SameBound R) (bound_view (λ t. t)) (bound_view f) (same_bound_views R f one) bs.items cs.items h.2 in
    cc h.0
same_clause_views R f one _ _ h = absurd h
