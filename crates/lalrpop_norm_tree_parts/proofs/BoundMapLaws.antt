-- What a map of bounds answers where each call answers one function of its part.
use Rattle.std.proofs.Common.{◌≡◌, Result, Ok, Err, IfOk, List, [], ◌∷◌, ◌++◌, map, Option, Some, None, option_map, Bor, refl, ap, sym, ◌∙◌}
use Rattle.std.proofs.lemmas.List.{map-id}
use Rattle.std.proofs.lemmas.Iterator.Adapters.{option_map_id}
use Rattle.std.proofs.lemmas.Simd.{map-map}
use Rattle.std.specs.Fn.{Mut, Called, CalledAt}
use Rattle.std.specs.Prelude.{flat_map, option_to_list}
use Rattle.lalrpop_norm_tree_parts.specs.declared.bound.TypeBound.{TypeBound}
use Rattle.lalrpop_norm_tree_parts.specs.declared.bound.TypeBound.TheVariants as bound
use Rattle.lalrpop_norm_tree_parts.specs.declared.bound.TypeBoundParameter.{TypeBoundParameter}
use Rattle.lalrpop_norm_tree_parts.specs.declared.bound.TypeBoundParameter.TheVariants as parameter
use Rattle.lalrpop_norm_tree_parts.specs.Bounds.{BoundParameterData, lifetime_parameter, type_parameter, associated_type, BoundData, lifetime_bound, function_bound, trait_bound, bound_parameter_view, bound_view}
use Rattle.lalrpop_norm_tree_parts.specs.MappedBounds.{mapped_bound_parameter, mapped_bound, bound_shape, types_in_parameter, types_in_bound}
use Rattle.lalrpop_norm_tree_parts.specs.Paths.{path_view}
use Rattle.lalrpop_norm_tree_parts.specs.Walks.{Answered}
use Rattle.lalrpop_norm_tree_parts.proofs.AnsweredWalks.{answered_mapped}

-- of one shape, and with types that are seen as the same: seen as the same
module _ {T U V : Type 0} (v : U → V) (g : T → V) where
  same_list : (ts : List T) (us : List U) → map (λ (u : U). tt {0}) us ≡ map (λ (t : T). tt {0}) ts → (xs : List U) (ys : List T) → map v (us ++ xs) ≡ map g (ts ++ ys) → (map v us ≡ map g ts) × (map v xs ≡ map g ys)
  same_list [] [] e xs ys h = (refl, h)
  same_list (t ∷ ts) (u ∷ us) e xs ys h =
      let rest = same_list ts us (cc) xs ys (cc) in
      let same = rest.0 in
      (cc, rest.1)
  same_list _ _ e xs ys h = cc

  same_option : (o : Option T) (p : Option U) → option_map (λ (u : U). tt {0}) p ≡ option_map (λ (t : T). tt {0}) o → map v (option_to_list p) ≡ map g (option_to_list o) → option_map v p ≡ option_map g o
  same_option None None e h = refl
  same_option (Some t) (Some u) e h = cc
  same_option _ _ e h = cc

  same_parameter : (p : BoundParameterData T) (q : BoundParameterData U) → mapped_bound_parameter (λ (u : U). tt {0}) q ≡ mapped_bound_parameter (λ (t : T). tt {0}) p → (xs : List U) (ys : List T) → map v (types_in_parameter q ++ xs) ≡ map g (types_in_parameter p ++ ys) → (mapped_bound_parameter v q ≡ mapped_bound_parameter g p) × (map v xs ≡ map g ys)
  same_parameter (lifetime_parameter l) (lifetime_parameter m) e xs ys h = (cc, h)
  same_parameter (type_parameter t) (type_parameter u) e xs ys h = (cc, cc)
  same_parameter (associated_type a t) (associated_type b u) e xs ys h = (cc, cc)
  same_parameter _ _ e xs ys h = cc

  same_parameters : (ps : List (BoundParameterData T)) (qs : List (BoundParameterData U)) → map (mapped_bound_parameter (λ (u : U). tt {0})) qs ≡ map (mapped_bound_parameter (λ (t : T). tt {0})) ps → map v (flat_map types_in_parameter qs) ≡ map g (flat_map types_in_parameter ps) → map (mapped_bound_parameter v) qs ≡ map (mapped_bound_parameter g) ps
  same_parameters [] [] e h = refl
  same_parameters (p ∷ ps) (q ∷ qs) e h =
      let one = same_parameter p q (cc) (flat_map types_in_parameter qs) (flat_map types_in_parameter ps) h in
      let first = one.0 in
      let rest = same_parameters ps qs (cc) one.1 in
      cc
  same_parameters _ _ e h = cc

  same_bound : (b : BoundData T) (c : BoundData U) → mapped_bound (λ (u : U). tt {0}) c ≡ mapped_bound (λ (t : T). tt {0}) b → map v (types_in_bound c) ≡ map g (types_in_bound b) → mapped_bound v c ≡ mapped_bound g b
  same_bound (lifetime_bound l) (lifetime_bound m) e h = cc
  same_bound (function_bound fs p ts o) (function_bound gs q us r) e h =
      let types = same_list ts us (cc) (option_to_list r) (option_to_list o) h in
      let first = types.0 in
      let last = same_option o r (cc) types.1 in
      cc
  same_bound (trait_bound fs p ps) (trait_bound gs q qs) e h =
      let parameters = same_parameters ps qs (cc) h in
      cc
  same_bound _ _ e h = cc

-- a bound seen through f is the bound itself, with each type through f
module _ {T V : Type 0} (f : T → V) where
  parameter_seen : (p : TypeBoundParameter T) → bound_parameter_view f p ≡ mapped_bound_parameter f (bound_parameter_view (λ t. t) p)
  parameter_seen (parameter.Lifetime l) = refl
  parameter_seen (parameter.TypeParameter t) = refl
  parameter_seen (parameter.Associated a t) = refl

  parameters_seen : (ps : List (TypeBoundParameter T)) → map (bound_parameter_view f) ps ≡ map (mapped_bound_parameter f) (map (bound_parameter_view (λ t. t)) ps)
  parameters_seen [] = refl
  parameters_seen (p ∷ ps) =
      let first = parameter_seen p in
      let rest = parameters_seen ps in
      cc

  bound_seen : (b : TypeBound T) → bound_view f b ≡ mapped_bound f (bound_view (λ t. t) b)
  bound_seen (bound.Lifetime l) = refl
  bound_seen (bound.Fn fs p ts r) = rw (map-id ts.items, option_map_id r) refl
  bound_seen (bound.Trait fs p ps) = ap (trait_bound fs.items (path_view p)) (parameters_seen ps.items)

-- mapped twice is mapped by the composition
module _ {T W V : Type 0} (w : T → W) (g : W → V) where
  option_twice : (o : Option T) → option_map g (option_map w o) ≡ option_map (λ t. g (w t)) o
  option_twice None = refl
  option_twice (Some t) = refl

  parameter_twice : (p : BoundParameterData T) → mapped_bound_parameter g (mapped_bound_parameter w p) ≡ mapped_bound_parameter (λ t. g (w t)) p
  parameter_twice (lifetime_parameter l) = refl
  parameter_twice (type_parameter t) = refl
  parameter_twice (associated_type a t) = refl

  parameters_twice : (ps : List (BoundParameterData T)) → map (mapped_bound_parameter g) (map (mapped_bound_parameter w) ps) ≡ map (mapped_bound_parameter (λ t. g (w t))) ps
  parameters_twice [] = refl
  parameters_twice (p ∷ ps) =
      let first = parameter_twice p in
      let rest = parameters_twice ps in
      cc

  pub bound_twice : (b : BoundData T) → mapped_bound g (mapped_bound w b) ≡ mapped_bound (λ t. g (w t)) b
  bound_twice (lifetime_bound l) = refl
  bound_twice (function_bound fs p ts o) = rw (map-map g w ts, option_twice o) refl
  bound_twice (trait_bound fs p ps) = ap (trait_bound fs p) (parameters_twice ps)

-- a mapped bound, seen: the bound that was mapped, seen and put through g
pub bound_mapped : {T U W V : Type 0} (w : T → W) (v : U → V) (g : W → V) (b : TypeBound T) (c : TypeBound U) → bound_shape (bound_view (λ (u : U). u) c) ≡ bound_shape (bound_view (λ (t : T). t) b)
    → map v (types_in_bound (bound_view (λ (u : U). u) c)) ≡ map (λ t. g (w t)) (types_in_bound (bound_view (λ (t : T). t) b)) → bound_view v c ≡ mapped_bound g (bound_view w b)
bound_mapped w v g b c e h =
    bound_seen v c ∙ same_bound v (λ t. g (w t)) (bound_view (λ t. t) b) (bound_view (λ u. u) c) e h
    ∙ sym (bound_twice w g (bound_view (λ t. t) b)) ∙ ap (mapped_bound g) (sym (bound_seen w b))

-- of the calls of a closure: from what `TypeBound::map` ensures to what it answers
pub bound_map_gives : {S T U E W V : Type 0} (calls : Mut S (Bor T × Unit {0}) (Result U E)) (w : T → W) (v : U → V) (g : W → V) → ((s s' : S) (y : Bor T) (u : U) → Called calls s (y, tt) (Ok u) s' → v u ≡ g (w y.now)) → (s s' : S) (b : TypeBound T) (r : Result (TypeBound U) E)
    → IfOk r (λ c. bound_shape (bound_view (λ u. u) c) ≡ bound_shape (bound_view (λ t. t) b))
    → IfOk r (λ c. Answered (CalledAt calls) s (types_in_bound (bound_view (λ t. t) b)) (types_in_bound (bound_view (λ u. u) c)) s')
    → IfOk r (λ c. bound_view v c ≡ mapped_bound g (bound_view w b))
bound_map_gives calls w v g each s s' b (Ok c) kept answered =
    bound_mapped w v g b c kept
    (answered_mapped (CalledAt calls) (λ _. Unit {0}) v (λ t. g (w t)) (λ s s' t u is k. (each s s' k.shown u k.called ∙ ap (λ x. g (w x)) k.shows, tt)) s s'
    (types_in_bound (bound_view (λ t. t) b)) (types_in_bound (bound_view (λ u. u) c)) tt answered)
bound_map_gives calls w v g each s s' b (Err e) kept answered = tt
