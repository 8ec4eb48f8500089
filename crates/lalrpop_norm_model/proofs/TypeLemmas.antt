-- What a table that is sound, closed or stuck says of the types that rules have.
use Rattle.std.proofs.Common.{◌≡◌, ℕ, List, Option, Some, None, option_map, IsSome, refl, ap, subst}
use Rattle.lalrpop_norm_tree.specs.Items.{GrammarData}
use Rattle.lalrpop_norm_tree.specs.LoweredTypes.{named_path}
use Rattle.lalrpop_norm_tree_parts.specs.Paths.{PathData}
use Rattle.lalrpop_norm_tree_parts.specs.Reprs as lowered
use Rattle.lalrpop_norm_tree_parts.specs.Reprs.{ReprData, Reprs, MaybeRepr}
use Rattle.lalrpop_norm_tree.specs.Symbols.{Kind, terminal, nonterminal, chosen, named, tupled, error_terminal, at}
use Rattle.lalrpop_norm_tree.specs.Types.{TypeData, TypesData, MaybeType, tuple, slice, nominal, reference, trait_object, of_lifetime, id, of_symbol, function, no_types, type_and, no_type, returns}
use Rattle.lalrpop_norm_model.specs.TerminalTypes.{terminal_type, recovery_type}
use Rattle.lalrpop_norm_model.specs.TypeRelation.{associated_of, TypeClause, makes, locates, Has, by_clause, Makes, makes_type, makes_location, Gives, of_terminal, of_error, of_nonterminal, of_chosen, of_named, of_tupled, Means, means_symbol, means_associated, means_nominal, means_name, means_tuple, means_slice, means_reference, means_object, means_lifetime, means_function, MeanAll, mean_none, mean_and, MeansReturn, means_nothing, means_returned, IsFunctional}
use Rattle.lalrpop_norm_model.specs.TypeTables.{Table, kind_value, path_value, both, type_value, types_value, return_value, clause_value, IsSound, IsClosedTable, IsStuck, IsTable}

-- ---- options

-- what a mapped option holds is made of what the option holds
map_made : {A B : Type 0} (f : A → B) (P : B → Type 0) (v : Option A) → ((x : A) → v ≡ Some x → P (f x)) → (y : B) → option_map f v ≡ Some y → P y
map_made f P None make y e = absurd cc
map_made f P (Some x) make y e =
    let same : f x ≡ y = cc in
    subst P same (make x refl)

both_made : {A B C : Type 0} (f : A → B → C) (P : C → Type 0) (v : Option A) (w : Option B) →
    ((x : A) (y : B) → v ≡ Some x → w ≡ Some y → P (f x y)) → (z : C) → both f v w ≡ Some z → P z
both_made f P None w make z e = absurd cc
both_made f P (Some x) None make z e = absurd cc
both_made f P (Some x) (Some y) make z e =
    let same : f x y ≡ z = cc in
    subst P same (make x y refl refl)

some_map : {A B : Type 0} (f : A → B) (v : Option A) → IsSome v → IsSome (option_map f v)
some_map f None s = absurd cc
some_map f (Some x) s = refl

some_both : {A B C : Type 0} (f : A → B → C) (v : Option A) (w : Option B) → IsSome v → IsSome w → IsSome (both f v w)
some_both f None w s t = absurd cc
some_both f (Some x) None s t = absurd cc
some_both f (Some x) (Some y) s t = refl

given : {A : Type 0} (P : A → Type 0) (a x : A) → P a → Some a ≡ Some x → P x
given P a x p e =
    let same : a ≡ x = cc in
    subst P same p

-- ---- what is made of a sound table is had

mutual
  kind_gives : (g : GrammarData) (f : Table) → IsSound g f → (k : Kind) (x : ReprData) → kind_value g f k ≡ Some x → Gives g k x
  kind_gives g f sound (terminal t) x e = given (Gives g (terminal t)) (terminal_type g t) x (of_terminal t) e
  kind_gives g f sound error_terminal x e = given (Gives g error_terminal) (recovery_type g) x of_error e
  kind_gives g f sound (nonterminal n) x e = of_nonterminal n x (sound n x e)
  kind_gives g f sound (chosen (at s k)) x e = of_chosen s k x (kind_gives g f sound k x e)
  kind_gives g f sound (named n (at s k)) x e = of_named n s k x (kind_gives g f sound k x e)
  kind_gives g f sound (tupled ns (at s k)) x e = of_tupled ns s k x (kind_gives g f sound k x e)
  kind_gives g f sound _ x e = absurd cc

path_means : (g : GrammarData) (p : PathData) (ts : TypesData) (a : Option (List ℕ × List ℕ)) (v : Option Reprs) → associated_of g p ≡ a →
    ((xs : Reprs) → v ≡ Some xs → MeanAll g ts xs) → (x : ReprData) → path_value a p v ≡ Some x → Means g (nominal p ts) x
path_means g p ts (Some (a, b)) v is all x e = given (Means g (nominal p ts)) (lowered.associated a b) x (means_associated p ts a b is) e
path_means g p ts None v is all x e =
    map_made (lowered.nominal p) (Means g (nominal p ts)) v (λ xs h. means_nominal p ts xs is (all xs h)) x e

mutual
  pub value_means : (g : GrammarData) (f : Table) → IsSound g f → (t : TypeData) (x : ReprData) → type_value g f t ≡ Some x → Means g t x
  value_means g f sound (of_symbol k) x e = means_symbol k x (kind_gives g f sound k x e)
  value_means g f sound (nominal p ts) x e = path_means g p ts (associated_of g p) (types_value g f ts) refl (values_mean g f sound ts) x e
  value_means g f sound (id a) x e = given (Means g (id a)) (lowered.nominal (named_path a) lowered.no_reprs) x (means_name a) e
  value_means g f sound (tuple ts) x e =
      map_made lowered.tuple (Means g (tuple ts)) (types_value g f ts) (λ xs h. means_tuple ts xs (values_mean g f sound ts xs h)) x e
  value_means g f sound (slice t) x e =
      map_made lowered.slice (Means g (slice t)) (type_value g f t) (λ y h. means_slice t y (value_means g f sound t y h)) x e
  value_means g f sound (reference l m t) x e =
      map_made (lowered.reference l m) (Means g (reference l m t)) (type_value g f t) (λ y h. means_reference l m t y (value_means g f sound t y h)) x e
  value_means g f sound (trait_object p ts) x e =
      map_made (lowered.trait_object p) (Means g (trait_object p ts)) (types_value g f ts) (λ xs h. means_object p ts xs (values_mean g f sound ts xs h)) x e
  value_means g f sound (of_lifetime l) x e = given (Means g (of_lifetime l)) (lowered.of_lifetime l) x (means_lifetime l) e
  value_means g f sound (function fs p ts r) x e =
      both_made (lowered.function fs p) (Means g (function fs p ts r)) (types_value g f ts) (return_value g f r)
      (λ xs y h i. means_function fs p ts r xs y (values_mean g f sound ts xs h) (return_means g f sound r y i)) x e

  pub values_mean : (g : GrammarData) (f : Table) → IsSound g f → (ts : TypesData) (xs : Reprs) → types_value g f ts ≡ Some xs → MeanAll g ts xs
  values_mean g f sound no_types xs e = given (MeanAll g no_types) lowered.no_reprs xs mean_none e
  values_mean g f sound (type_and t ts) xs e =
      both_made lowered.repr_and (MeanAll g (type_and t ts)) (type_value g f t) (types_value g f ts)
      (λ y ys h i. mean_and t ts y ys (value_means g f sound t y h) (values_mean g f sound ts ys i)) xs e

  pub return_means : (g : GrammarData) (f : Table) → IsSound g f → (r : MaybeType) (y : MaybeRepr) → return_value g f r ≡ Some y → MeansReturn g r y
  return_means g f sound no_type y e = given (MeansReturn g no_type) lowered.no_repr y means_nothing e
  return_means g f sound (returns t) y e =
      map_made lowered.returns (MeansReturn g (returns t)) (type_value g f t) (λ x h. means_returned t x (value_means g f sound t x h)) y e

pub clause_makes : (g : GrammarData) (f : Table) → IsSound g f → (c : TypeClause) (x : ReprData) → clause_value g f c ≡ Some x → Makes g c x
clause_makes g f sound (makes t) x e = makes_type t x (value_means g f sound t x e)
clause_makes g f sound locates x e = makes_location x e

-- ---- a closed table holds each type that is had

mutual
  pub has_typed : (g : GrammarData) (f : Table) → IsClosedTable g f → {n : List ℕ} {x : ReprData} → Has g n x → f n ≡ Some x
  has_typed g f closed (by_clause r c x rule i m) = closed r rule c i x (makes_value g f closed m)

  pub makes_value : (g : GrammarData) (f : Table) → IsClosedTable g f → {c : TypeClause} {x : ReprData} → Makes g c x → clause_value g f c ≡ Some x
  makes_value g f closed (makes_type t x m) = means_value g f closed m
  makes_value g f closed (makes_location x there) = there

  pub gives_value : (g : GrammarData) (f : Table) → IsClosedTable g f → {k : Kind} {x : ReprData} → Gives g k x → kind_value g f k ≡ Some x
  gives_value g f closed (of_terminal t) = refl
  gives_value g f closed of_error = refl
  gives_value g f closed (of_nonterminal n x h) = has_typed g f closed h
  gives_value g f closed (of_chosen s k x h) = gives_value g f closed h
  gives_value g f closed (of_named n s k x h) = gives_value g f closed h
  gives_value g f closed (of_tupled ns s k x h) = gives_value g f closed h

  pub means_value : (g : GrammarData) (f : Table) → IsClosedTable g f → {t : TypeData} {x : ReprData} → Means g t x → type_value g f t ≡ Some x
  means_value g f closed (means_symbol k x h) = gives_value g f closed h
  means_value g f closed (means_associated p ts a b is) = rw is refl
  means_value g f closed (means_nominal p ts xs is hs) = rw (is, mean_values g f closed hs) refl
  means_value g f closed (means_name a) = refl
  means_value g f closed (means_tuple ts xs hs) = ap (option_map lowered.tuple) (mean_values g f closed hs)
  means_value g f closed (means_slice t x h) = ap (option_map lowered.slice) (means_value g f closed h)
  means_value g f closed (means_reference l m t x h) = ap (option_map (lowered.reference l m)) (means_value g f closed h)
  means_value g f closed (means_object p ts xs hs) = ap (option_map (lowered.trait_object p)) (mean_values g f closed hs)
  means_value g f closed (means_lifetime l) = refl
  means_value g f closed (means_function fs p ts r xs y hs h) = rw (mean_values g f closed hs, means_return g f closed h) refl

  pub mean_values : (g : GrammarData) (f : Table) → IsClosedTable g f → {ts : TypesData} {xs : Reprs} → MeanAll g ts xs → types_value g f ts ≡ Some xs
  mean_values g f closed mean_none = refl
  mean_values g f closed (mean_and t ts x xs h hs) = rw (means_value g f closed h, mean_values g f closed hs) refl

  pub means_return : (g : GrammarData) (f : Table) → IsClosedTable g f → {r : MaybeType} {y : MaybeRepr} → MeansReturn g r y → return_value g f r ≡ Some y
  means_return g f closed means_nothing = refl
  means_return g f closed (means_returned t x h) = ap (option_map lowered.returns) (means_value g f closed h)

-- ---- a stuck table types each rule that has a type at all

path_some : (a : Option (List ℕ × List ℕ)) (p : PathData) (v : Option Reprs) → IsSome v → IsSome (path_value a p v)
path_some (Some a) p v s = refl
path_some None p v s = some_map (lowered.nominal p) v s

mutual
  pub has_some : (g : GrammarData) (f : Table) → IsStuck g f → {n : List ℕ} {x : ReprData} → Has g n x → IsSome (f n)
  has_some g f stuck (by_clause r c x rule i m) = stuck r rule c i (makes_some g f stuck m)

  pub makes_some : (g : GrammarData) (f : Table) → IsStuck g f → {c : TypeClause} {x : ReprData} → Makes g c x → IsSome (clause_value g f c)
  makes_some g f stuck (makes_type t x m) = means_some g f stuck m
  makes_some g f stuck (makes_location x there) = rw there refl

  pub gives_some : (g : GrammarData) (f : Table) → IsStuck g f → {k : Kind} {x : ReprData} → Gives g k x → IsSome (kind_value g f k)
  gives_some g f stuck (of_terminal t) = refl
  gives_some g f stuck of_error = refl
  gives_some g f stuck (of_nonterminal n x h) = has_some g f stuck h
  gives_some g f stuck (of_chosen s k x h) = gives_some g f stuck h
  gives_some g f stuck (of_named n s k x h) = gives_some g f stuck h
  gives_some g f stuck (of_tupled ns s k x h) = gives_some g f stuck h

  pub means_some : (g : GrammarData) (f : Table) → IsStuck g f → {t : TypeData} {x : ReprData} → Means g t x → IsSome (type_value g f t)
  means_some g f stuck (means_symbol k x h) = gives_some g f stuck h
  means_some g f stuck (means_associated p ts a b is) = rw is refl
  means_some g f stuck (means_nominal p ts xs is hs) = path_some (associated_of g p) p (types_value g f ts) (mean_some g f stuck hs)
  means_some g f stuck (means_name a) = refl
  means_some g f stuck (means_tuple ts xs hs) = some_map lowered.tuple (types_value g f ts) (mean_some g f stuck hs)
  means_some g f stuck (means_slice t x h) = some_map lowered.slice (type_value g f t) (means_some g f stuck h)
  means_some g f stuck (means_reference l m t x h) = some_map (lowered.reference l m) (type_value g f t) (means_some g f stuck h)
  means_some g f stuck (means_object p ts xs hs) = some_map (lowered.trait_object p) (types_value g f ts) (mean_some g f stuck hs)
  means_some g f stuck (means_lifetime l) = refl
  means_some g f stuck (means_function fs p ts r xs y hs h) =
      some_both (lowered.function fs p) (types_value g f ts) (return_value g f r) (mean_some g f stuck hs) (return_some g f stuck h)

  pub mean_some : (g : GrammarData) (f : Table) → IsStuck g f → {ts : TypesData} {xs : Reprs} → MeanAll g ts xs → IsSome (types_value g f ts)
  mean_some g f stuck mean_none = refl
  mean_some g f stuck (mean_and t ts x xs h hs) =
      some_both lowered.repr_and (type_value g f t) (types_value g f ts) (means_some g f stuck h) (mean_some g f stuck hs)

  pub return_some : (g : GrammarData) (f : Table) → IsStuck g f → {r : MaybeType} {y : MaybeRepr} → MeansReturn g r y → IsSome (return_value g f r)
  return_some g f stuck means_nothing = refl
  return_some g f stuck (means_returned t x h) = some_map lowered.returns (type_value g f t) (means_some g f stuck h)

-- ---- what follows

-- a sound and closed table is the relation
pub table_is : (g : GrammarData) (f : Table) → IsSound g f → IsClosedTable g f → IsTable g f
table_is g f sound closed n x = (sound n x, has_typed g f closed)

-- where a table is closed, no name has two types
pub closed_functional : (g : GrammarData) (f : Table) → IsClosedTable g f → IsFunctional g
closed_functional g f closed n x y h k =
    let a = has_typed g f closed h in
    let b = has_typed g f closed k in
    cc

-- where a table is stuck, a name without a type in it has none
pub none_had : (g : GrammarData) (f : Table) → IsStuck g f → (n : List ℕ) → f n ≡ None → (x : ReprData) → Has g n x → ⊥
none_had g f stuck n e x h = let s = has_some g f stuck h in cc
