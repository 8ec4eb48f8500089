-- One level of a written type.
use Rattle.std.proofs.Common.{◌≡◌, List, Option, None, Some, Box, Vec, Global, refl}
use Rattle.std.specs.Prelude.{Result, IfOk, option_map}
use Rattle.lalrpop_norm_shared_types.specs.Shared.{shared_view}
use Rattle.lalrpop_norm_shared_types.specs.declared.shared.SharedType.{SharedType}
use Rattle.lalrpop_norm_tree_names.specs.declared.names.TypeParameter.{TypeParameter}
use Rattle.lalrpop_norm_tree_parts.specs.declared.path.Path.{Path}
use Rattle.lalrpop_norm_tree_parts.specs.Paths.{path_view}
use Rattle.lalrpop_norm_tree_parts.specs.Reprs.{ReprData, Reprs, MaybeRepr}
use Rattle.lalrpop_norm_tree.specs.declared.types.TypeRef.{TypeRef}
use Rattle.lalrpop_norm_tree.specs.declared.types.TypeRef.TheVariants as written
use Rattle.lalrpop_norm_model.specs.TypeTables.{TypeEnvironment, both, type_meant}
use Rattle.lalrpop_norm_tree.specs.Types.{TypeData, tuple, nominal, function, maybe_of, type_view, types_view}
use Rattle.lalrpop_norm_tree.proofs.TypeViews.{tuple_is, nominal_is, function_is}

-- ---- written types

pub tuple_seen : (t : TypeRef) (xs : List TypeRef) (ts : Vec TypeRef Global) → t ≡ written.Tuple ts → xs ≡ ts.items → type_view t ≡ tuple (types_view xs)
tuple_seen t xs ts e d = rw d (tuple_is t ts e)

pub nominal_seen : (t : TypeRef) (p : Path) (xs : List TypeRef) (ts : Vec TypeRef Global) → t ≡ written.Nominal p ts → xs ≡ ts.items → type_view t ≡ nominal (path_view p) (types_view xs)
nominal_seen t p xs ts e d = rw d (nominal_is t p ts e)

pub function_seen : (t : TypeRef) (fs : Vec TypeParameter Global) (p : Path) (xs : List TypeRef) (ts : Vec TypeRef Global) (r : Option (Box TypeRef Global)) → t ≡ written.Fn fs p ts r → xs ≡ ts.items →
    type_view t ≡ function fs.items (path_view p) (types_view xs) (maybe_of (option_map (λ b. type_view b.value) r))
function_seen t fs p xs ts r e d = rw d (function_is t fs p ts r e)

pub value_as : {E : Type 0} (ps : List TypeParameter) (types : TypeEnvironment) (r : Result (Option SharedType) E) (d e : TypeData) → d ≡ e →
    IfOk r (λ o. option_map shared_view o ≡ type_meant ps types e) → IfOk r (λ o. option_map shared_view o ≡ type_meant ps types d)
value_as ps types r d e same h = rw same h

-- a value, by what it is
pub is_value : {E : Type 0} (r : Result (Option SharedType) E) (v w : Option ReprData) → v ≡ w → IfOk r (λ o. option_map shared_view o ≡ v) → IfOk r (λ o. option_map shared_view o ≡ w)
is_value r v w same h = rw (← same) h

-- a value that is made of the values of parts
pub made_of : {E : Type 0} (f : Reprs → MaybeRepr → ReprData) (r : Result (Option SharedType) E) (a v : Option Reprs) (b w : Option MaybeRepr) → a ≡ v → b ≡ w →
    IfOk r (λ o. option_map shared_view o ≡ both f a b) → IfOk r (λ o. option_map shared_view o ≡ both f v w)
made_of f r a v b w e d h = rw (← e, ← d) h

pub over_pair : {P X Y : Type 0} (f : P → X → Y) (p : P) (o : Option X) (m : Option (P × X)) → m ≡ option_map (λ x. (p, x)) o → option_map (λ a. f a.0 a.1) m ≡ option_map (f p) o
over_pair f p None m e = rw e refl
over_pair f p (Some x) m e = rw e refl
