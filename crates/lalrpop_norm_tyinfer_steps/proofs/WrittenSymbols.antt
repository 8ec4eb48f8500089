-- The names that a function type is made of.
use Rattle.std.proofs.Common.{◌≡◌, ◌++◌, ℕ, List, Option, Box, Vec, Global, map, option_map, ap}
use Rattle.std.specs.Prelude.{Result, OnOk}
use Rattle.lalrpop_norm_tree.specs.declared.types.TypeRef.{TypeRef}
use Rattle.lalrpop_norm_tree.specs.declared.types.TypeRef.TheVariants.{Fn}
use Rattle.lalrpop_norm_tree.specs.Types.{TypeData, function, maybe_of, type_view, types_view}
use Rattle.lalrpop_norm_tree_names.specs.declared.names.TypeParameter.{TypeParameter}
use Rattle.lalrpop_norm_tree_parts.specs.declared.path.Path.{Path}
use Rattle.lalrpop_norm_tree_parts.specs.Paths.{path_view}
use Rattle.lalrpop_norm_tyinfer_steps.specs.Needs.{needed_type}
use Rattle.lalrpop_norm_tree.proofs.TypeViews.{function_is}

-- a function type has those of its parts
pub function_needs : (ps : List TypeParameter) (t : TypeRef) (fs : Vec TypeParameter Global) (p : Path) (ts : Vec TypeRef Global) (r : Option (Box TypeRef Global))
    → t ≡ Fn fs p ts r → needed_type ps (type_view t) ≡ needed_type ps (function fs.items (path_view p) (types_view ts.items) (maybe_of (option_map (λ b. type_view b.value) r)))
function_needs ps t fs p ts r e = ap (needed_type ps) (function_is t fs p ts r e)

pub needs_as : {T E Y : Type 0} (f : List ℕ → Y) (ps : List TypeParameter) (r : Result T E) (old new : List Y) (d e : TypeData) → d ≡ e →
    OnOk r (new ≡ old ++ map f (needed_type ps e)) → OnOk r (new ≡ old ++ map f (needed_type ps d))
needs_as f ps r old new d e same h = rw same h
