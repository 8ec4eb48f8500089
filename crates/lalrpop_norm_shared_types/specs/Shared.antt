-- Lowered types that share their parts, as the data that they are.
use Rattle.std.specs.Prelude.{List, map}
use Rattle.lalrpop_norm_tree_parts.specs.Paths.{path_view}
use Rattle.lalrpop_norm_tree_parts.specs.Reprs.{ReprData, Reprs, Applied, tuple, slice, nominal, associated, of_lifetime, reference}
use Rattle.lalrpop_norm_tree_parts.specs.Reprs.{trait_object, function, reprs_of, maybe_repr_of}
use Rattle.lalrpop_norm_shared_types.specs.declared.shared.SharedType.{SharedType}
use Rattle.lalrpop_norm_shared_types.specs.declared.shared.TypeNode.{TypeNode}
use Rattle.lalrpop_norm_shared_types.specs.declared.shared.AppliedPath.{AppliedPath}
use Rattle.lalrpop_norm_shared_types.specs.declared.shared.TypeNode.TheOpen.{SharedType-F, TypeNode-F, AppliedPath-F}
use Rattle.lalrpop_norm_shared_types.specs.declared.shared.TypeNode.TheFolds.{fold-SharedType, fold-TypeNode, fold-AppliedPath}

-- one level, with what is inside already seen as data
abbrev pub node_step : TypeNode-F ReprData Applied ReprData → ReprData
node_step (TypeNode-F.Tuple ts) = tuple (reprs_of ts.items)
node_step (TypeNode-F.Slice t) = slice t
node_step (TypeNode-F.Nominal n) = nominal n.0 n.1
node_step (TypeNode-F.Associated p a) = associated p a
node_step (TypeNode-F.Lifetime l) = of_lifetime l
node_step (TypeNode-F.Ref l m t) = reference l m t
node_step (TypeNode-F.TraitObject n) = trait_object n.0 n.1
node_step (TypeNode-F.Fn fs p ts r) = function fs.items (path_view p) (reprs_of ts.items) (maybe_repr_of r)

abbrev pub applied_path_step : AppliedPath-F ReprData Applied ReprData → Applied
applied_path_step n = (path_view n.path, reprs_of n.types.items)

abbrev pub shared_step : SharedType-F ReprData Applied ReprData → ReprData
shared_step t = t.node.value

abbrev pub shared_view : SharedType → ReprData
shared_view = fold-SharedType ReprData Applied ReprData node_step applied_path_step shared_step

abbrev pub node_view : TypeNode → ReprData
node_view = fold-TypeNode ReprData Applied ReprData node_step applied_path_step shared_step

abbrev pub applied_path_view : AppliedPath → Applied
applied_path_view = fold-AppliedPath ReprData Applied ReprData node_step applied_path_step shared_step

abbrev pub shared_all : List SharedType → Reprs
shared_all ts = reprs_of (map shared_view ts)
