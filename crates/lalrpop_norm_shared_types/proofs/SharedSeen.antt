-- One level of a type that shares its parts as data.
use Rattle.std.proofs.Common.{◌≡◌, ◌==◌, ◌↔◌, ◌∙◌, List, [], ◌∷◌, Option, Some, None, Vec, Global, IsTrue, arith, length, option_map, refl, ap, sym}
use Rattle.std.proofs.lemmas.Bool.Decides.{nat_tests}
use Rattle.lalrpop_norm_tree_names.specs.declared.names.TypeParameter.{TypeParameter}
use Rattle.lalrpop_norm_tree_parts.specs.declared.path.Path.{Path}
use Rattle.lalrpop_norm_tree_parts.specs.Paths.{path_view}
use Rattle.lalrpop_norm_tree_parts.specs.Reprs.{ReprData, Applied, tuple, function, no_reprs, maybe_repr_of}
use Rattle.lalrpop_norm_shared_types.specs.Shared.{node_step, applied_path_step, shared_step, shared_view, node_view, applied_path_view, shared_all}
use Rattle.lalrpop_norm_shared_types.specs.declared.shared.SharedType.{SharedType}
use Rattle.lalrpop_norm_shared_types.specs.declared.shared.TypeNode.{TypeNode}
use Rattle.lalrpop_norm_shared_types.specs.declared.shared.AppliedPath.{AppliedPath}
use Rattle.lalrpop_norm_shared_types.specs.declared.shared.TypeNode.TheVariants as variant
use Rattle.lalrpop_norm_shared_types.specs.declared.shared.TypeNode.TheOpen.{SharedType-F, TypeNode-F}
use Rattle.lalrpop_norm_shared_types.specs.declared.shared.TypeNode.TheViews.{rolls-struct-SharedType, out-AppliedPath, rolls-Tuple, rolls-Fn}
use Rattle.lalrpop_norm_shared_types.specs.declared.shared.TypeNode.TheFolds.{fold-roll-SharedType, fold-roll-TypeNode, fold_out-AppliedPath}

pub shared_is : (t : SharedType) → shared_view t ≡ node_view t.node.value
shared_is t =
    let x : SharedType-F TypeNode AppliedPath SharedType = record { node = t.node } in
    ap shared_view (sym (rolls-struct-SharedType x)) ∙ fold-roll-SharedType ReprData Applied ReprData node_step applied_path_step shared_step x

pub applied_is : (n : AppliedPath) → applied_path_view n ≡ (path_view (out-AppliedPath n).path, shared_all (out-AppliedPath n).types.items)
applied_is n = fold_out-AppliedPath ReprData Applied ReprData node_step applied_path_step shared_step n

pub tuple_seen : (ts : Vec SharedType Global) → node_view (variant.Tuple ts) ≡ tuple (shared_all ts.items)
tuple_seen ts = ap node_view (sym (rolls-Tuple ts)) ∙ fold-roll-TypeNode ReprData Applied ReprData node_step applied_path_step shared_step (TypeNode-F.Tuple ts)

pub function_seen : (fs : Vec TypeParameter Global) (p : Path) (ts : Vec SharedType Global) (r : Option SharedType)
    → node_view (variant.Fn fs p ts r) ≡ function fs.items (path_view p) (shared_all ts.items) (maybe_repr_of (option_map shared_view r))
function_seen fs p ts None = ap node_view (sym (rolls-Fn fs p ts None)) ∙ fold-roll-TypeNode ReprData Applied ReprData node_step applied_path_step shared_step (TypeNode-F.Fn fs p ts None)
function_seen fs p ts (Some t) = ap node_view (sym (rolls-Fn fs p ts (Some t))) ∙ fold-roll-TypeNode ReprData Applied ReprData node_step applied_path_step shared_step (TypeNode-F.Fn fs p ts (Some t))

no_types : (ts : List SharedType) → IsTrue (length ts == 0) ↔ (tuple (shared_all ts) ≡ tuple no_reprs)
no_types [] = (λ h. refl, λ e. refl)
no_types (t ∷ ts) = (λ h. absurd (grind (arith, nat_tests)), λ e. cc)

pub unit_or_not : (t : SharedType) (ts : Vec SharedType Global) → t.node.value ≡ variant.Tuple ts → IsTrue (length ts.items == 0) ↔ (shared_view t ≡ tuple no_reprs)
unit_or_not t ts e = rw (shared_is t, e, tuple_seen ts) (no_types ts.items)
