-- A type that shares its parts, by its outermost level.
use Rattle.std.proofs.Common.{◌≡◌, ap, sym, ◌∙◌}
use Rattle.lalrpop_norm_tree_parts.specs.Reprs.{ReprData, Applied, slice, nominal, trait_object}
use Rattle.lalrpop_norm_shared_types.specs.Shared.{node_step, applied_path_step, shared_step, shared_view, node_view, applied_path_view}
use Rattle.lalrpop_norm_shared_types.specs.declared.shared.SharedType.{SharedType}
use Rattle.lalrpop_norm_shared_types.specs.declared.shared.AppliedPath.{AppliedPath}
use Rattle.lalrpop_norm_shared_types.specs.declared.shared.TypeNode.TheVariants as variant
use Rattle.lalrpop_norm_shared_types.specs.declared.shared.TypeNode.TheOpen.{TypeNode-F}
use Rattle.lalrpop_norm_shared_types.specs.declared.shared.TypeNode.TheViews.{rolls-Slice, rolls-Nominal, rolls-TraitObject}
use Rattle.lalrpop_norm_shared_types.specs.declared.shared.TypeNode.TheFolds.{fold-roll-TypeNode}

pub slice_seen : (t : SharedType) → node_view (variant.Slice t) ≡ slice (shared_view t)
slice_seen t = ap node_view (sym (rolls-Slice t)) ∙ fold-roll-TypeNode ReprData Applied ReprData node_step applied_path_step shared_step (TypeNode-F.Slice t)

pub nominal_seen : (n : AppliedPath) → node_view (variant.Nominal n) ≡ nominal (applied_path_view n).0 (applied_path_view n).1
nominal_seen n = ap node_view (sym (rolls-Nominal n)) ∙ fold-roll-TypeNode ReprData Applied ReprData node_step applied_path_step shared_step (TypeNode-F.Nominal n)

pub object_seen : (n : AppliedPath) → node_view (variant.TraitObject n) ≡ trait_object (applied_path_view n).0 (applied_path_view n).1
object_seen n = ap node_view (sym (rolls-TraitObject n)) ∙ fold-roll-TypeNode ReprData Applied ReprData node_step applied_path_step shared_step (TypeNode-F.TraitObject n)
