-- A type that shares its parts, by its outermost level.
use Rattle.std.proofs.Common.{◌≡◌, ℕ, Bool, List, Option, Vec, Global, option_map, ap, sym, ◌∙◌}
use Rattle.lalrpop_norm_tree_names.specs.declared.names.Lifetime.{Lifetime}
use Rattle.lalrpop_norm_tree_names.specs.declared.names.TypeParameter.{TypeParameter}
use Rattle.lalrpop_norm_tree_parts.specs.declared.path.Path.{Path}
use Rattle.lalrpop_norm_tree_parts.specs.Paths.{path_view}
use Rattle.lalrpop_norm_tree_parts.specs.Reprs.{ReprData, Applied, nominal, associated, reference, trait_object, function, maybe_repr_of}
use Rattle.lalrpop_norm_shared_types.specs.Shared.{node_step, applied_path_step, shared_step, shared_view, node_view, applied_path_view, shared_all}
use Rattle.lalrpop_norm_shared_types.specs.declared.shared.SharedType.{SharedType}
use Rattle.lalrpop_norm_shared_types.specs.declared.shared.AppliedPath.{AppliedPath}
use Rattle.lalrpop_norm_shared_types.specs.declared.shared.TypeNode.TheVariants as variant
use Rattle.lalrpop_norm_shared_types.specs.declared.shared.TypeNode.TheOpen.{TypeNode-F}
use Rattle.lalrpop_norm_shared_types.specs.declared.shared.TypeNode.TheViews.{rolls-Nominal, rolls-Associated, rolls-Ref, rolls-TraitObject}
use Rattle.lalrpop_norm_shared_types.specs.declared.shared.TypeNode.TheFolds.{fold-roll-TypeNode}
use Rattle.lalrpop_norm_shared_types.proofs.SharedSeen.{shared_is, function_seen}

module _ (t : SharedType) where
  pub at_nominal : (n : AppliedPath) → t.node.value ≡ variant.Nominal n → shared_view t ≡ nominal (applied_path_view n).0 (applied_path_view n).1
  at_nominal n is =
      shared_is t ∙ ap node_view (is ∙ sym (rolls-Nominal n)) ∙ fold-roll-TypeNode ReprData Applied ReprData node_step applied_path_step shared_step (TypeNode-F.Nominal n)

  pub at_associated : (p a : List ℕ) → t.node.value ≡ variant.Associated p a → shared_view t ≡ associated p a
  at_associated p a is =
      shared_is t ∙ ap node_view (is ∙ sym (rolls-Associated p a)) ∙ fold-roll-TypeNode ReprData Applied ReprData node_step applied_path_step shared_step (TypeNode-F.Associated p a)

  pub at_reference : (l : Option Lifetime) (m : Bool) (u : SharedType) → t.node.value ≡ variant.Ref l m u → shared_view t ≡ reference l m (shared_view u)
  at_reference l m u is =
      shared_is t ∙ ap node_view (is ∙ sym (rolls-Ref l m u)) ∙ fold-roll-TypeNode ReprData Applied ReprData node_step applied_path_step shared_step (TypeNode-F.Ref l m u)

  pub at_object : (n : AppliedPath) → t.node.value ≡ variant.TraitObject n → shared_view t ≡ trait_object (applied_path_view n).0 (applied_path_view n).1
  at_object n is =
      shared_is t ∙ ap node_view (is ∙ sym (rolls-TraitObject n)) ∙ fold-roll-TypeNode ReprData Applied ReprData node_step applied_path_step shared_step (TypeNode-F.TraitObject n)

  pub at_function : (fs : Vec TypeParameter Global) (p : Path) (ts : Vec SharedType Global) (r : Option SharedType) → t.node.value ≡ variant.Fn fs p ts r
      → shared_view t ≡ function fs.items (path_view p) (shared_all ts.items) (maybe_repr_of (option_map shared_view r))
  at_function fs p ts r is = shared_is t ∙ ap node_view is ∙ function_seen fs p ts r
