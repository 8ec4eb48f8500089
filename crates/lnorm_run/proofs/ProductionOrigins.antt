-- The origin of a production among those of the actions.
use Rattle.std.proofs.Common.{◌≡◌, ◌∙◌, ◌<◌, ltb, ℕ, List, Option, Some, None, false, length, get_or, slice_get, option_map, refl, sym, ap}
use Rattle.std.specs.Prelude.{unwrap_or}
use Rattle.std.proofs.lemmas.Bool.{ltb-false}
use Rattle.std.proofs.lemmas.Option.{slice_get-map, slice_get_read, slice_get_past}
use Rattle.lalrpop_norm_theory.specs.LoweredTrees as theory
use Rattle.lalrpop_norm_theory.specs.LoweredTrees.{from_start}
use Rattle.lalrpop_norm_origins.specs.declared.origin.Origin.{Origin}
use Rattle.lalrpop_norm_origins.specs.Origins.{origin_view, origins_view}
use Rattle.lalrpop_norm_repr.specs.Actions.{action_index}
use Rattle.lalrpop_norm_repr.specs.Productions.{ProductionData}
use Rattle.lalrpop_norm_explain.specs.Derivations.{traced}

module _ (os : List Origin) (i : ℕ) (p : ProductionData) (at : i ≡ action_index p.action) where
  by_look_up : (x : Option Origin) → slice_get os i ≡ x → unwrap_or (option_map origin_view x) from_start ≡ (traced (origins_view os) p).origin
  by_look_up x found =
      sym (ap (λ (o : Option theory.Origin). unwrap_or o from_start)
      (slice_get-map origin_view os (action_index p.action) ∙ ap (λ n. option_map origin_view (slice_get os n)) (sym at) ∙ ap (option_map origin_view) found))

  -- that at the number of its action
  pub origin_at : (o : Origin) → i < length os → o ≡ get_or os i o → origin_view o ≡ (traced (origins_view os) p).origin
  origin_at o lt is = by_look_up (Some o) (slice_get_read os (length os) i o refl lt is)

  -- where there is none
  pub origin_past : false ≡ ltb i (length os) → from_start ≡ (traced (origins_view os) p).origin
  origin_past past = by_look_up None (slice_get_past os i (ltb-false i (length os) (sym past)))
