-- Types behind a reference, seen as data.
use Rattle.std.proofs.Common.{◌≡◌, Some, None, Option, refl}
use Rattle.std.specs.Prelude.{option_map}
use Rattle.std.specs.Option.{option_copied}
use denote.Ref.{Bor}
use Rattle.lalrpop_norm_tree_parts.specs.declared.lowered.TypeRepr.{TypeRepr}
use Rattle.lalrpop_norm_tree_parts.specs.Reprs.{repr_view}

pub seen_through : (o : Option (Bor TypeRepr)) → option_map (λ (t : Bor TypeRepr). repr_view t.now) o ≡ option_map repr_view (option_copied o)
seen_through None = refl
seen_through (Some t) = refl
