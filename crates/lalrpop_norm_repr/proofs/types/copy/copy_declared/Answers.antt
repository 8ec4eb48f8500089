use Rattle.std.proofs.Common.{ap, ◌∙◌}
use Rattle.std.specs.Prelude.{option_map}
use Rattle.lalrpop_norm_tree_parts.specs.Reprs.{repr_view}
use Rattle.lalrpop_norm_repr.proofs.SeenTypes.{seen_through}
use Rattle.lalrpop_norm_repr.proofs.types.copy.copy_declared.Goals as goal

pub returns : goal.returns
returns c = record {
  token = c.in_ok-token.ensures.cases;
  location = c.in_ok-location.ensures ∙ seen_through c.as_ref.result ∙ ap (option_map repr_view) c.as_ref.ensures.value;
  error = c.in_ok-error.ensures ∙ seen_through c.as_ref-2.result ∙ ap (option_map repr_view) c.as_ref-2.ensures.value;
}
