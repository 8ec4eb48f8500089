use Rattle.std.proofs.Common.{◌∙◌, ap, option_map}
use Rattle.std.proofs.lemmas.Option.{slice_get-map, slice_get_read}
use Rattle.lalrpop_norm_shared_types.specs.Shared.{shared_view}
use Rattle.lalrpop_norm_lower.proofs.numbered.NumberedTypes.at.Goals as goal

pub returns : goal.returns
returns c =
    slice_get-map (option_map (λ t. shared_view t.now)) c.args.self.now.by_number.items c.args.number
    ∙ ap (option_map (option_map (λ t. shared_view t.now))) (slice_get_read c.args.self.now.by_number.items _ c.args.number c.index.result.now c.args.self.now.by_number.ok.0 c.requires c.index.ensures)
