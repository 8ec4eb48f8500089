use Rattle.std.proofs.Common.{[], ◌∷◌, codes, ap, ◌∙◌}
use Rattle.serde_json.specs.Data.{string}
use Rattle.lalrpop_norm_json.proofs.PatternLemmas.{underscore_form, dot_dot_form}
use Rattle.lalrpop_norm_json.proofs.Shaped.{no_name}
use Rattle.lalrpop_norm_json.proofs.tree.patterns.bare_kind.Goals as goal

pub returns-in-Underscore : goal.returns-in-Underscore
returns-in-Underscore c = ap string c.in-Underscore.is ∙ underscore_form

pub returns-in-DotDot : goal.returns-in-DotDot
returns-in-DotDot c = ap string c.in-DotDot.is ∙ dot_dot_form

pub returns-in_default : goal.returns-in_default
returns-in_default c = no_name (codes "Underscore" ∷ codes "DotDot" ∷ []) [] c.args.name.now (c.in_default.not-Underscore, (c.in_default.not-DotDot, tt))
