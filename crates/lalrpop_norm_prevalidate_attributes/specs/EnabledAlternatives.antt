-- Alternatives that are active.
use Rattle.std.specs.Prelude.{List, map}
use Rattle.lalrpop_norm_tree.specs.Items.{AlternativeData}
use Rattle.lalrpop_norm_model.specs.Features.{Features}
use Rattle.lalrpop_norm_model.specs.Enabled.{if_active, present}

-- the alternatives that are active
abbrev pub active_alternatives : Features → List AlternativeData → List AlternativeData
active_alternatives fs xs = present (map (if_active fs) xs)
