-- A grammar with only its active conversions.
use Rattle.std.specs.Prelude.{map}
use Rattle.lalrpop_norm_tree.specs.Items.{ItemData, match_item, extern_item, intern_item, rule_item, use_item, GrammarData}
use Rattle.lalrpop_norm_model.specs.Enabled.{enabled_extern}
use Rattle.lalrpop_norm_model.specs.Features.{Features}

abbrev pub active_item : Features → ItemData → ItemData
active_item fs (extern_item t) = extern_item (enabled_extern fs t)
active_item fs (match_item m) = match_item m
active_item fs (intern_item t) = intern_item t
active_item fs (rule_item r) = rule_item r
active_item fs (use_item u) = use_item u

-- the grammar without the conversions that are not active; rules and alternatives stay as they are
abbrev pub active_grammar : Features → GrammarData → GrammarData
active_grammar fs g = record g { items = map (active_item fs) g.items }
