-- What is proved of the faults of levels. The function of the module `laws` carries it.
use Rattle.std.specs.Prelude.{◌≡◌, true, List, [], map, replicate, Some, None, bytes_eq}
use Rattle.lalrpop_norm_tree.specs.Items.{GrammarData}
use Rattle.lalrpop_norm_theory.specs.Rounds.{In}
use Rattle.lalrpop_norm_model.specs.Features.{Features}
use Rattle.lalrpop_norm_model.specs.Levels.{every, Leveled, previous_level}
use Rattle.lalrpop_norm_model.specs.WrittenRules.{WrittenRule, written_rules}
use Rattle.lalrpop_norm_model.specs.Occurrences.{count_parts}
use Rattle.lalrpop_norm_model.specs.Reading.{read_all}
use Rattle.lalrpop_norm_model.specs.Grammars.{rule_reader}
use Rattle.lalrpop_norm_model.specs.Scoped.{are_scoped}
use Rattle.lalrpop_norm_model.specs.Bounds.{all_bounds_to}
use Rattle.lalrpop_norm_model.specs.Renumbered.{prepared_grammar}
use Rattle.lalrpop_norm_precedence_steps.specs.LevelFaults.{grammar_level_faults}

-- An alternative that has no level of its rule below its own may have that level on every side of an operator. If the rule has
-- levels, and each name has a meaning, all recursive occurrences have the alternative's own level for their bound.
abbrev pub LowestBoundThemselves : List WrittenRule → WrittenRule → Type 0
LowestBoundThemselves rs r = (a : Leveled) → In (Some a) r.places → previous_level r.places a.level ≡ None →
    (a.side ≡ every)
    × (r.has_levels ≡ true → are_scoped rs r.args a.alternative.parts ≡ true →
    all_bounds_to r.name (read_all (rule_reader rs r a) a.alternative.parts)
    ≡ map Some (replicate (count_parts (λ n. bytes_eq n r.name) a.alternative.parts) a.level))

-- If the pass on levels finds no fault of levels in the grammar that it gets, this holds in each enabled written rule.
abbrev pub LowestLevelsBoundThemselves : Type 0
LowestLevelsBoundThemselves = (fs : Features) (g : GrammarData) → grammar_level_faults (prepared_grammar fs g) ≡ [] →
    (r : WrittenRule) → In r (written_rules fs g) → LowestBoundThemselves (written_rules fs g) r
