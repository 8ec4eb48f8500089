use Rattle.std.proofs.Common.{sym, ◌∙◌}
use Rattle.lnorm_run.specs.Settings.{settings_view}
use Rattle.lnorm_run.proofs.SettingsLemmas.{flag_more, pair_more, pair_wrong, word_missing, refused_by, none_left}
use Rattle.lnorm_run.proofs.words.asked_by.Goals as goal

-- a flag
pub loop-rest-preserved-then-is_flag : goal.loop-rest-preserved-then-is_flag
loop-rest-preserved-then-is_flag c = c.loop-rest.invariant
    ∙ flag_more (settings_view c.loop-rest.asked) c.loop-rest.rest.now c.option-item.result _
    c.in-len1-up.len_at_least c.option-item.is c.as_str-name.ensures.value (sym c.if-is_flag.ensures)

-- an option and its value
pub loop-rest-preserved : goal.loop-rest-preserved
loop-rest-preserved c = c.loop-rest.invariant
    ∙ pair_more (settings_view c.loop-rest.asked) (settings_view c.in_ok-asked.asked) c.loop-rest.rest.now c.option-item.result c.word-item.result _ _
    c.in-len1-up.len_at_least c.option-item.is c.in-len1-up-after.len_at_least c.word-item.is
    c.as_str-name.ensures.value c.as_str.ensures.value (sym c.if-is_flag.ensures) c.in_ok-asked.ensures.ok

-- an option without its value
pub returns-in_default-after-clause-usage : goal.returns-in_default-after-clause-usage
returns-in_default-after-clause-usage c = λ _. c.loop-rest.invariant
    ∙ word_missing (settings_view c.loop-rest.asked) c.loop-rest.rest.now c.option-item.result _
    c.in-len1-up.len_at_least c.option-item.is c.in_default-after.len_below c.as_str-name.ensures.value (sym c.if-is_flag.ensures)

-- an option and an argument that it does not take
pub returns-in_err-asked-clause-usage : goal.returns-in_err-asked-clause-usage
returns-in_err-asked-clause-usage c = λ wrong. c.loop-rest.invariant
    ∙ pair_wrong (settings_view c.loop-rest.asked) c.loop-rest.rest.now c.option-item.result c.word-item.result _ _
    c.in-len1-up.len_at_least c.option-item.is c.in-len1-up-after.len_at_least c.word-item.is
    c.as_str-name.ensures.value c.as_str.ensures.value (sym c.if-is_flag.ensures) (c.in_err-asked.ensures.usage
    (refused_by c.from_residual.result _ _ c.from_residual.ensures.1 wrong))

-- nothing is left
pub returns-clause-ok : goal.returns-clause-ok
returns-clause-ok c = c.loop-rest.invariant ∙ none_left (settings_view c.loop-rest.asked) c.loop-rest.rest.now c.in_default.len_below
