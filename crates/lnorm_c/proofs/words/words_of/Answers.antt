use Rattle.std.proofs.Common.{rules, ◌∙◌}
use Rattle.lnorm_c.proofs.WordLemmas.{word_more, nothing_left}
use Rattle.lnorm_c.proofs.words.words_of.Goals as goal

-- one argument more
pub loop-word-preserved : goal.loop-word-preserved
loop-word-preserved c = (
  search rules,
  c.loop-word.invariant.1
      ∙ word_more c.loop-word.words.items _ c.in_ok-from_str.field-0 c.loop-word.rest.now c.in-Some.word.now c.in-Some.behind.now
      (search rules) (search rules) (search rules) (search rules) c.in_ok-push.ensures.items,
)

-- something is left behind the last zero byte
pub returns-else-is_empty-clause-usage : goal.returns-else-is_empty-clause-usage
returns-else-is_empty-clause-usage c = λ _ words are.
    let none = nothing_left _ words _ c.loop-word.rest.now c.loop-word.invariant.1 (search rules) are in search rules
