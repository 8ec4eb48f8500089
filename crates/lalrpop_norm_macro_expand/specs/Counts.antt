-- What an expansion counts.
use Rattle.std.specs.Prelude.{◌≡◌, ◌<◌, ◌+◌, ℕ, [], length}
use Rattle.lalrpop_norm_tree.specs.Items.{GrammarData}
use Rattle.lalrpop_norm_model.specs.Grammars.{ConditionValue}
use Rattle.lalrpop_norm_model.specs.PlainRules.{made_symbols, IsEnded}
use Rattle.lalrpop_norm_macro_expand.specs.declared.macro_expand.Counts.{Counts}

-- the number of the first round without a new symbol, where round 1 is counted
pub record IsLastRound (value : ConditionValue) (g : GrammarData) (count : ℕ) : Type 0 where
  pub round : ℕ
  pub number : count ≡ round + 1
  pub ended : IsEnded value g round
  pub first : (k : ℕ) → k < round → IsEnded value g k → ⊥

-- Of an expansion with that limit: how many symbols are desugared, how many rounds were read, and how many texts of symbols
-- were made, one for each rule.
pub record AreCounts (value : ConditionValue) (g : GrammarData) (limit : ℕ) (c : Counts) : Type 0 where
  pub instances : c.instances ≡ length (made_symbols value g limit)
  pub rounds : IsLastRound value g c.rounds
  pub texts : c.texts ≡ c.instances
