-- What is proved of the definitions.
use Rattle.std.specs.Prelude.{◌≡◌, ℕ, []}
use Rattle.lalrpop_norm_tree.specs.Items.{GrammarData}
use Rattle.lalrpop_norm_theory.specs.Rounds.{IsDistinct}
use Rattle.lalrpop_norm_model.specs.Grammars.{ConditionValue}
use Rattle.lalrpop_norm_model.specs.Expanded.{rule_names}
use Rattle.lalrpop_norm_model.specs.PlainRules.{plain_grammar}
use Rattle.lalrpop_norm_macro_expand.specs.Expansion.{expansion_faults}

-- If the names of a grammar's rules are distinct and no fault holds in its expansion, the names of the rules of the expanded
-- grammar are distinct.
abbrev pub NamesStayDistinct : Type 0
NamesStayDistinct =
    (value : ConditionValue) (g : GrammarData) (limit : ℕ) → expansion_faults value g limit ≡ [] →
    IsDistinct (rule_names g) →
    IsDistinct (rule_names (plain_grammar value g limit))
