-- Rules of repeats, in which a name stands for what is repeated: internal definitions.
use Rattle.std.specs.Prelude.{ℕ, List, codes}
use Rattle.lalrpop_norm_tree_names.specs.declared.names.Span.{Span}
use Rattle.lalrpop_norm_tree.specs.declared.symbol.RepeatOp.{RepeatOp}
use Rattle.lalrpop_norm_tree.specs.Symbols.{Part}
use Rattle.lalrpop_norm_tree.specs.Items.{RuleData}
use Rattle.lalrpop_norm_model.specs.MadeRules.{repeat_rule}
use Rattle.lalrpop_norm_macro_expand_rules.specs.Rules.{named_rule}

-- the name that stands for what is repeated
abbrev pub placeholder_name : List ℕ
placeholder_name = codes "X"

-- the rule of a repeat of that name, its alternatives over the second symbol
abbrev pub repeat_shape : List ℕ → Span → RepeatOp → Part → Part → RuleData
repeat_shape name s op p over =
    named_rule name s (repeat_rule s op p).attributes (repeat_rule s op p).type_decl (repeat_rule s op over).alternatives
