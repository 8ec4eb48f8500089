-- Which alternatives of a macro the rule of a call has.
use Rattle.std.specs.Prelude.{ℕ, suc, List, [], ◌∷◌, ◌++◌, Option, Some, None, if◌then◌else◌}
use Rattle.lalrpop_norm_tree_names.specs.declared.names.NonterminalString.{NonterminalString}
use Rattle.lalrpop_norm_tree.specs.Symbols.{Part, Parts, at, call, parts_view}
use Rattle.lalrpop_norm_tree.specs.Items.{AlternativeData, RuleData}
use Rattle.lalrpop_norm_conditions.specs.Conditions.{comparison}
use Rattle.lalrpop_norm_model.specs.Grammars.{ConditionValue, is_true}
use Rattle.lalrpop_norm_model.specs.Reading.{read_all}
use Rattle.lalrpop_norm_model.specs.MadeRules.{flat_reader, macro_named}
use Rattle.lalrpop_norm_macro_expand_rules.specs.declared.substituted.Bindings.{Bindings}

-- the index of an alternative, if its condition is true or absent in the environment of the arguments
abbrev pub kept_place : ConditionValue → List NonterminalString → Parts → ℕ → AlternativeData → List ℕ
kept_place value params args i a = if is_true value params (read_all flat_reader args) a.condition then i ∷ [] else []

-- the indices of those alternatives, in order, where that of the first is this one
abbrev pub kept_places : ConditionValue → List NonterminalString → Parts → ℕ → List AlternativeData → List ℕ
kept_places value params args i [] = []
kept_places value params args i (a ∷ rest) = kept_place value params args i a ++ kept_places value params args (suc i) rest

-- the same in an environment that binds the macro's names
abbrev pub kept_place_in : Bindings → ℕ → AlternativeData → List ℕ
kept_place_in b i a = kept_place comparison b.names.now (parts_view b.symbols.now) i a

abbrev pub kept_places_in : Bindings → List AlternativeData → List ℕ
kept_places_in b xs = kept_places comparison b.names.now (parts_view b.symbols.now) 0 xs

abbrev pub kept_by_call : ConditionValue → Option RuleData → Parts → List ℕ
kept_by_call value None args = []
kept_by_call value (Some d) args = kept_places value d.args args 0 d.alternatives

-- The indices, among the alternatives of the macro that a symbol calls, of those that its rule has. What calls no macro has none.
abbrev pub kept_by : ConditionValue → List RuleData → Part → List ℕ
kept_by value macros (at s (call n args)) = kept_by_call value (macro_named macros n) args
kept_by value macros _ = []
