-- The macros of a grammar as the code looks them up: internal definitions, which no public contract clause mentions.
use Rattle.std.specs.Prelude.{◌≡◌, ◌<◌, ℕ, All, List, map, length, Option, Some, option_and_then, slice_get}
use Rattle.std.specs.Ordering.{nat_cmp}
use Rattle.std.specs.Cmp.Lexicographic.{slice_cmp}
use Rattle.std.specs.BTreeMap.{get}
use Rattle.lalrpop_norm_tree.specs.Items.{RuleData, rule_view}
use Rattle.lalrpop_norm_model.specs.MadeRules.{macro_named}
use Rattle.lalrpop_norm_names.specs.Numbers.{IsNumbering}
use Rattle.lalrpop_norm_macro_expand_rules.specs.declared.macros.Macros.{Macros}
use Rattle.lalrpop_norm_macro_expand_rules.specs.declared.macros.NumberedMacro.{NumberedMacro}

abbrev pub macros_in : Macros → List RuleData
macros_in m = map (λ r. rule_view r.definition) m.rules.items

abbrev pub macro_place : Macros → List ℕ → Option ℕ
macro_place m n = get (slice_cmp nat_cmp) m.places n

-- the indices are those of the macro's names
abbrev pub HasNumbers : NumberedMacro → Type 0
HasNumbers m = IsNumbering (map (λ a. a.0) m.definition.args.items) m.numbers

-- the indices lead to the first macro of each name, and each has its indices of arguments
pub record AreByName (m : Macros) : Type 0 where
  pub finds : (n : List ℕ) → option_and_then (λ i. slice_get (macros_in m) i) (macro_place m n)
      ≡ macro_named (macros_in m) n
  pub in_range : (n : List ℕ) (i : ℕ) → macro_place m n ≡ Some i → i < length m.rules.items
  pub numbered : All HasNumbers m.rules.items
