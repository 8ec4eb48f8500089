-- The faults of new symbols that no rule is made of have four numbers, and no other.
use Rattle.std.proofs.Common.{Option, Some, None, ◌≡◌, inl, inr, ℕ, Bool, true, false, List, [], ◌∷◌, ap}
use Rattle.std.specs.Prelude.{flat_map}
use Rattle.lalrpop_norm_tree_names.specs.declared.names.Span.{Span}
use Rattle.lalrpop_norm_tree.specs.declared.symbol.RepeatOp.{RepeatOp}
use Rattle.lalrpop_norm_tree.specs.declared.symbol.RepeatOp.TheVariants.{Star, Plus, Question, Times}
use Rattle.lalrpop_norm_tree.specs.Symbols.{Kind, Part, Parts, group, call, repeated, at}
use Rattle.lalrpop_norm_tree.specs.Items.{AlternativeData, RuleData}
use Rattle.lalrpop_norm_tree.specs.declared.items.Condition.{Condition}
use Rattle.lalrpop_norm_faults.specs.declared.kind.FaultKind.{FaultKind}
use Rattle.lalrpop_norm_faults.specs.declared.kind.FaultKind.TheVariants.{ConditionArgument, ConditionPattern, NamedInGroup, NamedInTimes}
use Rattle.lalrpop_norm_faults.specs.Faults.{Fault, fault_if}
use Rattle.lalrpop_norm_theory.specs.Rounds.{In}
use Rattle.lalrpop_norm_theory.proofs.RoundsLemmas.{in_cases}
use Rattle.lalrpop_norm_model.specs.MadeRules.{some_name_value, names_value, argument_kind, macro_named}
use Rattle.lalrpop_norm_conditions.specs.Conditions.{lacks_reading}
use Rattle.lalrpop_norm_macro_expand_rules.specs.Conditions.{quoted_text, comparison_faults, value_faults, called_faults}
use Rattle.lalrpop_norm_macro_expand.specs.Expansion.{unmade, unmade_repeat}

-- a fault that may hold is that fault
pub not_if : (b : Bool) (f g : Fault) → (g ≡ f → ⊥) → In g (fault_if b f) → ⊥
not_if true f g unlike (inl e) = unlike e
not_if true f g unlike (inr i) = i
not_if false f g unlike i = i

module _ (number : FaultKind) (not_group : number ≡ NamedInGroup → ⊥) (not_argument : number ≡ ConditionArgument → ⊥)
    (not_pattern : number ≡ ConditionPattern → ⊥) (not_times : number ≡ NamedInTimes → ⊥) where
  not_tested : (c : Condition) (o : Option (List ℕ)) (t : Span) → In (number, t) (comparison_faults c o) → ⊥
  not_tested c None t (inl e) = not_argument (ap (λ (f : Fault). f.0) e)
  not_tested c None t (inr i) = i
  not_tested c (Some text) t i =
      not_if (lacks_reading c.op c.rhs) (ConditionPattern, c.span) (number, t) (λ e. not_pattern (ap (λ (f : Fault). f.0) e)) i

  not_condition : (argument : List ℕ → Option Kind) (o : Option Condition) (t : Span) → In (number, t) (value_faults argument o) → ⊥
  not_condition argument None t i = i
  not_condition argument (Some c) t i = not_tested c (quoted_text (argument c.lhs.0)) t i

  not_conditions : (argument : List ℕ → Option Kind) (xs : List AlternativeData) (t : Span) →
      In (number, t) (flat_map (λ (a : AlternativeData). value_faults argument a.condition) xs) → ⊥
  not_conditions argument [] t i = i
  not_conditions argument (a ∷ xs) t i =
      elim (in_cases (number, t) (value_faults argument a.condition) (flat_map (λ (b : AlternativeData). value_faults argument b.condition) xs) i) [
        | inl here ↦ not_condition argument a.condition t here
        | inr later ↦ not_conditions argument xs t later
      ]

  not_called : (o : Option RuleData) (ps : Parts) (t : Span) → In (number, t) (called_faults o ps) → ⊥
  not_called None ps t i = i
  not_called (Some d) ps t i = not_conditions (argument_kind d.args ps) d.alternatives t i

  not_repeated : (s : Span) (op : RepeatOp) (p : Part) (t : Span) → In (number, t) (unmade_repeat s op p) → ⊥
  not_repeated s Star p t i = i
  not_repeated s Plus p t i = i
  not_repeated s Question p t i = i
  not_repeated s (Times n) p t i =
      not_if (names_value p) (NamedInTimes, s) (number, t) (λ e. not_times (ap (λ (f : Fault). f.0) e)) i

  not_made : (macros : List RuleData) (p : Part) (t : Span) → In (number, t) (unmade macros p) → ⊥
  not_made macros (at s (group ps)) t i =
      not_if (some_name_value ps) (NamedInGroup, s) (number, t) (λ e. not_group (ap (λ (f : Fault). f.0) e)) i
  not_made macros (at s (call n ps)) t i = not_called (macro_named macros n) ps t i
  not_made macros (at s (repeated op p)) t i = not_repeated s op p t i
  not_made macros (at s _) t i = i

  pub none_made : (macros : List RuleData) (ps : List Part) (t : Span) → In (number, t) (flat_map (unmade macros) ps) → ⊥
  none_made macros [] t i = i
  none_made macros (p ∷ ps) t i =
      elim (in_cases (number, t) (unmade macros p) (flat_map (unmade macros) ps) i) [
        | inl here ↦ not_made macros p t here
        | inr later ↦ none_made macros ps t later
      ]
