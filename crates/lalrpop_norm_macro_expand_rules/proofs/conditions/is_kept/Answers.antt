use Rattle.std.proofs.Common.{◌≡◌, Some, sym, ap, ◌∙◌, subst, List, ℕ, Option, Bool}
use Rattle.std.specs.Prelude.{option_map}
use Rattle.lalrpop_norm_tree.specs.declared.items.Condition.{Condition}
use Rattle.lalrpop_norm_tree.specs.Symbols.{parts_view}
use Rattle.lalrpop_norm_faults.specs.Faults.{RefusesOr}
use Rattle.lalrpop_norm_conditions.specs.Conditions.{comparison}
use Rattle.lalrpop_norm_model.specs.Grammars.{is_true}
use Rattle.lalrpop_norm_model.specs.Reading.{read_all}
use Rattle.lalrpop_norm_model.specs.MadeRules.{flat_reader, argument_kind}
use Rattle.lalrpop_norm_macro_expand_rules.specs.Conditions.{quoted_text, comparison_faults, value_faults}
use Rattle.lalrpop_norm_macro_expand_rules.proofs.ConditionLemmas.{condition_said}
use Rattle.lalrpop_norm_macro_expand_rules.proofs.conditions.is_kept.Goals as goal

pub returns-in-Some-literal_bound : goal.returns-in-Some-literal_bound
returns-in-Some-literal_bound c =
    let params = c.args.bindings.now.names.now in
    let args = parts_view c.args.bindings.now.symbols.now in
    let k : Condition = c.in-Some.condition in
    let text : List ℕ = c.in-Some-literal_bound.literal.now in
    let there : quoted_text (argument_kind params args k.lhs.0) ≡ Some text =
    sym c.literal_bound.ensures ∙ ap (option_map (λ t. t.now)) c.in-Some-literal_bound.is in
    let tested : RefusesOr c.says.result (comparison_faults k (quoted_text (argument_kind params args k.lhs.0))) (λ b. b ≡ comparison k.op text k.rhs) =
    subst (λ (o : Option (List ℕ)). RefusesOr c.says.result (comparison_faults k o) (λ b. b ≡ comparison k.op text k.rhs)) (sym there) c.says.ensures in
    let said : RefusesOr c.says.result (comparison_faults k (quoted_text (argument_kind params args k.lhs.0))) (λ b. b ≡ is_true comparison params (read_all flat_reader args) (Some k)) =
    subst (λ (v : Bool). RefusesOr c.says.result (comparison_faults k (quoted_text (argument_kind params args k.lhs.0))) (λ b. b ≡ v)) (sym (condition_said params args k text there)) tested in
    subst (λ (o : Option Condition). RefusesOr c.says.result (value_faults (argument_kind params args) o) (λ b. b ≡ is_true comparison params (read_all flat_reader args) o)) (sym c.in-Some.is) said
