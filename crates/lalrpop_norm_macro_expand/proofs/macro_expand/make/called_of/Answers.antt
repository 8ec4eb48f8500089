use Rattle.std.proofs.Common.{◌≡◌, ℕ, List, Option, Some, Vec, Global, sym, ap, ap₂, ◌∙◌, subst}
use Rattle.std.specs.Prelude.{option_map}
use Rattle.lalrpop_norm_tree.specs.declared.symbol.MacroSymbol.{MacroSymbol}
use Rattle.lalrpop_norm_tree.specs.declared.symbol.Symbol.{Symbol}
use Rattle.lalrpop_norm_tree.specs.declared.symbol.SymbolKind.TheViews.{out-MacroSymbol}
use Rattle.lalrpop_norm_tree.specs.Symbols.{Kind, Parts, call, parts_view, macro_view}
use Rattle.lalrpop_norm_tree.specs.Items.{RuleData, rule_view}
use Rattle.lalrpop_norm_tree.proofs.KindLevels.{called_with}
use Rattle.lalrpop_norm_model.specs.MadeRules.{macro_named}
use Rattle.lalrpop_norm_nodes.specs.NodeParts.{IsShallow}
use Rattle.lalrpop_norm_nodes.specs.Tables.{wholes_in}
use Rattle.lalrpop_norm_nodes.proofs.EnterLemmas.{err_same}
use Rattle.lalrpop_norm_macro_expand_rules.specs.Conditions.{called_faults}
use Rattle.lalrpop_norm_macro_expand_rules.specs.Macros.{macros_in}
use Rattle.lalrpop_norm_macro_expand_rules.proofs.MacroLemmas.{named_so}
use Rattle.lalrpop_norm_conditions.specs.Conditions.{comparison}
use Rattle.lalrpop_norm_macro_expand.specs.Kept.{kept_by_call}
use Rattle.lalrpop_norm_macro_expand.proofs.macro_expand.make.called_of.Goals as goal

pub instance_of-requires-clause-shallow : goal.instance_of-requires-clause-shallow
instance_of-requires-clause-shallow c =
    let m : MacroSymbol = c.args.instance.now in
    let ms : List RuleData = macros_in c.args.macros.now in
    let d : RuleData = rule_view c.in-Some.called.now.definition in
    let found : macro_named ms (out-MacroSymbol m).name.0 ≡ Some d = sym c.find.ensures.named ∙ ap (option_map (λ n. rule_view n.now.definition)) c.in-Some.is in
    let same : call (macro_view m).0 (macro_view m).1 ≡ call d.name.0 (parts_view c.replace-arguments.result.items) =
    ap (λ (t : List ℕ × Parts). call t.0 t.1) (called_with m)
    ∙ ap₂ call (sym (named_so ms (out-MacroSymbol m).name.0 d found)) (ap (λ (v : Vec Symbol Global). parts_view v.items) (sym c.replace-arguments.ensures.value)) in
    subst (λ (k : Kind). IsShallow (wholes_in c.args.table.now) c.args.number k) same c.requires.shallow

pub returns-in_err-generated-in-Some-clause-refuses : goal.returns-in_err-generated-in-Some-clause-refuses
returns-in_err-generated-in-Some-clause-refuses c =
    let m : MacroSymbol = c.args.instance.now in
    let ms : List RuleData = macros_in c.args.macros.now in
    let d : RuleData = rule_view c.in-Some.called.now.definition in
    let found : macro_named ms (out-MacroSymbol m).name.0 ≡ Some d = sym c.find.ensures.named ∙ ap (option_map (λ n. rule_view n.now.definition)) c.in-Some.is in
    let same : called_faults (macro_named ms (macro_view m).0) (macro_view m).1 ≡ called_faults (Some d) (parts_view c.replace-arguments.result.items) =
    ap (λ (t : List ℕ × Parts). called_faults (macro_named ms t.0) t.1) (called_with m)
    ∙ ap₂ (λ (o : Option RuleData) (ps : Parts). called_faults o ps) found (ap (λ (v : Vec Symbol Global). parts_view v.items) (sym c.replace-arguments.ensures.value)) in
    err_same _ _ _ _ same c.from_residual.ensures.1 c.in_err-generated-in-Some.ensures.refuses

pub returns-in_ok-generated-in-Some-clause-kept : goal.returns-in_ok-generated-in-Some-clause-kept
returns-in_ok-generated-in-Some-clause-kept c =
    let m : MacroSymbol = c.args.instance.now in
    let ms : List RuleData = macros_in c.args.macros.now in
    let d : RuleData = rule_view c.in-Some.called.now.definition in
    let found : macro_named ms (out-MacroSymbol m).name.0 ≡ Some d = sym c.find.ensures.named ∙ ap (option_map (λ n. rule_view n.now.definition)) c.in-Some.is in
    let same : kept_by_call comparison (macro_named ms (macro_view m).0) (macro_view m).1 ≡ kept_by_call comparison (Some d) (parts_view c.replace-arguments.result.items) =
    ap (λ (t : List ℕ × Parts). kept_by_call comparison (macro_named ms t.0) t.1) (called_with m)
    ∙ ap₂ (λ (o : Option RuleData) (ps : Parts). kept_by_call comparison o ps) found (ap (λ (v : Vec Symbol Global). parts_view v.items) (sym c.replace-arguments.ensures.value)) in
    c.in_ok-generated-in-Some.ensures.kept ∙ sym same
