use Rattle.std.proofs.Common.{ap, ◌∙◌, refl, subst}
use Rattle.lalrpop_norm_tree.specs.Symbols.{kind_view}
use Rattle.lalrpop_norm_tree.specs.SymbolTexts.{kind_text}
use Rattle.lalrpop_norm_tree.proofs.KindLevels.{group_is, call_is}
use Rattle.lalrpop_norm_faults.specs.declared.failure.NormFailure.TheVariants.{Memory}
use Rattle.lalrpop_norm_nodes.specs.NodeParts.{IsShallow}
use Rattle.lalrpop_norm_nodes.specs.Tables.{wholes_in}
use Rattle.lalrpop_norm_macro_expand_rules.specs.Macros.{macros_in}
use Rattle.lalrpop_norm_macro_expand.proofs.MakingLemmas.{told_error, told_group, told_lookahead, told_lookbehind, told_call, told_repeat, told_nothing, group_stays, repeat_told}
use Rattle.lalrpop_norm_macro_expand.proofs.macro_expand.make.rule_of.Goals as goal

-- ---- groups

pub group_of-requires : goal.group_of-requires
group_of-requires c = record {
  name = c.requires.name ∙ ap kind_text (group_is c.args.kind.now c.in-Expr.expr c.in-Expr.is);
  replaced = group_stays c.args.kind.now c.in-Expr.expr c.in-Expr.is c.requires.shallow.replaced;
}

pub returns-in_err-rule-in-Expr : goal.returns-in_err-rule-in-Expr
returns-in_err-rule-in-Expr c =
    told_error (wholes_in c.args.table.now) (macros_in c.args.makers.now.macros) c.args.number c.args.head.span c.args.kind.now c.from_residual.result _ _ _
    (group_is c.args.kind.now c.in-Expr.expr c.in-Expr.is) c.from_residual.ensures.1 c.in_err-rule-in-Expr.ensures

pub returns-in_ok-rule-in-Expr : goal.returns-in_ok-rule-in-Expr
returns-in_ok-rule-in-Expr c =
    told_group (wholes_in c.args.table.now) (macros_in c.args.makers.now.macros) c.args.number c.args.head.span c.args.kind.now c.finished.result c.in_ok-rule-in-Expr.rule c.in-Expr.expr
    c.in-Expr.is c.finished.ensures c.in_ok-rule-in-Expr.ensures

-- ---- calls

pub called_of-requires-clause-shallow : goal.called_of-requires-clause-shallow
called_of-requires-clause-shallow c =
    subst (IsShallow (wholes_in c.args.table.now) c.args.number) (call_is c.args.kind.now c.in-Macro.instance c.in-Macro.is) c.requires.shallow

pub returns-in-Macro : goal.returns-in-Macro
returns-in-Macro c =
    let e = c.called_of.ensures in
    told_call (wholes_in c.args.table.now) (macros_in c.args.makers.now.macros) c.args.number c.args.head.span c.args.kind.now c.called_of.result c.in-Macro.instance c.args.head.name
    c.in-Macro.is c.requires.name e.refuses e.generated e.readable e.kept

-- ---- repeats

pub repeat_of-requires-clause-shallow : goal.repeat_of-requires-clause-shallow
repeat_of-requires-clause-shallow c =
    subst (IsShallow (wholes_in c.args.table.now) c.args.number)
    (repeat_told c.args.kind.now c.in-Repeat.repeat c.deref_mut.result.now c.in-Repeat.is c.deref_mut.ensures.value) c.requires.shallow

pub returns-in_err-generated-in-Repeat : goal.returns-in_err-generated-in-Repeat
returns-in_err-generated-in-Repeat c =
    let f = c.from_residual-in_err-generated-in-Repeat in
    told_error (wholes_in c.args.table.now) (macros_in c.args.makers.now.macros) c.args.number c.args.head.span c.args.kind.now f.result _ _ _
    (repeat_told c.args.kind.now c.in-Repeat.repeat c.deref_mut.result.now c.in-Repeat.is c.deref_mut.ensures.value) f.ensures.1 c.in_err-generated-in-Repeat.ensures.refuses

pub returns-in_ok-generated-in-Repeat : goal.returns-in_ok-generated-in-Repeat
returns-in_ok-generated-in-Repeat c =
    let e = c.in_ok-generated-in-Repeat.ensures in
    told_repeat (wholes_in c.args.table.now) (macros_in c.args.makers.now.macros) c.args.number c.args.head.span c.args.kind.now c.without_call.result c.in_ok-generated-in-Repeat.generated
    c.deref_mut.result.now c.args.head.name (repeat_told c.args.kind.now c.in-Repeat.repeat c.deref_mut.result.now c.in-Repeat.is c.deref_mut.ensures.value) c.requires.name
    c.without_call.ensures e.refuses e.generated e.readable

-- ---- location symbols

pub returns-in_err-rule-in-Lookahead : goal.returns-in_err-rule-in-Lookahead
returns-in_err-rule-in-Lookahead c =
    let f = c.from_residual-in_err-rule-in-Lookahead in
    told_error (wholes_in c.args.table.now) (macros_in c.args.makers.now.macros) c.args.number c.args.head.span c.args.kind.now f.result Memory _ (kind_view c.args.kind.now) refl f.ensures.1 tt

pub returns-in_ok-rule-in-Lookahead : goal.returns-in_ok-rule-in-Lookahead
returns-in_ok-rule-in-Lookahead c =
    let f = c.finished-in-Lookahead in
    told_lookahead (wholes_in c.args.table.now) (macros_in c.args.makers.now.macros) c.args.number c.args.head.span c.args.kind.now f.result c.in_ok-rule-in-Lookahead.rule c.args.head.name
    c.in-Lookahead.is c.requires.name f.ensures c.in_ok-rule-in-Lookahead.ensures

pub returns-in_err-rule-in-Lookbehind : goal.returns-in_err-rule-in-Lookbehind
returns-in_err-rule-in-Lookbehind c =
    let f = c.from_residual-in_err-rule-in-Lookbehind in
    told_error (wholes_in c.args.table.now) (macros_in c.args.makers.now.macros) c.args.number c.args.head.span c.args.kind.now f.result Memory _ (kind_view c.args.kind.now) refl f.ensures.1 tt

pub returns-in_ok-rule-in-Lookbehind : goal.returns-in_ok-rule-in-Lookbehind
returns-in_ok-rule-in-Lookbehind c =
    let f = c.finished-in-Lookbehind in
    told_lookbehind (wholes_in c.args.table.now) (macros_in c.args.makers.now.macros) c.args.number c.args.head.span c.args.kind.now f.result c.in_ok-rule-in-Lookbehind.rule c.args.head.name
    c.in-Lookbehind.is c.requires.name f.ensures c.in_ok-rule-in-Lookbehind.ensures

-- ---- all others

pub returns-in_default : goal.returns-in_default
returns-in_default c =
    let n = c.without_call-in_default in
    let d = c.in_default in
    told_nothing (wholes_in c.args.table.now) (macros_in c.args.makers.now.macros) c.args.number c.args.head.span c.args.kind.now n.result n.ensures
    d.not-Expr d.not-Macro d.not-Repeat d.not-Lookahead d.not-Lookbehind
