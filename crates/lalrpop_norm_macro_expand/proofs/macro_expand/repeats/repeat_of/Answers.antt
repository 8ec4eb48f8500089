use Rattle.std.proofs.Common.{◌≡◌, ℕ, List, [], ◌∷◌, ap, ap₂, ◌∙◌}
use Rattle.lalrpop_norm_tree.specs.declared.symbol.Symbol.{Symbol}
use Rattle.lalrpop_norm_tree.specs.Symbols.{at, nonterminal, symbol_view}
use Rattle.lalrpop_norm_tree.specs.Items.{rule_view}
use Rattle.lalrpop_norm_nodes.specs.declared.given.Given.{Given}
use Rattle.lalrpop_norm_nodes.specs.NodeParts.{repeated_kind}
use Rattle.lalrpop_norm_nodes.specs.Tables.{wholes_in}
use Rattle.lalrpop_norm_nodes.specs.Wholes.{kind_at}
use Rattle.lalrpop_norm_macro_expand_rules.specs.Generated.{unread_rule, whole_numbered, shown_numbered}
use Rattle.lalrpop_norm_macro_expand_rules.proofs.ArgumentLemmas.{given_found, whole_found, shown_found}
use Rattle.lalrpop_norm_macro_expand_repeats.specs.Repeats.{placeholder_name, repeat_shape}
use Rattle.lalrpop_norm_macro_expand.specs.Making.{placeholder_names}
use Rattle.lalrpop_norm_macro_expand.proofs.BoundLemmas.{shallow_repeat, inner_stays, repeat_is, repeat_readable}
use Rattle.lalrpop_norm_macro_expand.proofs.macro_expand.repeats.repeat_of.Goals as goal

pub repeat_rule-requires : goal.repeat_rule-requires
repeat_rule-requires c =
    rw c.replace-symbol.ensures.value (inner_stays c.args.repeat.now.op (symbol_view c.args.repeat.now.symbol) c.requires.shallow.replaced)

pub returns-clause-generated : goal.returns-clause-generated
returns-clause-generated c =
    let ws = wholes_in c.args.table.now in
    let x : Symbol = c.args.repeat.now.symbol in
    let op = c.args.repeat.now.op in
    let s = c.args.head.span in
    let name : List ℕ = c.args.head.name in
    let table = c.args.numbers.now in
    let g : Given = record { number = c.repeated_number-number.result; symbol = c.replace-symbol.result } in
    let symbol : g.symbol ≡ x = c.replace-symbol.ensures.value in
    ap (λ (gs : List Given). unread_rule (rule_view c.in_ok-rule.rule) (whole_numbered ws table gs) (shown_numbered table gs)) c.in_ok-given.ensures.items
    ∙ ap₂ (unread_rule (rule_view c.in_ok-rule.rule)) (whole_found placeholder_names (g ∷ []) table c.requires.numbers ws) (shown_found placeholder_names (g ∷ []) table c.requires.numbers)
    ∙ repeat_is ws name s op (repeated_kind (kind_at ws c.args.number)) x (rule_view c.in_ok-rule.rule) g symbol c.repeated_number-number.ensures
    (c.in_ok-rule.ensures ∙ ap (λ (y : Symbol). repeat_shape name s op (symbol_view y) (at y.span (nonterminal placeholder_name))) symbol)

pub returns-clause-readable : goal.returns-clause-readable
returns-clause-readable c =
    let ws = wholes_in c.args.table.now in
    let x : Symbol = c.args.repeat.now.symbol in
    let op = c.args.repeat.now.op in
    let k = kind_at ws c.args.number in
    let g : Given = record { number = c.repeated_number-number.result; symbol = c.replace-symbol.result } in
    rw c.in_ok-given.ensures.items
    (given_found placeholder_names (g ∷ []) c.args.numbers.now c.requires.numbers ws
    (repeat_readable ws op k x g c.replace-symbol.ensures.value c.repeated_number-number.ensures c.requires.shallow.replaced (shallow_repeat k op (symbol_view x) c.requires.shallow.same)))
