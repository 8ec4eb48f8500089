use Rattle.std.proofs.Common.{List, ap₂, ◌∙◌}
use Rattle.lalrpop_norm_tree_names.specs.declared.names.NonterminalString.{NonterminalString}
use Rattle.lalrpop_norm_tree.specs.Symbols.{parts_view}
use Rattle.lalrpop_norm_tree.specs.Items.{rule_view}
use Rattle.lalrpop_norm_nodes.specs.declared.given.Given.{Given}
use Rattle.lalrpop_norm_nodes.specs.NodeParts.{call_parts}
use Rattle.lalrpop_norm_nodes.specs.Tables.{wholes_in}
use Rattle.lalrpop_norm_nodes.specs.Wholes.{kind_at}
use Rattle.lalrpop_norm_macro_expand_rules.specs.Generated.{unread_rule}
use Rattle.lalrpop_norm_macro_expand_rules.proofs.ArgumentLemmas.{given_found, whole_found, shown_found}
use Rattle.lalrpop_norm_macro_expand.specs.declared.macro_expand.instance.Instance.{Instance}
use Rattle.lalrpop_norm_macro_expand.specs.Making.{instance_shape}
use Rattle.lalrpop_norm_macro_expand.proofs.BoundLemmas.{shallow_call, same_long, kinds_long, call_is, are_given, parts_stay}
use Rattle.lalrpop_norm_macro_expand.proofs.macro_expand.make.instance_of.Goals as goal

pub instance_rule-requires-clause-replaced : goal.instance_rule-requires-clause-replaced
instance_rule-requires-clause-replaced c =
    rw c.deref.ensures.value (parts_stay c.args.called.now.definition.name.0 (parts_view c.args.arguments.items) c.requires.shallow.replaced)

pub given_by_call-requires-clause-call : goal.given_by_call-requires-clause-call
given_by_call-requires-clause-call c =
    (shallow_call (kind_at (wholes_in c.args.table.now) c.args.number) c.args.called.now.definition.name.0 (parts_view c.args.arguments.items) c.requires.shallow.same).is_so

pub given_by_call-requires-clause-long : goal.given_by_call-requires-clause-long
given_by_call-requires-clause-long c =
    same_long (parts_view c.args.arguments.items) (call_parts (kind_at (wholes_in c.args.table.now) c.args.number))
    (shallow_call (kind_at (wholes_in c.args.table.now) c.args.number) c.args.called.now.definition.name.0 (parts_view c.args.arguments.items) c.requires.shallow.same).same
    ∙ kinds_long c.args.arguments.items

pub returns-clause-generated : goal.returns-clause-generated
returns-clause-generated c =
    let ws = wholes_in c.args.table.now in
    let params : List NonterminalString = c.args.called.now.definition.args.items in
    let given : List Given = c.in_ok-given.given.items in
    let i : Instance = c.in_ok-instance.instance in
    let made = rw c.deref.ensures.value at c.in_ok-instance.ensures in
    c.with_environment-generated.ensures.generated ws
    ∙ ap₂ (unread_rule (rule_view i.rule)) (whole_found params given c.args.called.now.numbers c.requires.numbers ws) (shown_found params given c.args.called.now.numbers c.requires.numbers)
    ∙ call_is ws (rule_view i.rule) (instance_shape c.args.head.name c.args.head.span (rule_view c.args.called.now.definition) (parts_view c.args.arguments.items)) params given
    (call_parts (kind_at ws c.args.number)) c.args.arguments.items made.1.0 c.in_ok-given.ensures.numbers c.in_ok-given.ensures.symbols

pub returns-clause-readable : goal.returns-clause-readable
returns-clause-readable c =
    let ws = wholes_in c.args.table.now in
    let params : List NonterminalString = c.args.called.now.definition.args.items in
    let given : List Given = c.in_ok-given.given.items in
    let symbols = c.in_ok-given.ensures.symbols in
    let shallow = shallow_call (kind_at ws c.args.number) c.args.called.now.definition.name.0 (parts_view c.args.arguments.items) c.requires.shallow.same in
    c.with_environment-generated.ensures.readable ws
    (given_found params given c.args.called.now.numbers c.requires.numbers ws
    (are_given ws params given (call_parts (kind_at ws c.args.number)) c.in_ok-given.ensures.numbers
    (rw symbols (parts_stay c.args.called.now.definition.name.0 (parts_view c.args.arguments.items) c.requires.shallow.replaced)) (rw symbols shallow.same)))

pub returns-clause-kept : goal.returns-clause-kept
returns-clause-kept c = (rw c.deref.ensures.value at c.in_ok-instance.ensures).1.1
