use Rattle.std.proofs.Common.{◌∙◌, Ok, refl, ap, sym, option_map, arith}
use borrow.Author.Count.{falls}
use Rattle.lalrpop_norm_faults.specs.declared.failure.NormFailure.TheVariants.{Memory}
use Rattle.lalrpop_norm_tree.proofs.KindLevels.{chosen_is, named_is, tupled_is}
use Rattle.lalrpop_norm_tree.specs.declared.symbol.RepeatSymbol.{RepeatSymbol}
use Rattle.lalrpop_norm_tree.specs.declared.symbol.SymbolKind.TheVariants as kind
use Rattle.lalrpop_norm_tree.specs.declared.symbol.SymbolKind.TheViews.{sized-Choose, sized-Name, sized-Tuple, sized-Repeat, sized-Expr, sized-Macro}
use Rattle.lalrpop_norm_tree.specs.Symbols.{kind_view, symbol_view}
use Rattle.lalrpop_norm_nodes.specs.Readings.{repeat_node}
use Rattle.lalrpop_norm_nodes.specs.Tables.{wholes_in}
use Rattle.lalrpop_norm_nodes.proofs.EnteredReads.{entered_text, entered_read}
use Rattle.lalrpop_norm_nodes.proofs.GroupReads.{group_read, call_read, refused_group, refused_call, group_kind, call_kind}
use Rattle.lalrpop_norm_nodes.proofs.KindReads.{again_is, refused_kind, lookahead_read, lookbehind_read, error_read, ambiguous_read, terminal_read, nonterminal_read, chosen_read, named_read, tuple_read, repeated_read}
use Rattle.lalrpop_norm_nodes.proofs.ReadSizes.{to_kind, to_boxed, to_repeated, to_items, to_arguments, to_one}
use Rattle.lalrpop_norm_nodes.proofs.RowItems.{stands_later, is_kind, are_symbols}
use Rattle.lalrpop_norm_nodes.proofs.RowRounds.{refused_row, row_begun, row_further, row_stopped, row_ended}
use Rattle.lalrpop_norm_nodes.proofs.SymbolReads.{symbol_as, refused_symbol, refused_inside, bound_read, repeat_read}
use Rattle.lalrpop_norm_nodes.proofs.TerminalCopies.{terminal_copied}
use Rattle.lalrpop_norm_nodes.proofs.read.+read.Goals as goal

-- ---- one symbol

pub read_symbol-returns-in-Some : goal.read_symbol-returns-in-Some
read_symbol-returns-in-Some t c =
    let n = c.in_ok-number in
    bound_read n.number c.args.table.now c.args.environment.now c.args.symbol.now (symbol_view c.put_given.new.symbol) c.in-Some.given.now c.requires.table c.requires.counted c.requires.given
    (sym c.given_to.ensures ∙ ap (option_map (λ g. g.now)) c.in-Some.is) n.ensures.value n.ensures.number

pub read_symbol-returns-in_err-number : goal.read_symbol-returns-in_err-number
read_symbol-returns-in_err-number t c =
    refused_symbol c.from_residual.result c.args.table.now c.args.table.now c.args.environment.now _ c.args.symbol.now (symbol_view c.put_given.new.symbol) Memory c.from_residual.ensures.1 refl tt

pub read_symbol-returns-in_err-node : goal.read_symbol-returns-in_err-node
read_symbol-returns-in_err-node t c =
    let f = c.from_residual-in_err-node in
    let s = c.args.symbol.now in
    refused_inside f.result c.args.table.now c.node_of.new.table c.args.environment.now s (symbol_view (record { span = s.span; kind = c.node_of.new.kind })) c.in_err-node.field-0.0
    f.ensures.1 c.in_err-node.ensures.refuses

pub read_symbol-returns : goal.read_symbol-returns
read_symbol-returns t c =
    entered_read c.args.table.now c.node_of.new.table c.args.environment.now c.args.symbol.now c.node_of.new.kind c.in_ok-node.node c.in_ok-node.ensures
    c.enter_symbol.result c.enter_symbol.new.table (symbol_view c.enter_symbol.new.symbol) c.enter_symbol.ensures

pub read_symbol-enter_symbol-requires : goal.read_symbol-enter_symbol-requires
read_symbol-enter_symbol-requires t c =
    let n = c.in_ok-node in
    record {
      table = n.ensures.meets.table;
      counted = n.ensures.counted;
      fits = n.ensures.node.0;
      text = entered_text c.args.table.now c.node_of.new.table c.args.environment.now c.args.symbol.now c.node_of.new.kind n.node n.ensures c.requires.given
          (sym c.given_to.ensures ∙ ap (option_map (λ g. g.now)) c.in_default.is);
    }

pub read_symbol-node_of-requires : goal.read_symbol-node_of-requires
read_symbol-node_of-requires t c = (
  to_kind t c.args.symbol.now c.decreases,
  record {
    table = c.requires.table;
    counted = c.requires.counted;
    given = c.requires.given;
    unbound = sym c.given_to.ensures ∙ ap (option_map (λ g. g.now)) c.in_default.is;
  },
)

pub read_boxed-returns : goal.read_boxed-returns
read_boxed-returns t c =
    symbol_as (Ok c.in_ok-number.number) c.args.table.now c.read_symbol.new.table c.args.environment.now _ _ (symbol_view c.read_symbol.new.symbol) c.deref_mut.ensures.value c.in_ok-number.ensures

pub read_boxed-returns-in_err-number : goal.read_boxed-returns-in_err-number
read_boxed-returns-in_err-number t c =
    refused_symbol c.from_residual.result c.args.table.now c.read_symbol.new.table c.args.environment.now _ c.args.symbol.now.value (symbol_view c.read_symbol.new.symbol) c.in_err-number.field-0.0
    c.from_residual.ensures.1 c.deref_mut.ensures.value c.in_err-number.ensures.refuses

pub read_boxed-read_symbol-requires : goal.read_boxed-read_symbol-requires
read_boxed-read_symbol-requires t c = (to_boxed t _ _ c.deref_mut.ensures.value c.decreases, c.requires)

pub read_repeated-returns : goal.read_repeated-returns
read_repeated-returns t c =
    let a = c.args.table.now in
    let is = c.deref_mut.ensures.value in
    let x = c.args.repeat.now.value in
    let r = Ok c.in_ok-number.number in
    repeat_read r a c.read_symbol.new.table c.args.environment.now x _ (symbol_view c.read_symbol.new.symbol) (ap (λ (y : RepeatSymbol). y.op) is)
    (symbol_as r a c.read_symbol.new.table c.args.environment.now _ x.symbol (symbol_view c.read_symbol.new.symbol) (ap (λ (y : RepeatSymbol). y.symbol) is) c.in_ok-number.ensures)

pub read_repeated-returns-in_err-number : goal.read_repeated-returns-in_err-number
read_repeated-returns-in_err-number t c =
    let f = c.from_residual in
    let is = c.deref_mut.ensures.value in
    let x = c.args.repeat.now.value in
    repeat_read f.result c.args.table.now c.read_symbol.new.table c.args.environment.now x _ (symbol_view c.read_symbol.new.symbol) (ap (λ (y : RepeatSymbol). y.op) is)
    (refused_symbol f.result c.args.table.now c.read_symbol.new.table c.args.environment.now _ x.symbol (symbol_view c.read_symbol.new.symbol) c.in_err-number.field-0.0
    f.ensures.1 (ap (λ (y : RepeatSymbol). y.symbol) is) c.in_err-number.ensures.refuses)

pub read_repeated-read_symbol-requires : goal.read_repeated-read_symbol-requires
read_repeated-read_symbol-requires t c = (to_repeated t _ _ c.deref_mut.ensures.value c.decreases, c.requires)

-- ---- symbols in a row

pub read_row-enter_no_symbols-requires : goal.read_row-enter_no_symbols-requires
read_row-enter_no_symbols-requires t c = c.requires.table

pub read_row-loop-i-init : goal.read_row-loop-i-init
read_row-loop-i-init t c =
    row_begun c.args.table.now c.enter_no_symbols.new.self c.args.environment.now c.args.several.now c.in_ok-row.row c.requires.given c.requires.table c.requires.counted c.in_ok-row.ensures

pub read_row-loop-i-smaller : goal.read_row-loop-i-smaller
read_row-loop-i-smaller t c = falls _ _ c.loop-i-test.true

pub read_row-read_symbol-requires : goal.read_row-read_symbol-requires
read_row-read_symbol-requires t c =
    let v = c.loop-i.invariant in
    (to_one t c.loop-i.several c.args.several.now c.loop-i.i _ c.loop-i-test.true v.rest c.decreases, record { table = v.meets.table; counted = v.counted; given = v.given })

pub read_row-enter-requires : goal.read_row-enter-requires
read_row-enter-requires t c =
    let n = c.in_ok-number.ensures in
    let ws = wholes_in c.read_symbol.new.table in
    record {
      table = n.meets.table;
      fits = (
        are_symbols ws c.loop-i.row _ (stands_later (wholes_in c.loop-i.table) ws c.loop-i.row _ n.meets.grows c.loop-i.invariant.row),
        is_kind ws c.in_ok-number.number _ n.number,
      );
      plain = refl;
    }

pub read_row-loop-i-preserved : goal.read_row-loop-i-preserved
read_row-loop-i-preserved t c =
    row_further c.args.table.now c.loop-i.table c.args.environment.now c.args.several.now c.loop-i.several c.loop-i.i c.loop-i.row c.index-several-i.result
    c.requires.given c.loop-i-test.true (omega arith) c.loop-i.invariant
    c.read_symbol.new.table c.enter.new.self c.in_ok-number.number c.in_ok-row-2.row c.read_symbol.new.symbol c.in_ok-number.ensures c.in_ok-row-2.ensures

pub read_row-returns-in_err-number : goal.read_row-returns-in_err-number
read_row-returns-in_err-number t c =
    let f = c.from_residual-in_err-number in
    row_stopped c.args.table.now c.loop-i.table c.args.environment.now c.args.several.now c.loop-i.several c.loop-i.i c.loop-i.row c.index-several-i.result
    c.requires.given c.loop-i-test.true (omega arith) c.loop-i.invariant f.result c.read_symbol.new.table _ c.in_err-number.field-0.0 f.ensures.1 c.in_err-number.ensures.refuses

pub read_row-returns : goal.read_row-returns
read_row-returns t c =
    row_ended c.args.table.now c.loop-i.table c.args.environment.now c.args.several.now c.loop-i.several c.loop-i.i c.loop-i.row (omega arith) c.loop-i.invariant

pub read_row-returns-in_err-row : goal.read_row-returns-in_err-row
read_row-returns-in_err-row t c =
    refused_row c.from_residual.result c.args.table.now c.enter_no_symbols.new.self c.args.environment.now c.args.several.now _ Memory c.from_residual.ensures.1 tt

pub read_row-returns-in_err-row-2 : goal.read_row-returns-in_err-row-2
read_row-returns-in_err-row-2 t c =
    let f = c.from_residual-in_err-row-2 in
    refused_row f.result c.args.table.now c.enter.new.self c.args.environment.now c.args.several.now _ Memory f.ensures.1 tt

-- ---- groups and calls

pub read_group-returns : goal.read_group-returns
read_group-returns t c =
    group_read c.args.table.now c.read_row.new.table c.args.environment.now _ c.read_row.new.several c.args.expr.now c.in_ok-row.row
    c.deref_mut.ensures.value (c.read_row.auto.several ∙ c.deref_mut.ensures.len) c.in_ok-row.ensures

pub read_group-returns-in_err-row : goal.read_group-returns-in_err-row
read_group-returns-in_err-row t c =
    refused_group c.from_residual.result c.args.table.now c.read_row.new.table c.args.environment.now _ c.args.expr.now _ c.in_err-row.field-0.0
    c.from_residual.ensures.1 c.deref_mut.ensures.value c.in_err-row.ensures.refuses

pub read_group-read_row-requires : goal.read_group-read_row-requires
read_group-read_row-requires t c = (to_items t c.args.expr.now _ c.deref_mut.ensures.value c.decreases, c.requires)

pub read_call-returns : goal.read_call-returns
read_call-returns t c =
    call_read c.args.table.now c.read_row.new.table c.args.environment.now _ c.read_row.new.several c.args.instance.now c.in_ok-name.name c.in_ok-row.row
    c.in_ok-name.ensures.cases c.deref_mut.ensures.value (c.read_row.auto.several ∙ c.deref_mut.ensures.len) c.in_ok-row.ensures

pub read_call-returns-in_err-name : goal.read_call-returns-in_err-name
read_call-returns-in_err-name t c =
    refused_call c.from_residual.result c.args.table.now c.args.table.now c.args.environment.now _ c.args.instance.now _ Memory c.from_residual.ensures.1 refl tt

pub read_call-returns-in_err-row : goal.read_call-returns-in_err-row
read_call-returns-in_err-row t c =
    let f = c.from_residual-in_err-row in
    refused_call f.result c.args.table.now c.read_row.new.table c.args.environment.now _ c.args.instance.now _ c.in_err-row.field-0.0
    f.ensures.1 c.deref_mut.ensures.value c.in_err-row.ensures.refuses

pub read_call-read_row-requires : goal.read_call-read_row-requires
read_call-read_row-requires t c = (to_arguments t c.args.instance.now _ c.deref_mut.ensures.value c.decreases, c.requires)

-- ---- kinds with nothing inside

pub node_of-returns-in-Lookahead : goal.node_of-returns-in-Lookahead
node_of-returns-in-Lookahead t c = lookahead_read c.args.table.now c.args.environment.now c.args.kind.now c.requires.table c.requires.counted c.in-Lookahead.is

pub node_of-returns-in-Lookbehind : goal.node_of-returns-in-Lookbehind
node_of-returns-in-Lookbehind t c = lookbehind_read c.args.table.now c.args.environment.now c.args.kind.now c.requires.table c.requires.counted c.in-Lookbehind.is

pub node_of-returns-in-Error : goal.node_of-returns-in-Error
node_of-returns-in-Error t c = error_read c.args.table.now c.args.environment.now c.args.kind.now c.requires.table c.requires.counted c.in-Error.is

pub node_of-returns-in_ok-clone-in-Nonterminal : goal.node_of-returns-in_ok-clone-in-Nonterminal
node_of-returns-in_ok-clone-in-Nonterminal t c =
    let r = c.in_ok-clone-in-Nonterminal in
    nonterminal_read c.args.table.now c.args.environment.now c.args.kind.now c.requires.table c.requires.counted c.in-Nonterminal.name r.field-0 c.in-Nonterminal.is c.requires.unbound r.ensures.cases

pub node_of-returns-in_ok-clone-in-AmbiguousId : goal.node_of-returns-in_ok-clone-in-AmbiguousId
node_of-returns-in_ok-clone-in-AmbiguousId t c =
    let r = c.in_ok-clone-in-AmbiguousId in
    ambiguous_read c.args.table.now c.args.environment.now c.args.kind.now c.requires.table c.requires.counted c.in-AmbiguousId.id r.field-0 c.in-AmbiguousId.is r.ensures.cases

pub node_of-returns-in_ok-clone-in-Terminal : goal.node_of-returns-in_ok-clone-in-Terminal
node_of-returns-in_ok-clone-in-Terminal t c =
    let r = c.in_ok-clone-in-Terminal in
    let n = c.in-Terminal.terminal in
    terminal_read c.args.table.now c.args.environment.now c.args.kind.now c.requires.table c.requires.counted n r.field-0 c.in-Terminal.is (terminal_copied n r.field-0 r.ensures.cases)

-- ---- kinds that hold symbols

pub node_of-returns-in_ok-number-in-Choose : goal.node_of-returns-in_ok-number-in-Choose
node_of-returns-in_ok-number-in-Choose t c =
    let n = c.in_ok-number-in-Choose in
    chosen_read c.args.table.now c.read_boxed.new.table c.args.environment.now c.args.kind.now c.in-Choose.inner c.read_boxed.new.symbol n.number c.in-Choose.is n.ensures

pub node_of-returns-in_ok-named_node-in-Name : goal.node_of-returns-in_ok-named_node-in-Name
node_of-returns-in_ok-named_node-in-Name t c =
    let n = c.in_ok-number-in-Name in
    let m = c.in_ok-named_node-in-Name in
    let b = c.read_boxed-in-Name.new in
    named_read c.args.table.now b.table c.args.environment.now c.args.kind.now c.in-Name.name c.in-Name.inner b.symbol n.number m.field-0 c.in-Name.is m.ensures n.ensures

pub node_of-returns-in_ok-row-in-Tuple : goal.node_of-returns-in_ok-row-in-Tuple
node_of-returns-in_ok-row-in-Tuple t c =
    let n = c.in_ok-number-in-Tuple in
    let m = c.in_ok-row-in-Tuple in
    let b = c.read_boxed-in-Tuple.new in
    tuple_read c.args.table.now b.table c.args.environment.now c.args.kind.now c.enter_patterns.new.table c.in-Tuple.tuple _ c.in-Tuple.inner b.symbol n.number m.row
    c.in-Tuple.is c.deref.ensures.value n.ensures m.ensures

pub node_of-returns-in_ok-number-in-Repeat : goal.node_of-returns-in_ok-number-in-Repeat
node_of-returns-in_ok-number-in-Repeat t c =
    let n = c.in_ok-number-in-Repeat in
    let b = c.read_repeated.new in
    repeated_read c.args.table.now b.table c.args.environment.now c.args.kind.now c.in-Repeat.repeat b.repeat n.number c.repeat_node.result c.in-Repeat.is
    (c.repeat_node.ensures ∙ ap (λ (x : RepeatSymbol). repeat_node x.op n.number) c.deref-in-Repeat.ensures) n.ensures

pub node_of-returns-in-Expr : goal.node_of-returns-in-Expr
node_of-returns-in-Expr t c =
    let r = c.read_group in
    group_kind r.result c.args.table.now r.new.table c.args.environment.now c.args.kind.now c.in-Expr.expr r.new.expr c.in-Expr.is r.ensures

pub node_of-returns-in-Macro : goal.node_of-returns-in-Macro
node_of-returns-in-Macro t c =
    let r = c.read_call in
    call_kind r.result c.args.table.now r.new.table c.args.environment.now c.args.kind.now c.in-Macro.instance r.new.instance c.in-Macro.is r.ensures

pub node_of-read_boxed-requires : goal.node_of-read_boxed-requires
node_of-read_boxed-requires t c = (omega (arith, rw (c.in-Choose.is) at c.decreases, sized-Choose c.in-Choose.inner), record { table = c.requires.table; counted = c.requires.counted; given = c.requires.given })

pub node_of-read_boxed-requires-in-Name : goal.node_of-read_boxed-requires-in-Name
node_of-read_boxed-requires-in-Name t c = (omega (arith, rw (c.in-Name.is) at c.decreases, sized-Name c.in-Name.name c.in-Name.inner), record { table = c.requires.table; counted = c.requires.counted; given = c.requires.given })

pub node_of-read_boxed-requires-in-Tuple : goal.node_of-read_boxed-requires-in-Tuple
node_of-read_boxed-requires-in-Tuple t c = (omega (arith, rw (c.in-Tuple.is) at c.decreases, sized-Tuple c.in-Tuple.tuple c.in-Tuple.inner), record { table = c.requires.table; counted = c.requires.counted; given = c.requires.given })

pub node_of-read_repeated-requires : goal.node_of-read_repeated-requires
node_of-read_repeated-requires t c = (omega (arith, rw (c.in-Repeat.is) at c.decreases, sized-Repeat c.in-Repeat.repeat), record { table = c.requires.table; counted = c.requires.counted; given = c.requires.given })

pub node_of-read_group-requires : goal.node_of-read_group-requires
node_of-read_group-requires t c = (omega (arith, rw (c.in-Expr.is) at c.decreases, sized-Expr c.in-Expr.expr), record { table = c.requires.table; counted = c.requires.counted; given = c.requires.given })

pub node_of-read_call-requires : goal.node_of-read_call-requires
node_of-read_call-requires t c = (omega (arith, rw (c.in-Macro.is) at c.decreases, sized-Macro c.in-Macro.instance), record { table = c.requires.table; counted = c.requires.counted; given = c.requires.given })

-- ---- and their errors, passed on

pub node_of-returns-in_err-clone-in-Nonterminal : goal.node_of-returns-in_err-clone-in-Nonterminal
node_of-returns-in_err-clone-in-Nonterminal t c =
    let f = c.from_residual in
    refused_kind f.result c.args.table.now c.args.table.now c.args.environment.now (kind_view c.args.kind.now) _ (kind_view (kind.Nonterminal c.in-Nonterminal.name)) Memory f.ensures.1 refl tt

pub node_of-returns-in_err-clone-in-AmbiguousId : goal.node_of-returns-in_err-clone-in-AmbiguousId
node_of-returns-in_err-clone-in-AmbiguousId t c =
    let f = c.from_residual-in_err-clone-in-AmbiguousId in
    refused_kind f.result c.args.table.now c.args.table.now c.args.environment.now (kind_view c.args.kind.now) _ (kind_view (kind.AmbiguousId c.in-AmbiguousId.id)) Memory f.ensures.1 refl tt

pub node_of-returns-in_err-clone-in-Terminal : goal.node_of-returns-in_err-clone-in-Terminal
node_of-returns-in_err-clone-in-Terminal t c =
    let f = c.from_residual-in_err-clone-in-Terminal in
    refused_kind f.result c.args.table.now c.args.table.now c.args.environment.now (kind_view c.args.kind.now) _ (kind_view (kind.Terminal c.in-Terminal.terminal)) Memory f.ensures.1 refl tt

pub node_of-returns-in_err-number-in-Choose : goal.node_of-returns-in_err-number-in-Choose
node_of-returns-in_err-number-in-Choose t c =
    let f = c.from_residual-in_err-number-in-Choose in
    refused_kind f.result c.args.table.now c.read_boxed.new.table c.args.environment.now (kind_view c.args.kind.now) _ (kind_view (kind.Choose c.read_boxed.new.symbol)) c.in_err-number-in-Choose.field-0.0 f.ensures.1
    (chosen_is c.args.kind.now c.in-Choose.inner c.in-Choose.is) c.in_err-number-in-Choose.ensures.refuses

pub node_of-returns-in_err-number-in-Name : goal.node_of-returns-in_err-number-in-Name
node_of-returns-in_err-number-in-Name t c =
    let f = c.from_residual-in_err-number-in-Name in
    refused_kind f.result c.args.table.now c.read_boxed-in-Name.new.table c.args.environment.now (kind_view c.args.kind.now) _ (kind_view (kind.Name c.in-Name.name c.read_boxed-in-Name.new.symbol)) c.in_err-number-in-Name.field-0.0 f.ensures.1
    (named_is c.args.kind.now c.in-Name.name c.in-Name.inner c.in-Name.is) c.in_err-number-in-Name.ensures.refuses

pub node_of-returns-in_err-named_node-in-Name : goal.node_of-returns-in_err-named_node-in-Name
node_of-returns-in_err-named_node-in-Name t c =
    let f = c.from_residual-in_err-named_node-in-Name in
    refused_kind f.result c.args.table.now c.read_boxed-in-Name.new.table c.args.environment.now (kind_view c.args.kind.now) _ (kind_view (kind.Name c.in-Name.name c.read_boxed-in-Name.new.symbol)) Memory f.ensures.1 refl tt

pub node_of-returns-in_err-number-in-Tuple : goal.node_of-returns-in_err-number-in-Tuple
node_of-returns-in_err-number-in-Tuple t c =
    let f = c.from_residual-in_err-number-in-Tuple in
    refused_kind f.result c.args.table.now c.read_boxed-in-Tuple.new.table c.args.environment.now (kind_view c.args.kind.now) _ (kind_view (kind.Tuple c.in-Tuple.tuple c.read_boxed-in-Tuple.new.symbol)) c.in_err-number-in-Tuple.field-0.0 f.ensures.1
    (tupled_is c.args.kind.now c.in-Tuple.tuple c.in-Tuple.inner c.in-Tuple.is) c.in_err-number-in-Tuple.ensures.refuses

pub node_of-returns-in_err-row-in-Tuple : goal.node_of-returns-in_err-row-in-Tuple
node_of-returns-in_err-row-in-Tuple t c =
    let f = c.from_residual-in_err-row-in-Tuple in
    refused_kind f.result c.args.table.now c.enter_patterns.new.table c.args.environment.now (kind_view c.args.kind.now) _ (kind_view (kind.Tuple c.in-Tuple.tuple c.read_boxed-in-Tuple.new.symbol)) Memory f.ensures.1 refl tt

pub node_of-returns-in_err-number-in-Repeat : goal.node_of-returns-in_err-number-in-Repeat
node_of-returns-in_err-number-in-Repeat t c =
    let f = c.from_residual-in_err-number-in-Repeat in
    refused_kind f.result c.args.table.now c.read_repeated.new.table c.args.environment.now (kind_view c.args.kind.now) _ (kind_view (kind.Repeat c.read_repeated.new.repeat)) c.in_err-number-in-Repeat.field-0.0 f.ensures.1
    (again_is c.args.kind.now c.in-Repeat.repeat c.in-Repeat.is) c.in_err-number-in-Repeat.ensures.refuses
