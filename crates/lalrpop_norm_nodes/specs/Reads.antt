-- What the functions that read symbols in an environment need, and what they ensure: the table `a` becomes `b`.
use Rattle.std.specs.Prelude.{◌≡◌, ℕ, List, map, Result, None, IfOk, OnOk}
use Rattle.lalrpop_norm_tree.specs.declared.symbol.RepeatOp.{RepeatOp}
use Rattle.lalrpop_norm_tree.specs.declared.symbol.RepeatSymbol.{RepeatSymbol}
use Rattle.lalrpop_norm_tree.specs.declared.symbol.Symbol.{Symbol}
use Rattle.lalrpop_norm_tree.specs.Symbols.{Kind, Part, Parts, Call, group, call, kind_view, symbol_view, parts_view}
use Rattle.lalrpop_norm_faults.specs.declared.failure.NormFailure.{NormFailure}
use Rattle.lalrpop_norm_faults.specs.Faults.{Refuses}
use Rattle.lalrpop_norm_model.specs.PlainRules.{met, all_met}
use Rattle.lalrpop_norm_nodes.specs.Apart.{unplaced_kind}
use Rattle.lalrpop_norm_nodes.specs.declared.given.Environment.{Environment}
use Rattle.lalrpop_norm_nodes.specs.declared.node.Node.{Node}
use Rattle.lalrpop_norm_nodes.specs.declared.table.Table.{Table}
use Rattle.lalrpop_norm_nodes.specs.Filled.{filled_kind}
use Rattle.lalrpop_norm_nodes.specs.Given.{given_to, shown_for, AreGiven, read_whole, all_whole, kind_whole, read_shown, all_shown, kind_shown}
use Rattle.lalrpop_norm_nodes.specs.Meeting.{met_inside}
use Rattle.lalrpop_norm_nodes.specs.Readings.{IsNodeFor, bare_wholes}
use Rattle.lalrpop_norm_nodes.specs.Tables.{wholes_in, IsNodeTable, IsCounted, TableMeets, refused_in}
use Rattle.lalrpop_norm_nodes.specs.Waits.{parts_replaced, shown_met, all_shown_met, LeavesWaiting}
use Rattle.lalrpop_norm_nodes.specs.Wholes.{one_symbol, symbols, StandsFor}

-- what reading needs; inside of a symbol also that it is no argument's name
abbrev pub CanRead : Table → Environment → Type 0
CanRead a e = record {
  table : IsNodeTable a;
  counted : IsCounted a;
  given : AreGiven (wholes_in a) e;
}

abbrev pub CanReadInside : Table → Environment → Kind → Type 0
CanReadInside a e k = record {
  table : IsNodeTable a;
  counted : IsCounted a;
  given : AreGiven (wholes_in a) e;
  unbound : given_to e k ≡ None;
}

-- The first error at `xs` is reported. If there is none, these were reached, `ys` is on the worklist for them, what was read is
-- rewritten as `Now` says, and so is the id or the node that is answered as `Is` says.
abbrev pub NumberRead : Result ℕ NormFailure → Table → Table → List Part → List Part → Type 0 → (ℕ → Type 0) → Type 0
NumberRead r a b xs ys Now Is = record {
  refuses : Refuses r (refused_in a xs);
  meets : OnOk r (TableMeets a b xs);
  counted : OnOk r (IsCounted b);
  waits : OnOk r (LeavesWaiting a b ys);
  value : OnOk r Now;
  number : IfOk r Is;
}

abbrev pub NodeRead : Result Node NormFailure → Table → Table → List Part → List Part → Type 0 → (Node → Type 0) → Type 0
NodeRead r a b xs ys Now Is = record {
  refuses : Refuses r (refused_in a xs);
  meets : OnOk r (TableMeets a b xs);
  counted : OnOk r (IsCounted b);
  waits : OnOk r (LeavesWaiting a b ys);
  value : OnOk r Now;
  node : IfOk r Is;
}

-- a symbol
abbrev pub SymbolRead : Result ℕ NormFailure → Table → Table → Environment → Symbol → Part → Type 0
SymbolRead r a b e s now =
    NumberRead r a b (met (read_whole (wholes_in a) e (symbol_view s))) (shown_met e (symbol_view s)) (now ≡ read_shown e (symbol_view s))
    (λ i. StandsFor (wholes_in b) i (one_symbol (unplaced_kind (kind_whole (wholes_in a) e (kind_view s.kind)))))

-- what is repeated; the operator stays
abbrev pub RepeatRead : Result ℕ NormFailure → Table → Table → Environment → RepeatSymbol → RepeatOp → Part → Type 0
RepeatRead r a b e x op now = record {
  refuses : Refuses r (refused_in a (met (read_whole (wholes_in a) e (symbol_view x.symbol))));
  meets : OnOk r (TableMeets a b (met (read_whole (wholes_in a) e (symbol_view x.symbol))));
  counted : OnOk r (IsCounted b);
  op : OnOk r (op ≡ x.op);
  waits : OnOk r (LeavesWaiting a b (shown_met e (symbol_view x.symbol)));
  value : OnOk r (now ≡ read_shown e (symbol_view x.symbol));
  number : IfOk r (λ i. StandsFor (wholes_in b) i (one_symbol (unplaced_kind (kind_whole (wholes_in a) e (kind_view x.symbol.kind)))));
}

-- symbols in a row
abbrev pub RowRead : Result ℕ NormFailure → Table → Table → Environment → List Symbol → Parts → Type 0
RowRead r a b e ss now =
    NumberRead r a b (all_met (all_whole (wholes_in a) e (parts_view ss))) (all_shown_met e (parts_view ss))
    (now ≡ all_shown e (parts_view ss))
    (λ i. StandsFor (wholes_in b) i (symbols (bare_wholes (wholes_in a) e (map symbol_view ss))))

-- what is inside of a kind of symbol, of a group, and of a macro call
abbrev pub KindRead : Result Node NormFailure → Table → Table → Environment → Kind → Kind → Type 0
KindRead r a b e k now =
    NodeRead r a b (met_inside (kind_whole (wholes_in a) e k)) (map parts_replaced (met_inside (filled_kind (shown_for e) k)))
    (now ≡ kind_shown e k) (λ n. IsNodeFor (wholes_in b) n (kind_whole (wholes_in a) e k))

abbrev pub GroupRead : Result Node NormFailure → Table → Table → Environment → Parts → Parts → Type 0
GroupRead r a b e ps now =
    NodeRead r a b (all_met (all_whole (wholes_in a) e ps)) (all_shown_met e ps)
    (now ≡ all_shown e ps) (λ n. IsNodeFor (wholes_in b) n (group (all_whole (wholes_in a) e ps)))

abbrev pub CallRead : Result Node NormFailure → Table → Table → Environment → Call → Call → Type 0
CallRead r a b e m now =
    NodeRead r a b (all_met (all_whole (wholes_in a) e m.1)) (all_shown_met e m.1)
    (now ≡ (m.0, all_shown e m.1))
    (λ n. IsNodeFor (wholes_in b) n (call m.0 (all_whole (wholes_in a) e m.1)))
