-- What is known of a group and of a call that were read, the symbols in which are in a row.
use Rattle.std.proofs.Common.{◌≡◌, ℕ, List, Vec, Global, Result, Ok, length, map, refl, sym, ap, ap₂, ◌∙◌, subst}
use Rattle.std.specs.Result.{IsErrAnd}
use Rattle.std.specs.Vec.{with_items}
use Rattle.std.proofs.lemmas.List.{with_items_is}
use Rattle.lalrpop_norm_faults.specs.declared.failure.NormFailure.{NormFailure}
use Rattle.lalrpop_norm_faults.specs.Faults.{IsFirst}
use Rattle.lalrpop_norm_tree_names.specs.declared.names.NonterminalString.{NonterminalString}
use Rattle.lalrpop_norm_tree.specs.declared.symbol.ExprSymbol.{ExprSymbol}
use Rattle.lalrpop_norm_tree.specs.declared.symbol.MacroSymbol.{MacroSymbol}
use Rattle.lalrpop_norm_tree.specs.declared.symbol.Symbol.{Symbol}
use Rattle.lalrpop_norm_tree.specs.declared.symbol.SymbolKind.{SymbolKind}
use Rattle.lalrpop_norm_tree.specs.declared.symbol.SymbolKind.TheFolds.{fold-roll-MacroSymbol}
use Rattle.lalrpop_norm_tree.specs.declared.symbol.SymbolKind.TheVariants as kind
use Rattle.lalrpop_norm_tree.specs.declared.symbol.SymbolKind.TheViews.{out-ExprSymbol, out-MacroSymbol, roll-ExprSymbol, roll-MacroSymbol}
use Rattle.lalrpop_norm_tree.specs.Symbols.{Kind, Part, Parts, Call, Again, group, call, kind_step, expr_step, macro_step, repeat_step, symbol_step, kind_view, parts_view, symbol_view, expr_view, macro_view}
use Rattle.lalrpop_norm_tree.proofs.KindLevels.{group_is, call_is, symbols_of, called_with}
use Rattle.lalrpop_norm_tree.proofs.SymbolViews.{group_seen}
use Rattle.lalrpop_norm_model.specs.PlainRules.{all_met}
use Rattle.lalrpop_norm_nodes.specs.declared.given.Environment.{Environment}
use Rattle.lalrpop_norm_nodes.specs.declared.node.Node.{Node}
use Rattle.lalrpop_norm_nodes.specs.declared.node.Node.TheVariants as node
use Rattle.lalrpop_norm_nodes.specs.declared.node.NamedUnary.TheVariants as named_unary
use Rattle.lalrpop_norm_nodes.specs.declared.node.Unary.TheVariants as unary
use Rattle.lalrpop_norm_nodes.specs.declared.table.Table.{Table}
use Rattle.lalrpop_norm_nodes.specs.Filled.{all_filled}
use Rattle.lalrpop_norm_nodes.specs.Given.{whole_for}
use Rattle.lalrpop_norm_nodes.specs.Reads.{RowRead, KindRead, GroupRead, CallRead}
use Rattle.lalrpop_norm_nodes.specs.Tables.{wholes_in, refused_in}
use Rattle.lalrpop_norm_nodes.proofs.InsideReads.{group_for, call_for}
use Rattle.lalrpop_norm_nodes.proofs.KindReads.{refused_node}
use Rattle.lalrpop_norm_nodes.proofs.MeetingLemmas.{on_ok_more}

call_seen : (n : NonterminalString) (v : Vec Symbol Global) → macro_view (roll-MacroSymbol (record { name = n; args = v })) ≡ (n.0, parts_view v.items)
call_seen n v = fold-roll-MacroSymbol Kind Parts Call Again Part kind_step expr_step macro_step repeat_step symbol_step (record { name = n; args = v })

module _ (a b : Table) (e : Environment) (ss now : List Symbol) where
  pub group_read : (g : ExprSymbol) (i : ℕ) → ss ≡ (out-ExprSymbol g).symbols.items → length now ≡ (out-ExprSymbol g).symbols.len → RowRead (Ok i) a b e ss (parts_view now) →
      GroupRead (Ok (node.Unary unary.Group i)) a b e (expr_view g) (expr_view (roll-ExprSymbol (record { symbols = with_items (out-ExprSymbol g).symbols now })))
  group_read g i is long h =
      let v = with_items (out-ExprSymbol g).symbols now in
      subst (λ (ps : Parts). GroupRead (Ok (node.Unary unary.Group i)) a b e ps (expr_view (roll-ExprSymbol (record { symbols = v })))) (ap parts_view is ∙ sym (symbols_of g))
      (record {
        refuses = h.refuses;
        meets = h.meets;
        counted = h.counted;
        waits = h.waits;
        value = group_seen v ∙ ap parts_view (with_items_is (out-ExprSymbol g).symbols now long) ∙ h.value;
        node = group_for (wholes_in a) (wholes_in b) e i (map symbol_view ss) (parts_view ss) refl h.number;
      })

  pub call_read : (m : MacroSymbol) (n : List ℕ) (i : ℕ) → n ≡ (out-MacroSymbol m).name.0 → ss ≡ (out-MacroSymbol m).args.items → length now ≡ (out-MacroSymbol m).args.len → RowRead (Ok i) a b e ss (parts_view now) →
      CallRead (Ok (node.NamedUnary named_unary.Call n i)) a b e (macro_view m) (macro_view (roll-MacroSymbol (record { name = (out-MacroSymbol m).name; args = with_items (out-MacroSymbol m).args now })))
  call_read m n i named is long h =
      let x = out-MacroSymbol m in
      let v = with_items x.args now in
      let o : Call = (n, parts_view ss) in
      let pair = λ (l : List ℕ) (ps : Parts). let c : Call = (l, ps) in c in
      subst (λ (c : Call). CallRead (Ok (node.NamedUnary named_unary.Call n i)) a b e c (macro_view (roll-MacroSymbol (record { name = x.name; args = v })))) (ap₂ pair named (ap parts_view is) ∙ sym (called_with m))
      (record {
        refuses = h.refuses;
        meets = h.meets;
        counted = h.counted;
        waits = h.waits;
        value = call_seen x.name v ∙ ap₂ pair (sym named) (ap parts_view (with_items_is x.args now long) ∙ h.value);
        node = call_for (wholes_in a) (wholes_in b) e i (map symbol_view ss) n o refl h.number;
      })

-- an error is passed on
pub refused_group : (r : Result Node NormFailure) (a b : Table) (e : Environment) (ss : List Symbol) (g : ExprSymbol) (now : Parts) (f : NormFailure) → IsErrAnd r (λ y. y ≡ f) → ss ≡ (out-ExprSymbol g).symbols.items →
    IsFirst (refused_in a (all_met (all_filled (whole_for (wholes_in a) e) (parts_view ss)))) f → GroupRead r a b e (expr_view g) now
refused_group r a b e ss g now f from is h = refused_node r a b _ _ _ _ f from
    (subst (λ (ps : Parts). IsFirst (refused_in a (all_met (all_filled (whole_for (wholes_in a) e) ps))) f) (ap parts_view is ∙ sym (symbols_of g)) h)

pub refused_call : (r : Result Node NormFailure) (a b : Table) (e : Environment) (ss : List Symbol) (m : MacroSymbol) (now : Call) (f : NormFailure) → IsErrAnd r (λ y. y ≡ f) → ss ≡ (out-MacroSymbol m).args.items →
    IsFirst (refused_in a (all_met (all_filled (whole_for (wholes_in a) e) (parts_view ss)))) f → CallRead r a b e (macro_view m) now
refused_call r a b e ss m now f from is h = refused_node r a b _ _ _ _ f from
    (subst (λ (ps : Parts). IsFirst (refused_in a (all_met (all_filled (whole_for (wholes_in a) e) ps))) f) (ap parts_view is ∙ ap (λ (o : Call). o.1) (sym (called_with m))) h)

-- ---- the same of the kind of symbol

module _ (r : Result Node NormFailure) (a b : Table) (e : Environment) (k : SymbolKind) where
  pub group_kind : (g now : ExprSymbol) → k ≡ kind.Expr g → GroupRead r a b e (expr_view g) (expr_view now) → KindRead r a b e (kind_view k) (kind_view (kind.Expr now))
  group_kind g now is h = subst (λ (l : Kind). KindRead r a b e l (kind_view (kind.Expr now))) (sym (group_is k g is)) (record {
    refuses = h.refuses;
    meets = h.meets;
    counted = h.counted;
    waits = h.waits;
    value = on_ok_more r _ _ (λ x. group_is (kind.Expr now) now refl ∙ ap group x) h.value;
    node = h.node;
  })

  pub call_kind : (m now : MacroSymbol) → k ≡ kind.Macro m → CallRead r a b e (macro_view m) (macro_view now) → KindRead r a b e (kind_view k) (kind_view (kind.Macro now))
  call_kind m now is h = subst (λ (l : Kind). KindRead r a b e l (kind_view (kind.Macro now))) (sym (call_is k m is)) (record {
    refuses = h.refuses;
    meets = h.meets;
    counted = h.counted;
    waits = h.waits;
    value = on_ok_more r _ _ (λ x. call_is (kind.Macro now) now refl ∙ ap (λ (o : Call). call o.0 o.1) x) h.value;
    node = h.node;
  })
