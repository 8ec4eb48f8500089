-- What is known of a kind of symbol that was read: what it reached, what it was rewritten to, and its node.
use Rattle.std.proofs.Common.{◌≡◌, ℕ, List, [], Bool, true, false, Result, Ok, Err, Box, Global, map, None, Option, Some, option_map, refl, sym, ap, ap₂, ◌∙◌, subst}
use Rattle.std.specs.Result.{IsErrAnd}
use Rattle.lalrpop_norm_faults.specs.declared.failure.NormFailure.{NormFailure}
use Rattle.lalrpop_norm_faults.specs.Faults.{IsFirst}
use Rattle.lalrpop_norm_tree_names.specs.declared.names.NonterminalString.{NonterminalString}
use Rattle.lalrpop_norm_tree_names.specs.declared.names.TerminalString.{TerminalString}
use Rattle.lalrpop_norm_tree.specs.declared.symbol.ArgPattern.{ArgPattern}
use Rattle.lalrpop_norm_tree.specs.declared.symbol.Name.{Name}
use Rattle.lalrpop_norm_tree.specs.declared.symbol.RepeatOp.{RepeatOp}
use Rattle.lalrpop_norm_tree.specs.declared.symbol.RepeatOp.TheVariants.{Star, Plus, Question, Times}
use Rattle.lalrpop_norm_tree.specs.declared.symbol.RepeatSymbol.{RepeatSymbol}
use Rattle.lalrpop_norm_tree.specs.declared.symbol.Symbol.{Symbol}
use Rattle.lalrpop_norm_tree.specs.declared.symbol.SymbolKind.{SymbolKind}
use Rattle.lalrpop_norm_tree.specs.declared.symbol.SymbolKind.TheVariants as kind
use Rattle.lalrpop_norm_tree.specs.declared.symbol.Tuple.{Tuple}
use Rattle.lalrpop_norm_tree.specs.Symbols.{Kind, Part, Again, at, ambiguous_id, terminal, nonterminal, chosen, named, repeated, tupled, lookahead, lookbehind, error_terminal, kind_view, symbol_view, tuple_view, argument_pattern_view}
use Rattle.lalrpop_norm_tree.proofs.KindLevels.{repeat_is, chosen_is, named_is, tupled_is, lookahead_is, lookbehind_is, error_is, repeated_symbol}
use Rattle.lalrpop_norm_tree.proofs.SymbolViews.{ambiguous_seen, nonterminal_seen, terminal_seen}
use Rattle.lalrpop_norm_model.specs.MadeRules.{or_name}
use Rattle.lalrpop_norm_nodes.specs.Apart.{nowhere, unplaced, unplaced_kind}
use Rattle.lalrpop_norm_nodes.specs.declared.given.Environment.{Environment}
use Rattle.lalrpop_norm_nodes.specs.declared.given.Given.{Given}
use Rattle.lalrpop_norm_nodes.specs.declared.node.Node.{Node}
use Rattle.lalrpop_norm_nodes.specs.declared.node.Node.TheVariants as node
use Rattle.lalrpop_norm_nodes.specs.declared.node.Binary.TheVariants as binary
use Rattle.lalrpop_norm_nodes.specs.declared.node.Leaf.TheVariants as leaf
use Rattle.lalrpop_norm_nodes.specs.declared.node.NamedLeaf.TheVariants.{Rule}
use Rattle.lalrpop_norm_nodes.specs.declared.node.Unary.TheVariants as unary
use Rattle.lalrpop_norm_nodes.specs.declared.table.Table.{Table}
use Rattle.lalrpop_norm_nodes.specs.Filled.{filled_kind, inside_replaced}
use Rattle.lalrpop_norm_nodes.specs.Given.{given_to, shown_for, read_whole, kind_whole, kind_shown}
use Rattle.lalrpop_norm_nodes.specs.Meeting.{met_inside}
use Rattle.lalrpop_norm_nodes.specs.Readings.{IsNodeFor, repeat_node, named_node}
use Rattle.lalrpop_norm_nodes.specs.Reads.{NodeRead, SymbolRead, RepeatRead, KindRead}
use Rattle.lalrpop_norm_nodes.specs.Tables.{wholes_in, IsNodeTable, IsCounted, TableMeets, refused_in}
use Rattle.lalrpop_norm_nodes.specs.Waits.{parts_replaced, LeavesWaiting}
use Rattle.lalrpop_norm_nodes.specs.Wholes.{Whole, one_symbol, patterns, as_kind, kind_at, part_at, StandsFor}
use Rattle.lalrpop_norm_nodes.proofs.InsideReads.{tuple_for}
use Rattle.lalrpop_norm_nodes.proofs.MeetingLemmas.{err_refuses}
use Rattle.lalrpop_norm_nodes.proofs.MeetLemmas.{meets_nothing}
use Rattle.lalrpop_norm_nodes.proofs.ReadLemmas.{read_at}
use Rattle.lalrpop_norm_nodes.proofs.RowItems.{is_kind}
use Rattle.lalrpop_norm_nodes.proofs.RowReads.{meets_row, counted_row}
use Rattle.lalrpop_norm_nodes.proofs.RowRounds.{RowEntered}
use Rattle.lalrpop_norm_nodes.proofs.WaitLemmas.{waits_nothing, waits_row}

-- an error is passed on
pub refused_node : (r : Result Node NormFailure) (a b : Table) (xs ys : List Part) (Now : Type 0) (Is : Node → Type 0) (f : NormFailure) → IsErrAnd r (λ g. g ≡ f) → IsFirst (refused_in a xs) f →
    NodeRead r a b xs ys Now Is
refused_node (Ok n) a b xs ys Now Is f from h = absurd from
refused_node (Err g) a b xs ys Now Is f from h = record { refuses = err_refuses {T = Node} (Err g) f _ from h; meets = tt; counted = tt; waits = tt; value = tt; node = tt }

pub refused_kind : (r : Result Node NormFailure) (a b : Table) (e : Environment) (k l now : Kind) (f : NormFailure) → IsErrAnd r (λ g. g ≡ f) → k ≡ l →
    IsFirst (refused_in a (met_inside (kind_whole (wholes_in a) e l))) f → KindRead r a b e k now
refused_kind r a b e k l now f from is h = refused_node r a b _ _ _ _ f from (subst (λ (m : Kind). IsFirst (refused_in a (met_inside (kind_whole (wholes_in a) e m))) f) (sym is) h)

-- the same of what is seen as that kind
read_as : (r : Result Node NormFailure) (a b : Table) (e : Environment) (k l now : Kind) → k ≡ l → KindRead r a b e l now → KindRead r a b e k now
read_as r a b e k l now is h = subst (λ (x : Kind). KindRead r a b e x now) (sym is) h

-- ---- a symbol with nothing inside
leaf_read : (t : Table) (e : Environment) (k l now : Kind) (n : Node) → IsNodeTable t → IsCounted t → k ≡ l → met_inside (kind_whole (wholes_in t) e l) ≡ [] → met_inside (filled_kind (shown_for e) l) ≡ [] →
    now ≡ kind_shown e l → IsNodeFor (wholes_in t) n (kind_whole (wholes_in t) e l) → KindRead (Ok n) t t e k now
leaf_read t e k l now n table counted is none shown same for = read_as (Ok n) t t e k l now is (record {
  refuses = ap (refused_in t) none;
  meets = subst (λ (xs : List Part). TableMeets t t xs) (sym none) (meets_nothing t table);
  counted = counted;
  waits = subst (λ (xs : List Part). LeavesWaiting t t (map parts_replaced xs)) (sym shown) (waits_nothing t);
  value = same;
  node = for;
})

-- a name that is no argument's
free_read : (t : Table) (e : Environment) (k now : Kind) (a n : List ℕ) → IsNodeTable t → IsCounted t → given_to e k ≡ None → k ≡ nonterminal n → now ≡ nonterminal n → a ≡ n →
    KindRead (Ok (node.NamedLeaf Rule a)) t t e k now
free_read t e k now a n table counted free is same text = leaf_read t e k (nonterminal n) now (node.NamedLeaf Rule a) table counted is
    (ap met_inside whole) (ap met_inside shown) (same ∙ sym (ap inside_replaced shown)) (tt, ap (λ (x : List ℕ). one_symbol (nonterminal x)) text ∙ sym (ap (λ (l : Kind). one_symbol (unplaced_kind l)) whole))
  where
    none : given_to e (nonterminal n) ≡ None
    none = ap (given_to e) (sym is) ∙ free

    whole : kind_whole (wholes_in t) e (nonterminal n) ≡ nonterminal n
    whole = ap (λ (o : Option Given). or_name n (option_map (λ g. kind_at (wholes_in t) g.number) o)) none

    shown : filled_kind (shown_for e) (nonterminal n) ≡ nonterminal n
    shown = ap (λ (o : Option Given). or_name n (option_map (λ g. kind_view g.symbol.kind) o)) none

module _ (a : Table) (e : Environment) (k : SymbolKind) (table : IsNodeTable a) (made : IsCounted a) where
  pub lookahead_read : k ≡ kind.Lookahead → KindRead (Ok (node.Leaf leaf.Lookahead)) a a e (kind_view k) (kind_view k)
  lookahead_read is =
      let seen = lookahead_is k is in
      leaf_read a e (kind_view k) lookahead (kind_view k) (node.Leaf leaf.Lookahead) table made seen refl refl seen (tt, refl)

  pub lookbehind_read : k ≡ kind.Lookbehind → KindRead (Ok (node.Leaf leaf.Lookbehind)) a a e (kind_view k) (kind_view k)
  lookbehind_read is =
      let seen = lookbehind_is k is in
      leaf_read a e (kind_view k) lookbehind (kind_view k) (node.Leaf leaf.Lookbehind) table made seen refl refl seen (tt, refl)

  pub error_read : k ≡ kind.Error → KindRead (Ok (node.Leaf leaf.Error)) a a e (kind_view k) (kind_view k)
  error_read is =
      let seen = error_is k is in
      leaf_read a e (kind_view k) error_terminal (kind_view k) (node.Leaf leaf.Error) table made seen refl refl seen (tt, refl)

  pub ambiguous_read : (n m : List ℕ) → k ≡ kind.AmbiguousId n → m ≡ n → KindRead (Ok (node.NamedLeaf Rule m)) a a e (kind_view k) (kind_view (kind.AmbiguousId n))
  ambiguous_read n m is same =
      leaf_read a e (kind_view k) (ambiguous_id n) (kind_view (kind.AmbiguousId n)) (node.NamedLeaf Rule m) table made (ap kind_view is ∙ ambiguous_seen n) refl refl (ambiguous_seen n)
      (tt, ap (λ (x : List ℕ). one_symbol (nonterminal x)) same)

  pub terminal_read : (n m : TerminalString) → k ≡ kind.Terminal n → m ≡ n → KindRead (Ok (node.Terminal m)) a a e (kind_view k) (kind_view (kind.Terminal n))
  terminal_read n m is same =
      leaf_read a e (kind_view k) (terminal n) (kind_view (kind.Terminal n)) (node.Terminal m) table made (ap kind_view is ∙ terminal_seen n) refl refl (terminal_seen n)
      (tt, ap (λ (x : TerminalString). one_symbol (terminal x)) same)

  pub nonterminal_read : (n : NonterminalString) (m : List ℕ) → k ≡ kind.Nonterminal n → given_to e (kind_view k) ≡ None → m ≡ n.0 →
      KindRead (Ok (node.NamedLeaf Rule m)) a a e (kind_view k) (kind_view (kind.Nonterminal n))
  nonterminal_read n m is free same =
      free_read a e (kind_view k) (kind_view (kind.Nonterminal n)) m n.0 table made free (ap kind_view is ∙ nonterminal_seen n) (nonterminal_seen n) same

-- ---- nodes of what holds one symbol

module _ (ws vs : List Whole) (e : Environment) (s : Symbol) (n : ℕ) (h : StandsFor vs n (one_symbol (unplaced_kind (kind_whole ws e (kind_view s.kind))))) where
  held : part_at vs n ≡ unplaced (read_whole ws e (symbol_view s))
  held = ap (λ o. at nowhere (as_kind o)) h ∙ sym (ap unplaced (read_at ws e s))

  chosen_for : IsNodeFor vs (node.Unary unary.Chosen n) (kind_whole ws e (chosen (symbol_view s)))
  chosen_for = (is_kind vs n _ h, ap (λ (p : Part). one_symbol (chosen p)) held)

  repeated_for : (op : RepeatOp) → IsNodeFor vs (repeat_node op n) (kind_whole ws e (repeated op (symbol_view s)))
  repeated_for Star = (is_kind vs n _ h, ap (λ (p : Part). one_symbol (repeated Star p)) held)
  repeated_for Plus = (is_kind vs n _ h, ap (λ (p : Part). one_symbol (repeated Plus p)) held)
  repeated_for Question = (is_kind vs n _ h, ap (λ (p : Part). one_symbol (repeated Question p)) held)
  repeated_for (Times c) = (is_kind vs n _ h, ap (λ (p : Part). one_symbol (repeated (Times c) p)) held)

  named_for : (a : Name) → IsNodeFor vs (named_node a n) (kind_whole ws e (named a (symbol_view s)))
  named_for a = by a.mutable a.name
    where
      by : (m : Bool) (x : List ℕ) → IsNodeFor vs (named_node (record { mutable = m; name = x }) n) (kind_whole ws e (named (record { mutable = m; name = x }) (symbol_view s)))
      by true x = (is_kind vs n _ h, ap (λ (p : Part). one_symbol (named (record { mutable = true; name = x }) p)) held)
      by false x = (is_kind vs n _ h, ap (λ (p : Part). one_symbol (named (record { mutable = false; name = x }) p)) held)

pub again_is : (k : SymbolKind) (b : Box RepeatSymbol Global) → k ≡ kind.Repeat b → kind_view k ≡ repeated b.value.op (symbol_view b.value.symbol)
again_is k b is = repeat_is k b is ∙ ap (λ (r : Again). repeated r.0 r.1) (repeated_symbol b.value)

module _ (a b : Table) (e : Environment) (k : SymbolKind) where
  pub chosen_read : (s now : Box Symbol Global) (n : ℕ) → k ≡ kind.Choose s → SymbolRead (Ok n) a b e s.value (symbol_view now.value) →
      KindRead (Ok (node.Unary unary.Chosen n)) a b e (kind_view k) (kind_view (kind.Choose now))
  chosen_read s now n is r = read_as (Ok (node.Unary unary.Chosen n)) a b e (kind_view k) (chosen (symbol_view s.value)) (kind_view (kind.Choose now)) (chosen_is k s is) (record {
    refuses = r.refuses;
    meets = r.meets;
    counted = r.counted;
    waits = r.waits;
    value = chosen_is (kind.Choose now) now refl ∙ ap chosen r.value;
    node = chosen_for (wholes_in a) (wholes_in b) e s.value n r.number;
  })

  pub named_read : (x : Name) (s now : Box Symbol Global) (n : ℕ) (m : Node) → k ≡ kind.Name x s → m ≡ named_node x n → SymbolRead (Ok n) a b e s.value (symbol_view now.value) →
      KindRead (Ok m) a b e (kind_view k) (kind_view (kind.Name x now))
  named_read x s now n m is same r = read_as (Ok m) a b e (kind_view k) (named x (symbol_view s.value)) (kind_view (kind.Name x now)) (named_is k x s is) (record {
    refuses = r.refuses;
    meets = r.meets;
    counted = r.counted;
    waits = r.waits;
    value = named_is (kind.Name x now) x now refl ∙ ap (named x) r.value;
    node = subst (λ (o : Node). IsNodeFor (wholes_in b) o (kind_whole (wholes_in a) e (named x (symbol_view s.value)))) (sym same) (named_for (wholes_in a) (wholes_in b) e s.value n r.number x);
  })

  pub tuple_read : (d : Table) (x : Tuple) (ps : List ArgPattern) (s now : Box Symbol Global) (n i : ℕ) → k ≡ kind.Tuple x s → ps ≡ x.tuples.items →
      SymbolRead (Ok n) a b e s.value (symbol_view now.value) → RowEntered b d i (patterns (map argument_pattern_view ps)) →
      KindRead (Ok (node.Binary binary.Tuple i n)) a d e (kind_view k) (kind_view (kind.Tuple x now))
  tuple_read d x ps s now n i is held r m =
      let l = tupled (tuple_view x) (symbol_view s.value) in
      read_as (Ok (node.Binary binary.Tuple i n)) a d e (kind_view k) l (kind_view (kind.Tuple x now)) (tupled_is k x s is) (record {
        refuses = r.refuses;
        meets = meets_row a b d _ r.meets m.meets;
        counted = counted_row b d r.counted m.counted m.meets;
        waits = waits_row a b d _ r.waits r.meets.table m.meets m.waiting;
        value = tupled_is (kind.Tuple x now) x now refl ∙ ap (tupled (tuple_view x)) r.value;
        node = tuple_for (wholes_in a) (wholes_in b) (wholes_in d) e x s.value l i n refl m.meets.grows r.number (m.number ∙ ap (λ (qs : List ArgPattern). Some (patterns (map argument_pattern_view qs))) held);
      })

  pub repeated_read : (s now : Box RepeatSymbol Global) (n : ℕ) (m : Node) → k ≡ kind.Repeat s → m ≡ repeat_node now.value.op n →
      RepeatRead (Ok n) a b e s.value now.value.op (symbol_view now.value.symbol) → KindRead (Ok m) a b e (kind_view k) (kind_view (kind.Repeat now))
  repeated_read s now n m is same r =
      let x = s.value in
      let l = repeated x.op (symbol_view x.symbol) in
      read_as (Ok m) a b e (kind_view k) l (kind_view (kind.Repeat now)) (again_is k s is) (record {
        refuses = r.refuses;
        meets = r.meets;
        counted = r.counted;
        waits = r.waits;
        value = again_is (kind.Repeat now) now refl ∙ ap₂ repeated r.op r.value;
        node = subst (λ (o : Node). IsNodeFor (wholes_in b) o (kind_whole (wholes_in a) e l)) (sym (same ∙ ap (λ (o : RepeatOp). repeat_node o n) r.op))
            (repeated_for (wholes_in a) (wholes_in b) e x.symbol n r.number x.op);
      })
