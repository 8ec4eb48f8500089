-- What the walks over symbols go down by: what a symbol holds is less deep than the symbol.
use Rattle.std.proofs.Common.{◌≡◌, ℕ, ◌+◌, ◌*◌, ◌<◌, length, get_or, List, Box, Global, arith}
use denote.Param.Weighed.{most, at_most}
use Rattle.lalrpop_norm_tree.specs.declared.symbol.ExprSymbol.{ExprSymbol}
use Rattle.lalrpop_norm_tree.specs.declared.symbol.MacroSymbol.{MacroSymbol}
use Rattle.lalrpop_norm_tree.specs.declared.symbol.Name.{Name}
use Rattle.lalrpop_norm_tree.specs.declared.symbol.RepeatSymbol.{RepeatSymbol}
use Rattle.lalrpop_norm_tree.specs.declared.symbol.Symbol.{Symbol}
use Rattle.lalrpop_norm_tree.specs.declared.symbol.SymbolKind.{SymbolKind}
use Rattle.lalrpop_norm_tree.specs.declared.symbol.SymbolKind.TheVariants as kind
use Rattle.lalrpop_norm_tree.specs.declared.symbol.SymbolKind.TheViews.{size-Symbol, size-SymbolKind, size-RepeatSymbol, size-ExprSymbol, size-MacroSymbol, size_is-Symbol, size_is-RepeatSymbol, size_is-ExprSymbol, size_is-MacroSymbol, sized-Choose, sized-Name, sized-Tuple, sized-Repeat, sized-Expr, sized-Macro, out-ExprSymbol, out-MacroSymbol}
use Rattle.lalrpop_norm_tree.specs.declared.symbol.Tuple.{Tuple}

module _ (t : ℕ) where
  pub to_kind : (s : Symbol) → 2 * size-Symbol s + 0 ≡ t → 2 * size-SymbolKind s.kind + 0 < t
  to_kind s is = omega (arith, size_is-Symbol s)

  pub to_items : (e : ExprSymbol) (ss : List Symbol) → ss ≡ (out-ExprSymbol e).symbols.items → 2 * size-ExprSymbol e + 0 ≡ t → 2 * most size-Symbol ss + 1 < t
  to_items e ss at is = rw (at) (omega (arith, size_is-ExprSymbol e))

  pub to_arguments : (m : MacroSymbol) (ss : List Symbol) → ss ≡ (out-MacroSymbol m).args.items → 2 * size-MacroSymbol m + 0 ≡ t → 2 * most size-Symbol ss + 1 < t
  to_arguments m ss at is = rw (at) (omega (arith, size_is-MacroSymbol m))

  pub to_again : (r : RepeatSymbol) → 2 * size-RepeatSymbol r + 0 ≡ t → 2 * size-Symbol r.symbol + 0 < t
  to_again r is = omega (arith, size_is-RepeatSymbol r)

  pub to_boxed : (s b : Symbol) → s ≡ b → 2 * size-Symbol b + 1 ≡ t → 2 * size-Symbol s + 0 < t
  to_boxed s b at is = rw (at) (omega arith)

  pub to_repeated : (r b : RepeatSymbol) → r ≡ b → 2 * size-RepeatSymbol b + 1 ≡ t → 2 * size-RepeatSymbol r + 0 < t
  to_repeated r b at is = rw (at) (omega arith)

  pub to_one : (ss : List Symbol) (i : ℕ) (s : Symbol) → i < length ss → s ≡ get_or ss i s → 2 * most size-Symbol ss + 1 ≡ t → 2 * size-SymbolKind s.kind + 0 < t
  to_one ss i s h at is = rw (at) (omega (arith, at_most size-Symbol ss i s h, size_is-Symbol (get_or ss i s)))

  module _ (k : SymbolKind) where
    pub to_group : (e : ExprSymbol) → k ≡ kind.Expr e → 2 * size-SymbolKind k + 0 ≡ t → 2 * size-ExprSymbol e + 1 < t
    to_group e of is = omega (arith, rw (of) at is, sized-Expr e)

    pub to_call : (m : MacroSymbol) → k ≡ kind.Macro m → 2 * size-SymbolKind k + 0 ≡ t → 2 * size-MacroSymbol m + 1 < t
    to_call m of is = omega (arith, rw (of) at is, sized-Macro m)

    pub to_repeat : (b : Box RepeatSymbol Global) → k ≡ kind.Repeat b → 2 * size-SymbolKind k + 0 ≡ t → 2 * size-RepeatSymbol b.value + 1 < t
    to_repeat b of is = omega (arith, rw (of) at is, sized-Repeat b)

    pub to_chosen : (b : Box Symbol Global) → k ≡ kind.Choose b → 2 * size-SymbolKind k + 0 ≡ t → 2 * size-Symbol b.value + 1 < t
    to_chosen b of is = omega (arith, rw (of) at is, sized-Choose b)

    pub to_named : (n : Name) (b : Box Symbol Global) → k ≡ kind.Name n b → 2 * size-SymbolKind k + 0 ≡ t → 2 * size-Symbol b.value + 1 < t
    to_named n b of is = omega (arith, rw (of) at is, sized-Name n b)

    pub to_tupled : (x : Tuple) (b : Box Symbol Global) → k ≡ kind.Tuple x b → 2 * size-SymbolKind k + 0 ≡ t → 2 * size-Symbol b.value + 1 < t
    to_tupled x b of is = omega (arith, rw (of) at is, sized-Tuple x b)

    -- the walk that writes goes to what a box holds
    pub shows_group : (e : ExprSymbol) → k ≡ kind.Expr e → 2 * size-SymbolKind k + 0 ≡ t → 2 * size-ExprSymbol e + 0 < t
    shows_group e of is = omega (arith, to_group e of is)

    pub shows_call : (m : MacroSymbol) → k ≡ kind.Macro m → 2 * size-SymbolKind k + 0 ≡ t → 2 * size-MacroSymbol m + 0 < t
    shows_call m of is = omega (arith, to_call m of is)

    pub shows_repeat : (b : Box RepeatSymbol Global) (r : RepeatSymbol) → k ≡ kind.Repeat b → r ≡ b.value → 2 * size-SymbolKind k + 0 ≡ t → 2 * size-RepeatSymbol r + 0 < t
    shows_repeat b r of at is = rw (at) (omega (arith, to_repeat b of is))

    pub shows_chosen : (b : Box Symbol Global) (s : Symbol) → k ≡ kind.Choose b → s ≡ b.value → 2 * size-SymbolKind k + 0 ≡ t → 2 * size-Symbol s + 1 < t
    shows_chosen b s of at is = rw (at) (to_chosen b of is)

    pub shows_named : (n : Name) (b : Box Symbol Global) (s : Symbol) → k ≡ kind.Name n b → s ≡ b.value → 2 * size-SymbolKind k + 0 ≡ t → 2 * size-Symbol s + 1 < t
    shows_named n b s of at is = rw (at) (to_named n b of is)

    pub shows_tupled : (x : Tuple) (b : Box Symbol Global) (s : Symbol) → k ≡ kind.Tuple x b → s ≡ b.value → 2 * size-SymbolKind k + 0 ≡ t → 2 * size-Symbol s + 0 < t
    shows_tupled x b s of at is = rw (at) (omega (arith, to_tupled x b of is))

pub less : (a t : ℕ) → 2 * a + 1 ≡ t → 2 * a + 0 < t
less a t is = omega arith
