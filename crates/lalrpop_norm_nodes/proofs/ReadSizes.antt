-- What the walk over symbols goes down by: what a symbol holds is less deep than the symbol.
use Rattle.std.proofs.Common.{◌≡◌, ℕ, ◌+◌, ◌*◌, ◌<◌, ◌≤◌, length, get_or, slice_index_or, List, arith}
use denote.Param.Weighed.{most, at_most}
use Rattle.lalrpop_norm_tree.specs.declared.symbol.ExprSymbol.{ExprSymbol}
use Rattle.lalrpop_norm_tree.specs.declared.symbol.MacroSymbol.{MacroSymbol}
use Rattle.lalrpop_norm_tree.specs.declared.symbol.RepeatSymbol.{RepeatSymbol}
use Rattle.lalrpop_norm_tree.specs.declared.symbol.Symbol.{Symbol}
use Rattle.lalrpop_norm_tree.specs.declared.symbol.SymbolKind.TheViews.{size-Symbol, size-SymbolKind, size-RepeatSymbol, size-ExprSymbol, size-MacroSymbol, size_is-Symbol, size_is-RepeatSymbol, size_is-ExprSymbol, size_is-MacroSymbol, out-ExprSymbol, out-MacroSymbol}

module _ (t : ℕ) where
  pub to_kind : (s : Symbol) → 2 * size-Symbol s + 0 ≡ t → 2 * size-SymbolKind s.kind + 0 < t
  to_kind s is = omega (arith, size_is-Symbol s)

  pub to_boxed : (s b : Symbol) → s ≡ b → 2 * size-Symbol b + 1 ≡ t → 2 * size-Symbol s + 0 < t
  to_boxed s b at is = rw (at) (omega arith)

  pub to_repeated : (x r : RepeatSymbol) → x ≡ r → 2 * size-RepeatSymbol r + 1 ≡ t → 2 * size-Symbol x.symbol + 0 < t
  to_repeated x r at is = rw (at) (omega (arith, size_is-RepeatSymbol r))

  pub to_items : (g : ExprSymbol) (ss : List Symbol) → ss ≡ (out-ExprSymbol g).symbols.items → 2 * size-ExprSymbol g + 0 ≡ t → 2 * most size-Symbol ss + 1 < t
  to_items g ss at is = rw (at) (omega (arith, size_is-ExprSymbol g))

  pub to_arguments : (m : MacroSymbol) (ss : List Symbol) → ss ≡ (out-MacroSymbol m).args.items → 2 * size-MacroSymbol m + 0 ≡ t → 2 * most size-Symbol ss + 1 < t
  to_arguments m ss at is = rw (at) (omega (arith, size_is-MacroSymbol m))

  pub to_one : (now ss : List Symbol) (i : ℕ) (d : Symbol) → i < length ss → ((k : ℕ) (x : Symbol) → i ≤ k → slice_index_or now k x ≡ slice_index_or ss k x) →
      2 * most size-Symbol ss + 1 ≡ t → 2 * size-Symbol (get_or now i d) + 0 < t
  to_one now ss i d h rest is = rw (rest i d (omega arith)) (omega (arith, at_most size-Symbol ss i d h))
