-- One level of a symbol and of an argument's pattern as data: what one of each kind is seen as, over what its parts are seen as.
use Rattle.std.proofs.Common.{◌≡◌, List, ℕ, Box, Global, sym, ap, ◌∙◌}
use Rattle.lalrpop_norm_tree_names.specs.declared.names.NonterminalString.{NonterminalString}
use Rattle.lalrpop_norm_tree_names.specs.declared.names.TerminalString.{TerminalString}
use Rattle.lalrpop_norm_tree.specs.declared.symbol.ArgPattern.{ArgPattern}
use Rattle.lalrpop_norm_tree.specs.declared.symbol.ArgPattern.TheFolds.{fold-roll-ArgPattern, fold_out-Tuple}
use Rattle.lalrpop_norm_tree.specs.declared.symbol.ArgPattern.TheOpen.{ArgPattern-F}
use Rattle.lalrpop_norm_tree.specs.declared.symbol.ArgPattern.TheVariants as pattern
use Rattle.lalrpop_norm_tree.specs.declared.symbol.ArgPattern.TheViews as pattern_level
use Rattle.lalrpop_norm_tree.specs.declared.symbol.ExprSymbol.{ExprSymbol}
use Rattle.lalrpop_norm_tree.specs.declared.symbol.MacroSymbol.{MacroSymbol}
use Rattle.lalrpop_norm_tree.specs.declared.symbol.Name.{Name}
use Rattle.lalrpop_norm_tree.specs.declared.symbol.RepeatSymbol.{RepeatSymbol}
use Rattle.lalrpop_norm_tree.specs.declared.symbol.Symbol.{Symbol}
use Rattle.lalrpop_norm_tree.specs.declared.symbol.SymbolKind.{SymbolKind}
use Rattle.lalrpop_norm_tree.specs.declared.symbol.SymbolKind.TheFolds.{fold-roll-SymbolKind, fold_out-ExprSymbol, fold_out-MacroSymbol, fold_out-RepeatSymbol}
use Rattle.lalrpop_norm_tree.specs.declared.symbol.SymbolKind.TheOpen.{SymbolKind-F}
use Rattle.lalrpop_norm_tree.specs.declared.symbol.SymbolKind.TheVariants as kind
use Rattle.lalrpop_norm_tree.specs.declared.symbol.SymbolKind.TheViews.{out-ExprSymbol, out-MacroSymbol, rolls-Expr, rolls-Macro, rolls-Repeat, rolls-Choose, rolls-Name, rolls-Tuple, rolls-Lookahead, rolls-Lookbehind, rolls-Error}
use Rattle.lalrpop_norm_tree.specs.declared.symbol.Tuple.{Tuple}
use Rattle.lalrpop_norm_tree.specs.Symbols.{ArgumentPattern, ArgumentPatterns, one_name, several, argument_pattern_step, tuple_step, argument_pattern_view, tuple_view, argument_patterns_view}
use Rattle.lalrpop_norm_tree.specs.Symbols.{Kind, group, call, repeated, chosen, named, tupled, lookahead, lookbehind, error_terminal, Part, Parts, Call, Again, kind_step, expr_step, macro_step, repeat_step, symbol_step, kind_view, symbol_view, expr_view, macro_view, repeat_view, parts_view}

module _ (k : SymbolKind) where
  pub group_is : (e : ExprSymbol) → k ≡ kind.Expr e → kind_view k ≡ group (expr_view e)
  group_is e is = ap kind_view (is ∙ sym (rolls-Expr e)) ∙ fold-roll-SymbolKind Kind Parts Call Again Part kind_step expr_step macro_step repeat_step symbol_step (SymbolKind-F.Expr e)

  pub call_is : (m : MacroSymbol) → k ≡ kind.Macro m → kind_view k ≡ call (macro_view m).0 (macro_view m).1
  call_is m is = ap kind_view (is ∙ sym (rolls-Macro m)) ∙ fold-roll-SymbolKind Kind Parts Call Again Part kind_step expr_step macro_step repeat_step symbol_step (SymbolKind-F.Macro m)

  pub repeat_is : (b : Box RepeatSymbol Global) → k ≡ kind.Repeat b → kind_view k ≡ repeated (repeat_view b.value).0 (repeat_view b.value).1
  repeat_is b is = ap kind_view (is ∙ sym (rolls-Repeat b)) ∙ fold-roll-SymbolKind Kind Parts Call Again Part kind_step expr_step macro_step repeat_step symbol_step (SymbolKind-F.Repeat b)

  pub chosen_is : (b : Box Symbol Global) → k ≡ kind.Choose b → kind_view k ≡ chosen (symbol_view b.value)
  chosen_is b is = ap kind_view (is ∙ sym (rolls-Choose b)) ∙ fold-roll-SymbolKind Kind Parts Call Again Part kind_step expr_step macro_step repeat_step symbol_step (SymbolKind-F.Choose b)

  pub named_is : (n : Name) (b : Box Symbol Global) → k ≡ kind.Name n b → kind_view k ≡ named n (symbol_view b.value)
  named_is n b is = ap kind_view (is ∙ sym (rolls-Name n b)) ∙ fold-roll-SymbolKind Kind Parts Call Again Part kind_step expr_step macro_step repeat_step symbol_step (SymbolKind-F.Name n b)

  pub tupled_is : (t : Tuple) (b : Box Symbol Global) → k ≡ kind.Tuple t b → kind_view k ≡ tupled (tuple_view t) (symbol_view b.value)
  tupled_is t b is = ap kind_view (is ∙ sym (rolls-Tuple t b)) ∙ fold-roll-SymbolKind Kind Parts Call Again Part kind_step expr_step macro_step repeat_step symbol_step (SymbolKind-F.Tuple t b)

  pub lookahead_is : k ≡ kind.Lookahead → kind_view k ≡ lookahead
  lookahead_is is = ap kind_view (is ∙ sym rolls-Lookahead) ∙ fold-roll-SymbolKind Kind Parts Call Again Part kind_step expr_step macro_step repeat_step symbol_step SymbolKind-F.Lookahead

  pub lookbehind_is : k ≡ kind.Lookbehind → kind_view k ≡ lookbehind
  lookbehind_is is = ap kind_view (is ∙ sym rolls-Lookbehind) ∙ fold-roll-SymbolKind Kind Parts Call Again Part kind_step expr_step macro_step repeat_step symbol_step SymbolKind-F.Lookbehind

  pub error_is : k ≡ kind.Error → kind_view k ≡ error_terminal
  error_is is = ap kind_view (is ∙ sym rolls-Error) ∙ fold-roll-SymbolKind Kind Parts Call Again Part kind_step expr_step macro_step repeat_step symbol_step SymbolKind-F.Error

module _ (e : ExprSymbol) where
  pub symbols_of : expr_view e ≡ parts_view (out-ExprSymbol e).symbols.items
  symbols_of = fold_out-ExprSymbol Kind Parts Call Again Part kind_step expr_step macro_step repeat_step symbol_step e

module _ (m : MacroSymbol) where
  pub called_with : macro_view m ≡ ((out-MacroSymbol m).name.0, parts_view (out-MacroSymbol m).args.items)
  called_with = fold_out-MacroSymbol Kind Parts Call Again Part kind_step expr_step macro_step repeat_step symbol_step m

pub repeated_symbol : (r : RepeatSymbol) → repeat_view r ≡ (r.op, symbol_view r.symbol)
repeated_symbol r = fold_out-RepeatSymbol Kind Parts Call Again Part kind_step expr_step macro_step repeat_step symbol_step r

pub name_is : (p : ArgPattern) (n : Name) → p ≡ pattern.Name n → argument_pattern_view p ≡ one_name n
name_is p n is = ap argument_pattern_view (is ∙ sym (pattern_level.rolls-Name n)) ∙ fold-roll-ArgPattern ArgumentPattern ArgumentPatterns argument_pattern_step tuple_step (ArgPattern-F.Name n)

module _ (t : Tuple) where
  pub names_of : tuple_view t ≡ argument_patterns_view t.tuples.items
  names_of = fold_out-Tuple ArgumentPattern ArgumentPatterns argument_pattern_step tuple_step t

  pub several_is : (p : ArgPattern) → p ≡ pattern.Tuple t → argument_pattern_view p ≡ several (tuple_view t)
  several_is p is = ap argument_pattern_view (is ∙ sym (pattern_level.rolls-Tuple t)) ∙ fold-roll-ArgPattern ArgumentPattern ArgumentPatterns argument_pattern_step tuple_step (ArgPattern-F.Tuple t)
