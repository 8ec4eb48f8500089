-- Ground symbols: what a written symbol is once the arguments of its macro are substituted and each of its references has a
-- bound. Spans are no part of them: two ground symbols are the same if and only if they are equal.
use Rattle.std.specs.Prelude.{ℕ, zero, suc, Bool, List, Option}

-- a text, by its bytes
abbrev pub Name : Type 0
Name = List ℕ

-- a terminal: a quoted literal, the literal of a regular expression, a bare name, or the error terminal
pub data Terminal : Type 0 where
  quoted regex bare : Name → Terminal
  error_terminal : Terminal

-- a pattern of a tuple symbol: a name, with whether it is `mut`, or a tuple of patterns
mutual
  pub data ClosedPattern : Type 0 where
    name_pattern : Bool → Name → ClosedPattern
    tuple_pattern : ClosedPatterns → ClosedPattern

  pub data ClosedPatterns : Type 0 where
    no_patterns : ClosedPatterns
    pattern_and : ClosedPattern → ClosedPatterns → ClosedPatterns

-- what is around a symbol and adds nothing to its trees: `<X>`, `<x:X>` or `<mut x:X>`, `<(x, y):X>`
pub data Wrapper : Type 0 where
  chosen : Wrapper
  named : Bool → Name → Wrapper
  tuple : ClosedPatterns → Wrapper

-- A ground symbol. A reference names a nonterminal and has, as its bound, a level's number. One without a bound is that
-- of a rule without levels, or of a rule taken by itself. `!` is a symbol of its own, and no terminal.
mutual
  pub data ClosedSymbol : Type 0 where
    terminal : Terminal → ClosedSymbol
    error : ClosedSymbol
    reference : Name → Option ℕ → ClosedSymbol
    call : Name → ClosedSymbols → ClosedSymbol
    group : ClosedSymbols → ClosedSymbol
    star plus question : ClosedSymbol → ClosedSymbol
    times : ℕ → ClosedSymbol → ClosedSymbol
    wrapped : Wrapper → ClosedSymbol → ClosedSymbol
    lookahead lookbehind : ClosedSymbol

  pub data ClosedSymbols : Type 0 where
    no_symbols : ClosedSymbols
    symbol_and : ClosedSymbol → ClosedSymbols → ClosedSymbols

-- a single symbol
abbrev pub only : ClosedSymbol → ClosedSymbols
only g = symbol_and g no_symbols

-- one symbol, repeated a number of times
abbrev pub replicated : ℕ → ClosedSymbol → ClosedSymbols
replicated zero g = no_symbols
replicated (suc n) g = symbol_and g (replicated n g)
