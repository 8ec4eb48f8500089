-- Two symbols are equal up to spans if and only if they are equal with their spans taken off.
use Rattle.std.proofs.Common.{◌≡◌, ◌↔◌, ℕ, ◌+◌, Bool, true, refl, sym, ap, ap₂, ◌∙◌}
use Rattle.std.specs.Prelude.{IsTrue}
use Rattle.lalrpop_norm_tree_names.specs.declared.names.TerminalString.{TerminalString}
use Rattle.lalrpop_norm_tree_names.specs.declared.names.TerminalString.TheVariants.{Literal, Bare, Error}
use Rattle.lalrpop_norm_tree_names.specs.declared.names.TerminalLiteral.{TerminalLiteral}
use Rattle.lalrpop_norm_tree_names.specs.declared.names.TerminalLiteral.TheVariants.{Quoted, Regex}
use Rattle.lalrpop_norm_tree.specs.declared.symbol.RepeatOp.{RepeatOp}
use Rattle.lalrpop_norm_tree.specs.declared.symbol.RepeatOp.TheVariants.{Star, Plus, Question, Times}
use Rattle.lalrpop_norm_tree.specs.Symbols as written
use Rattle.lalrpop_norm_tree.specs.Symbols.{Kind, Part, Parts, at, no_parts, part_and}
use Rattle.lalrpop_norm_theory.specs.Symbols.{Terminal, quoted, regex, bare, error_terminal, ClosedPattern, ClosedPatterns, name_pattern, tuple_pattern, no_patterns, pattern_and, Wrapper, chosen, named, tuple, ClosedSymbol, ClosedSymbols, terminal, error, reference, call, group, star, plus, question, times, wrapped, lookahead, lookbehind, no_symbols, symbol_and}
use Rattle.lalrpop_norm_theory.proofs.SameLemmas.{symbol_test}
use Rattle.lalrpop_norm_theory.proofs.BoolLemmas.{both_ways}
use Rattle.lalrpop_norm_model.specs.Occurrences.{count_part, count_parts}
use Rattle.lalrpop_norm_model.specs.Reading.{terminal_of, literal_terminal, closed_pattern_of, closed_patterns_of, repeat_of, read_kind, read_part, read_parts}
use Rattle.lalrpop_norm_model.specs.MadeRules.{flat_reader}
use Rattle.lalrpop_norm_model.specs.PlainRules.{same_apart_from_spans}
use Rattle.lalrpop_norm_nodes.specs.Apart.{nowhere, unplaced_kind, unplaced, all_unplaced}

-- ---- a ground symbol is read from the symbol with its spans taken off

mutual
  kind_closed : (b a before after : ℕ) (k : Kind) → read_kind flat_reader b a (unplaced_kind k) ≡ read_kind flat_reader before after k
  kind_closed b a before after (written.group ps) = ap group (parts_closed b a before after ps)
  kind_closed b a before after (written.call n ps) = ap (call n) (parts_closed b a before after ps)
  kind_closed b a before after (written.repeated op p) = ap (repeat_of op) (part_closed b a before after p)
  kind_closed b a before after (written.chosen p) = ap (wrapped chosen) (part_closed b a before after p)
  kind_closed b a before after (written.named n p) = ap (wrapped (named n.mutable n.name)) (part_closed b a before after p)
  kind_closed b a before after (written.tupled ns p) = ap (wrapped (tuple (closed_patterns_of ns))) (part_closed b a before after p)
  kind_closed b a before after _ = refl

  pub part_closed : (b a before after : ℕ) (p : Part) → read_part flat_reader b a (unplaced p) ≡ read_part flat_reader before after p
  part_closed b a before after (at s k) = kind_closed b a before after k

  parts_closed : (b a before after : ℕ) (ps : Parts) → read_parts flat_reader b a (all_unplaced ps) ≡ read_parts flat_reader before after ps
  parts_closed b a before after no_parts = refl
  parts_closed b a before after (part_and p ps) =
      ap₂ symbol_and
      (part_closed b (a + count_parts flat_reader.is_own (all_unplaced ps)) before (after + count_parts flat_reader.is_own ps) p)
      (parts_closed (b + count_part flat_reader.is_own (unplaced p)) a (before + count_part flat_reader.is_own p) after ps)

-- ---- and leads back to it

terminal_back : Terminal → TerminalString
terminal_back (quoted a) = Literal (Quoted a)
terminal_back (regex a) = Literal (Regex a)
terminal_back (bare a) = Bare a
terminal_back error_terminal = Error

mutual
  pattern_back : ClosedPattern → written.ArgumentPattern
  pattern_back (name_pattern m n) = written.one_name (record { mutable = m; name = n })
  pattern_back (tuple_pattern ps) = written.several (patterns_back ps)

  patterns_back : ClosedPatterns → written.ArgumentPatterns
  patterns_back no_patterns = written.no_arguments
  patterns_back (pattern_and p ps) = written.argument_and (pattern_back p) (patterns_back ps)

wrapped_back : Wrapper → Part → Kind
wrapped_back chosen p = written.chosen p
wrapped_back (named m n) p = written.named (record { mutable = m; name = n }) p
wrapped_back (tuple ps) p = written.tupled (patterns_back ps) p

mutual
  kind_back : ClosedSymbol → Kind
  kind_back (terminal a) = written.terminal (terminal_back a)
  kind_back error = written.error_terminal
  kind_back (reference n b) = written.nonterminal n
  kind_back (call n gs) = written.call n (parts_back gs)
  kind_back (group gs) = written.group (parts_back gs)
  kind_back (star g) = written.repeated Star (at nowhere (kind_back g))
  kind_back (plus g) = written.repeated Plus (at nowhere (kind_back g))
  kind_back (question g) = written.repeated Question (at nowhere (kind_back g))
  kind_back (times n g) = written.repeated (Times n) (at nowhere (kind_back g))
  kind_back (wrapped w g) = wrapped_back w (at nowhere (kind_back g))
  kind_back lookahead = written.lookahead
  kind_back lookbehind = written.lookbehind

  parts_back : ClosedSymbols → Parts
  parts_back no_symbols = no_parts
  parts_back (symbol_and g gs) = part_and (at nowhere (kind_back g)) (parts_back gs)

literal_is : (l : TerminalLiteral) → terminal_back (literal_terminal l) ≡ Literal l
unfolding terminal_back
literal_is (Quoted a) = refl
literal_is (Regex a) = refl

terminal_is : (t : TerminalString) → terminal_back (terminal_of t) ≡ t
unfolding terminal_back
terminal_is (Literal l) = literal_is l
terminal_is (Bare a) = refl
terminal_is Error = refl

mutual
  unfolding pattern_back patterns_back

  pattern_is : (p : written.ArgumentPattern) → pattern_back (closed_pattern_of p) ≡ p
  pattern_is (written.one_name n) = refl
  pattern_is (written.several ps) = ap written.several (patterns_are ps)

  patterns_are : (ps : written.ArgumentPatterns) → patterns_back (closed_patterns_of ps) ≡ ps
  patterns_are written.no_arguments = refl
  patterns_are (written.argument_and p ps) = ap₂ written.argument_and (pattern_is p) (patterns_are ps)

repeat_is : (op : RepeatOp) (g : ClosedSymbol) → kind_back (repeat_of op g) ≡ written.repeated op (at nowhere (kind_back g))
unfolding kind_back
repeat_is Star g = refl
repeat_is Plus g = refl
repeat_is Question g = refl
repeat_is (Times n) g = refl

mutual
  unfolding kind_back parts_back wrapped_back

  kind_is : (b a : ℕ) (k : Kind) → kind_back (read_kind flat_reader b a k) ≡ unplaced_kind k
  kind_is b a (written.terminal t) = ap written.terminal (terminal_is t)
  kind_is b a (written.group ps) = ap written.group (parts_are b a ps)
  kind_is b a (written.call n ps) = ap (written.call n) (parts_are b a ps)
  kind_is b a (written.repeated op p) = repeat_is op (read_part flat_reader b a p) ∙ ap (written.repeated op) (part_is b a p)
  kind_is b a (written.chosen p) = ap written.chosen (part_is b a p)
  kind_is b a (written.named n p) = ap (written.named n) (part_is b a p)
  kind_is b a (written.tupled ns p) = ap₂ written.tupled (patterns_are ns) (part_is b a p)
  kind_is b a _ = refl

  part_is : (b a : ℕ) (p : Part) → at nowhere (kind_back (read_part flat_reader b a p)) ≡ unplaced p
  part_is b a (at s k) = ap (at nowhere) (kind_is b a k)

  parts_are : (b a : ℕ) (ps : Parts) → parts_back (read_parts flat_reader b a ps) ≡ all_unplaced ps
  parts_are b a no_parts = refl
  parts_are b a (part_and p ps) =
      ap₂ part_and
      (part_is b (a + count_parts flat_reader.is_own ps) p)
      (parts_are (b + count_part flat_reader.is_own p) a ps)

-- ---- so the tests agree

pub unplaced_same : (p q : Part) → same_apart_from_spans p q ≡ true → unplaced p ≡ unplaced q
unplaced_same p q e =
    sym (part_is 0 0 p) ∙ ap (λ g. at nowhere (kind_back g)) (symbol_test.sound (read_part flat_reader 0 0 p) (read_part flat_reader 0 0 q) e) ∙ part_is 0 0 q

-- ---- spans are taken off once

mutual
  pub unplaced_twice : (k : Kind) → unplaced_kind (unplaced_kind k) ≡ unplaced_kind k
  unplaced_twice (written.group ps) = ap written.group (all_unplaced_twice ps)
  unplaced_twice (written.call n ps) = ap (written.call n) (all_unplaced_twice ps)
  unplaced_twice (written.repeated op p) = ap (written.repeated op) (part_unplaced_twice p)
  unplaced_twice (written.chosen p) = ap written.chosen (part_unplaced_twice p)
  unplaced_twice (written.named n p) = ap (written.named n) (part_unplaced_twice p)
  unplaced_twice (written.tupled ns p) = ap (written.tupled ns) (part_unplaced_twice p)
  unplaced_twice _ = refl

  part_unplaced_twice : (p : Part) → unplaced (unplaced p) ≡ unplaced p
  part_unplaced_twice (at s k) = ap (at nowhere) (unplaced_twice k)

  all_unplaced_twice : (ps : Parts) → all_unplaced (all_unplaced ps) ≡ all_unplaced ps
  all_unplaced_twice no_parts = refl
  all_unplaced_twice (part_and p ps) = ap₂ part_and (part_unplaced_twice p) (all_unplaced_twice ps)
