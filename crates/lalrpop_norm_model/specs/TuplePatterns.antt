-- Tuple patterns over symbols, and the types that they fit.
use Rattle.std.specs.Prelude.{◌≡◌, ℕ, Bool, true, false, ◌&&◌, List, [], ◌∷◌, ◌++◌, map, flat_map, Option}
use Rattle.std.specs.Prelude.{Some, None, if◌then◌else◌}
use Rattle.lalrpop_norm_tree.specs.Items.{AlternativeData, RuleData, GrammarData}
use Rattle.lalrpop_norm_tree_parts.specs.Reprs.{ReprData, Reprs, tuple, no_reprs, repr_and}
use Rattle.lalrpop_norm_tree.specs.Symbols.{ArgumentPattern, ArgumentPatterns, one_name, several, no_arguments, argument_and}
use Rattle.lalrpop_norm_tree.specs.Symbols.{Kind, Part, Parts, nonterminal, tupled, at, no_parts, part_and}
use Rattle.lalrpop_norm_faults.specs.Faults.{Fault}
use Rattle.lalrpop_norm_faults.specs.declared.kind.FaultKind.{FaultKind}
use Rattle.lalrpop_norm_faults.specs.declared.kind.FaultKind.TheVariants.{TupleOverSymbol, TupleOverType, TupleLength}
use Rattle.lalrpop_norm_theory.specs.Rounds.{In}
use Rattle.lalrpop_norm_model.specs.Expanded.{IsAlternative}
use Rattle.lalrpop_norm_model.specs.MadeRules.{kind_of, span_of}
use Rattle.lalrpop_norm_model.specs.PlainRules.{all_rules}
use Rattle.lalrpop_norm_model.specs.TypeRelation.{Has, HasOneType}
use Rattle.lalrpop_norm_model.specs.TypeTables.{Table}

-- a test of what is in a tuple type; any other type fails it
abbrev pub in_tuple : (Reprs → Bool) → ReprData → Bool
in_tuple test (tuple ts) = test ts
in_tuple test _ = false

-- a name fits each type, and a tuple pattern a tuple type of as many types, which its patterns fit in turn
abbrev mutual
  pub pattern_fits : ArgumentPattern → ReprData → Bool
  pattern_fits (one_name n) x = true
  pattern_fits (several ps) x = in_tuple (fit_all ps) x

  pub fit_all : ArgumentPatterns → Reprs → Bool
  fit_all no_arguments no_reprs = true
  fit_all (argument_and p ps) (repr_and x xs) = pattern_fits p x && fit_all ps xs
  fit_all _ _ = false

-- ---- what does not fit

-- as many patterns as types
abbrev pub as_many : ArgumentPatterns → Reprs → Bool
as_many no_arguments no_reprs = true
as_many (argument_and p ps) (repr_and x xs) = as_many ps xs
as_many _ _ = false

-- what is wrong over a type, where `long` tests the length of a tuple and `each` lists what is wrong in one
abbrev pub over_tuple : (Reprs → Bool) → (Reprs → List FaultKind) → ReprData → List FaultKind
over_tuple long each (tuple ts) = if long ts then each ts else TupleLength ∷ []
over_tuple long each _ = TupleOverType ∷ []

-- what is wrong with a pattern over a type, a tuple before what is nested in it
abbrev mutual
  pub misfits : ArgumentPattern → ReprData → List FaultKind
  misfits (one_name n) x = []
  misfits (several ps) x = over_tuple (as_many ps) (misfits_of ps) x

  pub misfits_of : ArgumentPatterns → Reprs → List FaultKind
  misfits_of (argument_and p ps) (repr_and x xs) = misfits p x ++ misfits_of ps xs
  misfits_of _ _ = []

-- ---- tuple symbols

-- a tuple symbol of an alternative: its patterns, and the symbol behind them
abbrev pub Pattern : Type 0
Pattern = ArgumentPatterns × Part

abbrev pub tuple_symbols : Parts → List Pattern
tuple_symbols no_parts = []
tuple_symbols (part_and (at s (tupled ns p)) ps) = (ns, p) ∷ tuple_symbols ps
tuple_symbols (part_and (at s k) ps) = tuple_symbols ps

-- a tuple pattern is before a nonterminal, and fits its type
pub record PatternFits (g : GrammarData) (p : Pattern) : Type 0 where
  pub name : List ℕ
  pub type : ReprData
  pub nonterminal_below : kind_of p.1 ≡ nonterminal name
  pub has : Has g name type
  pub fitting : pattern_fits (several p.0) type ≡ true

-- each tuple symbol of an alternative fits
abbrev pub PatternsFit : GrammarData → Type 0
PatternsFit g = (a : AlternativeData) → IsAlternative g a → (p : Pattern) → In p (tuple_symbols a.parts) → PatternFits g p

-- what inference asks for: each rule has exactly one type, and the tuple patterns fit
pub record IsTypable (g : GrammarData) : Type 0 where
  pub one_type : HasOneType g
  pub patterns : PatternsFit g

-- ---- what is wrong with tuple symbols by a table

-- patterns over the type of a name; where it has none that is no tuple type
abbrev pub over_found : ArgumentPatterns → Option ReprData → List FaultKind
over_found ns None = TupleOverType ∷ []
over_found ns (Some x) = misfits (several ns) x

abbrev pub over_kind : Table → ArgumentPatterns → Kind → List FaultKind
over_kind f ns (nonterminal n) = over_found ns (f n)
over_kind f ns _ = TupleOverSymbol ∷ []

-- what is wrong with a tuple symbol, at the symbol below it
abbrev pub symbol_misfits : Table → Pattern → List Fault
symbol_misfits f p = map (λ k. (k, span_of p.1)) (over_kind f p.0 (kind_of p.1))

abbrev pub alternative_misfits : Table → AlternativeData → List Fault
alternative_misfits f a = flat_map (symbol_misfits f) (tuple_symbols a.parts)

abbrev pub rule_misfits : Table → RuleData → List Fault
rule_misfits f r = flat_map (alternative_misfits f) r.alternatives

-- what is wrong with the tuple symbols of a grammar, also of rules with a declared type
abbrev pub pattern_misfits : GrammarData → Table → List Fault
pattern_misfits g f = flat_map (rule_misfits f) (all_rules g)
