-- Rounds of small expansions, computed.
use Rattle.std.proofs.Common.{◌≡◌, ℕ, zero, List, [], ◌∷◌, refl}
use Rattle.std.specs.Prelude.{bytes_eq, if◌then◌else◌, length, Option, Some, None}
use Rattle.lalrpop_norm_theory.specs.Symbols.{Name, quoted, chosen, ClosedSymbol, ClosedSymbols, terminal, reference, call, group, star, plus, question, wrapped, lookahead, no_symbols, symbol_and, only}
use Rattle.lalrpop_norm_theory.specs.Meaning.{Meaning}
use Rattle.lalrpop_norm_theory.specs.Met.{expansion, expanded_symbols}

-- a text of one letter, and the quoted literal of it
abbrev pub letter : ℕ → Name
letter c = c ∷ []

abbrev pub literal : ℕ → ClosedSymbol
literal c = terminal (quoted (letter c))

-- a call of one argument
abbrev called : ℕ → ClosedSymbol → ClosedSymbol
called c x = call (letter c) (only x)

-- a group of two symbols
abbrev pair : ClosedSymbol → ClosedSymbol → ClosedSymbol
pair x y = group (symbol_and x (only y))

abbrev pub first_alternative : ClosedSymbols → ℕ → Option ClosedSymbols
first_alternative parts zero = Some parts
first_alternative parts _ = None

-- A grammar of the rule D alone, with the macros A, B and C:
-- A<I> = { "a" B<("." I)> }; B<I> = { "b" C<("," I)> }; C<I> = { "c" I };
abbrev pub body : Name → ClosedSymbol → ClosedSymbols
body m x =
    if bytes_eq m (letter 65) then symbol_and (literal 97) (only (called 66 (pair (literal 46) x)))
    else (if bytes_eq m (letter 66) then symbol_and (literal 98) (only (called 67 (pair (literal 44) x)))
    else symbol_and (literal 99) (only x))

abbrev pub macro_parts : Name → ClosedSymbols → ℕ → Option ClosedSymbols
macro_parts m (symbol_and x no_symbols) k = first_alternative (body m x) k
macro_parts m _ k = None

abbrev pub grammar_of : ClosedSymbols → Meaning
grammar_of parts = record {
  reference_parts = λ m b k. first_alternative parts k;
  reference_count = λ m. 1;
  own_parts = λ m b k. first_alternative parts k;
  previous = λ m b. None;
  depth = λ m b. 0;
  call_parts = macro_parts;
  call_count = λ m. 1;
}

abbrev pub rule_d : List ClosedSymbol
rule_d = reference (letter 68) None ∷ []

-- pub D = A<"d"> B<"d"> C<"d">;
abbrev nested : Meaning
nested = grammar_of (symbol_and (called 65 (literal 100)) (symbol_and (called 66 (literal 100)) (only (called 67 (literal 100)))))

first_round : (expansion nested rule_d 0).fresh ≡ called 65 (literal 100) ∷ called 66 (literal 100) ∷ called 67 (literal 100) ∷ []
first_round = refl

-- round 2 reads the rules of C, B and A, in this order; each call reaches its argument's group before itself
second_round : (expansion nested rule_d 1).fresh ≡
    pair (literal 44) (literal 100) ∷ called 67 (pair (literal 44) (literal 100)) ∷
    pair (literal 46) (literal 100) ∷ called 66 (pair (literal 46) (literal 100)) ∷ []
second_round = refl

third_round : (expansion nested rule_d 2).fresh ≡
    pair (literal 44) (pair (literal 46) (literal 100)) ∷ called 67 (pair (literal 44) (pair (literal 46) (literal 100))) ∷ []
third_round = refl

-- three rounds make nine rules, and a fourth has nothing new
fourth_round : (expansion nested rule_d 3).fresh ≡ []
fourth_round = refl

nine_rules : length (expanded_symbols nested rule_d 4) ≡ 9
nine_rules = refl

third_round_is_not_empty : (expansion nested rule_d 2).fresh ≡ [] → ⊥
third_round_is_not_empty h = cc h

-- pub D = "a"* @L;
abbrev pub repeated : Meaning
repeated = grammar_of (symbol_and (star (literal 97)) (only lookahead))

-- `X*` holds `X+`, which is reached a round later; a location symbol is reached
repeats_and_lookaround : expanded_symbols repeated rule_d 3 ≡ lookahead ∷ star (literal 97) ∷ plus (literal 97) ∷ []
repeats_and_lookaround = refl

repeat_is_in_second_round : (expansion repeated rule_d 1).fresh ≡ plus (literal 97) ∷ []
repeat_is_in_second_round = refl

-- pub D = ("a" <"b">)?;
abbrev optional : Meaning
optional = grammar_of (only (question (pair (literal 97) (wrapped chosen (literal 98)))))

-- the repeat is reached last, so its rule is first
repeat_is_first : expanded_symbols optional rule_d 2 ≡
    question (pair (literal 97) (wrapped chosen (literal 98))) ∷ pair (literal 97) (wrapped chosen (literal 98)) ∷ []
repeat_is_first = refl

group_is_not_first : expanded_symbols optional rule_d 2 ≡
    pair (literal 97) (wrapped chosen (literal 98)) ∷ question (pair (literal 97) (wrapped chosen (literal 98))) ∷ [] → ⊥
group_is_not_first h = cc h
