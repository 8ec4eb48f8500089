-- Small trees and rules, computed: what holds of them, and what does not.
use Rattle.std.proofs.Common.{◌≡◌, ℕ, zero, suc, List, [], ◌∷◌, refl, ap, arith}
use Rattle.std.specs.Prelude.{Some, None}
use Rattle.lalrpop_norm_theory.specs.Symbols.{Name, error_terminal, chosen, ClosedSymbol, ClosedSymbols, terminal, error, reference, call, group, star, plus, question, times, wrapped, no_symbols, symbol_and, only}
use Rattle.lalrpop_norm_theory.specs.WrittenTrees.{WrittenTree, leaf, list, node, no_trees, tree_and, IsTreeOf, yield, alternatives}
use Rattle.lalrpop_norm_theory.specs.LoweredTrees.{LoweredTree, lowered_leaf, lowered_node, no_lowered, lowered_and, ProductionTable, written, level_step, from_group, star_empty, star_some, plus_one, plus_more, question_some, question_empty, from_times, IsDerivation, nonterminal_symbol, lowered_yield, written_origins}
use Rattle.lalrpop_norm_theory.specs.Clauses.{Clause, clause, clauses}
use Rattle.lalrpop_norm_theory.specs.Pairs.{Pairs, terminal_pair, plus_one_pair, plus_more_pair, times_pair, no_pairs, pair_and}
use Rattle.lalrpop_norm_theory.specs.Translations.{lowered_tree, written_tree}
use Rattle.lalrpop_norm_theory.specs.Tables.{table, rule_of_symbol}
use Rattle.lalrpop_norm_theory.proofs.ExampleGrammar.{none_some, expression, pick, number, sign, within, sum_parts, grammar}

-- E 0 over n, and E 1 over (E 0 over n; +; E 0 over n)
abbrev one_number : WrittenTree
one_number = node expression 0 (tree_and (leaf number) no_trees)

abbrev one_sum : WrittenTree
one_sum = node expression 1 (tree_and one_number (tree_and (leaf sign) (tree_and one_number no_trees)))

-- the sum on the right of a sum
abbrev right_sum : WrittenTree
right_sum = node expression 1 (tree_and one_number (tree_and (leaf sign) (tree_and one_sum no_trees)))

sum_is_tree : IsTreeOf grammar one_sum (reference expression None)
sum_is_tree = (refl, _, refl, ((refl, _, refl, (refl, tt)), (refl, ((refl, _, refl, (refl, tt)), tt))))

-- a sum is no tree within the lower level, so none on the right of a sum
sum_is_above : IsTreeOf grammar one_sum (within 1) → ⊥
sum_is_above h = none_some h.2

sum_is_left : IsTreeOf grammar right_sum (reference expression None) → ⊥
sum_is_left (same, parts, at, hs) =
    let is : sum_parts ≡ parts = cc at in
    let children = rw (← is) at hs in
    sum_is_above children.1.1.0

sum_yield : yield one_sum ≡ number ∷ sign ∷ number ∷ []
sum_yield = refl

-- a node comes before its children
sum_alternatives : alternatives one_sum ≡ (expression, 1) ∷ (expression, 0) ∷ (expression, 0) ∷ []
sum_alternatives = refl

sum_alternatives_order : alternatives one_sum ≡ (expression, 0) ∷ (expression, 0) ∷ (expression, 1) ∷ [] → ⊥
sum_alternatives_order h = differ _ (ap first_number h) refl
  where
    differ : (k : ℕ) → k ≡ 0 → k ≡ 1 → ⊥
    differ k e f = omega arith

    first_number : List (Name × ℕ) → ℕ
    first_number [] = 0
    first_number (p ∷ ps) = p.1

-- `!` is no terminal, but its leaf is the error terminal
error_is_leaf : IsTreeOf grammar (leaf error_terminal) error
error_is_leaf = refl

error_is_no_number : IsTreeOf grammar (leaf number) error → ⊥
error_is_no_number h = cc h

error_is_other : error ≡ terminal error_terminal → ⊥
error_is_other h = cc h

-- two numbers are a tree of `"n"+`, of `<"n">*` and of `"n"{2}`, and none of `"n"?` or `"n"{3}`
abbrev two_numbers : WrittenTree
two_numbers = list (tree_and (leaf number) (tree_and (leaf number) no_trees))

two_are_some : IsTreeOf grammar two_numbers (plus (terminal number))
two_are_some = (tt, (refl, (refl, tt)))

two_are_chosen : IsTreeOf grammar two_numbers (star (wrapped chosen (terminal number)))
two_are_chosen = (refl, (refl, tt))

two_are_two : IsTreeOf grammar two_numbers (times 2 (terminal number))
two_are_two = (refl, (refl, (refl, tt)))

two_are_not_three : IsTreeOf grammar two_numbers (times 3 (terminal number)) → ⊥
two_are_not_three h = absurd (differ 2 h.0 refl)
  where
    differ : (k : ℕ) → k ≡ 3 → k ≡ 2 → ⊥
    differ k e f = omega arith

none_are_none : IsTreeOf grammar (list no_trees) (times 0 (terminal number))
none_are_none = (refl, tt)

two_are_too_many : IsTreeOf grammar two_numbers (question (terminal number)) → ⊥
two_are_too_many h = h.0

none_are_too_few : IsTreeOf grammar (list no_trees) (plus (terminal number)) → ⊥
none_are_too_few h = h.0

-- The rules of the symbols.
star_clauses : clauses grammar (star (terminal number)) ≡
    clause star_empty no_symbols ∷ (clause star_some (only (plus (terminal number))) ∷ [])
star_clauses = refl

plus_clauses : clauses grammar (plus (terminal number)) ≡
    clause plus_one (only (terminal number)) ∷ (clause plus_more (symbol_and (plus (terminal number)) (only (terminal number))) ∷ [])
plus_clauses = refl

plus_is_not_doubled : clauses grammar (plus (terminal number)) ≡
    clause plus_one (only (terminal number)) ∷ (clause plus_more (symbol_and (plus (terminal number)) (only (plus (terminal number)))) ∷ []) → ⊥
plus_is_not_doubled h = let same : terminal number ≡ plus (terminal number) = ap (λ cs. second_of (parts_at cs)) h in cc same
  where
    parts_at : List Clause → ClosedSymbols
    parts_at (c ∷ (d ∷ cs)) = d.parts
    parts_at _ = no_symbols

    second_of : ClosedSymbols → ClosedSymbol
    second_of (symbol_and g (symbol_and h gs)) = h
    second_of _ = error

question_clauses : clauses grammar (question (terminal number)) ≡
    clause question_some (only (terminal number)) ∷ (clause question_empty no_symbols ∷ [])
question_clauses = refl

-- so many symbols in one clause; without symbols it is there as well
times_clauses : clauses grammar (times 2 (terminal number)) ≡
    clause from_times (symbol_and (terminal number) (only (terminal number))) ∷ []
times_clauses = refl

no_times_clauses : clauses grammar (times 0 (terminal number)) ≡ clause from_times no_symbols ∷ []
no_times_clauses = refl

group_clauses : clauses grammar (group (symbol_and error (only (terminal sign)))) ≡
    clause from_group (symbol_and error (only (terminal sign))) ∷ []
group_clauses = refl

-- the alternative with a false condition has no clause, and the other keeps its number
call_clauses : clauses grammar (call pick (only (terminal number))) ≡
    clause (written pick 1) (symbol_and (terminal number) (only (terminal number))) ∷ []
call_clauses = refl

-- the alternatives of the higher level, then the step to the lower one
level_clauses : clauses grammar (reference expression None) ≡
    clause (written expression 1) sum_parts ∷
    (clause level_step (only (within 1)) ∷ [])
level_clauses = refl

lowest_clauses : clauses grammar (within 1) ≡ clause (written expression 0) (only (terminal number)) ∷ []
lowest_clauses = refl

-- Lowered trees, under names that show the shape: the highest level of E keeps its name, the other is E1.
abbrev name : ClosedSymbol → Name
name (reference m (Some (suc zero))) = 69 ∷ 49 ∷ []
name (reference m b) = m
name (plus x) = 43 ∷ []
name g = []

-- the first element is innermost
abbrev left_leaning_two : LoweredTree
left_leaning_two = lowered_node (43 ∷ []) 1
    (lowered_and (lowered_node (43 ∷ []) 0 (lowered_and (lowered_leaf number) no_lowered)) (lowered_and (lowered_leaf number) no_lowered))

two_pair : Pairs grammar name (plus (terminal number)) two_numbers left_leaning_two
two_pair = plus_more_pair (terminal number) (tree_and (leaf number) no_trees) (leaf number) _ _
    (plus_one_pair (terminal number) (leaf number) (lowered_leaf number) (terminal_pair number)) (terminal_pair number)

-- under `"n"{2}` both are at one node
abbrev side_by_side : LoweredTree
side_by_side = lowered_node [] 0 (lowered_and (lowered_leaf number) (lowered_and (lowered_leaf number) no_lowered))

two_times_pair : Pairs grammar name (times 2 (terminal number)) two_numbers side_by_side
two_times_pair =
    times_pair 2 (terminal number) _ _
    (pair_and _ _ _ _ _ _ (terminal_pair number) (pair_and _ _ _ _ _ _ (terminal_pair number) no_pairs))

two_times_lowered : lowered_tree grammar name two_numbers (times 2 (terminal number)) ≡ side_by_side
two_times_lowered = refl

two_lowered : lowered_tree grammar name two_numbers (plus (terminal number)) ≡ left_leaning_two
two_lowered = refl

two_lean_left : lowered_tree grammar name two_numbers (plus (terminal number)) ≡
    lowered_node (43 ∷ []) 1 (lowered_and (lowered_leaf number) (lowered_and (lowered_node (43 ∷ []) 0 (lowered_and (lowered_leaf number) no_lowered)) no_lowered)) → ⊥
two_lean_left h = cc h

-- E 0 is below a step, within the bound and without one
abbrev lowered_number : LoweredTree
lowered_number = lowered_node (69 ∷ 49 ∷ []) 0 (lowered_and (lowered_leaf number) no_lowered)

abbrev stepped_number : LoweredTree
stepped_number = lowered_node expression 1 (lowered_and lowered_number no_lowered)

abbrev lowered_sum : LoweredTree
lowered_sum = lowered_node expression 0 (lowered_and stepped_number (lowered_and (lowered_leaf sign) (lowered_and lowered_number no_lowered)))

sum_lowered : lowered_tree grammar name one_sum (reference expression None) ≡ lowered_sum
sum_lowered = refl

abbrev lowered_grammar : ProductionTable
lowered_grammar = table (rule_of_symbol grammar name (within 2) ∷ rule_of_symbol grammar name (within 1) ∷ [])

sum_is_derivation : IsDerivation lowered_grammar lowered_sum (nonterminal_symbol expression)
sum_is_derivation =
    (refl, _, refl, ((refl, _, refl, ((refl, _, refl, (refl, tt)), tt)), (refl, ((refl, _, refl, (refl, tt)), tt))))

sum_read_back : written_tree lowered_grammar lowered_sum ≡ one_sum
sum_read_back = refl

lowered_sum_yield : lowered_yield lowered_sum ≡ number ∷ sign ∷ number ∷ []
lowered_sum_yield = refl

-- steps are no written alternatives
lowered_sum_origins : written_origins lowered_grammar lowered_sum ≡ (expression, 1) ∷ (expression, 0) ∷ (expression, 0) ∷ []
lowered_sum_origins = refl
