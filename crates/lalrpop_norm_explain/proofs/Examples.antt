-- Three small grammars, computed: a repeat, a rule with two levels, and an exact repeat.
use Rattle.std.proofs.Common.{◌≡◌, ℕ, Bool, List, [], ◌∷◌, refl, bytes_eq}
use Rattle.std.specs.Prelude.{Some}
use Rattle.lalrpop_norm_theory.specs.Symbols.{Name, bare}
use Rattle.lalrpop_norm_theory.specs.LoweredTrees.{ProductionTable, Production, LoweredSymbol, LoweredTree, lowered_leaf, lowered_node, no_lowered, lowered_and, terminal_symbol, nonterminal_symbol, written, level_step, from_start}
use Rattle.lalrpop_norm_theory.specs.WrittenTrees.{WrittenTree, leaf, list, node, no_trees, tree_and}
use Rattle.lalrpop_norm_theory.specs.Translations.{written_tree}
use Rattle.lalrpop_norm_theory.specs.Tables.{Rule, table}
use Rattle.lalrpop_norm_explain.specs.declared.errors.ExplainFault.TheVariants.{Root as NoRoot, Production as NoProduction, Child as WrongChild, Shape as NoShape}
use Rattle.lalrpop_norm_explain.specs.TreeFaults.{has_productions, first_found, explain_faults}
use Rattle.lalrpop_norm_explain.specs.Forms.{production, made_productions, star_form, plus_form, times_form}
use Rattle.lalrpop_norm_explain.specs.TreeLowering.{lowered_by, lower_faults}

abbrev s_name : Name
s_name = 1 ∷ []

abbrev star_name : Name
star_name = 2 ∷ []

abbrev plus_name : Name
plus_name = 3 ∷ []

abbrev start_name : Name
start_name = 4 ∷ []

abbrev e_name : Name
e_name = 5 ∷ []

abbrev low_name : Name
low_name = 6 ∷ []

abbrev a : LoweredSymbol
a = terminal_symbol (bare (10 ∷ []))

abbrev b : LoweredSymbol
b = terminal_symbol (bare (11 ∷ []))

abbrev rule : Name → List Production → Rule
rule n qs = record { name = n; productions = qs }

abbrev lists : ProductionTable
lists = table (rule s_name (production (written s_name 0) (nonterminal_symbol star_name ∷ (b ∷ [])) ∷ []) ∷ (rule star_name (made_productions star_name (star_form plus_name))
    ∷ (rule plus_name (made_productions plus_name (plus_form a)) ∷ (rule start_name (production from_start (nonterminal_symbol s_name ∷ []) ∷ []) ∷ []))))

abbrev s_only : Name → Bool
s_only n = bytes_eq n s_name

abbrev leaf_a : LoweredTree
leaf_a = lowered_leaf (bare (10 ∷ []))

abbrev leaf_b : LoweredTree
leaf_b = lowered_leaf (bare (11 ∷ []))

abbrev two : ℕ → LoweredTree
two p = lowered_node plus_name p (lowered_and (lowered_node plus_name 0 (lowered_and leaf_a no_lowered)) (lowered_and leaf_a no_lowered))

abbrev over : ℕ → LoweredTree
over p = lowered_node s_name 0 (lowered_and (lowered_node star_name 1 (lowered_and (two p) no_lowered)) (lowered_and leaf_b no_lowered))

abbrev over_written : WrittenTree
over_written = node s_name 0 (tree_and (list (tree_and (leaf (bare (10 ∷ []))) (tree_and (leaf (bare (10 ∷ []))) no_trees))) (tree_and (leaf (bare (11 ∷ []))) no_trees))

list_fine : explain_faults s_only lists (over 1) ≡ []
list_fine = refl

list_read : written_tree lists (over 1) ≡ over_written
list_read = refl

list_shaped : lower_faults s_only lists 4 over_written ≡ []
list_shaped = refl

list_back : lowered_by lists 4 over_written (nonterminal_symbol s_name) ≡ over 1
list_back = refl

no_such_production : first_found (explain_faults s_only lists (over 2)) ≡ Some (NoProduction, 0 ∷ (0 ∷ []))
no_such_production = refl

one_child_missing : first_found (explain_faults s_only lists (lowered_node s_name 0 (lowered_and (lowered_node star_name 0 no_lowered) no_lowered))) ≡ Some (WrongChild, [])
one_child_missing = refl

no_root : first_found (explain_faults s_only lists (lowered_node start_name 0 (lowered_and (over 1) no_lowered))) ≡ Some (NoRoot, [])
no_root = refl

-- trees that begin at the start symbol and at a list's nonterminal, and at no nonterminal
start_begins : explain_faults (has_productions lists) lists (lowered_node start_name 0 (lowered_and (over 1) no_lowered)) ≡ []
start_begins = refl

start_read : written_tree lists (lowered_node start_name 0 (lowered_and (over 1) no_lowered)) ≡ over_written
start_read = refl

no_element_begins : explain_faults (has_productions lists) lists (lowered_node star_name 0 no_lowered) ≡ []
no_element_begins = refl

no_element_read : written_tree lists (lowered_node star_name 0 no_lowered) ≡ list no_trees
no_element_read = refl

no_nonterminal : first_found (explain_faults (has_productions lists) lists (lowered_node (99 ∷ []) 0 no_lowered)) ≡ Some (NoRoot, [])
no_nonterminal = refl

-- E = E "+" E1 (alternative 1), else a step to E1 = "n" (alternative 0)
abbrev levels : ProductionTable
levels = table (rule e_name (production (written e_name 1) (nonterminal_symbol e_name ∷ (b ∷ (nonterminal_symbol low_name ∷ [])))
    ∷ (production level_step (nonterminal_symbol low_name ∷ []) ∷ [])) ∷ (rule low_name (production (written e_name 0) (a ∷ []) ∷ []) ∷ []))

abbrev e_only : Name → Bool
e_only n = bytes_eq n e_name

abbrev low : WrittenTree
low = node e_name 0 (tree_and (leaf (bare (10 ∷ []))) no_trees)

abbrev sum : WrittenTree → WrittenTree
sum t = node e_name 1 (tree_and low (tree_and (leaf (bare (11 ∷ []))) (tree_and t no_trees)))

abbrev low_lowered : LoweredTree
low_lowered = lowered_node low_name 0 (lowered_and leaf_a no_lowered)

levels_back : lowered_by levels 2 (sum low) (nonterminal_symbol e_name)
    ≡ lowered_node e_name 0 (lowered_and (lowered_node e_name 1 (lowered_and low_lowered no_lowered)) (lowered_and leaf_b (lowered_and low_lowered no_lowered)))
levels_back = refl

levels_fine : lower_faults e_only levels 2 (sum low) ≡ []
levels_fine = refl

above_its_bound : first_found (lower_faults e_only levels 2 (sum (sum low))) ≡ Some (NoShape, 2 ∷ [])
above_its_bound = refl

-- E = a{2}
abbrev pair_name : Name
pair_name = 7 ∷ []

abbrev pairs : ProductionTable
pairs = table (rule e_name (production (written e_name 0) (nonterminal_symbol pair_name ∷ []) ∷ []) ∷ (rule pair_name (made_productions pair_name (times_form (a ∷ (a ∷ [])))) ∷ []))

abbrev pair_lowered : LoweredTree
pair_lowered = lowered_node e_name 0 (lowered_and (lowered_node pair_name 0 (lowered_and leaf_a (lowered_and leaf_a no_lowered))) no_lowered)

abbrev pair_written : WrittenTree
pair_written = node e_name 0 (tree_and (list (tree_and (leaf (bare (10 ∷ []))) (tree_and (leaf (bare (10 ∷ []))) no_trees))) no_trees)

pair_read : written_tree pairs pair_lowered ≡ pair_written
pair_read = refl

pair_back : lowered_by pairs 0 pair_written (nonterminal_symbol e_name) ≡ pair_lowered
pair_back = refl

one_of_two : first_found (lower_faults e_only pairs 0 (node e_name 0 (tree_and (list (tree_and (leaf (bare (10 ∷ []))) no_trees)) no_trees))) ≡ Some (NoShape, 0 ∷ [])
one_of_two = refl
