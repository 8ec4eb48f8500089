-- Ranks of the alternatives of small grammars, one of whose alternatives is disabled.
use Rattle.std.proofs.Common.{◌≡◌, ℕ, [], ◌∷◌, refl}
use Rattle.std.specs.Prelude.{Some, None, codes, map}
use Rattle.lalrpop_norm_tree_names.specs.declared.names.TerminalString.TheVariants.{Bare}
use Rattle.lalrpop_norm_tree_parts.specs.Attributes.{attributes_of}
use Rattle.lalrpop_norm_tree.specs.Items.{GrammarData, rule_item, extern_item}
use Rattle.lalrpop_norm_theory.specs.Symbols.{quoted, bare, ClosedSymbol, ClosedSymbols, terminal, reference, symbol_and, only}
use Rattle.lalrpop_norm_theory.specs.Meaning.{Meaning}
use Rattle.lalrpop_norm_theory.specs.LoweredTrees as of
use Rattle.lalrpop_norm_theory.specs.Clauses.{clause, clauses}
use Rattle.lalrpop_norm_theory.specs.WrittenTrees.{WrittenTree, leaf, node, no_trees, tree_and, IsTreeOf, alternatives}
use Rattle.lalrpop_norm_model.specs.WrittenRules.{written_rules, leveled_rules}
use Rattle.lalrpop_norm_model.specs.Grammars.{meaning, references, roots}
use Rattle.lalrpop_norm_model.specs.Renumbered.{prepared_grammar, rank_in, rank_by, renumbered}
use Rattle.lalrpop_norm_model.proofs.ExampleWords.{nowhere, precedence, assoc, if_f, without_f, with_f, literal, identifier, symbols, alternative, rule, macro_rule, conversion, extern_of, grammar_of, rules_alone, example_value}

-- ---- a macro

-- M<T> = { #[cfg(feature = "f")] "a", "b" T };
abbrev first_disabled : GrammarData
first_disabled = rules_alone (macro_rule nowhere (codes "M") (codes "T" ∷ [])
    (alternative nowhere (if_f ∷ []) (symbols (literal (codes "a") ∷ []))
    ∷ (alternative nowhere [] (symbols (literal (codes "b") ∷ (identifier (codes "T") ∷ [])))
    ∷ []))
    ∷ [])

abbrev written : Meaning
written = meaning example_value (written_rules without_f first_disabled)

abbrev prepared : Meaning
prepared = meaning example_value (leveled_rules (prepared_grammar without_f first_disabled))

abbrev token : ClosedSymbol
token = terminal (quoted (codes "c"))

abbrev second_parts : ClosedSymbols
second_parts = symbol_and (terminal (quoted (codes "b"))) (only token)

-- written, the second alternative has number 1; in the prepared grammar it has number 0
written_numbers : map (written.call_parts (codes "M") (only token)) (0 ∷ (1 ∷ (2 ∷ []))) ≡ None ∷ (Some second_parts ∷ (None ∷ []))
written_numbers = refl

prepared_numbers : map (prepared.call_parts (codes "M") (only token)) (0 ∷ (1 ∷ (2 ∷ []))) ≡ Some second_parts ∷ (None ∷ (None ∷ []))
prepared_numbers = refl

-- none is before the second index, one before what would be a third; a name without a rule has no ranks but 0
ranks_without_f : map (rank_by (written_rules without_f first_disabled) (codes "M")) (0 ∷ (1 ∷ (2 ∷ []))) ≡ 0 ∷ (0 ∷ (1 ∷ []))
ranks_without_f = refl

ranks_with_f : map (rank_by (written_rules with_f first_disabled) (codes "M")) (0 ∷ (1 ∷ (2 ∷ []))) ≡ 0 ∷ (1 ∷ (2 ∷ []))
ranks_with_f = refl

no_rule_no_ranks : map (rank_by (written_rules with_f first_disabled) (codes "X")) (0 ∷ (1 ∷ [])) ≡ 0 ∷ (0 ∷ [])
no_rule_no_ranks = refl

counts : written.call_count (codes "M") ∷ (prepared.call_count (codes "M") ∷ []) ≡ 2 ∷ (1 ∷ [])
counts = refl

-- the index itself does not count, nor does what is behind it
between_holes : map (rank_in {A = ℕ} (Some 7 ∷ (None ∷ (Some 8 ∷ (Some 9 ∷ []))))) (0 ∷ (1 ∷ (2 ∷ (3 ∷ (4 ∷ []))))) ≡ 0 ∷ (1 ∷ (1 ∷ (2 ∷ (3 ∷ []))))
between_holes = refl

-- ---- a rule with levels

-- E = { #[precedence(level = "1")] "n", #[cfg(feature = "f")] #[precedence(level = "2")] "m", #[precedence(level = "3")] #[assoc(side = "left")] E "+" E };
abbrev sums : GrammarData
sums = rules_alone (rule nowhere (codes "E")
    (alternative nowhere (precedence (codes "1") ∷ []) (symbols (literal (codes "n") ∷ []))
    ∷ (alternative nowhere (if_f ∷ (precedence (codes "2") ∷ [])) (symbols (literal (codes "m") ∷ []))
    ∷ (alternative nowhere (precedence (codes "3") ∷ (assoc (codes "left") ∷ [])) (symbols (identifier (codes "E") ∷ (literal (codes "+") ∷ (identifier (codes "E") ∷ []))))
    ∷ [])))
    ∷ [])

abbrev written_sums : Meaning
written_sums = meaning example_value (written_rules without_f sums)

abbrev prepared_sums : Meaning
prepared_sums = meaning example_value (leveled_rules (prepared_grammar without_f sums))

abbrev e : ℕ → ClosedSymbol
e l = reference (codes "E") (Some l)

-- the sum keeps its bounds, which the disabled level is not among, and has number 1 for 2
sum_written : written_sums.reference_parts (codes "E") (Some 3) 2 ≡ Some (symbol_and (e 3) (symbol_and (terminal (quoted (codes "+"))) (only (e 1))))
sum_written = refl

sum_prepared : prepared_sums.reference_parts (codes "E") (Some 3) 1 ≡ written_sums.reference_parts (codes "E") (Some 3) 2
sum_prepared = refl

-- the clauses of the highest level: the sum, by its number, and the step to the level below
sum_clauses : clauses written_sums (e 3)
    ≡ clause (of.written (codes "E") 2) (symbol_and (e 3) (symbol_and (terminal (quoted (codes "+"))) (only (e 1)))) ∷ (clause of.level_step (only (e 1)) ∷ [])
sum_clauses = refl

ranked_clauses : clauses prepared_sums (e 3)
    ≡ clause (of.written (codes "E") 1) (symbol_and (e 3) (symbol_and (terminal (quoted (codes "+"))) (only (e 1)))) ∷ (clause of.level_step (only (e 1)) ∷ [])
ranked_clauses = refl

level_below : prepared_sums.previous (codes "E") (Some 3) ≡ Some (Some 1)
level_below = refl

same_references : references (leveled_rules (prepared_grammar without_f sums)) ≡ e 1 ∷ (e 3 ∷ [])
same_references = refl

same_roots : roots (leveled_rules (prepared_grammar without_f sums)) ≡ reference (codes "E") None ∷ []
same_roots = refl

-- the tree of n + n, its nodes with these numbers for the number and for the sum
abbrev sum_tree : ℕ → ℕ → WrittenTree
sum_tree number sum =
    let one : WrittenTree = node (codes "E") number (tree_and (leaf (quoted (codes "n"))) no_trees) in
    node (codes "E") sum (tree_and one (tree_and (leaf (quoted (codes "+"))) (tree_and one no_trees)))

abbrev whole : ClosedSymbol
whole = reference (codes "E") None

is_written : IsTreeOf written_sums (sum_tree 0 2) whole
is_written = (refl, _, refl, ((refl, _, refl, (refl, tt)), (refl, ((refl, _, refl, (refl, tt)), tt))))

tree_renumbered : renumbered (rank_by (written_rules without_f sums)) (sum_tree 0 2) ≡ sum_tree 0 1
tree_renumbered = refl

tree_alternatives : alternatives (renumbered (rank_by (written_rules without_f sums)) (sum_tree 0 2))
    ≡ (codes "E", 1) ∷ ((codes "E", 0) ∷ ((codes "E", 0) ∷ []))
tree_alternatives = refl

-- with the written numbers it is no tree of the prepared grammar
not_prepared : IsTreeOf prepared_sums (sum_tree 0 2) whole → ⊥
not_prepared (same, parts, there, children) = absurd (cc there)

-- ---- a name that a disabled rule has

-- #[cfg(feature = "f")] X = "x"; E = X; and an extern block with X
abbrev disabled_rule : GrammarData
disabled_rule = grammar_of
    (rule_item (record (rule nowhere (codes "X") (alternative nowhere [] (symbols (literal (codes "x") ∷ [])) ∷ [])) { attributes = attributes_of (if_f ∷ []) })
    ∷ (rule_item (rule nowhere (codes "E") (alternative nowhere [] (symbols (identifier (codes "X") ∷ [])) ∷ []))
    ∷ (extern_item (extern_of (conversion nowhere [] (Bare (codes "X")) ∷ []))
    ∷ [])))

-- without f the name is the terminal, in both
x_written : (meaning example_value (written_rules without_f disabled_rule)).reference_parts (codes "E") None 0 ≡ Some (only (terminal (bare (codes "X"))))
x_written = refl

x_prepared : (meaning example_value (leveled_rules (prepared_grammar without_f disabled_rule))).reference_parts (codes "E") None 0 ≡ Some (only (terminal (bare (codes "X"))))
x_prepared = refl

x_with_f : (meaning example_value (leveled_rules (prepared_grammar with_f disabled_rule))).reference_parts (codes "E") None 0 ≡ Some (only (reference (codes "X") None))
x_with_f = refl
