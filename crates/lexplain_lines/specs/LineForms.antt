-- The JSON data of a tree's lines: a leaf or a node in each, a node behind its children.
use Rattle.std.specs.Prelude.{◌≡◌, ℕ, List, [], ◌∷◌, ◌++◌, map, codes, Some}
use Rattle.std.specs.Str.Lines.{lines}
use Rattle.serde_json.specs.Data.{Data, string}
use Rattle.serde_json.specs.Read.{read}
use Rattle.lalrpop_norm_theory.specs.Symbols.{Name, Terminal, quoted, regex, bare, error_terminal}
use Rattle.lalrpop_norm_theory.specs.WrittenTrees.{WrittenTree, WrittenTrees, tree_count, leaf, nothing, list, node, no_trees, tree_and}
use Rattle.lalrpop_norm_theory.specs.LoweredTrees.{LoweredTree, LoweredTrees, lowered_leaf, lowered_node, no_lowered, lowered_and}
use Rattle.lalrpop_norm_json.specs.Json.{fields, variant, natural}
use Rattle.lexplain_lines.specs.TreeLines.{lowered_count}

-- each line of the text is one value of JSON, and these are the values, in order
abbrev pub AreLines : List ℕ → List Data → Type 0
AreLines text ds = map read (lines text) ≡ map (λ d. Some d) ds

abbrev pub leaf_terminal_form : Terminal → Data
leaf_terminal_form (quoted s) = variant (codes "Literal") (variant (codes "Quoted") (string s))
leaf_terminal_form (regex s) = variant (codes "Literal") (variant (codes "Regex") (string s))
leaf_terminal_form (bare s) = variant (codes "Bare") (string s)
leaf_terminal_form error_terminal = string (codes "Error")

abbrev pub leaf_form : Terminal → Data
leaf_form a = variant (codes "Leaf") (leaf_terminal_form a)

abbrev pub nothing_form : Data
nothing_form = string (codes "Nothing")

abbrev pub list_line_form : ℕ → Data
list_line_form count = variant (codes "List") (natural count)

-- a node: its name, its number, and how many children it has
abbrev pub written_node_form : Name → ℕ → ℕ → Data
written_node_form n k count =
    variant (codes "Node") (fields ((codes "rule", string n) ∷ (codes "alternative", natural k) ∷ (codes "children", natural count) ∷ []))

abbrev pub lowered_node_form : Name → ℕ → ℕ → Data
lowered_node_form n p count =
    variant (codes "Node") (fields ((codes "nonterminal", string n) ∷ (codes "production", natural p) ∷ (codes "children", natural count) ∷ []))

abbrev mutual
  pub written_forms : WrittenTree → List Data
  written_forms (leaf a) = leaf_form a ∷ []
  written_forms nothing = nothing_form ∷ []
  written_forms (list ts) = all_written_forms ts ++ (list_line_form (tree_count ts) ∷ [])
  written_forms (node n k ts) = all_written_forms ts ++ (written_node_form n k (tree_count ts) ∷ [])

  pub all_written_forms : WrittenTrees → List Data
  all_written_forms no_trees = []
  all_written_forms (tree_and t ts) = written_forms t ++ all_written_forms ts

abbrev mutual
  pub lowered_forms : LoweredTree → List Data
  lowered_forms (lowered_leaf a) = leaf_form a ∷ []
  lowered_forms (lowered_node n p us) = all_lowered_forms us ++ (lowered_node_form n p (lowered_count us) ∷ [])

  pub all_lowered_forms : LoweredTrees → List Data
  all_lowered_forms no_lowered = []
  all_lowered_forms (lowered_and u us) = lowered_forms u ++ all_lowered_forms us
