-- The lines of JSON that trees are printed as: a leaf or a node in each, a node behind its children.
use Rattle.std.specs.Prelude.{ℕ, zero, suc, List, [], ◌++◌, codes, decimal}
use Rattle.serde_json.specs.Data.{string}
use Rattle.serde_json.specs.Written.{compact_text}
use Rattle.lalrpop_norm_theory.specs.Symbols.{Name, Terminal, quoted, regex, bare, error_terminal}
use Rattle.lalrpop_norm_theory.specs.WrittenTrees.{WrittenTree, WrittenTrees, tree_count, leaf, nothing, list, node, no_trees, tree_and}
use Rattle.lalrpop_norm_theory.specs.LoweredTrees.{LoweredTree, LoweredTrees, lowered_leaf, lowered_node, no_lowered, lowered_and}

-- a text as JSON
abbrev pub text_json : Name → List ℕ
text_json s = compact_text (string s)

abbrev pub terminal_json : Terminal → List ℕ
terminal_json (quoted s) = codes "{\"Literal\":{\"Quoted\":" ++ (text_json s ++ codes "}}")
terminal_json (regex s) = codes "{\"Literal\":{\"Regex\":" ++ (text_json s ++ codes "}}")
terminal_json (bare s) = codes "{\"Bare\":" ++ (text_json s ++ codes "}")
terminal_json error_terminal = codes "\"Error\""

abbrev pub leaf_line : Terminal → List ℕ
leaf_line a = codes "{\"Leaf\":" ++ (terminal_json a ++ codes "}\n")

-- the line of a node: two names of fields, its name, its number, and how many children it has
abbrev pub node_line : List ℕ → List ℕ → Name → ℕ → ℕ → List ℕ
node_line field number n k count =
    codes "{\"Node\":{\"" ++ (field ++ (codes "\":" ++ (text_json n ++ (codes ",\"" ++ (number ++ (codes "\":" ++ (decimal k
    ++ (codes ",\"children\":" ++ (decimal count ++ codes "}}\n")))))))))

abbrev pub lowered_count : LoweredTrees → ℕ
lowered_count no_lowered = zero
lowered_count (lowered_and u us) = suc (lowered_count us)

abbrev mutual
  pub written_lines : WrittenTree → List ℕ
  written_lines (leaf a) = leaf_line a
  written_lines nothing = codes "\"Nothing\"\n"
  written_lines (list ts) = all_written_lines ts ++ (codes "{\"List\":" ++ (decimal (tree_count ts) ++ codes "}\n"))
  written_lines (node n k ts) = all_written_lines ts ++ node_line (codes "rule") (codes "alternative") n k (tree_count ts)

  pub all_written_lines : WrittenTrees → List ℕ
  all_written_lines no_trees = []
  all_written_lines (tree_and t ts) = written_lines t ++ all_written_lines ts

abbrev mutual
  pub lowered_lines : LoweredTree → List ℕ
  lowered_lines (lowered_leaf a) = leaf_line a
  lowered_lines (lowered_node n p us) =
      all_lowered_lines us ++ node_line (codes "nonterminal") (codes "production") n p (lowered_count us)

  pub all_lowered_lines : LoweredTrees → List ℕ
  all_lowered_lines no_lowered = []
  all_lowered_lines (lowered_and u us) = lowered_lines u ++ all_lowered_lines us
