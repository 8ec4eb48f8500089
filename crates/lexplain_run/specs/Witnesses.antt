-- What shows a grammar ambiguous, as it was written, and its lines.
use Rattle.std.specs.Prelude.{ℕ, List, [], ◌∷◌, ◌++◌, None, codes, decimal}
use Rattle.lalrpop_norm_tree.specs.Items.{GrammarData}
use Rattle.lalrpop_norm_theory.specs.Symbols.{Name, reference}
use Rattle.lalrpop_norm_theory.specs.Rounds.{In}
use Rattle.lalrpop_norm_theory.specs.WrittenTrees.{WrittenTree}
use Rattle.lalrpop_norm_model.specs.Features.{Features}
use Rattle.lalrpop_norm_model.specs.WrittenRules.{written_rules}
use Rattle.lalrpop_norm_model.specs.Grammars.{roots}
use Rattle.lalrpop_norm_ambiguity.specs.Ambiguities.{AreTwoTrees}
use Rattle.lalrpop_norm.specs.Faithful.{written_meaning}
use Rattle.lexplain_lines.specs.TreeLines.{written_lines}

-- t and s are two different trees, with one yield, of one enabled written rule that is no macro
abbrev pub AreReadings : Features → GrammarData → WrittenTree → WrittenTree → Type 0
AreReadings fs g t s =
    (n : Name) × In (reference n None) (roots (written_rules fs g)) × AreTwoTrees (written_meaning fs g) (reference n None) t s

-- each number behind a comma
abbrev pub more_text : List ℕ → List ℕ
more_text [] = []
more_text (n ∷ ns) = codes "," ++ (decimal n ++ more_text ns)

-- numbers, a comma between each two
abbrev pub numbers_text : List ℕ → List ℕ
numbers_text [] = []
numbers_text (n ∷ ns) = decimal n ++ more_text ns

-- the line of a path, as `{"Differ":[0,2]}`
abbrev pub difference_line : List ℕ → List ℕ
difference_line path = codes "{\"Differ\":[" ++ (numbers_text path ++ codes "]}\n")

-- the lines of two trees, and that of a path
abbrev pub readings_text : WrittenTree → WrittenTree → List ℕ → List ℕ
readings_text t s path = written_lines t ++ (written_lines s ++ difference_line path)
