-- How a stop is reported: the exit status, and a line.
use Rattle.std.specs.Prelude.{ℕ, List, [], ◌∷◌, ◌++◌, codes, decimal, string_bytes}
use Rattle.lalrpop_norm_faults.specs.declared.failure.NormFailure.TheVariants.{Refused as faulty_grammar, Memory as no_room}
use Rattle.lalrpop_norm_explain.specs.FaultCodes.{tree_fault_code}
use Rattle.lalrpop_norm_explain.specs.declared.errors.ExplainFault.{ExplainFault}
use Rattle.lalrpop_norm_explain.specs.declared.errors.ExplainError.TheVariants.{Refused as faulty_tree, Memory as no_memory}
use Rattle.lalrpop_norm_ambiguity.specs.declared.errors.AmbiguityError.{AmbiguityError}
use Rattle.lalrpop_norm_ambiguity.specs.declared.errors.AmbiguityError.TheVariants.{First, Second, Rules, Yields, Same, Memory}
use Rattle.lnorm_streams.specs.Streams.{fault_line, lexplain_memory_line, lexplain_no_tree_line}
use Rattle.lexplain_run.specs.declared.answer.Stop.{Stop}
use Rattle.lexplain_run.specs.declared.answer.Stop.TheVariants.{NotAGrammar, NotATree, Failed, Tree, Trees}

-- each index behind a slash
abbrev pub places_text : List ℕ → List ℕ
places_text [] = []
places_text (place ∷ path) = codes "/" ++ (decimal place ++ places_text path)

-- the indices of children from the root down to a tree: only a slash is the root
abbrev pub child_path_text : List ℕ → List ℕ
child_path_text [] = codes "/"
child_path_text (place ∷ path) = places_text (place ∷ path)

-- the line of a fault of a tree, as `X3 /0/1`
abbrev pub tree_fault_line : ExplainFault → List ℕ → List ℕ
tree_fault_line fault path = tree_fault_code fault ++ (codes " " ++ (child_path_text path ++ codes "\n"))

-- the line for two trees that show no ambiguity, as `first X3 /0/1` or `X6 4`
abbrev pub unshown_line : AmbiguityError → List ℕ
unshown_line (First fault path) = codes "first " ++ tree_fault_line fault path.items
unshown_line (Second fault path) = codes "second " ++ tree_fault_line fault path.items
unshown_line Rules = codes "X5\n"
unshown_line (Yields index) = codes "X6 " ++ (decimal index ++ codes "\n")
unshown_line Same = codes "X7\n"
unshown_line Memory = lexplain_memory_line

abbrev pub unshown_status : AmbiguityError → ℕ
unshown_status (First fault path) = 1
unshown_status (Second fault path) = 1
unshown_status Rules = 1
unshown_status (Yields index) = 1
unshown_status Same = 1
unshown_status Memory = 3

-- 1 the grammar or the trees have a fault; 2 one of the two texts is none; 3 an allocation failed
abbrev pub stop_status : Stop → ℕ
stop_status (Failed (faulty_grammar e)) = 1
stop_status (Tree (faulty_tree fault path)) = 1
stop_status NotAGrammar = 2
stop_status NotATree = 2
stop_status (Failed no_room) = 3
stop_status (Tree no_memory) = 3
stop_status (Trees e) = unshown_status e

abbrev pub stop_line : Stop → List ℕ
stop_line (Failed (faulty_grammar e)) = fault_line e.fault e.span (string_bytes e.message)
stop_line (Tree (faulty_tree fault path)) = tree_fault_line fault path.items
stop_line NotAGrammar = lexplain_no_tree_line
stop_line NotATree = codes "lexplain: the lines are no tree\n"
stop_line (Failed no_room) = lexplain_memory_line
stop_line (Tree no_memory) = lexplain_memory_line
stop_line (Trees e) = unshown_line e
