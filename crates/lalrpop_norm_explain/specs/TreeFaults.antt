-- What is wrong with a lowered tree, and answers that name the first of it.
use Rattle.std.specs.Prelude.{◌≡◌, ℕ, ◌+◌, Bool, true, false, if◌then◌else◌, bytes_eq, slice_get, List, [], ◌∷◌, ◌++◌}
use Rattle.std.specs.Prelude.{reverse, Option, Some, None, Result, Ok, Err}
use Rattle.lalrpop_norm_theory.specs.Symbols.{Name}
use Rattle.lalrpop_norm_theory.specs.Same.{same_closed_terminal}
use Rattle.lalrpop_norm_theory.specs.LoweredTrees.{ProductionTable, Production, LoweredSymbol, terminal_symbol}
use Rattle.lalrpop_norm_theory.specs.LoweredTrees.{nonterminal_symbol, LoweredTree, LoweredTrees, lowered_leaf, lowered_node}
use Rattle.lalrpop_norm_theory.specs.LoweredTrees.{no_lowered, lowered_and}
use Rattle.lalrpop_norm_theory.specs.WrittenTrees.{WrittenTree}
use Rattle.lalrpop_norm_theory.specs.Translations.{written_tree}
use Rattle.lalrpop_norm_explain.specs.declared.errors.ExplainFault.TheVariants.{Root as NoRoot, Production as NoProduction}
use Rattle.lalrpop_norm_explain.specs.declared.errors.ExplainFault.TheVariants.{Child as WrongChild}
use Rattle.lalrpop_norm_explain.specs.declared.errors.ExplainFault.{ExplainFault}
use Rattle.lalrpop_norm_explain.specs.declared.errors.ExplainError.{ExplainError}
use Rattle.lalrpop_norm_explain.specs.declared.errors.ExplainError.TheVariants.{Refused, Memory}

-- a fault, and the indices of children that lead to it
abbrev pub Found : Type 0
Found = ExplainFault × List ℕ

abbrev pub first_found : List Found → Option Found
first_found [] = None
first_found (f ∷ fs) = Some f

-- faults of the child of an index, seen from its node
abbrev pub raised : ℕ → List Found → List Found
raised i [] = []
raised i (f ∷ fs) = (f.0, i ∷ f.1) ∷ raised i fs

-- the error names the first of the faults; a failed allocation says nothing
abbrev pub IsFound : List Found → ExplainError → Type 0
IsFound fs (Refused x p) = first_found fs ≡ Some (x, p.items)
IsFound fs Memory = Unit

-- the error names the first of the faults, with the path read upwards
abbrev pub IsFoundUp : List Found → ExplainError → Type 0
IsFoundUp fs (Refused x p) = first_found fs ≡ Some (x, reverse p.items)
IsFoundUp fs Memory = Unit

-- the second has the first's path turned round
abbrev pub Turned : ExplainError → ExplainError → Type 0
Turned e d = (fs : List Found) → IsFoundUp fs e → IsFound fs d

-- Ok with a fact of the value where there is no fault, else the first one, unless an allocation fails
abbrev pub Finds : {T : Type 0} → Result T ExplainError → List Found → (T → Type 0) → Type 0
Finds (Ok x) fs P = (fs ≡ []) × P x
Finds (Err e) fs P = IsFound fs e

abbrev pub FindsUp : {T : Type 0} → Result T ExplainError → List Found → (T → Type 0) → Type 0
FindsUp (Ok x) fs P = (fs ≡ []) × P x
FindsUp (Err e) fs P = IsFoundUp fs e

-- ---- faults of lowered trees

-- a tree is of a symbol, seen at its root
abbrev pub is_of : LoweredSymbol → LoweredTree → Bool
is_of (terminal_symbol a) (lowered_leaf b) = same_closed_terminal a b
is_of (terminal_symbol a) (lowered_node m p us) = false
is_of (nonterminal_symbol n) (lowered_leaf b) = false
is_of (nonterminal_symbol n) (lowered_node m p us) = bytes_eq n m

-- one tree for each symbol
abbrev pub is_one_each : LoweredTrees → List LoweredSymbol → Bool
is_one_each no_lowered [] = true
is_one_each no_lowered (s ∷ ss) = false
is_one_each (lowered_and u us) [] = false
is_one_each (lowered_and u us) (s ∷ ss) = is_one_each us ss

-- faults of a node: of its production, then of the number of its children, then of these
abbrev pub node_faults : LoweredTrees → Option Production → (List LoweredSymbol → List Found) → List Found
node_faults us None below = (NoProduction, []) ∷ []
node_faults us (Some q) below = if is_one_each us q.symbols then below q.symbols else (WrongChild, []) ∷ []

-- faults of the child of an index
abbrev pub child_faults : ℕ → Bool → List Found → List Found
child_faults i ok below = if ok then raised i below else (WrongChild, i ∷ []) ∷ []

abbrev mutual
  pub tree_faults : ProductionTable → LoweredTree → List Found
  tree_faults P (lowered_leaf a) = []
  tree_faults P (lowered_node n p us) = node_faults us (slice_get (P n) p) (λ ss. children_faults P us ss 0)

  -- of the children from an index on
  pub children_faults : ProductionTable → LoweredTrees → List LoweredSymbol → ℕ → List Found
  children_faults P no_lowered ss i = []
  children_faults P (lowered_and u us) [] i = []
  children_faults P (lowered_and u us) (s ∷ ss) i = child_faults i (is_of s u) (tree_faults P u)
      ++ children_faults P us ss (i + 1)

-- a root is a node of a name at which trees may begin
abbrev pub is_begun : (Name → Bool) → LoweredTree → Bool
is_begun roots (lowered_leaf a) = false
is_begun roots (lowered_node n p us) = roots n

abbrev pub is_any : List Production → Bool
is_any [] = false
is_any (q ∷ qs) = true

-- the name is that of a nonterminal that has productions
abbrev pub has_productions : ProductionTable → Name → Bool
has_productions P n = is_any (P n)

-- faults of a whole tree: of its root, then of the tree
abbrev pub explain_faults : (Name → Bool) → ProductionTable → LoweredTree → List Found
explain_faults roots P u = if is_begun roots u then tree_faults P u else (NoRoot, []) ∷ []

-- t is what the origins make of u
abbrev pub Reads : ProductionTable → LoweredTree → WrittenTree → Type 0
Reads P u t = t ≡ written_tree P u
