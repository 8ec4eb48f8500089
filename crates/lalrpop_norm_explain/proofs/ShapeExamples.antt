-- Faults of written trees, computed in the written language: S = (a b)+ b
use Rattle.std.proofs.Common.{◌≡◌, ℕ, Bool, [], ◌∷◌, ◌&&◌, bytes_eq, nat_eq, refl}
use Rattle.std.specs.Prelude.{Option, Some, None, if◌then◌else◌}
use Rattle.lalrpop_norm_theory.specs.Symbols.{Name, Terminal, bare, ClosedSymbols, terminal, group, plus, symbol_and, only}
use Rattle.lalrpop_norm_theory.specs.Meaning.{Meaning}
use Rattle.lalrpop_norm_theory.specs.WrittenTrees.{WrittenTree, WrittenTrees, leaf, list, node, no_trees, tree_and}
use Rattle.lalrpop_norm_explain.specs.declared.errors.ExplainFault.TheVariants.{Root as NoRoot, Shape as NoShape}
use Rattle.lalrpop_norm_explain.specs.WrittenShapes.{written_faults}

abbrev s_name : Name
s_name = 1 ∷ []

abbrev a : Terminal
a = bare (10 ∷ [])

abbrev b : Terminal
b = bare (11 ∷ [])

abbrev parts : Name → ℕ → Option ClosedSymbols
parts n k =
    if bytes_eq n s_name && nat_eq k 0
    then Some (symbol_and (plus (group (symbol_and (terminal a) (only (terminal b))))) (only (terminal b)))
    else None

abbrev small : Meaning
small = record {
  reference_parts = λ n bound k. parts n k;
  reference_count = λ n. 1;
  own_parts = λ n bound k. parts n k;
  previous = λ n bound. None;
  depth = λ n bound. 0;
  call_parts = λ n args k. None;
  call_count = λ n. 0;
}

abbrev s_only : Name → Bool
s_only n = bytes_eq n s_name

-- two trees in a list
abbrev both : WrittenTree → WrittenTree → WrittenTrees
both t s = tree_and t (tree_and s no_trees)

abbrev fine : WrittenTree
fine = list (both (leaf a) (leaf b))

-- S over two groups, and a leaf
abbrev over : WrittenTree → WrittenTree → WrittenTree
over t s = node s_name 0 (both (list (both fine t)) s)

no_fault : written_faults small s_only (over fine (leaf b)) ≡ []
no_fault = refl

-- a wrong leaf, at its path
wrong_leaf : written_faults small s_only (over (list (both (leaf a) (leaf a))) (leaf b)) ≡ (NoShape, 0 ∷ (1 ∷ (1 ∷ []))) ∷ []
wrong_leaf = refl

-- a wrong number of children, at their list alone
one_more : written_faults small s_only (over (list (tree_and (leaf a) (both (leaf b) (leaf b)))) (leaf b)) ≡ (NoShape, 0 ∷ (1 ∷ [])) ∷ []
one_more = refl

one_less : written_faults small s_only (over (list (tree_and (leaf a) no_trees)) (leaf b)) ≡ (NoShape, 0 ∷ (1 ∷ [])) ∷ []
one_less = refl

-- before those of the children, of which none is reported
one_more_and_wrong : written_faults small s_only (over (list (tree_and (leaf b) (both (leaf b) (leaf b)))) (leaf b)) ≡ (NoShape, 0 ∷ (1 ∷ [])) ∷ []
one_more_and_wrong = refl

-- from left to right
two_wrong : written_faults small s_only (over (leaf a) (leaf a)) ≡ (NoShape, 0 ∷ (1 ∷ [])) ∷ ((NoShape, 1 ∷ []) ∷ [])
two_wrong = refl

-- an alternative that is not there, and a root that is no rule
no_alternative : written_faults small s_only (node s_name 1 no_trees) ≡ (NoShape, []) ∷ []
no_alternative = refl

no_rule : written_faults small s_only (node (2 ∷ []) 0 no_trees) ≡ (NoRoot, []) ∷ []
no_rule = refl
