-- What is wrong with two trees that are to show an ambiguity, and answers that report the first of it.
use Rattle.std.specs.Prelude.{◌≡◌, ℕ, Bool, true, false, bytes_eq, if◌then◌else◌, List, [], ◌∷◌, ◌++◌, map, Option, Some, None}
use Rattle.std.specs.Prelude.{Result, Ok, Err}
use Rattle.lalrpop_norm_theory.specs.Symbols.{Name}
use Rattle.lalrpop_norm_theory.specs.WrittenTrees.{WrittenTree, leaf, nothing, list, node, yield}
use Rattle.lalrpop_norm_theory.specs.LoweredTrees.{LoweredTree, ProductionTable}
use Rattle.lalrpop_norm_theory.specs.Translations.{written_tree}
use Rattle.lalrpop_norm_explain.specs.TreeFaults.{Found, explain_faults}
use Rattle.lalrpop_norm_explain.specs.Trees.{written_view}
use Rattle.lalrpop_norm_ambiguity.specs.declared.check.TwoReadings.{TwoReadings}
use Rattle.lalrpop_norm_ambiguity.specs.declared.errors.AmbiguityError.{AmbiguityError}
use Rattle.lalrpop_norm_ambiguity.specs.declared.errors.AmbiguityError.TheVariants.{First, Second, Rules, Yields, Same, Memory}
use Rattle.lalrpop_norm_ambiguity.specs.Differences.{yield_difference, tree_difference}

-- a fault of the first tree, or of the second; trees of two rules; yields that differ first at an index; trees that are the same
pub data PairFinding : Type 0 where
  in_first in_second : Found → PairFinding
  other_rules : PairFinding
  other_yields : ℕ → PairFinding
  same_trees : PairFinding

-- both are nodes of one rule
abbrev pub begin_alike : WrittenTree → WrittenTree → Bool
begin_alike (node n k ts) (node m j ss) = bytes_eq n m
begin_alike _ _ = false

abbrev pub rule_findings : Bool → List PairFinding
rule_findings true = []
rule_findings false = other_rules ∷ []

abbrev pub yield_findings : Option ℕ → List PairFinding
yield_findings None = []
yield_findings (Some i) = other_yields i ∷ []

abbrev pub tree_findings : Option (List ℕ) → List PairFinding
tree_findings None = same_trees ∷ []
tree_findings (Some p) = []

-- of two written trees
abbrev pub pair_findings : WrittenTree → WrittenTree → List PairFinding
pair_findings t s = rule_findings (begin_alike t s)
    ++ (yield_findings (yield_difference 0 (yield t) (yield s)) ++ tree_findings (tree_difference t s))

-- of two derivation trees: faults of the first, of the second, and what is wrong with the trees that they are read as
abbrev pub findings : (Name → Bool) → ProductionTable → LoweredTree → LoweredTree → List PairFinding
findings roots P u v = map in_first (explain_faults roots P u)
    ++ (map in_second (explain_faults roots P v) ++ pair_findings (written_tree P u) (written_tree P v))

abbrev pub first_finding : List PairFinding → Option PairFinding
first_finding [] = None
first_finding (f ∷ fs) = Some f

-- the error is the first finding; out of memory says nothing
abbrev pub IsFirstFound : List PairFinding → AmbiguityError → Type 0
IsFirstFound fs (First x p) = first_finding fs ≡ Some (in_first (x, p.items))
IsFirstFound fs (Second x p) = first_finding fs ≡ Some (in_second (x, p.items))
IsFirstFound fs Rules = first_finding fs ≡ Some other_rules
IsFirstFound fs (Yields i) = first_finding fs ≡ Some (other_yields i)
IsFirstFound fs Same = first_finding fs ≡ Some same_trees
IsFirstFound fs Memory = Unit

-- the answer has these trees, and the path to their difference
abbrev pub HasReadings : TwoReadings → WrittenTree → WrittenTree → Type 0
HasReadings a t s = (written_view a.first ≡ t) × (written_view a.second ≡ s) × (tree_difference t s ≡ Some a.path.items)

-- Ok if the list of findings is empty, with such a value; else the first finding
abbrev pub AnswersFirst : {T : Type 0} → Result T AmbiguityError → List PairFinding → (T → Type 0) → Type 0
AnswersFirst (Ok x) fs P = (fs ≡ []) × P x
AnswersFirst (Err e) fs P = IsFirstFound fs e

-- Ok if the list of findings is empty, with such a value; else the first finding, whatever other ones are behind the list
abbrev pub AnswersBefore : {T : Type 0} → Result T AmbiguityError → List PairFinding → (T → Type 0) → Type 0
AnswersBefore (Ok x) fs P = (fs ≡ []) × P x
AnswersBefore (Err e) fs P = (rest : List PairFinding) → IsFirstFound (fs ++ rest) e

-- Ok if the list of findings is empty, with such a value; else the first finding, with an empty list before it and others behind
abbrev pub AnswersBehind : {T : Type 0} → Result T AmbiguityError → List PairFinding → (T → Type 0) → Type 0
AnswersBehind (Ok x) fs P = (fs ≡ []) × P x
AnswersBehind (Err e) fs P = (before rest : List PairFinding) → before ≡ [] → IsFirstFound (before ++ (fs ++ rest)) e

-- the answer on two written trees: Ok with these
abbrev pub Compares : Result TwoReadings AmbiguityError → WrittenTree → WrittenTree → Type 0
Compares r t s = AnswersFirst r (pair_findings t s) (λ a. HasReadings a t s)

-- the answer on two derivation trees: Ok with what they are read as
abbrev pub Answers : Result TwoReadings AmbiguityError → (Name → Bool) → ProductionTable → LoweredTree → LoweredTree → Type 0
Answers r roots P u v = AnswersFirst r (findings roots P u v) (λ a. HasReadings a (written_tree P u) (written_tree P v))
