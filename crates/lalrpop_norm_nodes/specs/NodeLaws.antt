-- What is proved of the definitions.
use Rattle.std.specs.Prelude.{◌≡◌, ℕ, List, [], ◌++◌, map}
use Rattle.lalrpop_norm_tree_names.specs.declared.names.Span.{Span}
use Rattle.lalrpop_norm_tree.specs.Symbols.{Kind, Part, at}
use Rattle.lalrpop_norm_model.specs.PlainRules.{met}
use Rattle.lalrpop_norm_nodes.specs.Apart.{unplaced, unplaced_kind}
use Rattle.lalrpop_norm_nodes.specs.Meeting.{met_inside}
use Rattle.lalrpop_norm_nodes.specs.declared.table.Table.{Table}
use Rattle.lalrpop_norm_tree.specs.SymbolTexts.{kind_text}
use Rattle.lalrpop_norm_nodes.specs.declared.given.Environment.{Environment}
use Rattle.lalrpop_norm_nodes.specs.Given.{AreGiven, whole_for, kind_shown, kind_whole}
use Rattle.lalrpop_norm_nodes.specs.Wholes.{Whole, one_symbol, StandsFor, Grows}
use Rattle.lalrpop_norm_nodes.specs.Tables.{wholes_in, own_at, seen_in, numbered_in, IsNodeTable, TableMeets, refused_in}
use Rattle.lalrpop_norm_nodes.specs.Waits.{first_met, LeavesWaiting}

abbrev pub MeetsInTwo : Type 0
MeetsInTwo =
    (a b c : Table) (xs ys : List Part) → TableMeets a b xs → TableMeets b c ys →
    TableMeets a c (xs ++ ys) × (refused_in a (xs ++ ys) ≡ refused_in a xs ++ refused_in b ys)

abbrev pub StandingMeetsNothing : Type 0
StandingMeetsNothing =
    (t : Table) (i : ℕ) (k : Kind) (s : Span) → IsNodeTable t → StandsFor (wholes_in t) i (one_symbol k) →
    (refused_in t (met (at s k)) ≡ []) × TableMeets t t (met (at s k))

abbrev pub GivenStay : Type 0
GivenStay =
    (ws vs : List Whole) (e : Environment) → Grows ws vs → AreGiven ws e →
    AreGiven vs e × (whole_for vs e ≡ whole_for ws e) × ((k : Kind) → kind_text (kind_shown e k) ≡ kind_text (kind_whole ws e k))

-- a symbol that is read reaches what is inside it, and then what its node is desugared to; its errors are found in that order
abbrev pub ReadsInTwo : Type 0
ReadsInTwo =
    (a b d : Table) (s : Span) (k : Kind) → TableMeets a b (met_inside k) → refused_in a (met_inside k) ≡ [] →
    TableMeets b d (own_at s (one_symbol (unplaced_kind k))) →
    TableMeets a d (met (at s k)) × (refused_in a (met (at s k)) ≡ refused_in b (own_at s (one_symbol (unplaced_kind k))))

-- where symbols are reached, and put on the worklist as they are rewritten (`shown`), the ids on the worklist stand for the first
-- of each text
abbrev pub NumbersOfWaiting : Type 0
NumbersOfWaiting =
    (a b : Table) (xs ys : List Part) → TableMeets a b xs → LeavesWaiting a b ys →
    numbered_in b ≡ numbered_in a ++ map unplaced (first_met (seen_in a) xs)
