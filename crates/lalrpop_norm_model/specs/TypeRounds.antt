-- Rounds of inference: the order in which rules take their types. It matters only for the span of a disagreement.
use Rattle.std.specs.Prelude.{◌≡◌, ℕ, zero, suc, List, [], ◌∷◌, length, Option, Some, None, bytes_eq}
use Rattle.std.specs.Prelude.{if◌then◌else◌}
use Rattle.lalrpop_norm_tree.specs.Accessors.{or_else}
use Rattle.lalrpop_norm_tree.specs.Items.{RuleData, GrammarData}
use Rattle.lalrpop_norm_tree_parts.specs.Reprs.{ReprData}
use Rattle.lalrpop_norm_model.specs.PlainRules.{all_rules}
use Rattle.lalrpop_norm_model.specs.TypeRelation.{TypeClause, type_clauses}
use Rattle.lalrpop_norm_model.specs.TypeTables.{Table, clause_value}

-- a name with its type
abbrev pub TypeRow : Type 0
TypeRow = List ℕ × ReprData

-- the table of some rows: the first row of a name
abbrev pub table_of : List TypeRow → Table
table_of [] n = None
table_of (r ∷ rows) n = if bytes_eq r.0 n then Some r.1 else table_of rows n

-- the type that the first clause makes of which the table makes one
abbrev pub first_value : GrammarData → Table → List TypeClause → Option ReprData
first_value g f [] = None
first_value g f (c ∷ cs) = or_else (clause_value g f c) (first_value g f cs)

-- a name takes a type where it has none
abbrev pub taken : List TypeRow → List ℕ → Option ReprData → Option ReprData → List TypeRow
taken rows n (Some x) v = rows
taken rows n None (Some x) = (n, x) ∷ rows
taken rows n None None = rows

-- the visit of a rule: it takes its declared type once each symbol in it has one, or that of its first alternative that gives one
abbrev pub visit : GrammarData → List TypeRow → RuleData → List TypeRow
visit g rows r = taken rows r.name.0 (table_of rows r.name.0) (first_value g (table_of rows) (type_clauses r))

-- rules visited in order; a type that is taken counts at once
abbrev pub visits : GrammarData → List TypeRow → List RuleData → List TypeRow
visits g rows [] = rows
visits g rows (r ∷ rs) = visits g (visit g rows r) rs

abbrev pub round : GrammarData → List TypeRow → List TypeRow
round g rows = visits g rows (all_rules g)

-- the types taken in the first k rounds
abbrev pub type_rounds : GrammarData → ℕ → List TypeRow
type_rounds g zero = []
type_rounds g (suc k) = round g (type_rounds g k)

-- where the rounds end: the next one adds nothing
pub record IsEnd (g : GrammarData) (rows : List TypeRow) : Type 0 where
  pub count : ℕ
  pub reached : rows ≡ type_rounds g count
  pub quiet : round g rows ≡ rows

-- the types that the rounds give: as many rounds as there are rules are enough
abbrev pub inferred : GrammarData → List TypeRow
inferred g = type_rounds g (length (all_rules g))
