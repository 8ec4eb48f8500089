-- The types of rules by number, as a type table.
use Rattle.std.specs.Prelude.{◌≡◌, ◌<◌, ◌++◌, ◌∷◌, ℕ, List, [], length, map, flat_map, Option, Some, None, option_map, slice_get}
use Rattle.lalrpop_norm_names.specs.Numbers.{number_in_table, names_looked_up}
use Rattle.lalrpop_norm_tree_names.specs.declared.names.NonterminalString.{NonterminalString}
use Rattle.lalrpop_norm_tree_parts.specs.Reprs.{ReprData}
use Rattle.lalrpop_norm_repr.specs.Tables.{TypeTable, type_table}
use Rattle.lalrpop_norm_shared_types.specs.declared.shared.SharedType.{SharedType}
use Rattle.lalrpop_norm_shared_types.specs.Shared.{shared_view}
use Rattle.lalrpop_norm_tyinfer_steps.specs.declared.numbered.Numbered.{Numbered}
use Rattle.lalrpop_norm_tyinfer_steps.specs.Needs.{names_seen, AreRuleNumbers}
use Rattle.lalrpop_norm_tyinfer_steps.specs.TableValues.{nonterminal_named}
use Rattle.lalrpop_norm_tyinfer_steps.specs.Visits.{Seen}

-- the names, each at its number
abbrev pub names_numbered : Numbered → List (List ℕ)
names_numbered t = map (λ r. r.0.0) t.rules.items

-- the type that a rule has
abbrev pub type_of_rule : Option (NonterminalString × Option SharedType) → Option ReprData
type_of_rule None = None
type_of_rule (Some r) = option_map shared_view r.1

-- the type at a number
abbrev pub type_at : List (NonterminalString × Option SharedType) → Option ℕ → Option ReprData
type_at rs None = None
type_at rs (Some k) = type_of_rule (slice_get rs k)

-- the type at the number of a name
abbrev pub type_by_number : Numbered → List ℕ → Option ReprData
type_by_number t n = type_at t.rules.items (number_in_table t.names n)

abbrev pub row_if : List ℕ → Option ReprData → List (NonterminalString × ReprData)
row_if n None = []
row_if n (Some x) = (nonterminal_named n, x) ∷ []

-- a row for each of these names that has a type
abbrev pub typed_rows : (List ℕ → Option ReprData) → List (List ℕ) → List (NonterminalString × ReprData)
typed_rows f [] = []
typed_rows f (n ∷ ns) = row_if n (f n) ++ typed_rows f ns

-- the row of a rule, if it has a type
abbrev pub row_with : NonterminalString → Option SharedType → List (NonterminalString × SharedType)
row_with n None = []
row_with n (Some t) = (n, t) ∷ []

-- a row for each rule that has a type
abbrev pub rows_of_rules : List (NonterminalString × Option SharedType) → List (NonterminalString × SharedType)
rows_of_rules rs = flat_map (λ r. row_with r.0 r.1) rs

-- the table of types that they are
abbrev pub numbered_table : Numbered → TypeTable
numbered_table t = record (type_table t.tokens) { nonterminals = typed_rows (type_by_number t) (names_looked_up t.names) }

-- the number takes a type
pub record PutsType (t after : Numbered) (number : ℕ) (x : ReprData) : Type 0 where
  pub names : after.names ≡ t.names
  pub listed : names_numbered after ≡ names_numbered t
  pub tokens : after.tokens ≡ t.tokens
  pub here : type_at after.rules.items (Some number) ≡ Some x
  pub others : (q : ℕ) → (number ≡ q → ⊥) → type_at after.rules.items (Some q) ≡ type_at t.rules.items (Some q)

-- numbers, names and tokens stay
pub record HasSameNumbers (t after : Numbered) : Type 0 where
  pub names : after.names ≡ t.names
  pub listed : names_numbered after ≡ names_numbered t
  pub tokens : after.tokens ≡ t.tokens

-- the number of that name, and of no other
pub record IsNumberOf (t : Numbered) (n : List ℕ) (number : ℕ) : Type 0 where
  pub is : number_in_table t.names n ≡ Some number
  pub alone : (m : List ℕ) → number_in_table t.names m ≡ Some number → m ≡ n
  pub within : number < length t.rules.items

-- these rules have their indices as numbers, and only their names may have types
pub record NumbersRules (t : Numbered) (ss : List Seen) : Type 0 where
  pub numbers : AreRuleNumbers (number_in_table t.names) (names_seen ss)
  pub listed : names_numbered t ≡ names_seen ss
  pub tokens : (type_table t.tokens).nonterminals ≡ []
