-- Rounds of visits over rules with their clauses, and what they do to a type table.
use Rattle.std.specs.Prelude.{◌≡◌, ℕ, zero, suc, Bool, true, false, List, [], ◌∷◌, Option, Some, None, IsSome}
use Rattle.lalrpop_norm_tree_names.specs.declared.names.TypeParameter.{TypeParameter}
use Rattle.lalrpop_norm_tree.specs.Items.{RuleData, GrammarData, rule_view}
use Rattle.lalrpop_norm_tree_parts.specs.Reprs.{ReprData}
use Rattle.lalrpop_norm_repr.specs.Tables.{TypeTable}
use Rattle.lalrpop_norm_model.specs.TypeRelation.{TypeClause, type_clauses}
use Rattle.lalrpop_norm_model.specs.TypeRounds.{TypeRow, table_of, first_value, taken}
use Rattle.lalrpop_norm_tyinfer_steps.specs.declared.rules.PlainRule.{PlainRule}
use Rattle.lalrpop_norm_tyinfer_steps.specs.Clauses.{clauses_view, declared_by}
use Rattle.lalrpop_norm_tyinfer_steps.specs.TableValues.{type_by_name}
use Rattle.lalrpop_norm_tyinfer_steps.specs.TokenTypes.{HasTokens}

-- ---- rules with their clauses

abbrev pub Seen : Type 0
Seen = RuleData × List TypeClause

-- a rule, with the declared type that its clauses show
abbrev pub plain_rule_view : PlainRule → RuleData
plain_rule_view r = record (rule_view r.data.now) { type_decl = declared_by r.clauses }

abbrev pub rule_seen : PlainRule → Seen
rule_seen r = (plain_rule_view r, clauses_view r.clauses)

abbrev pub with_clauses : RuleData → Seen
with_clauses r = (r, type_clauses r)

-- ---- visits

abbrev pub visit_seen : GrammarData → List TypeRow → Seen → List TypeRow
visit_seen g rows s = taken rows s.0.name.0 (table_of rows s.0.name.0) (first_value g (table_of rows) s.1)

abbrev pub visits_seen : GrammarData → List TypeRow → List Seen → List TypeRow
visits_seen g rows [] = rows
visits_seen g rows (s ∷ ss) = visits_seen g (visit_seen g rows s) ss

abbrev pub rounds_seen : GrammarData → List Seen → ℕ → List TypeRow
rounds_seen g ss zero = []
rounds_seen g ss (suc k) = visits_seen g (rounds_seen g ss k) ss

-- ---- the type table

-- the table gives names the types of the rows
abbrev pub HasRows : TypeTable → List TypeRow → Type 0
HasRows tt rows = (n : List ℕ) → type_by_name tt n ≡ table_of rows n

-- the grammar has these type parameters, and the table the types that it needs beside those of names
pub record IsReadBy (g : GrammarData) (ps : List TypeParameter) (tt : TypeTable) : Type 0 where
  pub parameters : g.type_parameters ≡ ps
  pub tokens : HasTokens g tt

-- The visit of a rule of that name that may take that type, and whether it does: if not, the table stays as it is. A name that
-- has a type keeps it.
pub record TakesType (before after : TypeTable) (n : List ℕ) (v : Option ReprData) (added : Bool) : Type 0 where
  pub table : (rows : List TypeRow) → HasRows before rows → HasRows after (taken rows n (table_of rows n) v)
  pub quiet : added ≡ false → type_by_name before n ≡ None → v ≡ None
  pub still : added ≡ false → after ≡ before
  pub told : added ≡ true → IsSome (type_by_name after n)
  pub kept : (m : List ℕ) (x : ReprData) → type_by_name before m ≡ Some x → type_by_name after m ≡ Some x
  pub others : (m : List ℕ) → (m ≡ n → ⊥) → type_by_name after m ≡ type_by_name before m
  pub rest : after ≡ record before { nonterminals = after.nonterminals }

-- the visits of some rules
pub record Passes (ps : List TypeParameter) (before after : TypeTable) (ss : List Seen) : Type 0 where
  pub table : (g : GrammarData) → IsReadBy g ps before → (rows : List TypeRow) → HasRows before rows →
      HasRows after (visits_seen g rows ss)
  pub rest : after ≡ record before { nonterminals = after.nonterminals }

-- so many rounds of visits
pub record EndsRounds (ps : List TypeParameter) (before after : TypeTable) (ss : List Seen) (count : ℕ) : Type 0 where
  pub table : (g : GrammarData) → IsReadBy g ps before → HasRows before [] → HasRows after (rounds_seen g ss count)
  pub rest : after ≡ record before { nonterminals = after.nonterminals }
