-- The faults of inference by a table of types, rule by rule.
use Rattle.std.specs.Prelude.{◌≡◌, ◌∷◌, ℕ, Bool, false, List, [], ◌++◌, map, flat_map, Option, Some, None, is_none}
use Rattle.std.specs.Prelude.{if◌then◌else◌}
use Rattle.lalrpop_norm_tree_names.specs.declared.names.Span.{Span}
use Rattle.lalrpop_norm_tree_names.specs.declared.names.TypeParameter.{TypeParameter}
use Rattle.lalrpop_norm_tree_parts.specs.Reprs.{ReprData, Reprs, tuple}
use Rattle.lalrpop_norm_tree.specs.Items.{AlternativeData, RuleData}
use Rattle.lalrpop_norm_tree.specs.Accessors.{tuple_of}
use Rattle.lalrpop_norm_tree.specs.Symbols.{Parts, no_parts, part_and}
use Rattle.lalrpop_norm_faults.specs.Faults.{Fault, fault_if}
use Rattle.lalrpop_norm_faults.specs.declared.kind.FaultKind.{FaultKind}
use Rattle.lalrpop_norm_faults.specs.declared.kind.FaultKind.TheVariants.{NotGrounded, Disagreement}
use Rattle.lalrpop_norm_theory.specs.Rounds.{In}
use Rattle.lalrpop_norm_repr.specs.Tables.{TypeTable}
use Rattle.lalrpop_norm_model.specs.Grammars.{is_nil}
use Rattle.lalrpop_norm_model.specs.InferenceFaults.{is_undeclared, lack_of, is_other}
use Rattle.lalrpop_norm_model.specs.TuplePatterns.{Pattern, symbol_misfits}
use Rattle.lalrpop_norm_model.specs.TypeRelation.{TypeClause, alternative_clause, type_clauses}
use Rattle.lalrpop_norm_model.specs.TypeTables.{Table}
use Rattle.lalrpop_norm_tyinfer_steps.specs.Clauses.{clause_in}
use Rattle.lalrpop_norm_tyinfer_steps.specs.TableValues.{type_by_name}
use Rattle.lalrpop_norm_tyinfer_steps.specs.Visits.{Seen}

-- F47 or F48 at an undeclared rule without a clause
abbrev pub lacking_seen : Seen → List Fault
lacking_seen s = if is_undeclared s.0 then (if is_nil s.1 then lack_of s.0 s.0.alternatives else []) else []

-- F49 at a rule without a type
abbrev pub untyped_in : TypeTable → RuleData → List Fault
untyped_in tt r = fault_if (is_none (type_by_name tt r.name.0)) (NotGrounded, r.span)

-- a clause makes another type than that of the name
abbrev pub disagrees_in : List TypeParameter → TypeTable → List ℕ → Option TypeClause → Bool
disagrees_in ps tt n None = false
disagrees_in ps tt n (Some c) = is_other (clause_in ps tt c) (type_by_name tt n)

-- F50 at an alternative
abbrev pub other_in : List TypeParameter → TypeTable → List ℕ → AlternativeData → List Fault
other_in ps tt n a = fault_if (disagrees_in ps tt n (alternative_clause a)) (Disagreement, a.span)

abbrev pub others_in : List TypeParameter → TypeTable → RuleData → List Fault
others_in ps tt r = if is_undeclared r then flat_map (other_in ps tt r.name.0) r.alternatives else []

-- The clauses are those of the rule. If there is only one, what it makes is the type of the rule.
pub record AgreesAlone (ps : List TypeParameter) (tt : TypeTable) (s : Seen) : Type 0 where
  pub clauses : s.1 ≡ type_clauses s.0
  pub alone : (c : TypeClause) → s.1 ≡ c ∷ [] → (x : ReprData) → clause_in ps tt c ≡ Some x → type_by_name tt s.0.name.0 ≡ Some x

abbrev pub AgreeAlone : List TypeParameter → TypeTable → List Seen → Type 0
AgreeAlone ps tt ss = (s : Seen) → In s ss → AgreesAlone ps tt s

-- kinds of faults at one span
abbrev pub faults_at : Span → List FaultKind → List Fault
faults_at s ks = map (λ k. (k, s)) ks

-- the types of a tuple type
abbrev pub types_in_tuple : ReprData → Option Reprs
types_in_tuple (tuple ts) = Some ts
types_in_tuple x = None

-- F51 to F53 at a tuple symbol
abbrev pub tuple_misfits : Table → Option Pattern → List Fault
tuple_misfits f (Some p) = symbol_misfits f p
tuple_misfits f None = []

abbrev pub parts_misfits : Table → Parts → List Fault
parts_misfits f no_parts = []
parts_misfits f (part_and p ps) = tuple_misfits f (tuple_of p) ++ parts_misfits f ps
