-- All errors of inference, in visiting order.
use Rattle.std.specs.Prelude.{Bool, true, false, not, List, [], ◌∷◌, ◌++◌, map, filter, flat_map, Option, Some, None}
use Rattle.std.specs.Prelude.{is_none, if◌then◌else◌}
use Rattle.lalrpop_norm_tree.specs.Items.{AlternativeData, RuleData, GrammarData}
use Rattle.lalrpop_norm_tree_parts.specs.Reprs.{ReprData}
use Rattle.lalrpop_norm_faults.specs.Faults.{Fault}
use Rattle.lalrpop_norm_faults.specs.declared.kind.FaultKind.TheVariants.{NoAlternatives, OnlyCoded, NotGrounded, Disagreement}
use Rattle.lalrpop_norm_model.specs.Grammars.{is_nil}
use Rattle.lalrpop_norm_model.specs.PlainRules.{all_rules}
use Rattle.lalrpop_norm_model.specs.SameTypes.{same_type}
use Rattle.lalrpop_norm_model.specs.TypeRelation.{TypeClause, alternative_clause, type_clauses}
use Rattle.lalrpop_norm_model.specs.TypeTables.{Table, clause_value}
use Rattle.lalrpop_norm_model.specs.TypeRounds.{table_of, inferred}
use Rattle.lalrpop_norm_model.specs.TuplePatterns.{pattern_misfits}

-- ---- rules for which no type is derivable

abbrev pub is_undeclared : RuleData → Bool
is_undeclared r = is_none r.type_decl

-- the rules without a declared type
abbrev pub undeclared : GrammarData → List RuleData
undeclared g = filter is_undeclared (all_rules g)

-- no alternatives at all; or some, none of which is a default one or a location symbol
abbrev pub lack_of : RuleData → List AlternativeData → List Fault
lack_of r [] = (NoAlternatives, r.span) ∷ []
lack_of r (a ∷ rest) = (OnlyCoded, a.span) ∷ []

-- what an undeclared rule lacks
abbrev pub lacking : RuleData → List Fault
lacking r = if is_nil (type_clauses r) then lack_of r r.alternatives else []

-- ---- types where the rounds end

-- the table where the rounds end
abbrev pub inferred_table : GrammarData → Table
inferred_table g = table_of (inferred g)

-- the rules without a type where the rounds end
abbrev pub untyped_rules : GrammarData → List RuleData
untyped_rules g = filter (λ r. is_none (inferred_table g r.name.0)) (all_rules g)

-- a type is given, and it is not the type that the rule has
abbrev pub is_other : Option ReprData → Option ReprData → Bool
is_other None v = false
is_other (Some x) None = true
is_other (Some x) (Some y) = not (same_type x y)

abbrev pub clause_disagrees : GrammarData → RuleData → Option TypeClause → Bool
clause_disagrees g r None = false
clause_disagrees g r (Some c) = is_other (clause_value g (inferred_table g) c) (inferred_table g r.name.0)

-- the alternatives of a rule that give another type than the rule has where the rounds end
abbrev pub disagreeing_in : GrammarData → RuleData → List AlternativeData
disagreeing_in g r = filter (λ a. clause_disagrees g r (alternative_clause a)) r.alternatives

-- those of the rules without a declared type
abbrev pub disagreeing : GrammarData → List AlternativeData
disagreeing g = flat_map (disagreeing_in g) (undeclared g)

-- ---- all of them

-- Undeclared rules that lack what gives a type; then the rules without a type; then the alternatives that disagree; then the
-- tuple patterns that do not fit.
abbrev pub inference_faults : GrammarData → List Fault
inference_faults g =
    flat_map lacking (undeclared g)
    ++ map (λ (r : RuleData). (NotGrounded, r.span)) (untyped_rules g)
    ++ map (λ (a : AlternativeData). (Disagreement, a.span)) (disagreeing g)
    ++ pattern_misfits g (inferred_table g)
