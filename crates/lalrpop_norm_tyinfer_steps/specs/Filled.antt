-- A type table after the last round, and its faults.
use Rattle.std.specs.Prelude.{List, ◌++◌, flat_map}
use Rattle.lalrpop_norm_tree_names.specs.declared.names.TypeParameter.{TypeParameter}
use Rattle.lalrpop_norm_tree.specs.Items.{RuleData, GrammarData}
use Rattle.lalrpop_norm_faults.specs.Faults.{Fault}
use Rattle.lalrpop_norm_repr.specs.Tables.{TypeTable}
use Rattle.lalrpop_norm_model.specs.TuplePatterns.{rule_misfits}
use Rattle.lalrpop_norm_model.specs.TypeRounds.{inferred}
use Rattle.lalrpop_norm_tyinfer_steps.specs.TableFaults.{untyped_in, others_in}
use Rattle.lalrpop_norm_tyinfer_steps.specs.TableValues.{type_by_name}
use Rattle.lalrpop_norm_tyinfer_steps.specs.TokenTypes.{HasTokens}
use Rattle.lalrpop_norm_tyinfer_steps.specs.Visits.{HasRows}

-- the table has the types where the rounds end, and those that need no inference
pub record HasAllRows (g : GrammarData) (types : TypeTable) : Type 0 where
  pub names : HasRows types (inferred g)
  pub tokens : HasTokens g types

-- F49, then F50, then F51 to F53 by a table
abbrev pub table_faults : List TypeParameter → TypeTable → List RuleData → List Fault
table_faults ps tt rs =
    flat_map (untyped_in tt) rs ++ (flat_map (others_in ps tt) rs ++ flat_map (rule_misfits (type_by_name tt)) rs)
