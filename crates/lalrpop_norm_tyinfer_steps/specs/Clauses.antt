-- The typing clauses of a rule, as the code has them.
use Rattle.std.specs.Prelude.{List, [], ◌∷◌, map, Option, Some, None, option_map}
use Rattle.std.specs.Prelude.{if◌then◌else◌}
use Rattle.lalrpop_norm_tree_names.specs.declared.names.TypeParameter.{TypeParameter}
use Rattle.lalrpop_norm_tree.specs.Accessors.{or_else}
use Rattle.lalrpop_norm_tree_parts.specs.Reprs.{ReprData, Reprs, no_reprs, repr_and, tuple}
use Rattle.lalrpop_norm_tree.specs.Symbols.{Kind, Parts, kind_view}
use Rattle.lalrpop_norm_tree.specs.Types.{TypeData, of_symbol, type_view}
use Rattle.lalrpop_norm_repr.specs.Tables.{TypeTable}
use Rattle.lalrpop_norm_model.specs.MadeRules.{group_sources, bare_or_tuple, some_name_value}
use Rattle.lalrpop_norm_model.specs.TypeRelation as model
use Rattle.lalrpop_norm_model.specs.TypeTables.{both}
use Rattle.lalrpop_norm_tyinfer_steps.specs.declared.type_sources.RuleClauses.{RuleClauses}
use Rattle.lalrpop_norm_tyinfer_steps.specs.declared.type_sources.RuleClauses.TheVariants.{Declared, Alternatives}
use Rattle.lalrpop_norm_tyinfer_steps.specs.declared.type_sources.TypeSource.{TypeSource}
use Rattle.lalrpop_norm_tyinfer_steps.specs.declared.type_sources.TypeSource.TheVariants.{Sources, Location}
use Rattle.lalrpop_norm_tyinfer_steps.specs.TableValues.{kind_in, type_in}

-- the type of the values of these symbols
abbrev pub type_of_sources : List Kind → TypeData
type_of_sources ks = bare_or_tuple (map of_symbol ks)

abbrev pub clause_view : TypeSource → model.TypeClause
clause_view (Sources ss) = model.makes (type_of_sources (map (λ t. kind_view t.1.now.kind) ss.items))
clause_view Location = model.locates

abbrev pub clauses_view : RuleClauses → List model.TypeClause
clauses_view (Declared t) = model.makes (type_view t.now) ∷ []
clauses_view (Alternatives cs) = map clause_view cs.items

-- the type that a rule of these clauses declares
abbrev pub declared_by : RuleClauses → Option TypeData
declared_by (Declared t) = Some (type_view t.now)
declared_by (Alternatives cs) = None

-- what an alternative of these symbols without action code has for a clause
abbrev pub default_clause : Parts → Option model.TypeClause
default_clause ps = if some_name_value ps then None else Some (model.makes (type_of_sources (group_sources ps)))

-- the types that some symbols give in a row, if each gives one
abbrev pub kinds_in : TypeTable → List Kind → Option Reprs
kinds_in tt [] = Some no_reprs
kinds_in tt (k ∷ ks) = both repr_and (kind_in tt k) (kinds_in tt ks)

-- the type of the values of some symbols
abbrev pub sources_in : TypeTable → List Kind → Option ReprData
sources_in tt (k ∷ []) = kind_in tt k
sources_in tt ks = option_map tuple (kinds_in tt ks)

-- what a clause makes of a table of types
abbrev pub clause_in : List TypeParameter → TypeTable → model.TypeClause → Option ReprData
clause_in ps tt (model.makes t) = type_in ps tt t
clause_in ps tt model.locates = tt.location

-- what the first clause makes that makes anything
abbrev pub first_in : List TypeParameter → TypeTable → List model.TypeClause → Option ReprData
first_in ps tt [] = None
first_in ps tt (c ∷ cs) = or_else (clause_in ps tt c) (first_in ps tt cs)
