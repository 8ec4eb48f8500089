-- What a rule that declares a type has by a table of types.
use Rattle.std.proofs.Common.{◌≡◌, List, Option, Some, None, Bor, sym, ap, ◌∙◌}
use Rattle.lalrpop_norm_tree_names.specs.declared.names.TypeParameter.{TypeParameter}
use Rattle.lalrpop_norm_tree_parts.specs.Reprs.{ReprData}
use Rattle.lalrpop_norm_tree.specs.declared.types.TypeRef.{TypeRef}
use Rattle.lalrpop_norm_tree.specs.Accessors.{or_else}
use Rattle.lalrpop_norm_tree.specs.Types.{type_view}
use Rattle.lalrpop_norm_repr.specs.Tables.{TypeTable}
use Rattle.lalrpop_norm_tyinfer_steps.specs.declared.type_sources.RuleClauses.{RuleClauses}
use Rattle.lalrpop_norm_tyinfer_steps.specs.declared.type_sources.RuleClauses.TheVariants.{Declared}
use Rattle.lalrpop_norm_tyinfer_steps.specs.Clauses.{clauses_view, first_in}
use Rattle.lalrpop_norm_tyinfer_steps.specs.TableValues.{type_in}

-- what its declared type means
pub declared_first : (ps : List TypeParameter) (tt : TypeTable) (x : ReprData) (cs : RuleClauses) (t : Bor TypeRef) → cs ≡ Declared t → type_in ps tt (type_view t.now) ≡ Some x →
    Some x ≡ first_in ps tt (clauses_view cs)
declared_first ps tt x cs t is means = sym (ap (λ (ds : RuleClauses). first_in ps tt (clauses_view ds)) is ∙ ap (λ (o : Option ReprData). or_else o None) means)
