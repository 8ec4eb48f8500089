use Rattle.std.proofs.Common.{◌≡◌, Option, subst, refl}
use Rattle.std.specs.Prelude.{IfOk, option_map}
use Rattle.lalrpop_norm_tree.specs.Items.{alternative_view}
use Rattle.lalrpop_norm_model.specs.TypeRelation.{TypeClause}
use Rattle.lalrpop_norm_tyinfer_steps.specs.Clauses.{clause_view}
use Rattle.lalrpop_norm_tyinfer_steps.proofs.ClauseLemmas.{default_is}
use Rattle.lalrpop_norm_tyinfer_steps.proofs.type_sources.alternative_clause.Goals as goal

pub returns-in-None : goal.returns-in-None
returns-in-None c =
    let P : Option TypeClause → Type 0 = λ v. IfOk c.default_clause.result (λ o. option_map clause_view o ≡ v) in
    subst P (default_is (alternative_view c.args.alternative.now) (rw c.in-None.is refl)) c.default_clause.ensures
