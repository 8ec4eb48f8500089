use Rattle.std.proofs.Common.{◌≡◌, [], subst, sym}
use Rattle.lalrpop_norm_tree.specs.Items.{GrammarData, grammar_view}
use Rattle.lalrpop_norm_model.specs.Scopes.{resolved_grammar}
use Rattle.lalrpop_norm_model.proofs.ResolvedLemmas.{resolved_once}
use Rattle.lalrpop_norm_resolve.specs.NameFaults.{resolve_faults}
use Rattle.lalrpop_norm_resolve.proofs.ResolvedFaults.{faults_gone}
use Rattle.lalrpop_norm_resolve.proofs.resolve.resolve.Goals as goal

pub returns-clause-once : goal.returns-clause-once
returns-clause-once c =
    let g = grammar_view c.args.grammar in
    let told = c.in_ok-resolved.ensures.resolves in
    let P : GrammarData → Type 0 = λ v. (resolve_faults v ≡ []) × (resolved_grammar v ≡ v) in
    subst P (sym told.1) (faults_gone g told.0, resolved_once g)
