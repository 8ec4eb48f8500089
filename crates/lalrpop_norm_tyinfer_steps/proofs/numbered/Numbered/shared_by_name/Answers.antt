use Rattle.std.proofs.Common.{List, ap, sym, subst, ◌∙◌}
use Rattle.lalrpop_norm_theory.specs.Rounds.{IsDistinct}
use Rattle.lalrpop_norm_tree_names.specs.declared.names.NonterminalString.{NonterminalString}
use Rattle.lalrpop_norm_repr.specs.Tables.{found}
use Rattle.lalrpop_norm_shared_types.specs.declared.shared.SharedType.{SharedType}
use Rattle.lalrpop_norm_shared_types.specs.Table.{shared_rows}
use Rattle.lalrpop_norm_tyinfer_steps.specs.TableValues.{nonterminal_named}
use Rattle.lalrpop_norm_tyinfer_steps.proofs.NumberedLemmas.{first_is, names_in_rows, rows_distinct, rows_first}
use Rattle.lalrpop_norm_tyinfer_steps.proofs.numbered.Numbered.shared_by_name.Goals as goal

pub of_rows-requires : goal.of_rows-requires
of_rows-requires c =
    subst (λ (rows : List (NonterminalString × SharedType)). IsDistinct (names_in_rows rows)) (sym c.in_ok-rows.ensures) (rows_distinct c.args.self.rules.items c.requires.distinct)

pub returns-clause-same : goal.returns-clause-same
returns-clause-same c = λ n.
    c.in_ok-types.ensures.listed (nonterminal_named n)
    ∙ (ap (λ (rows : List (NonterminalString × SharedType)). found (nonterminal_named n) (shared_rows rows)) c.in_ok-rows.ensures
    ∙ (rows_first n c.args.self.rules.items ∙ first_is c.args.self c.requires.numbers c.requires.distinct n))
