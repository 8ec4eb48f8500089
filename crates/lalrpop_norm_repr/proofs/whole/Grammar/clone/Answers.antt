use Rattle.lalrpop_norm_repr.proofs.SameGrammars.{same_grammars}
use Rattle.lalrpop_norm_repr.proofs.whole.Grammar.clone.Goals as goal

pub returns : goal.returns
returns c =
    same_grammars _ _ _ _ _ _ _ _ _ _ _ _ _ _ _ _ _ _ _ _ _ _ _ _ _ _ _ _ _
    c.in_ok-head.ensures.prefix c.in_ok-head.ensures.algorithm c.in_ok-rules.ensures.starts c.in_ok-texts.ensures.uses
    c.in_ok-signature.ensures.type_parameters c.in_ok-signature.ensures.parameters c.in_ok-signature.ensures.clauses
    c.in_ok-tokens.ensures.token c.in_ok-rules.ensures.actions c.in_ok-tokens.ensures.terminals c.in_ok-rules.ensures.nonterminals
    c.in_ok-tokens.ensures.conversions c.in_ok-types.ensures.cases c.in_ok-texts.ensures.attributes
