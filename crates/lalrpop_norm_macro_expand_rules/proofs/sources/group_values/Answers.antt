use Rattle.std.proofs.Common.{◌∙◌, ap, map}
use Rattle.lalrpop_norm_tree.specs.Types.{type_view}
use Rattle.lalrpop_norm_macro_expand_rules.specs.Sources.{types_code}
use Rattle.lalrpop_norm_macro_expand_rules.proofs.SourceLemmas.{code_same}
use Rattle.lalrpop_norm_macro_expand_rules.proofs.sources.group_values.Goals as goal

pub returns-clause-code : goal.returns-clause-code
returns-clause-code c =
    c.types_code-code.ensures
    ∙ ap (λ ts. types_code (map type_view ts)) c.deref.ensures.value
    ∙ ap types_code c.in_ok-types.ensures
    ∙ code_same _
