use Rattle.std.proofs.Common.{rules, map, string_bytes}
use Rattle.lnorm_c.proofs.CallLemmas.{refused_for}
use Rattle.lnorm_c.proofs.ended.ended.Goals as goal

pub returns-in-Ok-clause-refused : goal.returns-in-Ok-clause-refused
returns-in-Ok-clause-refused c = λ two.
    refused_for _ _ _ (map string_bytes c.deref.result.now) (search rules) (c.ended_with.ensures.refused two)
