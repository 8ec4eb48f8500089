use Rattle.std.proofs.Common.{ap, ◌∙◌}
use Rattle.lalrpop_norm_resolve.specs.NewNames.{table_rows, are_new}
use Rattle.lalrpop_norm_resolve.proofs.NewNameLemmas.{none_made}
use Rattle.lalrpop_norm_resolve.proofs.names.are_new.Goals as goal

pub returns : goal.returns
returns c = c.in_ok-new.ensures ∙ ap (λ rs. are_new rs c.args.made.now) (none_made (table_rows c.args.names) c.with_hasher-read.result c.with_hasher-read.ensures.empty)
