use Rattle.std.proofs.Common.{Vec, Global, ap, ◌∙◌}
use Rattle.lalrpop_norm_nodes.specs.declared.table.Waiting.{Waiting}
use Rattle.lalrpop_norm_nodes.proofs.TableLemmas.{waiting_none}
use Rattle.lalrpop_norm_nodes.proofs.table.Table.take_waiting.Goals as goal

pub returns-clause-table : goal.returns-clause-table
returns-clause-table c =
    waiting_none c.args.self.now c.replace.new.dest c.requires (ap (λ (v : Vec Waiting Global). v.items) c.replace.ensures.after ∙ c.new.ensures.items)
