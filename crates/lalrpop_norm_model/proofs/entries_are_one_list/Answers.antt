use Rattle.lalrpop_norm_model.proofs.EntryLists.{entries_are_one_list}
use Rattle.lalrpop_norm_model.proofs.entries_are_one_list.Goals as goal

pub returns : goal.returns
returns c = entries_are_one_list
