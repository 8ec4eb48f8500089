use Rattle.std.proofs.Common.{[], sym}
use Rattle.std.proofs.lemmas.List.{append-nil}
use Rattle.std.proofs.lemmas.Result.{IfOk-from_err}
use Rattle.lalrpop_norm_tree_parts.specs.LifetimeNames.{scope_of}
use Rattle.lalrpop_norm_tree_parts.proofs.ReprKinds.{named_as_it_is}
use Rattle.lalrpop_norm_tree_parts.proofs.lowered.naming.name_here.Goals as goal

pub returns-in-Tuple : goal.returns-in-Tuple
returns-in-Tuple c = record {
  named = named_as_it_is c.args.ty c.args.prefix.now (scope_of c.args.parameters.now.items c.args.clauses.now.items) c.in-Tuple.is;
  parameters = ([], sym (append-nil c.args.parameters.now.items));
  clauses = ([], sym (append-nil c.args.clauses.now.items));
}

pub returns-in_err-lifetime-in-Ref : goal.returns-in_err-lifetime-in-Ref
returns-in_err-lifetime-in-Ref c = record {
  named = IfOk-from_err _ _ c.from_residual.ensures.0;
  parameters = c.in_err-lifetime-in-Ref.ensures.begins;
  clauses = ([], sym (append-nil c.args.clauses.now.items));
}

pub returns-in_err-add_outlives-in-Ref : goal.returns-in_err-add_outlives-in-Ref
returns-in_err-add_outlives-in-Ref c = record {
  named = IfOk-from_err _ _ c.from_residual-in_err-add_outlives-in-Ref.ensures.0;
  parameters = c.in_ok-lifetime-in-Ref.ensures.begins;
  clauses = c.in_err-add_outlives-in-Ref.ensures.begins;
}
