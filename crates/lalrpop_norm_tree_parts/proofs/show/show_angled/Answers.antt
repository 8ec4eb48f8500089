use Rattle.std.proofs.Common.{sym, ◌∙◌}
use Rattle.lalrpop_norm_tree_parts.proofs.WrittenLemmas.{failed, no_arguments, arguments_written}
use Rattle.lalrpop_norm_tree_parts.proofs.show.show_angled.Goals as goal

pub returns-then-is_empty : goal.returns-then-is_empty
returns-then-is_empty g c = no_arguments g.W.Write.write_str_gives g.T.Display.output c.args.items.now c.args.f.now (sym c.is_empty.ensures ∙ c.if-is_empty.true)

pub returns-in_err-write_str : goal.returns-in_err-write_str
returns-in_err-write_str g c = failed g.W.Write.write_str_gives _ _ _ _ c.from_residual.ensures.0

pub returns-in_err-show_joined : goal.returns-in_err-show_joined
returns-in_err-show_joined g c = failed g.W.Write.write_str_gives _ _ _ _ c.from_residual-in_err-show_joined.ensures.0

pub returns : goal.returns
returns g c =
    arguments_written g.W.Write.write_str_gives g.T.Display.output c.args.items.now _ _ _ _ _ (sym c.is_empty.ensures ∙ c.if-is_empty.false)
    c.in_ok-write_str.ensures.writes c.in_ok-show_joined.ensures c.write_str-2.ensures.writes
