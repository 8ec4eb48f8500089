use Rattle.std.proofs.Common.{◌∙◌, sym}
use Rattle.std.proofs.Output.{displays_on_ok_of_eq}
use Rattle.lalrpop_norm_tree_parts.proofs.KnownTextLemmas.{written_then}
use Rattle.lalrpop_norm_shared_types.proofs.SharedTexts.{tuple_printed, applied_printed, function_written}
use Rattle.lalrpop_norm_shared_types.proofs.shared.show.+show.Goals as goal

pub AppliedPathDisplay::fmt-returns-clause-writes : goal.AppliedPathDisplay::fmt-returns-clause-writes
AppliedPathDisplay::fmt-returns-clause-writes g t c =
    let took = g.W.Write.write_str_gives in
    let r = c.show_angled.result in
    displays_on_ok_of_eq took c.args.f.now c.show_angled.new.f r _ _ (applied_printed c.args.self.now)
    (written_then took c.args.f.now _ c.show_angled.new.f r _ _ c.in_ok-fmt.ensures.writes c.show_angled.ensures)

pub SharedTypeDisplay::fmt-returns-in-Tuple-clause-writes : goal.SharedTypeDisplay::fmt-returns-in-Tuple-clause-writes
SharedTypeDisplay::fmt-returns-in-Tuple-clause-writes g t c =
    displays_on_ok_of_eq g.W.Write.write_str_gives _ _ _ _ _ (tuple_printed c.args.self.now c.in-Tuple.types (sym c.deref.ensures ∙ c.in-Tuple.is)) c.show_between.ensures

pub SharedTypeDisplay::fmt-returns-in_ok-show_signature-in-Fn-clause-writes : goal.SharedTypeDisplay::fmt-returns-in_ok-show_signature-in-Fn-clause-writes
SharedTypeDisplay::fmt-returns-in_ok-show_signature-in-Fn-clause-writes g t c =
    function_written g.W.Write.write_str_gives _ _ _ _ c.args.self.now c.in-Fn.forall c.in-Fn.path c.in-Fn.parameters c.in-Fn.ret (sym c.deref.ensures ∙ c.in-Fn.is)
    c.in_ok-show_signature-in-Fn.ensures c.show_return.ensures
