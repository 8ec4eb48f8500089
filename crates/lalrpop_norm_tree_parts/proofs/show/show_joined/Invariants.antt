use Rattle.std.proofs.Common.{map, take}
use Rattle.std.specs.Fmt.{HasWritten, IsPlainFormatter}
use Rattle.std.specs.Option.{IfSome}
use Rattle.lalrpop_norm_tree_parts.specs.KnownTexts.{texts_after}
use Rattle.lalrpop_norm_tree_parts.proofs.show.show_joined.Given as goal

abbrev pub invariant-loop-other : goal.invariant-loop-other
invariant-loop-other g l =
    IsPlainFormatter l.initial.f → IfSome (texts_after l.separator (map g.T.Display.output (take l.other-index l.others))) (λ bs. HasWritten g.W.Write.write_str_gives l.initial.f bs l.f)
