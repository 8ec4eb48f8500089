use Rattle.std.proofs.Common.{◌++◌, take, codes}
use Rattle.std.specs.Fmt.{HasWritten, IsPlainFormatter}
use Rattle.std.specs.List.{flat_map}
use Rattle.lalrpop_norm_repr.specs.Actions.{inlined_symbol_view}
use Rattle.lalrpop_norm_repr.specs.ReprTexts.{argument_text}
use Rattle.lalrpop_norm_repr.proofs.action.show.show_arguments.Given as goal

abbrev pub invariant-loop-other : goal.invariant-loop-other
invariant-loop-other g l =
    IsPlainFormatter l.initial.f → HasWritten g.W.Write.write_str_gives l.initial.f (flat_map (λ s. codes ", " ++ argument_text (inlined_symbol_view s)) (take l.other-index l.others)) l.f
