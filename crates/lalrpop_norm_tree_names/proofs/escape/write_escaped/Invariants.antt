use Rattle.std.specs.Fmt.{HasWritten, IsPlainFormatter}
use Rattle.std.specs.List.{flat_map}
use Rattle.lalrpop_norm_tree_names.specs.Texts.{escape_char}
use Rattle.lalrpop_norm_tree_names.proofs.escape.write_escaped.Given as goal

abbrev pub invariant-loop-c : goal.invariant-loop-c
invariant-loop-c g l =
    IsPlainFormatter l.initial.f → HasWritten g.W.Write.write_str_gives l.initial.f (flat_map escape_char l.yielded) l.f
