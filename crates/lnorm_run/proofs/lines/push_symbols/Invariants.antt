use Rattle.std.proofs.Common.{◌≡◌, ◌++◌, codes, string_bytes, take}
use Rattle.std.specs.List.{flat_map}
use Rattle.lalrpop_norm_repr.specs.ReprTexts.{symbol_text}
use Rattle.lnorm_run.proofs.lines.push_symbols.Given as goal

abbrev pub invariant-loop-other : goal.invariant-loop-other
invariant-loop-other l = string_bytes l.text ≡ string_bytes l.initial.text ++ flat_map (λ s. codes ", " ++ symbol_text s) (take l.other-index l.others)
