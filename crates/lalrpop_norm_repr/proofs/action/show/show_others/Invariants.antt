use Rattle.std.proofs.Common.{◌≡◌, ◌++◌, List, ℕ}
use Rattle.std.specs.Fmt.{HasWritten, IsPlainFormatter}
use Rattle.std.specs.Iterator.Adapters.{zip_first, zip_second}
use Rattle.std.specs.Slice.Iter.{iter_rest}
use Rattle.lalrpop_norm_repr.proofs.ArgumentTexts.{pair_texts}
use Rattle.lalrpop_norm_repr.proofs.action.show.show_others.Given as goal

-- what is written and the texts of what is left are the whole
abbrev pub invariant-loop-pattern : goal.invariant-loop-pattern
invariant-loop-pattern g l =
    IsPlainFormatter l.initial.f → (written : List ℕ) × HasWritten g.W.Write.write_str_gives l.initial.f written l.f
    × (written ++ pair_texts (iter_rest (zip_first l.pattern-iterator)) (iter_rest (zip_second l.pattern-iterator)) ≡ pair_texts l.patterns l.types)
