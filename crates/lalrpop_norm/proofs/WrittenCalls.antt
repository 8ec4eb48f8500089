-- The translations of trees over a lowered grammar that realizes the written one.
use Rattle.std.proofs.Common.{ℕ, ◌≤◌, ◌<◌, ◌^◌, refl, arith}
use Rattle.std.specs.Prelude.{None}
use Rattle.lalrpop_norm_theory.specs.Symbols.{reference}
use Rattle.lalrpop_norm_theory.specs.Met.{expanded_symbols}
use Rattle.lalrpop_norm_theory.proofs.RoundsLemmas.{in_left}
use Rattle.lalrpop_norm_conditions.specs.Conditions.{comparison}
use Rattle.lalrpop_norm_model.specs.WrittenRules.{written_rules}
use Rattle.lalrpop_norm_model.specs.Grammars.{roots}
use Rattle.lalrpop_norm_model.proofs.MeaningLemmas.{meaning_has_counts, meaning_has_levels}
use Rattle.lalrpop_norm_explain.specs.Plans.{most_steps}
use Rattle.lalrpop_norm_explain.proofs.Calls.{realized_calls}
use Rattle.lalrpop_norm_explain.proofs.Anywhere.{realized_anywhere, read_faultless}
use Rattle.lalrpop_norm_explain.specs.Anywhere.{CallFitsAnywhere}
use Rattle.lalrpop_norm.specs.Faithful.{IsKnownSymbol, written_meaning, written_name, written_references, written_symbols, traced_derivations}
use Rattle.lalrpop_norm.specs.WayBack.{LevelsAreNarrow, TracedCallsFit, TracedCallFitsAnywhere}
use Rattle.lalrpop_norm.proofs.NarrowLevels.{depth_narrow}

pub levels_narrow : LevelsAreNarrow
levels_narrow fs g n b h = depth_narrow fs g n b h

within : (d : ℕ) → d < 2 ^ 32 → d ≤ most_steps
unfolding most_steps
within d h = omega arith

pub calls_fit : TracedCallsFit
calls_fit fs g rounds l trees is_rule are =
    realized_calls (written_meaning fs g) (meaning_has_counts comparison (written_rules fs g)) (meaning_has_levels comparison (written_rules fs g))
    (written_name fs g) (traced_derivations fs g rounds l) (written_symbols fs g) (expanded_symbols (written_meaning fs g) (written_references fs g) rounds)
    trees.realized
    (λ n b k. within ((written_meaning fs g).depth n b) (levels_narrow fs g n b k))
    is_rule
    (λ n r. (in_left (reference n None) (roots (written_rules fs g)) (written_references fs g) ((are n).0 r), refl))

pub call_fits_anywhere : TracedCallFitsAnywhere
call_fits_anywhere fs g rounds l trees =
    let call : CallFitsAnywhere (written_meaning fs g) (written_name fs g) (traced_derivations fs g rounds l) (IsKnownSymbol fs g rounds) =
    realized_anywhere (written_meaning fs g) (meaning_has_counts comparison (written_rules fs g)) (meaning_has_levels comparison (written_rules fs g))
    (written_name fs g) (traced_derivations fs g rounds l) (written_symbols fs g) (expanded_symbols (written_meaning fs g) (written_references fs g) rounds)
    trees.realized in
    record {
      call = call;
      meant = trees.meant;
      read = read_faultless (written_meaning fs g) (written_name fs g) (traced_derivations fs g rounds l) (IsKnownSymbol fs g rounds) call trees.meant;
    }
