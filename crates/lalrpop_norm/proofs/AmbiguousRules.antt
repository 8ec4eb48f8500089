-- Ambiguity of written rules, and of their names in the lowered grammar.
use Rattle.std.specs.Prelude.{None}
use Rattle.lalrpop_norm_theory.specs.Symbols.{reference}
use Rattle.lalrpop_norm_theory.proofs.RoundsLemmas.{in_left}
use Rattle.lalrpop_norm_model.specs.WrittenRules.{written_rules}
use Rattle.lalrpop_norm_model.specs.Grammars.{roots}
use Rattle.lalrpop_norm_ambiguity.proofs.Exactly.{ambiguous_exactly}
use Rattle.lalrpop_norm.specs.Faithful.{written_meaning, written_name, written_references, traced_derivations}
use Rattle.lalrpop_norm.specs.WayBack.{RulesAreAmbiguousExactly}

pub rules_ambiguous : RulesAreAmbiguousExactly
rules_ambiguous fs g rounds l trees = record {
  rules = λ n i.
      ambiguous_exactly (written_meaning fs g) (written_name fs g) (traced_derivations fs g rounds l) (reference n None)
      (trees.one_to_one (reference n None) (in_left (reference n None) (roots (written_rules fs g)) (written_references fs g) i));
  levels = λ s i. ambiguous_exactly (written_meaning fs g) (written_name fs g) (traced_derivations fs g rounds l) s (trees.one_to_one s i);
}
