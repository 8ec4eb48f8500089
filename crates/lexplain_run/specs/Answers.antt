-- What the three ways answer for a grammar, whatever its lowered grammar is in memory.
use Rattle.std.specs.Prelude.{◌≡◌, ℕ, List, ◌++◌, Some, None}
use Rattle.lalrpop_norm_tree.specs.Items.{GrammarData}
use Rattle.lalrpop_norm_theory.specs.Symbols.{Name, reference}
use Rattle.lalrpop_norm_theory.specs.Rounds.{In}
use Rattle.lalrpop_norm_theory.specs.WrittenTrees.{WrittenTree}
use Rattle.lalrpop_norm_theory.specs.LoweredTrees.{LoweredTree}
use Rattle.lalrpop_norm_theory.specs.Pairs.{Pairs}
use Rattle.lalrpop_norm_model.specs.Features.{Features}
use Rattle.lalrpop_norm_model.specs.WrittenRules.{written_rules}
use Rattle.lalrpop_norm_model.specs.Grammars.{roots}
use Rattle.lalrpop_norm_ambiguity.specs.Differences.{tree_difference}
use Rattle.lalrpop_norm.specs.Faithful.{written_meaning, written_name}
use Rattle.lnorm_run.specs.Answers.{IsFormOf}
use Rattle.lexplain_lines.specs.TreeLines.{written_lines, lowered_lines}
use Rattle.lexplain_lines.specs.LineForms.{AreLines, written_forms, lowered_forms}
use Rattle.lexplain_run.specs.declared.words.Way.{Way}
use Rattle.lexplain_run.specs.declared.words.Way.TheVariants.{Explain, Lower, Ambiguous}
use Rattle.lexplain_run.specs.Witnesses.{AreReadings, readings_text}

-- t is a tree of an enabled written rule that is no macro, and corresponds to u
abbrev pub IsPairedIn : Features → GrammarData → WrittenTree → LoweredTree → Type 0
IsPairedIn fs g t u =
    (n : Name) × In (reference n None) (roots (written_rules fs g)) × Pairs (written_meaning fs g) (written_name fs g) (reference n None) t u

-- the text is the lines of the written tree that corresponds to this one
abbrev pub ExplainsTree : Features → GrammarData → LoweredTree → List ℕ → Type 0
ExplainsTree fs g u text = (t : WrittenTree) × IsPairedIn fs g t u × (text ≡ written_lines t)

-- the text is the lines of the lowered tree that corresponds to this one
abbrev pub LowersTree : Features → GrammarData → WrittenTree → List ℕ → Type 0
LowersTree fs g t text = (u : LoweredTree) × IsPairedIn fs g t u × (text ≡ lowered_lines u)

-- The text is the lines of two written trees that show the grammar ambiguous, and that of the path to where they differ. They
-- correspond to these two.
pub record ShowsAmbiguity (fs : Features) (g : GrammarData) (u v : LoweredTree) (text : List ℕ) : Type 0 where
  pub first : WrittenTree
  pub second : WrittenTree
  pub path : List ℕ
  pub are : AreReadings fs g first second
  pub first_paired : IsPairedIn fs g first u
  pub second_paired : IsPairedIn fs g second v
  pub differ : tree_difference first second ≡ Some path
  pub text_is : text ≡ readings_text first second path

-- the text is right for the tree that has these lines, or the two that have, in the grammar at which the way begins
abbrev pub Translates : Way → Features → GrammarData → List ℕ → List ℕ → Type 0
Translates Explain fs g lines text = (u : LoweredTree) × AreLines lines (lowered_forms u) × ExplainsTree fs g u text
Translates Lower fs g lines text = (t : WrittenTree) × AreLines lines (written_forms t) × LowersTree fs g t text
Translates Ambiguous fs g lines text =
    (u : LoweredTree) × (v : LoweredTree) × AreLines lines (lowered_forms u ++ lowered_forms v) × ShowsAmbiguity fs g u v text

-- the bytes are the form of a grammar, and in it the text is right for the lines
pub record IsTranslationOver (way : Way) (fs : Features) (bytes lines text : List ℕ) : Type 0 where
  pub grammar : GrammarData
  pub form : IsFormOf grammar bytes
  pub right : Translates way fs grammar lines text
