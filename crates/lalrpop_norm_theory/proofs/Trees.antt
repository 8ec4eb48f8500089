-- Written and lowered trees correspond one to one, and the translations are the two ways.
use Rattle.std.proofs.Common.{◌≡◌, List, sym, ◌∙◌}
use Rattle.lalrpop_norm_theory.specs.Symbols.{Name, Terminal, ClosedSymbol}
use Rattle.lalrpop_norm_theory.specs.Meaning.{Meaning, HasCounts, HasLevels}
use Rattle.lalrpop_norm_theory.specs.WrittenTrees.{WrittenTree, IsTreeOf, yield}
use Rattle.lalrpop_norm_theory.specs.LoweredTrees.{LoweredTree, ProductionTable, IsDerivation, lowered_yield}
use Rattle.lalrpop_norm_theory.specs.Clauses.{symbol_of}
use Rattle.lalrpop_norm_theory.specs.Translations.{lowered_tree, written_tree}
use Rattle.lalrpop_norm_theory.specs.Tables.{Realizes}
use Rattle.lalrpop_norm_theory.specs.Laws.{OneToOne, TreesAreOneToOne, WordsAreTheSame, TranslationsFit, TranslationsAreInverse}
use Rattle.lalrpop_norm_theory.proofs.PairSides.{tree_of, derivation_of}
use Rattle.lalrpop_norm_theory.proofs.PairTranslations.{written_back, lowered_to, same_yield, same_alternatives}
use Rattle.lalrpop_norm_theory.proofs.PairTotal.{pairs_lowered, pairs_written}

module _ (M : Meaning) (C : HasCounts M) (V : HasLevels M) (name : ClosedSymbol → Name) (P : ProductionTable)
    (Known : ClosedSymbol → Type 0) (R : Realizes M name P Known) (g : ClosedSymbol) (k : Known g) where
  pub one_to_one : OneToOne M name P g
  one_to_one = record {
    down = λ t h.
        let pair = pairs_lowered M name C V t g h in
        (lowered_tree M name t g, (derivation_of M name P Known R pair k, pair), λ u f. sym (lowered_to M name V f.1));
    up = λ u h.
        let pair = pairs_written M name P Known R V u g h k in
        (written_tree P u, (tree_of M name V pair, pair), λ t f. sym (written_back M name P Known R f.1 k));
    same_yields = λ t u h. same_yield M name h;
    same_alternatives = λ t u h. same_alternatives M name P Known R h k;
  }

  pub translations_fit : TranslationsFit M name P g
  translations_fit = record {
    forward = λ t h. let pair = pairs_lowered M name C V t g h in (derivation_of M name P Known R pair k, pair);
    back = λ u h. let pair = pairs_written M name P Known R V u g h k in (tree_of M name V pair, pair);
    back_forward = λ t h. written_back M name P Known R (pairs_lowered M name C V t g h) k;
    forward_back = λ u h. lowered_to M name V (pairs_written M name P Known R V u g h k);
    paired = λ t u h. (lowered_to M name V h, written_back M name P Known R h k);
  }

  lowered_word : (w : List Terminal) → (t : WrittenTree) × IsTreeOf M t g × (yield t ≡ w) →
      (u : LoweredTree) × IsDerivation P u (symbol_of name g) × (lowered_yield u ≡ w)
  lowered_word w (t, h, e) =
      let pair = pairs_lowered M name C V t g h in
      (lowered_tree M name t g, derivation_of M name P Known R pair k, sym (same_yield M name pair) ∙ e)

  written_word : (w : List Terminal) → (u : LoweredTree) × IsDerivation P u (symbol_of name g) × (lowered_yield u ≡ w) →
      (t : WrittenTree) × IsTreeOf M t g × (yield t ≡ w)
  written_word w (u, h, e) =
      let pair = pairs_written M name P Known R V u g h k in
      (written_tree P u, tree_of M name V pair, same_yield M name pair ∙ e)

pub trees_one_to_one : TreesAreOneToOne
trees_one_to_one M C V name P declared met R g k = one_to_one M C V name P _ R g k

pub translations_inverse : TranslationsAreInverse
translations_inverse M C V name P declared met R g k = translations_fit M C V name P _ R g k

pub words_same : WordsAreTheSame
words_same M C V name P declared met R g k w = (lowered_word M C V name P _ R g k w, written_word M C V name P _ R g k w)
