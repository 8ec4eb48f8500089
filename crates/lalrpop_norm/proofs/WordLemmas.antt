-- The words of written rules.
use Rattle.std.proofs.Common.{◌≡◌, ℕ, refl, sym, subst, Option}
use Rattle.lalrpop_norm_theory.specs.Clauses.{symbol_of}
use Rattle.lalrpop_norm_theory.specs.LoweredTrees.{nonterminal_symbol}
use Rattle.lalrpop_norm_theory.specs.Symbols.{ClosedSymbol, Name, reference}
use Rattle.lalrpop_norm_explain.specs.Derivations.{derivations}
use Rattle.lalrpop_norm.specs.Faithful.{written_meaning, written_name}
use Rattle.lalrpop_norm.specs.Laws.{WordsAreEqual}
use Rattle.lalrpop_norm.proofs.StartProductions.{written_words}

named : (name : ClosedSymbol → Name) (n : Name) (level : Option ℕ) (s : ClosedSymbol) → s ≡ reference n level → symbol_of name s ≡ nonterminal_symbol (name s)
named name n level s e = subst (λ t. symbol_of name t ≡ nonterminal_symbol (name t)) (sym e) refl

pub words_equal : WordsAreEqual
words_equal fs g l origins r s of one =
    written_words (written_meaning fs g) (written_name fs g) (derivations origins l) s one
    (named (written_name fs g) r.name.0 of.0 s of.1)
