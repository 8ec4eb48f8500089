-- By the relations of the lexer that only checks: no text is both bad and read; if all entries are read, nothing is rejected.
use Rattle.std.proofs.Common.{◌≡◌, ℕ, List, [], ◌∷◌, inl, inr, sym, ◌∙◌, ap, subst}
use Rattle.regex_hir.specs.declared.hir.Hir.{Hir}
use Rattle.lalrpop_norm_tree_names.specs.declared.names.TerminalLiteral.{TerminalLiteral}
use Rattle.lalrpop_norm_tree_names.specs.declared.names.TerminalLiteral.TheVariants as literals
use Rattle.lalrpop_norm_tree.specs.declared.items.MatchEntry.{MatchEntry}
use Rattle.lalrpop_norm_tree.specs.Items.{InternTokenData, GrammarData}
use Rattle.lalrpop_norm_faults.specs.Faults.{Fault}
use Rattle.lalrpop_norm_theory.specs.Rounds.{In}
use Rattle.lalrpop_norm_conditions.proofs.ReadingLemmas.{has_reading_of_read}
use Rattle.lalrpop_norm_model.proofs.LevelLemmas.{at_in}
use Rattle.lalrpop_norm_model.specs.CheckedTokens.{AreRegexes, HasEntries, HasAutomaton, IsCheckedWith}
use Rattle.lalrpop_norm_model.specs.LexerFaults.{LexerRefuses, by_text, by_feature, by_ambiguity}
use Rattle.lalrpop_norm_lexer.specs.CheckOnly.{of_regex, IsRegexOfLiteral, RefusesNoneChecked}
use Rattle.lalrpop_norm_lexer.specs.Entries.{TellsApart}

pub apart : TellsApart of_regex
apart text r bad h = let read = has_reading_of_read text r h.names h.read in cc

-- an entry that is read has no bad text
read_entry : (es : List MatchEntry) (rs : List Hir) → AreRegexes of_regex es rs → (e : MatchEntry) (text : List ℕ) → In e es →
    e.match_literal ≡ literals.Regex text → of_regex.IsBad text → ⊥
read_entry [] rs z e text i literal bad = i
read_entry (x ∷ es) [] z e text i literal bad = z
read_entry (x ∷ es) (r ∷ rs) z e text (inl same) literal bad =
    apart text r bad (subst (λ (l : TerminalLiteral). IsRegexOfLiteral l r) (ap (λ (y : MatchEntry). y.match_literal) (sym same) ∙ literal) z.0)
read_entry (x ∷ es) (r ∷ rs) z e text (inr i) literal bad = read_entry es rs z.1 e text i literal bad

none_refused : (g h : GrammarData) (t : InternTokenData) → HasEntries g t h → HasAutomaton of_regex t → (f : Fault) → LexerRefuses of_regex g f → ⊥
none_refused g h t entered built f (by_text s b) =
    let is_entry = (b.all_entries.all b.first.entry).0 (at_in b.entries b.index b.first.entry b.first.at_index) in
    read_entry t.match_entries built.regexes built.of_entries b.first.entry b.first.text ((entered.entries.all b.first.entry).1 is_entry) b.first.literal b.first.bad
none_refused g h t entered built f (by_feature s b) = b.unsupported.2
none_refused g h t entered built f (by_ambiguity s b) = b.ambiguity.ambiguous

pub none_refused_of_checked : RefusesNoneChecked
none_refused_of_checked g h f none checked refuses =
    let c : (t : InternTokenData) × HasEntries g t h × HasAutomaton of_regex t = subst (λ o. IsCheckedWith o of_regex g h) none checked in
    none_refused g h c.0 c.1 c.2 f refuses
