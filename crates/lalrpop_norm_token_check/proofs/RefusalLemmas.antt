-- A reason not to build holds at the span of the literal of its entry.
use Rattle.std.proofs.Common.{◌≡◌, ℕ, ◌<◌, List, [], ◌∷◌, length, Some, sym, ◌∙◌, subst, arith, slice_get}
use Rattle.std.proofs.lemmas.Option.{slice_get_within}
use Rattle.std.proofs.lemmas.Slice.Zip.{AllZip-long}
use Rattle.lalrpop_norm_tree_names.specs.declared.names.Span.{Span}
use Rattle.lalrpop_norm_tree_names.specs.declared.names.TerminalLiteral.{TerminalLiteral}
use Rattle.lalrpop_norm_tree.specs.declared.items.MatchEntry.{MatchEntry}
use Rattle.lalrpop_norm_tree.specs.Items.{GrammarData}
use Rattle.lalrpop_norm_faults.specs.Faults.{Fault, IsFirst}
use Rattle.lalrpop_norm_faults.specs.declared.failure.NormFailure.{NormFailure}
use Rattle.lalrpop_norm_faults.specs.declared.failure.NormFailure.TheVariants.{Refused, Memory}
use Rattle.lalrpop_norm_faults.specs.declared.kind.FaultKind.TheVariants.{BadRegex, RegexFeature, Ambiguity}
use Rattle.lalrpop_norm_model.specs.Entries.{AreEntries}
use Rattle.lalrpop_norm_model.specs.Lexers.{Lexer, Feature, HasFeatureAt, IsAmbiguity}
use Rattle.lalrpop_norm_model.specs.CheckedTokens.{AreRegexes, precedences}
use Rattle.lalrpop_norm_model.specs.LexerFaults.{literal_at, StandsAt, IsFirstBad, LexerRefuses, by_text, by_feature, by_ambiguity}
use Rattle.lalrpop_norm_token_check.specs.Keys.{place_by}
use Rattle.lalrpop_norm_token_check.specs.Checked.{ArePlacesOf, IsLexerRefusal}
use Rattle.lalrpop_norm_theory.proofs.ListLemmas.{get_some}

-- the error of a fault that the lexer may report is such an error
pub told : {R : Type 0} (l : Lexer R) (g : GrammarData) (f : Fault) (r : NormFailure) → IsFirst (f ∷ []) r → LexerRefuses l g f → IsLexerRefusal l g r
told l g f (Refused e) h this = let same : f ≡ (e.fault, e.span) = cc in subst (LexerRefuses l g) same this
told l g f Memory h this = tt

module _ {R : Type 0} (l : Lexer R) (entries : List MatchEntry) where
  regexes_long : (rs : List R) → AreRegexes l entries rs → length rs ≡ length entries
  regexes_long rs h = AllZip-long (λ (e : MatchEntry) r. l.IsRegexOf e.match_literal r) entries rs h

  pub bad_within : (i : ℕ) → IsFirstBad l entries i → i < length entries
  bad_within i h = slice_get_within entries i h.entry h.at_index

  pub feature_within : (rs : List R) (i : ℕ) (f : Feature) → AreRegexes l entries rs → HasFeatureAt l rs i f → i < length entries
  feature_within rs i f h has = omega (arith, slice_get_within rs i has.0 has.1, regexes_long rs h)

  pub ambiguity_within : (rs : List R) (i j : ℕ) → AreRegexes l entries rs → IsAmbiguity l rs (precedences entries) i j → i < length entries
  ambiguity_within rs i j h a = omega (arith, a.first_in_range, regexes_long rs h)

-- the row for the literal of the entry at an index has its span
module _ (g : GrammarData) (entries : List MatchEntry) (places : List (TerminalLiteral × Span)) (are : AreEntries g entries) (rows : ArePlacesOf g places)
    (i : ℕ) (s : Span) (there : (e : MatchEntry) → slice_get entries i ≡ Some e → place_by places e.match_literal ≡ Some s) where
  stands : (e : MatchEntry) → slice_get entries i ≡ Some e → literal_at g e.match_literal ≡ Some s
  stands e h = sym (rows e.match_literal) ∙ there e h

  stands_at : i < length entries → StandsAt g entries i s
  stands_at h = let e = get_some entries i h in record { entry = e.0; at_index = e.1; place = stands e.0 e.1 }

  module _ {R : Type 0} (l : Lexer R) where
    pub bad_refused : IsFirstBad l entries i → LexerRefuses l g (BadRegex, s)
    bad_refused h = by_text s (record {
      entries = entries;
      index = i;
      all_entries = are;
      first = h;
      place = stands_at (bad_within l entries i h);
    })

    pub feature_refused : (rs : List R) (f : Feature) → AreRegexes l entries rs → HasFeatureAt l rs i f → LexerRefuses l g (RegexFeature, s)
    feature_refused rs f h has = by_feature s (record {
      entries = entries;
      regexes = rs;
      index = i;
      feature = f;
      all_entries = are;
      of_entries = h;
      unsupported = has;
      place = stands_at (feature_within l entries rs i f h has);
    })

    pub ambiguity_refused : (rs : List R) (j : ℕ) → AreRegexes l entries rs → IsAmbiguity l rs (precedences entries) i j → LexerRefuses l g (Ambiguity, s)
    ambiguity_refused rs j h a = by_ambiguity s (record {
      entries = entries;
      regexes = rs;
      first = i;
      second = j;
      all_entries = are;
      of_entries = h;
      ambiguity = a;
      place = stands_at (ambiguity_within l entries rs i j h a);
    })
