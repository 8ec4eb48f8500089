-- What the steps of the pass say, by what the whole pass looks for.
use Rattle.std.proofs.Common.{◌≡◌, List, [], ◌∷◌, ◌++◌, map, Some, None, inl, inr, refl, sym, ap, subst, ◌∙◌}
use Rattle.lalrpop_norm_faults.specs.declared.failure.NormFailure.{NormFailure}
use Rattle.lalrpop_norm_faults.specs.declared.failure.NormFailure.TheVariants.{Refused, Memory}
use Rattle.lalrpop_norm_faults.specs.Faults.{Fault, IsFirst, sure, maybe, sure_ones, IsTold}
use Rattle.lalrpop_norm_faults.proofs.FindingLemmas.{sure_all, sure_append, first_told, told_left, told_right}
use Rattle.lalrpop_norm_tree.specs.Items.{EnumTokenData, GrammarData}
use Rattle.lalrpop_norm_model.specs.Lexers.{Lexer}
use Rattle.lalrpop_norm_model.specs.TerminalTypes.{extern_enum}
use Rattle.lalrpop_norm_model.specs.TokenFaults.{checked_enum_faults, entry_faults, input_faults, places_used}
use Rattle.lalrpop_norm_model.specs.LexerFaults.{LexerPlace, at_lexer, StandsAtLexer, token_findings, token_findings_with}
use Rattle.lalrpop_norm_token_check.specs.Checked.{IsLexerRefusal, GetsTokens}
use Rattle.lalrpop_norm_token_check.specs.Converted.{converted_faults}
use Rattle.lalrpop_norm_common.specs.Uses.{Use}

module _ {R : Type 0} (l : Lexer R) (g : GrammarData) where
  pub first_is_told : (fs : List Fault) (e : NormFailure) → IsFirst fs e → IsTold (StandsAtLexer l g) (map sure fs) e
  first_is_told fs (Refused e) h = first_told (StandsAtLexer l g) fs (e.fault, e.span) h
  first_is_told fs Memory h = tt

  -- the first of the entries' faults
  pub told_of_entries : (fs : List Fault) (e : NormFailure) → fs ≡ entry_faults g → IsFirst fs e → IsTold (StandsAtLexer l g) (token_findings_with None g) e
  told_of_entries fs (Refused e) same h =
      told_left (StandsAtLexer l g) (map sure (entry_faults g)) (maybe at_lexer ∷ map sure (input_faults g)) (e.fault, e.span)
      (subst (λ gs. IsTold (StandsAtLexer l g) (map sure gs) (Refused e)) same (first_is_told fs (Refused e) h))
  told_of_entries fs Memory same h = tt

  no_sure : entry_faults g ≡ [] → sure_ones {P = LexerPlace} (map sure (entry_faults g)) ≡ []
  no_sure none = sure_all LexerPlace (entry_faults g) ∙ none

  -- what the lexer rejects, where the entries have no fault
  pub told_of_lexer : (e : NormFailure) → entry_faults g ≡ [] → IsLexerRefusal l g e → IsTold (StandsAtLexer l g) (token_findings_with None g) e
  told_of_lexer (Refused e) none h =
      told_right (StandsAtLexer l g) (map sure (entry_faults g)) (maybe at_lexer ∷ map sure (input_faults g)) (e.fault, e.span) (no_sure none) (inl h)
  told_of_lexer Memory none h = tt

  -- what the grammar declares, where the entries have no fault
  pub told_of_input : (e : NormFailure) → entry_faults g ≡ [] → IsFirst (input_faults g) e → IsTold (StandsAtLexer l g) (token_findings_with None g) e
  told_of_input (Refused e) none h =
      told_right (StandsAtLexer l g) (map sure (entry_faults g)) (maybe at_lexer ∷ map sure (input_faults g)) (e.fault, e.span) (no_sure none)
      (inr (first_told (StandsAtLexer l g) (input_faults g) (e.fault, e.span) h))
  told_of_input Memory none h = tt

  -- nothing sure is found where the entries and what is declared have no fault
  pub nothing_sure : entry_faults g ≡ [] → input_faults g ≡ [] → sure_ones (token_findings_with None g) ≡ []
  nothing_sure none input =
      sure_append (map sure (entry_faults g)) (maybe at_lexer ∷ map sure (input_faults g))
      ∙ ap (λ xs. xs ++ sure_ones {P = LexerPlace} (map sure (input_faults g))) (no_sure none)
      ∙ sure_all LexerPlace (input_faults g) ∙ input

-- ---- beside an extern enum

module _ {R : Type 0} (l : Lexer R) (g : GrammarData) (e : EnumTokenData) (uses : List Use) (of_enum : Some e ≡ extern_enum g) (of_uses : uses ≡ places_used g) where
  faults_are : converted_faults e uses ≡ checked_enum_faults e g
  faults_are = ap (converted_faults e) of_uses

  pub told_of_enum : (x : NormFailure) → IsFirst (converted_faults e uses) x → IsTold (StandsAtLexer l g) (token_findings g) x
  told_of_enum x h =
      subst (λ o. IsTold (StandsAtLexer l g) (token_findings_with o g) x) of_enum
      (first_is_told l g (checked_enum_faults e g) x (subst (λ fs. IsFirst fs x) faults_are h))

  pub gets_none : converted_faults e uses ≡ [] → (sure_ones (token_findings g) ≡ []) × GetsTokens (extern_enum g) l g None
  gets_none none =
      subst (λ o. (sure_ones (token_findings_with o g) ≡ []) × GetsTokens o l g None) of_enum
      (sure_all LexerPlace (checked_enum_faults e g) ∙ (sym faults_are ∙ none), refl)
