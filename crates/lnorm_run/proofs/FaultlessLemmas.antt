-- Where normalization with the program's lexer answers, no fault holds, none of the lexer's either.
use Rattle.std.proofs.Common.{◌≡◌, List, [], ◌∷◌, ◌++◌, map, Option, Some, None, inl, inr, refl, sym, ◌∙◌}
use Rattle.lalrpop_norm_tree.specs.Items.{GrammarData, EnumTokenData}
use Rattle.lalrpop_norm_faults.specs.Faults.{Fault, Finding, sure, maybe, sure_ones, StandsAmong}
use Rattle.lalrpop_norm_faults.proofs.FindingLemmas.{sure_append}
use Rattle.lalrpop_norm_model.specs.LexerFaults.{LexerPlace, at_lexer, StandsAtLexer, LexerRefuses, token_findings_with, token_findings}
use Rattle.lalrpop_norm_model.specs.TokenFaults.{entry_faults, input_faults, checked_enum_faults}
use Rattle.lalrpop_norm_model.specs.TerminalTypes.{extern_enum}
use Rattle.lalrpop_norm_lexer.specs.CheckOnly.{of_regex}
use Rattle.lalrpop_norm_lexer.proofs.CheckedLemmas.{none_refused_of_checked}
use Rattle.lalrpop_norm_repr.specs.Lowered.{LoweredGrammar}
use Rattle.lalrpop_norm.specs.Faithful.{grammar_of_plain_rules, IsFaithful}
use Rattle.lalrpop_norm.specs.Normalize.{early_faults, late_faults, plain_findings}
use Rattle.lalrpop_norm_model.specs.EnteredGrammars.{entered_grammar}
use Rattle.lalrpop_norm_faults.proofs.FaultLemmas.{left_none, right_none}
use Rattle.lnorm_run.specs.Settings.{Settings}
use Rattle.lnorm_run.specs.Answers.{findings_of, StandsAtPlace}

module _ (At : LexerPlace → Fault → Type 0) where
  -- nothing holds among the findings
  abbrev NoneStands : List (Finding LexerPlace) → Type 0
  NoneStands fs = (f : Fault) → StandsAmong At fs f → ⊥

  none_sure : (xs : List Fault) → sure_ones {P = LexerPlace} (map sure xs) ≡ [] → NoneStands (map sure xs)
  none_sure [] e f h = h
  none_sure (x ∷ xs) e f h = absurd cc

  none_behind : (xs ys : List (Finding LexerPlace)) → NoneStands xs → NoneStands ys → NoneStands (xs ++ ys)
  none_behind [] ys left right f h = right f h
  none_behind (sure g ∷ xs) ys left right f (inl e) = left f (inl e)
  none_behind (sure g ∷ xs) ys left right f (inr h) = none_behind xs ys (λ f i. left f (inr i)) right f h
  none_behind (maybe p ∷ xs) ys left right f (inl e) = left f (inl e)
  none_behind (maybe p ∷ xs) ys left right f (inr h) = none_behind xs ys (λ f i. left f (inr i)) right f h

  none_of_two : (xs ys : List (Finding LexerPlace)) → (sure_ones xs ≡ [] → NoneStands xs) → (sure_ones ys ≡ [] → NoneStands ys) →
      sure_ones (xs ++ ys) ≡ [] → NoneStands (xs ++ ys)
  none_of_two xs ys left right e =
      let both = sym (sure_append xs ys) ∙ e in
      none_behind xs ys (left (left_none (sure_ones xs) (sure_ones ys) both)) (right (right_none (sure_ones xs) (sure_ones ys) both))

  none_at : (xs : List Fault) → ((f : Fault) → At at_lexer f → ⊥) → sure_ones {P = LexerPlace} (map sure xs) ≡ [] → NoneStands (maybe at_lexer ∷ map sure xs)
  none_at xs nowhere e f (inl h) = nowhere f h
  none_at xs nowhere e f (inr h) = none_sure xs e f h

tokens_with : (o : Option EnumTokenData) (g : GrammarData) → (o ≡ None → (f : Fault) → LexerRefuses of_regex g f → ⊥) →
    sure_ones (token_findings_with o g) ≡ [] → NoneStands (StandsAtLexer of_regex g) (token_findings_with o g)
tokens_with (Some e) g nowhere h = none_sure (StandsAtLexer of_regex g) (checked_enum_faults e g) h
tokens_with None g nowhere h =
    none_of_two (StandsAtLexer of_regex g) (map sure (entry_faults g)) (maybe at_lexer ∷ map sure (input_faults g))
    (none_sure (StandsAtLexer of_regex g) (entry_faults g)) (none_at (StandsAtLexer of_regex g) (input_faults g) (nowhere refl)) h

pub no_fault_stands : (s : Settings) (g : GrammarData) (l : LoweredGrammar) → sure_ones (findings_of s g) ≡ [] →
    IsFaithful of_regex s.features s.limit g l → (f : Fault) → StandsAmong (StandsAtPlace s g) (findings_of s g) f → ⊥
no_fault_stands s g l h faithful =
    let plain = grammar_of_plain_rules s.features g s.limit in
    let at = StandsAtPlace s g in
    none_of_two at (map sure (early_faults s.features s.limit g)) (plain_findings plain)
    (none_sure at (early_faults s.features s.limit g))
    (none_of_two at (token_findings plain) (map sure (late_faults (entered_grammar plain)))
    (tokens_with (extern_enum plain) plain (λ none f r. none_refused_of_checked plain faithful.checked f none faithful.tokens r))
    (none_sure at (late_faults (entered_grammar plain)))) h
