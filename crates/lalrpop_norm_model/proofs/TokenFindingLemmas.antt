-- What the pass on tokens may report, and that what it makes of a grammar has the entries.
use Rattle.std.proofs.Common.{◌≡◌, ◌⊎◌, List, [], ◌∷◌, ◌++◌, map, Option, Some, None, inl, inr, refl, ap, ◌∙◌}
use Rattle.lalrpop_norm_tree.specs.Items.{EnumTokenData, GrammarData}
use Rattle.lalrpop_norm_faults.specs.Faults.{Fault, first, sure, maybe, sure_ones, MayBeTold}
use Rattle.lalrpop_norm_faults.proofs.FindingLemmas.{sure_all, sure_append}
use Rattle.lalrpop_norm_model.specs.TerminalTypes.{extern_enum}
use Rattle.lalrpop_norm_model.specs.Lexers.{Lexer}
use Rattle.lalrpop_norm_model.specs.CheckedTokens.{IsEnteredWith, IsEntered, IsCheckedWith, IsChecked}
use Rattle.lalrpop_norm_model.specs.TokenFaults.{checked_enum_faults, entry_faults, input_faults, token_faults_with, token_faults}
use Rattle.lalrpop_norm_model.specs.LexerFaults.{LexerRefuses, LexerPlace, at_lexer, StandsAtLexer, token_findings_with, token_findings}

-- ---- sure faults

sure_case : (e : Option EnumTokenData) (g : GrammarData) → sure_ones (token_findings_with e g) ≡ token_faults_with e g
sure_case (Some e) g = sure_all LexerPlace (checked_enum_faults e g)
sure_case None g =
    sure_append (map sure (entry_faults g)) (maybe at_lexer ∷ map sure (input_faults g))
    ∙ (ap (λ xs. xs ++ sure_ones {P = LexerPlace} (map sure (input_faults g))) (sure_all LexerPlace (entry_faults g))
    ∙ ap (λ ys. entry_faults g ++ ys) (sure_all LexerPlace (input_faults g)))

-- the sure ones of what is looked for are the faults that need no lexer
pub sure_findings : (g : GrammarData) → sure_ones (token_findings g) ≡ token_faults g
sure_findings g = sure_case (extern_enum g) g

-- ---- what may be reported

told_first : {P : Type 0} (At : P → Fault → Type 0) (fs : List Fault) (f : Fault) → MayBeTold At (map sure fs) f → first fs ≡ Some f
told_first At [] f h = absurd h
told_first At (g ∷ fs) f h = ap Some h

-- of faults before a point of the search, and others after it
told_around : {P : Type 0} (At : P → Fault → Type 0) (before : List Fault) (p : P) (after : List Fault) (f : Fault) →
    MayBeTold At (map sure before ++ maybe p ∷ map sure after) f → (first (before ++ after) ≡ Some f) ⊎ ((before ≡ []) × At p f)
told_around At [] p after f (inl h) = inr (refl, h)
told_around At [] p after f (inr h) = inl (told_first At after f h)
told_around At (g ∷ before) p after f h = inl (ap Some h)

told_beside : (e : Option EnumTokenData) (all before : List Fault) (f : Fault) (Refused : Type 0) → e ≡ None →
    (first all ≡ Some f) ⊎ ((before ≡ []) × Refused) → (first all ≡ Some f) ⊎ ((e ≡ None) × (before ≡ []) × Refused)
told_beside e all before f Refused none (inl h) = inl h
told_beside e all before f Refused none (inr h) = inr (none, h.0, h.1)

told_case : {R : Type 0} (l : Lexer R) (e : Option EnumTokenData) (g : GrammarData) (f : Fault) → MayBeTold (StandsAtLexer l g) (token_findings_with e g) f →
    (first (token_faults_with e g) ≡ Some f) ⊎ ((e ≡ None) × (entry_faults g ≡ []) × LexerRefuses l g f)
told_case l (Some e) g f h = inl (told_first (StandsAtLexer l g) (checked_enum_faults e g) f h)
told_case l None g f h =
    told_beside None (entry_faults g ++ input_faults g) (entry_faults g) f (LexerRefuses l g f) refl
    (told_around (StandsAtLexer l g) (entry_faults g) at_lexer (input_faults g) f h)

-- What the pass may report is the first fault that needs no lexer; or it is an error of the lexer that holds, tokens are
-- internal, and nothing is wrong with the match block and the terminals used.
pub told_of_tokens : {R : Type 0} (l : Lexer R) (g : GrammarData) (f : Fault) → MayBeTold (StandsAtLexer l g) (token_findings g) f →
    (first (token_faults g) ≡ Some f) ⊎ ((extern_enum g ≡ None) × (entry_faults g ≡ []) × LexerRefuses l g f)
told_of_tokens l g f h = told_case l (extern_enum g) g f h

-- ---- entries

entered_case : {R : Type 0} (l : Lexer R) (e : Option EnumTokenData) (g h : GrammarData) → IsCheckedWith e l g h → IsEnteredWith e g h
entered_case l (Some e) g h same = same
entered_case l None g h c = (c.0, c.1)

-- what the pass makes of a grammar has its entries
pub checked_is_entered : {R : Type 0} (l : Lexer R) (g h : GrammarData) → IsChecked l g h → IsEntered g h
checked_is_entered l g h c = entered_case l (extern_enum g) g h c
