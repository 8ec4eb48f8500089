-- The errors that lexers may report in small grammars, and what is seen of a grammar for which none makes an automaton.
use Rattle.std.proofs.Common.{◌≡◌, ℕ, List, [], ◌∷◌, Some, None, codes, inl, refl, ap, arith}
use Rattle.std.specs.List.Sorted.{IsStrictlySortedBy}
use Rattle.lalrpop_norm_tree_names.specs.declared.names.TerminalLiteral.{TerminalLiteral}
use Rattle.lalrpop_norm_tree_names.specs.declared.names.TerminalLiteral.TheVariants.{Quoted, Regex}
use Rattle.lalrpop_norm_tree.specs.declared.items.MatchEntry.{MatchEntry}
use Rattle.lalrpop_norm_tree.specs.declared.items.MatchItem.TheVariants.{Unmapped}
use Rattle.lalrpop_norm_tree.specs.declared.items.MatchMapping.TheVariants.{Terminal}
use Rattle.lalrpop_norm_tree.specs.Symbols.{Kind}
use Rattle.lalrpop_norm_tree.specs.Items.{InternTokenData, GrammarData}
use Rattle.lalrpop_norm_faults.specs.Faults.{Fault, MayBeTold}
use Rattle.lalrpop_norm_faults.specs.declared.kind.FaultKind.TheVariants.{BadRegex, RegexFeature, Ambiguity, NoMapping}
use Rattle.lalrpop_norm_theory.specs.Rounds.{In}
use Rattle.lalrpop_norm_model.specs.Entries.{own_mapping, IsEntry, written, added, entry_cmp, AreEntries}
use Rattle.lalrpop_norm_model.specs.Lexers.{look_around, Lexer}
use Rattle.lalrpop_norm_model.specs.CheckedTokens.{with_tokens, IsEntered, IsChecked}
use Rattle.lalrpop_norm_model.specs.InferenceFaults.{inference_faults}
use Rattle.lalrpop_norm_model.specs.LexerFaults.{literal_at, LexerRefuses, by_text, by_feature, by_ambiguity, StandsAtLexer, token_findings}
use Rattle.lalrpop_norm_model.proofs.EntryExamples.{place, use_at, entry, words, words_entries, words_are, renamed, renamed_entries, renamed_are}
use Rattle.lalrpop_norm_model.proofs.ExampleGrammars.{quoted, plain, a_rule, match_tokens, of_rules}

-- ---- the spans of literals

-- the symbol that adds an entry, else the match item
added_place : literal_at words (Regex (codes "[a-zA-Z]+")) ≡ Some (place 5)
added_place = refl

item_place : literal_at words (Regex (codes "(?i)BEGIN")) ≡ Some (place 1)
item_place = refl

-- a user name that is a literal of the block has the span of its item, though it is used
used_place : literal_at words (Quoted (codes "+")) ≡ Some (place 2)
used_place = refl

-- what names itself where it is used has that span also for its item, at its first use
both_place : literal_at renamed (Quoted (codes "a")) ≡ Some (place 4)
both_place = refl

-- ---- a lexer whose regexes are literals

-- the text `(` is bad; the regex of `r"(?i)BEGIN"` looks around; the first two entries are ambiguous; nothing is built
abbrev strict : Lexer TerminalLiteral
strict = record {
  IsBad = λ text. text ≡ codes "(";
  IsRegexOf = λ literal regex. regex ≡ literal;
  HasFeature = λ regex feature. (regex ≡ Regex (codes "(?i)BEGIN")) × (feature ≡ look_around);
  AreAmbiguous = λ regexes precedences i j. (i ≡ 0) × (j ≡ 1);
  IsBuilt = λ regexes precedences code. ⊥;
}

abbrev words_regexes : List TerminalLiteral
words_regexes = Regex (codes "[a-zA-Z]+") ∷ Regex (codes "(?i)BEGIN") ∷ Quoted (codes "+") ∷ []

zero_not_one : ◌≡◌ {A = ℕ} 0 1 → ⊥
zero_not_one h = absurd (omega (arith, h))

-- entries 0 and 1: reported at the literal of entry 0, which is the symbol's
ambiguity : LexerRefuses strict words (Ambiguity, place 5)
ambiguity = by_ambiguity (place 5) (record {
  entries = words_entries;
  regexes = words_regexes;
  first = 0;
  second = 1;
  all_entries = words_are;
  of_entries = (refl, (refl, (refl, tt)));
  ambiguity = record { first_in_range = omega arith; second_in_range = omega arith; differ = zero_not_one; ambiguous = (refl, refl) };
  place = record { entry = entry 2 (Regex (codes "[a-zA-Z]+")) (own_mapping (Regex (codes "[a-zA-Z]+"))); at_index = refl; place = refl };
})

-- entry 1: reported at its match item
feature_there : LexerRefuses strict words (RegexFeature, place 1)
feature_there = by_feature (place 1) (record {
  entries = words_entries;
  regexes = words_regexes;
  index = 1;
  feature = look_around;
  all_entries = words_are;
  of_entries = (refl, (refl, (refl, tt)));
  unsupported = (Regex (codes "(?i)BEGIN"), refl, (refl, refl));
  place = record { entry = entry 4 (Regex (codes "(?i)BEGIN")) (Terminal (quoted (codes "BEGIN"))); at_index = refl; place = refl };
})

-- `match { r"(" }`, and the same where a terminal is used that has no entry
abbrev open_group : List Kind → GrammarData
open_group uses = of_rules (match_tokens ((Unmapped (Regex (codes "(")) (place 1) ∷ []) ∷ []) ∷ []) (a_rule (codes "S") None (plain uses ∷ []) ∷ [])

abbrev open_entry : MatchEntry
open_entry = entry 2 (Regex (codes "(")) (own_mapping (Regex (codes "(")))

open_given : (uses : List Kind) {e : MatchEntry} → IsEntry (open_group uses) e → In e (open_entry ∷ [])
open_given uses (written e i) = i
open_given uses (added l precedence used bare lets) = absurd cc

open_rising : IsStrictlySortedBy entry_cmp (open_entry ∷ [])
unfolding IsStrictlySortedBy
open_rising = (tt, tt)

open_are : (uses : List Kind) → AreEntries (open_group uses) (open_entry ∷ [])
open_are uses = record { all = λ e. (λ i. written e i, λ h. open_given uses h); rising = open_rising }

bad_text : (uses : List Kind) → LexerRefuses strict (open_group uses) (BadRegex, place 1)
bad_text uses = by_text (place 1) (record {
  entries = open_entry ∷ [];
  index = 0;
  all_entries = open_are uses;
  first = record { entry = open_entry; text = codes "("; at_index = refl; literal = refl; bad = refl; regexes = []; before = tt };
  place = record { entry = open_entry; at_index = refl; place = refl };
})

-- it may be reported if nothing comes before it
bad_is_told : MayBeTold (StandsAtLexer strict (open_group [])) (token_findings (open_group [])) (BadRegex, place 1)
bad_is_told = inl (bad_text [])

-- and not where a terminal has no entry, which comes before it
bad_is_not_told : MayBeTold (StandsAtLexer strict (open_group (use_at 4 (quoted (codes "b")) ∷ []))) (token_findings (open_group (use_at 4 (quoted (codes "b")) ∷ []))) (BadRegex, place 1) → ⊥
bad_is_not_told h = let apart : 4 ≡ 1 = ap (λ (f : Fault). f.1.0) h in absurd (omega (arith, apart))

unmapped_is_told : MayBeTold (StandsAtLexer strict (open_group (use_at 4 (quoted (codes "b")) ∷ []))) (token_findings (open_group (use_at 4 (quoted (codes "b")) ∷ []))) (NoMapping, place 4)
unmapped_is_told = refl

-- ---- entries without an automaton

abbrev without_automaton : InternTokenData
without_automaton = record { match_entries = renamed_entries; code = [] }

-- the lexer builds nothing, and yet the grammar has its entries
entered : IsEntered renamed (with_tokens without_automaton renamed)
entered = (without_automaton, record { entries = renamed_are; grammar = refl })

never_checked : (h : GrammarData) → IsChecked strict renamed h → ⊥
never_checked h c = c.2.built

-- so its types are found, and what is wrong with them: here nothing
entered_faults : inference_faults (with_tokens without_automaton renamed) ≡ []
entered_faults = refl
