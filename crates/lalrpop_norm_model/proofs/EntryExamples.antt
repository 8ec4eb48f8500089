-- The entries of small grammars, each found by hand.
use Rattle.std.proofs.Common.{◌≡◌, ℕ, List, [], ◌∷◌, Some, None, codes, inl, inr, refl, sym, subst}
use Rattle.std.specs.List.Sorted.{IsStrictlySortedBy}
use Rattle.lalrpop_norm_tree_names.specs.declared.names.Span.{Span}
use Rattle.lalrpop_norm_tree_names.specs.declared.names.TerminalLiteral.{TerminalLiteral}
use Rattle.lalrpop_norm_tree_names.specs.declared.names.TerminalLiteral.TheVariants.{Quoted, Regex}
use Rattle.lalrpop_norm_tree_names.specs.declared.names.TerminalString.{TerminalString}
use Rattle.lalrpop_norm_tree.specs.declared.items.MatchEntry.{MatchEntry}
use Rattle.lalrpop_norm_tree.specs.declared.items.MatchItem.TheVariants.{CatchAll, Unmapped, Mapped}
use Rattle.lalrpop_norm_tree.specs.declared.items.MatchMapping.{MatchMapping}
use Rattle.lalrpop_norm_tree.specs.declared.items.MatchMapping.TheVariants.{Terminal, Skip}
use Rattle.lalrpop_norm_tree.specs.Items.{GrammarData}
use Rattle.lalrpop_norm_tree.specs.Symbols.{Kind, terminal, chosen, at}
use Rattle.lalrpop_norm_theory.specs.Rounds.{In}
use Rattle.lalrpop_norm_model.specs.Entries.{IsEntry, written, added, AreEntries, own_mapping, match_entries, catch_all, entry_cmp}
use Rattle.lalrpop_norm_model.proofs.ListLemmas.{texts_differ}
use Rattle.lalrpop_norm_model.proofs.ExampleGrammars.{nowhere, quoted, pattern, plain, a_rule, match_tokens, a_grammar, of_rules}

abbrev pub entry : ℕ → TerminalLiteral → MatchMapping → MatchEntry
entry p l m = record { precedence = p; match_literal = l; user_name = m }

abbrev pub place : ℕ → Span
place k = record { 0 = k; 1 = k }

-- a terminal that is selected, at a span of its own
abbrev pub use_at : ℕ → TerminalString → Kind
use_at k t = chosen (at (place k) (terminal t))

-- ---- `match { r"(?i)BEGIN" => "BEGIN", "+" => "+" } else { _ }`, where `r"[a-zA-Z]+"` is used too

-- the match items at the spans 1 to 3, the symbols at 4 to 6
abbrev pub words : GrammarData
words = of_rules (match_tokens ((Mapped (Regex (codes "(?i)BEGIN")) (Terminal (quoted (codes "BEGIN"))) (place 1)
    ∷ Mapped (Quoted (codes "+")) (Terminal (quoted (codes "+"))) (place 2) ∷ []) ∷ (CatchAll (place 3) ∷ []) ∷ []) ∷ [])
    (a_rule (codes "S") None (plain (use_at 4 (quoted (codes "BEGIN")) ∷ use_at 5 (pattern (codes "[a-zA-Z]+")) ∷ use_at 6 (quoted (codes "+")) ∷ []) ∷ []) ∷ [])

abbrev pub words_entries : List MatchEntry
words_entries =
    entry 2 (Regex (codes "[a-zA-Z]+")) (own_mapping (Regex (codes "[a-zA-Z]+")))
    ∷ entry 4 (Regex (codes "(?i)BEGIN")) (Terminal (quoted (codes "BEGIN")))
    ∷ entry 5 (Quoted (codes "+")) (Terminal (quoted (codes "+"))) ∷ []

words_catch_all : catch_all words ≡ Some 1
words_catch_all = refl

words_given : {e : MatchEntry} → IsEntry words e → In e words_entries
words_given (written e (inl h)) = inr (inl h)
words_given (written e (inr (inl h))) = inr (inr (inl h))
words_given (written e (inr (inr i))) = absurd i
words_given (added l p (inl h) new c) = absurd (new (inl h))
words_given (added l p (inr (inl h)) new c) =
    let same : l ≡ Regex (codes "[a-zA-Z]+") = cc in
    let one : p ≡ 1 = cc in
    rw (same, one) (inl refl)
words_given (added l p (inr (inr (inl h))) new c) = absurd (new (inr (inl h)))
words_given (added l p (inr (inr (inr i))) new c) = absurd i

pattern_new : In (pattern (codes "[a-zA-Z]+")) (quoted (codes "BEGIN") ∷ quoted (codes "+") ∷ []) → ⊥
pattern_new (inl h) = cc
pattern_new (inr (inl h)) = cc
pattern_new (inr (inr i)) = i

words_stand : (e : MatchEntry) → In e words_entries → IsEntry words e
words_stand e (inl h) = subst (λ d. IsEntry words d) (sym h) (added (Regex (codes "[a-zA-Z]+")) 1 (inr (inl refl)) pattern_new refl)
words_stand e (inr (inl h)) = written e (inl h)
words_stand e (inr (inr (inl h))) = written e (inr (inl h))
words_stand e (inr (inr (inr i))) = absurd i

words_rising : IsStrictlySortedBy entry_cmp words_entries
unfolding IsStrictlySortedBy
words_rising = ((refl, (refl, tt)), ((refl, tt), (tt, tt)))

pub words_are : AreEntries words words_entries
words_are = record { all = λ e. (words_stand e, λ h. words_given h); rising = words_rising }

-- ---- `match { "a" => "b" } else { _ }`, where `"a"` is used: it is no user name, so it has an entry of its own

-- the match item at the span 1, the symbol at 4 and once more at 5
abbrev pub renamed : GrammarData
renamed = of_rules (match_tokens ((Mapped (Quoted (codes "a")) (Terminal (quoted (codes "b"))) (place 1) ∷ []) ∷ (CatchAll nowhere ∷ []) ∷ []) ∷ [])
    (a_rule (codes "S") None (plain (use_at 4 (quoted (codes "a")) ∷ []) ∷ plain (use_at 5 (quoted (codes "a")) ∷ []) ∷ []) ∷ [])

abbrev pub renamed_entries : List MatchEntry
renamed_entries = entry 3 (Quoted (codes "a")) (Terminal (quoted (codes "a"))) ∷ entry 5 (Quoted (codes "a")) (Terminal (quoted (codes "b"))) ∷ []

renamed_given : {e : MatchEntry} → IsEntry renamed e → In e renamed_entries
renamed_given (written e (inl h)) = inr (inl h)
renamed_given (written e (inr i)) = absurd i
renamed_given (added l p (inl h) new c) =
    let same : l ≡ Quoted (codes "a") = cc in
    let one : p ≡ 1 = cc in
    rw (same, one) (inl refl)
renamed_given (added l p (inr (inl h)) new c) =
    let same : l ≡ Quoted (codes "a") = cc in
    let one : p ≡ 1 = cc in
    rw (same, one) (inl refl)
renamed_given (added l p (inr (inr i)) new c) = absurd i

a_new : In (quoted (codes "a")) (quoted (codes "b") ∷ []) → ⊥
a_new (inl h) = texts_differ (codes "a") (codes "b") refl cc
a_new (inr i) = i

renamed_stand : (e : MatchEntry) → In e renamed_entries → IsEntry renamed e
renamed_stand e (inl h) = subst (λ d. IsEntry renamed d) (sym h) (added (Quoted (codes "a")) 1 (inl refl) a_new refl)
renamed_stand e (inr (inl h)) = written e (inl h)
renamed_stand e (inr (inr i)) = absurd i

renamed_rising : IsStrictlySortedBy entry_cmp renamed_entries
unfolding IsStrictlySortedBy
renamed_rising = ((refl, tt), (tt, tt))

pub renamed_are : AreEntries renamed renamed_entries
renamed_are = record { all = λ e. (renamed_stand e, λ h. renamed_given h); rising = renamed_rising }

-- the other order is none
abbrev renamed_falling : List MatchEntry
renamed_falling = entry 5 (Quoted (codes "a")) (Terminal (quoted (codes "b"))) ∷ entry 3 (Quoted (codes "a")) (Terminal (quoted (codes "a"))) ∷ []

renamed_falls : IsStrictlySortedBy entry_cmp renamed_falling → ⊥
unfolding IsStrictlySortedBy
renamed_falls s = let e = s.0.0 in cc

renamed_order : AreEntries renamed renamed_falling → ⊥
renamed_order h = renamed_falls h.rising

-- ---- without a match block the precedence is 0; a literal that is used twice has one entry, a quoted one above a pattern

abbrev bare : GrammarData
bare = of_rules [] (a_rule (codes "S") None (plain (terminal (quoted (codes "b")) ∷ terminal (pattern (codes "a")) ∷ terminal (quoted (codes "b")) ∷ []) ∷ []) ∷ [])

abbrev bare_entries : List MatchEntry
bare_entries = entry 0 (Regex (codes "a")) (own_mapping (Regex (codes "a"))) ∷ entry 1 (Quoted (codes "b")) (own_mapping (Quoted (codes "b"))) ∷ []

bare_given : {e : MatchEntry} → IsEntry bare e → In e bare_entries
bare_given (written e i) = absurd i
bare_given (added l p (inl h) new c) = let same : l ≡ Quoted (codes "b") = cc in let none : p ≡ 0 = cc in rw (same, none) (inr (inl refl))
bare_given (added l p (inr (inl h)) new c) = let same : l ≡ Regex (codes "a") = cc in let none : p ≡ 0 = cc in rw (same, none) (inl refl)
bare_given (added l p (inr (inr (inl h))) new c) = let same : l ≡ Quoted (codes "b") = cc in let none : p ≡ 0 = cc in rw (same, none) (inr (inl refl))
bare_given (added l p (inr (inr (inr i))) new c) = absurd i

bare_stand : (e : MatchEntry) → In e bare_entries → IsEntry bare e
bare_stand e (inl h) = subst (λ d. IsEntry bare d) (sym h) (added (Regex (codes "a")) 0 (inr (inl refl)) (λ i. i) refl)
bare_stand e (inr (inl h)) = subst (λ d. IsEntry bare d) (sym h) (added (Quoted (codes "b")) 0 (inl refl) (λ i. i) refl)
bare_stand e (inr (inr i)) = absurd i

bare_rising : IsStrictlySortedBy entry_cmp bare_entries
unfolding IsStrictlySortedBy
bare_rising = ((refl, tt), (tt, tt))

bare_are : AreEntries bare bare_entries
bare_are = record { all = λ e. (bare_stand e, λ h. bare_given h); rising = bare_rising }

-- ---- catch-alls

-- of several the last one counts; a block without one lets no further literal in, and skips name no terminal
last_counts : catch_all (a_grammar (match_tokens ((CatchAll nowhere ∷ []) ∷ (Unmapped (Quoted (codes "a")) nowhere ∷ CatchAll nowhere ∷ []) ∷ (Mapped (Regex (codes "s")) Skip nowhere ∷ []) ∷ []) ∷ [])) ≡ Some 2
last_counts = refl

none_let_in : catch_all (a_grammar (match_tokens ((Mapped (Regex (codes "s")) Skip nowhere ∷ []) ∷ []) ∷ [])) ≡ None
none_let_in = refl

skipped : match_entries (a_grammar (match_tokens ((Mapped (Regex (codes "s")) Skip nowhere ∷ Unmapped (Quoted (codes "a")) nowhere ∷ []) ∷ []) ∷ [])) ≡ entry 2 (Regex (codes "s")) Skip ∷ entry 3 (Quoted (codes "a")) (own_mapping (Quoted (codes "a"))) ∷ []
skipped = refl
