-- The errors of the pass on tokens in small grammars, found by hand.
use Rattle.std.proofs.Common.{◌≡◌, ℕ, List, [], ◌∷◌, Some, None, codes, refl}
use Rattle.lalrpop_norm_tree_names.specs.declared.names.Span.{Span}
use Rattle.lalrpop_norm_tree_names.specs.declared.names.TerminalLiteral.TheVariants.{Quoted, Regex}
use Rattle.lalrpop_norm_tree_names.specs.declared.names.TerminalString.TheVariants.{Bare}
use Rattle.lalrpop_norm_tree_names.specs.declared.names.TypeParameter.TheVariants as parameter
use Rattle.lalrpop_norm_tree.specs.declared.items.MatchItem.TheVariants.{CatchAll, Unmapped, Mapped}
use Rattle.lalrpop_norm_tree.specs.declared.items.MatchMapping.TheVariants.{Terminal, Skip}
use Rattle.lalrpop_norm_tree_parts.specs.Attributes.{attributes_of}
use Rattle.lalrpop_norm_tree.specs.Items.{RuleData, ConversionData, GrammarData}
use Rattle.lalrpop_norm_tree.specs.Symbols.{Kind, terminal, chosen, at}
use Rattle.lalrpop_norm_tree.specs.Types.{id}
use Rattle.lalrpop_norm_faults.specs.Faults.{first}
use Rattle.lalrpop_norm_faults.specs.declared.kind.FaultKind.TheVariants.{LiteralTwice, TerminalTwice, NoMapping, NoPattern, InputLifetime, InputParameter}
use Rattle.lalrpop_norm_model.specs.Enabled.{enabled_grammar}
use Rattle.lalrpop_norm_model.specs.TokenFaults.{token_faults}
use Rattle.lalrpop_norm_model.proofs.ExampleWords.{span, if_f, without_f, with_f}
use Rattle.lalrpop_norm_model.proofs.ExampleGrammars.{nowhere, quoted, plain, a_rule, converts, extern_tokens, tok_tokens, match_tokens, of_rules}

abbrev place : ℕ → Span
place k = record { 0 = k; 1 = k }

-- a rule that selects a terminal, which has a span of its own
abbrev uses : ℕ → Kind → RuleData
uses k t = a_rule (codes "S") None (plain (chosen (at (place k) t) ∷ []) ∷ [])

-- `match { "a", r"s" => { }, r"t" => { } } else { "a", "b" => "a" }`: `"a"` again, then its name by `"b"`; skips may repeat
twice : token_faults (of_rules (match_tokens ((Unmapped (Quoted (codes "a")) (place 1) ∷ Mapped (Regex (codes "s")) Skip (place 2) ∷ Mapped (Regex (codes "t")) Skip (place 3) ∷ [])
    ∷ (Unmapped (Quoted (codes "a")) (place 4) ∷ Mapped (Quoted (codes "b")) (Terminal (quoted (codes "a"))) (place 5) ∷ []) ∷ []) ∷ []) [])
    ≡ (LiteralTwice, place 4) ∷ (TerminalTwice, place 4) ∷ (TerminalTwice, place 5) ∷ []
twice = refl

-- `match { "a" => "b" }` and `"a"` used, which is no user name: without a catch-all it has no mapping, with one it has
unmapped : token_faults (of_rules (match_tokens ((Mapped (Quoted (codes "a")) (Terminal (quoted (codes "b"))) nowhere ∷ []) ∷ []) ∷ []) (uses 7 (terminal (quoted (codes "a"))) ∷ []))
    ≡ (NoMapping, place 7) ∷ []
unmapped = refl

caught : token_faults (of_rules (match_tokens ((Mapped (Quoted (codes "a")) (Terminal (quoted (codes "b"))) nowhere ∷ []) ∷ (CatchAll nowhere ∷ []) ∷ []) ∷ []) (uses 7 (terminal (quoted (codes "a"))) ∷ []))
    ≡ []
caught = refl

-- a bare terminal needs an entry of its name, also beside a catch-all
bare_unmapped : token_faults (of_rules [] (uses 7 (terminal (Bare (codes "A"))) ∷ [])) ≡ (NoMapping, place 7) ∷ []
bare_unmapped = refl

-- a terminal without a conversion, and two conversions of one
without_conversion : token_faults (of_rules (tok_tokens (codes "a" ∷ codes "a" ∷ []) ∷ []) (uses 7 (terminal (quoted (codes "b"))) ∷ []))
    ≡ (TerminalTwice, nowhere) ∷ (NoPattern, place 7) ∷ []
without_conversion = refl

-- `'input` and `input` are errors only with internal tokens
abbrev with_input : GrammarData → GrammarData
with_input g = record g { type_parameters = parameter.Lifetime (record { 0 = codes "'input" }) ∷ []; parameters = record { name = codes "input"; type = id (codes "T") } ∷ [] }

declared_inside : token_faults (with_input (of_rules [] [])) ≡ (InputLifetime, nowhere) ∷ (InputParameter, nowhere) ∷ []
declared_inside = refl

declared_outside : token_faults (with_input (of_rules (tok_tokens [] ∷ []) [])) ≡ []
declared_outside = refl

-- beside an enum a bare terminal without a conversion is reported as any other
bare_without_conversion : token_faults (of_rules (tok_tokens (codes "a" ∷ []) ∷ []) (uses 7 (terminal (Bare (codes "x"))) ∷ [])) ≡ (NoPattern, place 7) ∷ []
bare_without_conversion = refl

-- ---- with spans of texts, `grammar;` and a blank before each

abbrev of_quoted : Span → List ℕ → RuleData
of_quoted s text = a_rule (codes "S") None (plain (chosen (at s (terminal (quoted text))) ∷ []) ∷ [])

-- `match { "a" => "x" } else { "b" => "x" } S: () = "x";`
named_twice : token_faults (of_rules (match_tokens ((Mapped (Quoted (codes "a")) (Terminal (quoted (codes "x"))) (span 17 28) ∷ []) ∷ (Mapped (Quoted (codes "b")) (Terminal (quoted (codes "x"))) (span 37 48) ∷ []) ∷ []) ∷ [])
    (of_quoted (span 58 61) (codes "x") ∷ []))
    ≡ (TerminalTwice, span 37 48) ∷ []
named_twice = refl

-- `match { "a" } S: () = "b";`
not_mapped : token_faults (of_rules (match_tokens ((Unmapped (Quoted (codes "a")) (span 17 20) ∷ []) ∷ []) ∷ []) (of_quoted (span 31 34) (codes "b") ∷ [])) ≡ (NoMapping, span 31 34) ∷ []
not_mapped = refl

-- `extern { enum Tok { "a" => A(..), "a" => B(..) } } S: () = "a";`
abbrev conversion_at : Span → List ℕ → ConversionData
conversion_at s text = record (converts (quoted text) []) { span = s }

converted_twice : token_faults (of_rules (extern_tokens [] (conversion_at (span 29 41) (codes "a") ∷ conversion_at (span 43 56) (codes "a") ∷ []) ∷ []) (of_quoted (span 68 71) (codes "a") ∷ []))
    ≡ (TerminalTwice, span 43 56) ∷ []
converted_twice = refl

-- with the second one under `#[cfg(feature = "f")]`, which drops it where f is no feature
abbrev twice_with_cfg : GrammarData
twice_with_cfg = of_rules (extern_tokens [] (conversion_at (span 29 41) (codes "a")
    ∷ record (conversion_at (span 63 76) (codes "a")) { attributes = attributes_of (if_f ∷ []) } ∷ []) ∷ []) (of_quoted (span 88 91) (codes "a") ∷ [])

converted_under_cfg : token_faults (enabled_grammar without_f twice_with_cfg) ≡ []
converted_under_cfg = refl

converted_with_f : token_faults (enabled_grammar with_f twice_with_cfg) ≡ (TerminalTwice, span 63 76) ∷ []
converted_with_f = refl

-- and with one conversion nothing is wrong
converted_once : token_faults (of_rules (extern_tokens [] (conversion_at (span 29 41) (codes "a") ∷ []) ∷ []) (of_quoted (span 53 56) (codes "a") ∷ [])) ≡ []
converted_once = refl

-- a repeated literal is reported before the name that its item repeats
literal_first : first (token_faults (of_rules (match_tokens ((Unmapped (Quoted (codes "a")) (place 1) ∷ Unmapped (Quoted (codes "a")) (place 2) ∷ []) ∷ []) ∷ []) [])) ≡ Some (LiteralTwice, place 2)
literal_first = refl
