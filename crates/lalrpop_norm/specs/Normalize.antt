-- Where normalization rejects a written grammar.
use Rattle.std.specs.Prelude.{ℕ, List, ◌++◌, map}
use Rattle.lalrpop_norm_tree.specs.Items.{GrammarData}
use Rattle.lalrpop_norm_faults.specs.Faults.{Fault, Finding, sure}
use Rattle.lalrpop_norm_conditions.specs.Conditions.{comparison}
use Rattle.lalrpop_norm_model.specs.Features.{Features}
use Rattle.lalrpop_norm_model.specs.Enabled.{enabled_grammar}
use Rattle.lalrpop_norm_model.specs.Lexers.{Lexer}
use Rattle.lalrpop_norm_model.specs.LexerFaults.{LexerPlace, StandsAtLexer, token_findings}
use Rattle.lalrpop_norm_model.specs.EnteredGrammars.{entered_grammar}
use Rattle.lalrpop_norm_model.specs.InferenceFaults.{inference_faults, inferred_table}
use Rattle.lalrpop_norm_model.specs.LoweringFaults.{lowering_faults}
use Rattle.lalrpop_norm_prevalidate.specs.GrammarFaults.{validate_faults}
use Rattle.lalrpop_norm_precedence.specs.PrecedenceFaults.{precedence_faults}
use Rattle.lalrpop_norm_macro_expand.specs.Expansion.{expansion_faults}
use Rattle.lalrpop_norm.specs.Faithful.{grammar_with_levels, grammar_of_plain_rules}

-- Where the passes up to the expansion reject a grammar, in their order: what no grammar may look like; of what is enabled,
-- names, levels, and names once more; of the grammar with levels, its expansion in so many rounds.
abbrev pub early_faults : Features → ℕ → GrammarData → List Fault
early_faults fs limit g =
    validate_faults g
    ++ (precedence_faults (enabled_grammar fs g)
    ++ expansion_faults comparison (grammar_with_levels fs g) limit)

-- the faults of inference, then those of lowering with the types that are inferred
abbrev pub late_faults : GrammarData → List Fault
late_faults plain = inference_faults plain ++ lowering_faults plain (inferred_table plain)

-- What the passes after the expansion look for in an expanded grammar: what is wrong with its tokens, where a lexer may
-- reject too; then, once it has its entries, types and numbers.
abbrev pub plain_findings : GrammarData → List (Finding LexerPlace)
plain_findings plain = token_findings plain ++ map sure (late_faults (entered_grammar plain))

-- what normalization looks for: what its passes look for, in their order
abbrev pub normalize_findings : Features → ℕ → GrammarData → List (Finding LexerPlace)
normalize_findings fs limit g = map sure (early_faults fs limit g) ++ plain_findings (grammar_of_plain_rules fs g limit)

-- What holds at the one point where a fault may go unreported: an error of the lexer that is true of the expanded rules.
abbrev pub StandsThere : {R : Type 0} → Lexer R → Features → ℕ → GrammarData → LexerPlace → Fault → Type 0
StandsThere lexer fs limit g = StandsAtLexer lexer (grammar_of_plain_rules fs g limit)
