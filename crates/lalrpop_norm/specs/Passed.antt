-- What is known where the passes find nothing wrong.
use Rattle.std.specs.Prelude.{◌≡◌, []}
use Rattle.lalrpop_norm_tree.specs.Items.{ExternTokenData, GrammarData, extern_item}
use Rattle.lalrpop_norm_theory.specs.Rounds.{In}
use Rattle.lalrpop_norm_model.specs.CheckedTokens.{IsChecked}
use Rattle.lalrpop_norm_model.specs.Enabled.{enabled_extern}
use Rattle.lalrpop_norm_model.specs.Expanded.{IsTyped, IsExpanded, interns}
use Rattle.lalrpop_norm_model.specs.Features.{Features}
use Rattle.lalrpop_norm_model.specs.InferenceFaults.{inference_faults}
use Rattle.lalrpop_norm_model.specs.Lexers.{Lexer}
use Rattle.lalrpop_norm_model.specs.LoweringFaults.{lowering_faults}
use Rattle.lalrpop_norm_model.specs.PlainRules.{all_rules}
use Rattle.lalrpop_norm_model.specs.TokenFaults.{token_faults}
use Rattle.lalrpop_norm_repr.specs.Closed.{IsClosed}
use Rattle.lalrpop_norm_repr.specs.Lowered.{LoweredGrammar}
use Rattle.lalrpop_norm_repr.specs.Tables.{TypeTable}
use Rattle.lalrpop_norm_tyinfer.specs.Inferred.{IsInferred}
use Rattle.lalrpop_norm_lower.specs.Active.{active_grammar}
use Rattle.lalrpop_norm_lower.specs.Made.{types_by_name}
use Rattle.lalrpop_norm_lower.specs.Shape.{IsLoweringOf}

-- a grammar is typed by each table that inference may answer
abbrev pub IsTypedByInference : Features → GrammarData → Type 0
IsTypedByInference fs plain =
    (types : TypeTable) → inference_faults plain ≡ [] → IsInferred plain types → IsTyped fs plain (types_by_name types)

-- the types of a grammar's rules are inferred, and over them the active part of the grammar is lowered
pub record IsTypedLowering (fs : Features) (plain : GrammarData) (l : LoweredGrammar) : Type 0 where
  pub types : TypeTable
  pub typable : inference_faults plain ≡ []
  pub inferred : IsInferred plain types
  pub lowerable : lowering_faults plain (types_by_name types) ≡ []
  pub shape : IsLoweringOf (active_grammar fs plain) (all_rules plain) types l
  pub closed : IsClosed l

-- an expanded grammar, without internal tokens, whose conversions are all active
pub record IsPlain (fs : Features) (plain : GrammarData) : Type 0 where
  pub expanded : IsExpanded plain
  pub no_tokens : interns plain ≡ []
  pub active : (t : ExternTokenData) → In (extern_item t) plain.items → enabled_extern fs t ≡ t

-- nothing is wrong with its tokens, and with these it is lowered
pub record IsCheckedLowering {R : Type 0} (lexer : Lexer R) (fs : Features) (plain : GrammarData)
    (l : LoweredGrammar) : Type 0 where
  pub checked : GrammarData
  pub supplied : token_faults plain ≡ []
  pub tokens : IsChecked lexer plain checked
  pub lowered : IsTypedLowering fs checked l
