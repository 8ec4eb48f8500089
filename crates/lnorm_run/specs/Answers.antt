-- What the text and the faults of an input are.
use Rattle.std.specs.Prelude.{◌≡◌, ◌++◌, ℕ, List, Option, Some, None, true, codes, if◌then◌else◌, IsUtf8}
use Rattle.serde_json.specs.Data.{Data}
use Rattle.serde_json.specs.Read.{read}
use Rattle.serde_json.specs.Written.{compact_text}
use Rattle.lalrpop_norm_tree_names.specs.declared.names.Span.{Span}
use Rattle.lalrpop_norm_tree.specs.Items.{GrammarData}
use Rattle.lalrpop_norm_faults.specs.declared.kind.FaultKind.{FaultKind}
use Rattle.lalrpop_norm_faults.specs.Faults.{Fault, Finding, StandsAmong, MayBeTold}
use Rattle.lalrpop_norm_theory.specs.LoweredTrees.{Origin}
use Rattle.lalrpop_norm_model.specs.LexerFaults.{LexerPlace}
use Rattle.lalrpop_norm_lexer.specs.CheckOnly.{of_regex}
use Rattle.lalrpop_norm_json.specs.ItemForms.{grammar_form}
use Rattle.lalrpop_norm_json.specs.Shapes as shape
use Rattle.lalrpop_norm_json.specs.Shapes.{is}
use Rattle.lnorm_run.specs.Settings.{Settings}
use Rattle.lalrpop_norm.specs.Faithful.{IsFaithful, origins_of_actions}
use Rattle.lalrpop_norm.specs.Normalize.{normalize_findings, StandsThere}
use Rattle.lalrpop_norm_repr.specs.Closed.{IsClosed}
use Rattle.lalrpop_norm_repr.specs.Lowered.{LoweredGrammar}
use Rattle.lalrpop_norm_lowered_json.specs.WholeForms.{whole_form}
use Rattle.lnorm_run.specs.Lines.{lines}
use Rattle.lnorm_run.specs.declared.printing.Form.{Form}
use Rattle.lnorm_run.specs.declared.printing.Form.TheVariants.{Lines, Json}

-- the input is JSON in the shape of a tree
pub record IsTree (bytes : List ℕ) : Type 0 where
  pub text : IsUtf8 bytes
  pub value : Data
  pub is_read : read bytes ≡ Some value
  pub shaped : is shape.grammar value ≡ true

-- the input is the JSON form of that tree
pub record IsFormOf (g : GrammarData) (bytes : List ℕ) : Type 0 where
  pub text : IsUtf8 bytes
  pub value : Data
  pub is_read : read bytes ≡ Some value
  pub is_form : grammar_form g ≡ Some value

-- what is looked for in a tree, in order
abbrev pub findings_of : Settings → GrammarData → List (Finding LexerPlace)
findings_of s g = normalize_findings s.features s.limit g

-- what the program's lexer may reject of a tree
abbrev pub StandsAtPlace : Settings → GrammarData → LexerPlace → Fault → Type 0
StandsAtPlace s g = StandsThere of_regex s.features s.limit g

-- The lowered grammar is one that the tree has under the settings: no fault of the tree holds; it is what the tree is lowered to
-- by its definition, and faithful to it; and nothing in it is left open. Its tokens are those of the program's lexer.
pub record IsLowered (s : Settings) (g : GrammarData) (l : LoweredGrammar) : Type 0 where
  pub faultless : (f : Fault) → StandsAmong (StandsAtPlace s g) (findings_of s g) f → ⊥
  pub faithful : IsFaithful of_regex s.features s.limit g l
  pub closed : IsClosed l

-- where they are asked for, the origins in the tree of the actions of a lowered grammar that it has
abbrev pub origins_asked : Settings → GrammarData → Option (List Origin)
origins_asked s g = if s.origins then Some (origins_of_actions s.features g s.limit) else None

-- the text of a lowered grammar, with the origins of its actions if they are listed: its lines, or one line of JSON, which is the
-- form of the whole grammar
abbrev pub printed_as : Form → Option (List Origin) → LoweredGrammar → List ℕ
printed_as Lines os l = lines os l
printed_as Json os l = compact_text (whole_form os l) ++ codes "\n"

-- the text is that of a lowered grammar that the tree has
pub record IsTextIn (form : Form) (s : Settings) (g : GrammarData) (text : List ℕ) : Type 0 where
  pub lowered : LoweredGrammar
  pub lowers : IsLowered s g lowered
  pub printed : text ≡ printed_as form (origins_asked s g) lowered

-- the input is the form of a tree, and the text is that for it
pub record IsAnswerIn (printed : Form) (s : Settings) (bytes text : List ℕ) : Type 0 where
  pub tree : GrammarData
  pub form : IsFormOf tree bytes
  pub right : IsTextIn printed s tree text

-- the text is the lines
abbrev pub IsAnswer : Settings → List ℕ → List ℕ → Type 0
IsAnswer = IsAnswerIn Lines

-- The first fault of the tree that the input is, and its span; or one of its lexer that holds at that span, with no fault but
-- of the lexer before it.
pub record IsFirstFault (s : Settings) (bytes : List ℕ) (fault : FaultKind) (span : Span) : Type 0 where
  pub tree : GrammarData
  pub form : IsFormOf tree bytes
  pub stands : MayBeTold (StandsAtPlace s tree) (findings_of s tree) (fault, span)
