-- All errors of a pass in visiting order, as a list of faults; and answers that report the first error.
use Rattle.std.specs.Prelude.{String, string_bytes, ◌≡◌, ℕ, Bool, if◌then◌else◌, List, [], ◌∷◌, ◌⊎◌}
use Rattle.std.specs.Prelude.{Option, Some, None, Result, Ok, Err, codes}
use Rattle.lalrpop_norm_tree_names.specs.declared.names.Span.{Span}
use Rattle.lalrpop_norm_faults.specs.declared.kind.FaultKind.{FaultKind}
use Rattle.lalrpop_norm_faults.specs.declared.kind.FaultKind.TheVariants.{GrammarAttribute, SecondMatch, MatchWithExtern}
use Rattle.lalrpop_norm_faults.specs.declared.kind.FaultKind.TheVariants.{SecondExtern, UnknownAssociatedType}
use Rattle.lalrpop_norm_faults.specs.declared.kind.FaultKind.TheVariants.{RepeatedAssociatedType, PublicMacro}
use Rattle.lalrpop_norm_faults.specs.declared.kind.FaultKind.TheVariants.{UnknownRuleAttribute, RepeatedRuleAttribute}
use Rattle.lalrpop_norm_faults.specs.declared.kind.FaultKind.TheVariants.{InlineOnPublic, MalformedCfg, MissingLevel}
use Rattle.lalrpop_norm_faults.specs.declared.kind.FaultKind.TheVariants.{LevelArgument, LevelNumber, SideArgument, Side}
use Rattle.lalrpop_norm_faults.specs.declared.kind.FaultKind.TheVariants.{SideOnLowest, AlternativeAttribute, NamedWithoutAction}
use Rattle.lalrpop_norm_faults.specs.declared.kind.FaultKind.TheVariants.{AnonymousInBraces, ChosenWithNamed, NameTwice}
use Rattle.lalrpop_norm_faults.specs.declared.kind.FaultKind.TheVariants.{ErrorWithAscent, MacroWithoutArguments, NoLocation}
use Rattle.lalrpop_norm_faults.specs.declared.kind.FaultKind.TheVariants.{WrittenIntern, WrittenErrorTerminal, WrittenOfSymbol}
use Rattle.lalrpop_norm_faults.specs.declared.kind.FaultKind.TheVariants.{WrittenLookaround, NameDeclaredTwice, ArgumentTwice}
use Rattle.lalrpop_norm_faults.specs.declared.kind.FaultKind.TheVariants.{NoDefinition, ConditionOnOther, NotNonterminal}
use Rattle.lalrpop_norm_faults.specs.declared.kind.FaultKind.TheVariants.{NotMacro, Arity, MacroNamed, ConditionArgument}
use Rattle.lalrpop_norm_faults.specs.declared.kind.FaultKind.TheVariants.{ConditionPattern, NamedInGroup, RecursionCap}
use Rattle.lalrpop_norm_faults.specs.declared.kind.FaultKind.TheVariants.{SharedName, LiteralTwice, TerminalTwice, NoMapping}
use Rattle.lalrpop_norm_faults.specs.declared.kind.FaultKind.TheVariants.{NoPattern, BadRegex, RegexFeature, Ambiguity}
use Rattle.lalrpop_norm_faults.specs.declared.kind.FaultKind.TheVariants.{InputLifetime, InputParameter, NoAlternatives}
use Rattle.lalrpop_norm_faults.specs.declared.kind.FaultKind.TheVariants.{OnlyCoded, NotGrounded, Disagreement, TupleOverSymbol}
use Rattle.lalrpop_norm_faults.specs.declared.kind.FaultKind.TheVariants.{TupleOverType, TupleLength, Placeholders, StartTaken}
use Rattle.lalrpop_norm_faults.specs.declared.kind.FaultKind.TheVariants.{TooManyActions, NamedInTimes}
use Rattle.std.specs.declared.alloc.AllocError.{AllocError}
use Rattle.std.specs.declared.alloc.Global.{Global}
use Rattle.lalrpop_norm_faults.specs.declared.failure.NormError.{NormError}
use Rattle.lalrpop_norm_faults.specs.declared.failure.NormFailure.{NormFailure}
use Rattle.lalrpop_norm_faults.specs.declared.failure.NormFailure.TheVariants.{Refused, Memory}

-- a fault with its span
abbrev pub Fault : Type 0
Fault = FaultKind × Span

-- what an error reports: the fault, its message and its span
abbrev pub error_view : NormError → FaultKind × (List ℕ × Span)
error_view e = (e.fault, (string_bytes e.message, e.span))

-- why there is no answer: what an error reports, or nothing if an allocation failed
abbrev pub failure_view : NormFailure → Option (FaultKind × (List ℕ × Span))
failure_view (Refused e) = Some (error_view e)
failure_view Memory = None

-- the first entry
abbrev pub first : List Fault → Option Fault
first [] = None
first (f ∷ fs) = Some f

-- the failure reports that fault; a failed allocation reports nothing
abbrev pub IsFault : Option Fault → NormFailure → Type 0
IsFault f (Refused e) = f ≡ Some (e.fault, e.span)
IsFault f Memory = Unit

-- the failure reports the first of the faults
abbrev pub IsFirst : List Fault → NormFailure → Type 0
IsFirst fs e = IsFault (first fs) e

-- the failure reports that fault with the message, if there is one, else a failed allocation
abbrev pub IsRefusal : FaultKind → Span → Result (String Global) AllocError → NormFailure → Type 0
IsRefusal f s (Ok m) e = e ≡ Refused (record { fault = f; message = m; span = s })
IsRefusal f s (Err _) e = e ≡ Memory

-- Ok if there is no fault, else the first one is reported, unless an allocation fails
abbrev pub Refuses : {T : Type 0} → Result T NormFailure → List Fault → Type 0
Refuses (Ok _) fs = fs ≡ []
Refuses (Err e) fs = IsFirst fs e

-- likewise, with a fact of the value if there is no fault
abbrev pub RefusesOr : {T : Type 0} → Result T NormFailure → List Fault → (T → Type 0) → Type 0
RefusesOr (Ok x) fs P = (fs ≡ []) × P x
RefusesOr (Err e) fs P = IsFirst fs e

abbrev pub fault_if : Bool → Fault → List Fault
fault_if b f = if b then f ∷ [] else []

-- ---- faults of which some may go unreported

-- What a pass looks for, in visiting order: a fault, which is reported if it holds; or a point of the search (of any type `P`),
-- at which a fault that holds there may be reported, and may go unreported.
pub data Finding (P : Type 0) : Type 0 where
  sure : Fault → Finding P
  maybe : P → Finding P

-- the faults that are reported if they hold
abbrev pub sure_ones : {P : Type 0} → List (Finding P) → List Fault
sure_ones [] = []
sure_ones (sure f ∷ fs) = f ∷ sure_ones fs
sure_ones (maybe p ∷ fs) = sure_ones fs

-- the fault holds: it is one of the sure ones, or one that holds at a point
abbrev pub StandsAmong : {P : Type 0} → (P → Fault → Type 0) → List (Finding P) → Fault → Type 0
StandsAmong At [] f = ⊥
StandsAmong At (sure g ∷ fs) f = (g ≡ f) ⊎ StandsAmong At fs f
StandsAmong At (maybe p ∷ fs) f = At p f ⊎ StandsAmong At fs f

-- the fault may be reported: it holds, and no sure one comes before it
abbrev pub MayBeTold : {P : Type 0} → (P → Fault → Type 0) → List (Finding P) → Fault → Type 0
MayBeTold At [] f = ⊥
MayBeTold At (sure g ∷ fs) f = g ≡ f
MayBeTold At (maybe p ∷ fs) f = At p f ⊎ MayBeTold At fs f

-- the failure reports a fault that may be reported; a failed allocation reports nothing
abbrev pub IsTold : {P : Type 0} → (P → Fault → Type 0) → List (Finding P) → NormFailure → Type 0
IsTold At fs (Refused e) = MayBeTold At fs (e.fault, e.span)
IsTold At fs Memory = Unit

-- Ok only if there is no sure fault, else one that may be reported is, unless an allocation fails
abbrev pub RefusesAmong : {P T : Type 0} → (P → Fault → Type 0) → Result T NormFailure → List (Finding P) → Type 0
RefusesAmong At (Ok _) fs = sure_ones fs ≡ []
RefusesAmong At (Err e) fs = IsTold At fs e

-- likewise, with a fact of the value where the answer is Ok
abbrev pub RefusesAmongOr : {P T : Type 0} → (P → Fault → Type 0) → Result T NormFailure → List (Finding P) →
    (T → Type 0) → Type 0
RefusesAmongOr At (Ok x) fs Q = (sure_ones fs ≡ []) × Q x
RefusesAmongOr At (Err e) fs Q = IsTold At fs e

-- ---- error codes

-- the error code of a fault
abbrev pub code_of : FaultKind → List ℕ
code_of GrammarAttribute = codes "F1"
code_of SecondMatch = codes "F2"
code_of MatchWithExtern = codes "F3"
code_of SecondExtern = codes "F4"
code_of UnknownAssociatedType = codes "F5"
code_of RepeatedAssociatedType = codes "F6"
code_of PublicMacro = codes "F7"
code_of UnknownRuleAttribute = codes "F8"
code_of RepeatedRuleAttribute = codes "F9"
code_of InlineOnPublic = codes "F10"
code_of MalformedCfg = codes "F11"
code_of MissingLevel = codes "F12a"
code_of LevelArgument = codes "F12b"
code_of LevelNumber = codes "F12c"
code_of SideArgument = codes "F12d"
code_of Side = codes "F12e"
code_of SideOnLowest = codes "F12f"
code_of AlternativeAttribute = codes "F13"
code_of NamedWithoutAction = codes "F14"
code_of AnonymousInBraces = codes "F15"
code_of ChosenWithNamed = codes "F16"
code_of NameTwice = codes "F17"
code_of ErrorWithAscent = codes "F18"
code_of MacroWithoutArguments = codes "F19"
code_of NoLocation = codes "F20"
code_of WrittenIntern = codes "F21"
code_of WrittenErrorTerminal = codes "F22"
code_of WrittenOfSymbol = codes "F23"
code_of WrittenLookaround = codes "F24"
code_of NameDeclaredTwice = codes "F25"
code_of ArgumentTwice = codes "F26"
code_of NoDefinition = codes "F27"
code_of ConditionOnOther = codes "F28"
code_of NotNonterminal = codes "F29"
code_of NotMacro = codes "F30"
code_of Arity = codes "F31"
code_of MacroNamed = codes "F32"
code_of ConditionArgument = codes "F33"
code_of ConditionPattern = codes "F34"
code_of NamedInGroup = codes "F35"
code_of RecursionCap = codes "F36"
code_of SharedName = codes "F37"
code_of LiteralTwice = codes "F38"
code_of TerminalTwice = codes "F39"
code_of NoMapping = codes "F40"
code_of NoPattern = codes "F41"
code_of BadRegex = codes "F42"
code_of RegexFeature = codes "F43"
code_of Ambiguity = codes "F44"
code_of InputLifetime = codes "F45"
code_of InputParameter = codes "F46"
code_of NoAlternatives = codes "F47"
code_of OnlyCoded = codes "F48"
code_of NotGrounded = codes "F49"
code_of Disagreement = codes "F50"
code_of TupleOverSymbol = codes "F51"
code_of TupleOverType = codes "F52"
code_of TupleLength = codes "F53"
code_of Placeholders = codes "F54"
code_of StartTaken = codes "F55"
code_of TooManyActions = codes "F56"
code_of NamedInTimes = codes "F57"
