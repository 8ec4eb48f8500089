-- What a stop says of a grammar, and of trees that were to be translated in it.
use Rattle.std.specs.Prelude.{◌≡◌, ℕ, Bool, List, ◌++◌, Some}
use Rattle.lalrpop_norm_tree.specs.Items.{GrammarData}
use Rattle.lalrpop_norm_faults.specs.declared.failure.NormFailure.TheVariants.{Refused as faulty_grammar, Memory as no_room}
use Rattle.lalrpop_norm_faults.specs.Faults.{IsTold}
use Rattle.lalrpop_norm_theory.specs.Symbols.{Name}
use Rattle.lalrpop_norm_theory.specs.WrittenTrees.{WrittenTree}
use Rattle.lalrpop_norm_theory.specs.LoweredTrees.{LoweredTree}
use Rattle.lalrpop_norm_repr.specs.Lowered.{LoweredGrammar}
use Rattle.lalrpop_norm_explain.specs.declared.errors.ExplainFault.{ExplainFault}
use Rattle.lalrpop_norm_explain.specs.declared.errors.ExplainError.TheVariants.{Refused as faulty_tree, Memory as no_memory}
use Rattle.lalrpop_norm_explain.specs.TreeFaults.{explain_faults, first_found}
use Rattle.lalrpop_norm_explain.specs.WrittenShapes.{written_faults}
use Rattle.lalrpop_norm_ambiguity.specs.declared.errors.AmbiguityError.{AmbiguityError}
use Rattle.lalrpop_norm_ambiguity.specs.declared.errors.AmbiguityError.TheVariants.{Memory as no_place}
use Rattle.lalrpop_norm_ambiguity.specs.Findings.{IsFirstFound, findings}
use Rattle.lalrpop_norm.specs.Faithful.{traced_derivations, written_meaning}
use Rattle.lalrpop_norm.specs.WayBack.{AreRoots}
use Rattle.lnorm_run.specs.Settings.{Settings}
use Rattle.lnorm_run.specs.Answers.{IsFirstFault, IsFormOf, IsLowered, StandsAtPlace, findings_of}
use Rattle.lexplain_lines.specs.LineForms.{AreLines, lowered_forms, written_forms}
use Rattle.lexplain_run.specs.Answers.{IsPairedIn}
use Rattle.lexplain_run.specs.declared.answer.Stop.{Stop}
use Rattle.lexplain_run.specs.Witnesses.{AreReadings}
use Rattle.lexplain_run.specs.declared.words.Way.{Way}
use Rattle.lexplain_run.specs.declared.words.Way.TheVariants.{Explain, Lower, Ambiguous}
use Rattle.lexplain_run.specs.declared.answer.Stop.TheVariants.{NotAGrammar, NotATree, Failed, Tree, Trees}

-- The fault is the first one of the derivation tree, at that path from its root, in a lowered grammar that the grammar has, where
-- trees begin at its enabled rules that are no macros. No written tree corresponds to it.
pub record IsRefusedDerivation (s : Settings) (g : GrammarData) (u : LoweredTree) (fault : ExplainFault)
    (path : List ℕ) : Type 0 where
  pub unpaired : (t : WrittenTree) → IsPairedIn s.features g t u → ⊥
  pub lowered : LoweredGrammar
  pub lowers : IsLowered s g lowered
  pub begins : Name → Bool
  pub begins_at_rules : AreRoots s.features g begins
  pub first : first_found (explain_faults begins (traced_derivations s.features g s.limit lowered) u) ≡ Some (fault, path)

-- The grammar has a lowered one. The fault is the first one of the written tree, in terms of the written language, at that
-- path from its root; trees begin likewise. No derivation tree corresponds to it.
pub record IsRefusedWritten (s : Settings) (g : GrammarData) (t : WrittenTree) (fault : ExplainFault)
    (path : List ℕ) : Type 0 where
  pub unpaired : (u : LoweredTree) → IsPairedIn s.features g t u → ⊥
  pub lowered : LoweredGrammar
  pub lowers : IsLowered s g lowered
  pub begins : Name → Bool
  pub begins_at_rules : AreRoots s.features g begins
  pub first : first_found (written_faults (written_meaning s.features g) begins t) ≡ Some (fault, path)

-- The error is the first of what is wrong with two derivation trees that are to show an ambiguity, likewise. No two written trees
-- that show one correspond to them.
pub record IsRefusedPair (s : Settings) (g : GrammarData) (u v : LoweredTree) (e : AmbiguityError) : Type 0 where
  pub unpaired : (t r : WrittenTree) → AreReadings s.features g t r → IsPairedIn s.features g t u → IsPairedIn s.features g r v → ⊥
  pub lowered : LoweredGrammar
  pub lowers : IsLowered s g lowered
  pub begins : Name → Bool
  pub begins_at_rules : AreRoots s.features g begins
  pub first : IsFirstFound (findings begins (traced_derivations s.features g s.limit lowered) u v) e

-- a failed allocation says nothing
abbrev pub IsUnshown : Settings → GrammarData → LoweredTree → LoweredTree → AmbiguityError → Type 0
IsUnshown s g u v no_place = Unit {0}
IsUnshown s g u v e = IsRefusedPair s g u v e

-- The stop says a fault of the grammar that may be reported, or the fault that the tree is rejected for. A failed allocation says
-- nothing; that a text is none it never says.
abbrev pub StopsIn : Settings → GrammarData → (ExplainFault → List ℕ → Type 0) → Stop → Type 0
StopsIn s g IsRefused NotAGrammar = ⊥
StopsIn s g IsRefused NotATree = ⊥
StopsIn s g IsRefused (Failed failure) = IsTold (StandsAtPlace s g) (findings_of s g) failure
StopsIn s g IsRefused (Tree (faulty_tree fault path)) = IsRefused fault path.items
StopsIn s g IsRefused (Tree no_memory) = Unit {0}
StopsIn s g IsRefused (Trees e) = ⊥

-- of a derivation tree that is to be explained
abbrev pub StopsExplaining : Settings → GrammarData → LoweredTree → Stop → Type 0
StopsExplaining s g u = StopsIn s g (IsRefusedDerivation s g u)

-- of a written tree that is to be lowered
abbrev pub StopsLowering : Settings → GrammarData → WrittenTree → Stop → Type 0
StopsLowering s g t = StopsIn s g (IsRefusedWritten s g t)

-- of two derivation trees that are to show an ambiguity: a fault of the grammar likewise, or what is wrong with them
abbrev pub StopsShowing : Settings → GrammarData → LoweredTree → LoweredTree → Stop → Type 0
StopsShowing s g u v NotAGrammar = ⊥
StopsShowing s g u v NotATree = ⊥
StopsShowing s g u v (Failed failure) = IsTold (StandsAtPlace s g) (findings_of s g) failure
StopsShowing s g u v (Tree e) = ⊥
StopsShowing s g u v (Trees e) = IsUnshown s g u v e

-- the lines are those of no tree, or no two, of the grammar at which the way begins
abbrev pub AreNoLines : Way → List ℕ → Type 0
AreNoLines Explain lines = (u : LoweredTree) → AreLines lines (lowered_forms u) → ⊥
AreNoLines Lower lines = (t : WrittenTree) → AreLines lines (written_forms t) → ⊥
AreNoLines Ambiguous lines = (u v : LoweredTree) → AreLines lines (lowered_forms u ++ lowered_forms v) → ⊥

-- the tree of that grammar whose lines these are is rejected with that fault
abbrev pub IsRefusedOn : Way → Settings → GrammarData → List ℕ → ExplainFault → List ℕ → Type 0
IsRefusedOn Explain s g lines fault path = (u : LoweredTree) × AreLines lines (lowered_forms u) × IsRefusedDerivation s g u fault path
IsRefusedOn Lower s g lines fault path = (t : WrittenTree) × AreLines lines (written_forms t) × IsRefusedWritten s g t fault path
IsRefusedOn Ambiguous s g lines fault path = ⊥

-- the two trees of that grammar whose lines these are show no ambiguity, by that error
abbrev pub IsUnshownOn : Way → Settings → GrammarData → List ℕ → AmbiguityError → Type 0
IsUnshownOn Explain s g lines e = ⊥
IsUnshownOn Lower s g lines e = ⊥
IsUnshownOn Ambiguous s g lines e =
    (u : LoweredTree) × (v : LoweredTree) × AreLines lines (lowered_forms u ++ lowered_forms v) × IsUnshown s g u v e

-- What a stop says of bytes that are to be the form of a grammar, and of lines: the bytes are the form of none; or they are that
-- of one, and the stop is that the lines are those of no tree, or no two, a fault of the grammar that may be reported, or one of
-- their trees in it.
abbrev pub StopsOver : Way → Settings → List ℕ → List ℕ → Stop → Type 0
StopsOver way s bytes lines NotAGrammar = (g : GrammarData) → IsFormOf g bytes → ⊥
StopsOver way s bytes lines NotATree = (g : GrammarData) × IsFormOf g bytes × AreNoLines way lines
StopsOver way s bytes lines (Failed (faulty_grammar e)) = IsFirstFault s bytes e.fault e.span
StopsOver way s bytes lines (Failed no_room) = Unit {0}
StopsOver way s bytes lines (Tree (faulty_tree fault path)) =
    (g : GrammarData) × IsFormOf g bytes × IsRefusedOn way s g lines fault path.items
StopsOver way s bytes lines (Tree no_memory) = Unit {0}
StopsOver way s bytes lines (Trees e) = (g : GrammarData) × IsFormOf g bytes × IsUnshownOn way s g lines e
