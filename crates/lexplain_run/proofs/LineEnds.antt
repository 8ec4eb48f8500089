-- The line of a stop has one line feed, at its end: a beginning of it that ends with one is the whole line.
use Rattle.std.proofs.Common.{◌≡◌, ℕ, ◌+◌, ◌/◌, ◌%◌, ◌-◌, zero, suc, List, [], ◌∷◌, ◌++◌, length, take, slice_get, Some, Bool, true, false, cond, ◌==◌, nat_lt, codes, decimal, refl, sym, ap, subst, ◌∙◌, arith, append_assoc, string_bytes}
use Rattle.core.specs.Fmt.{digit_glyph, digits, digits_onto}
use Rattle.std.proofs.Common.{ne_eqb}
use Rattle.lalrpop_norm_faults.specs.declared.kind.FaultKind.{FaultKind}
use Rattle.lalrpop_norm_faults.specs.declared.kind.FaultKind.TheVariants.{GrammarAttribute, SecondMatch, MatchWithExtern}
use Rattle.lalrpop_norm_faults.specs.declared.kind.FaultKind.TheVariants.{SecondExtern, UnknownAssociatedType}
use Rattle.lalrpop_norm_faults.specs.declared.kind.FaultKind.TheVariants.{RepeatedAssociatedType, PublicMacro}
use Rattle.lalrpop_norm_faults.specs.declared.kind.FaultKind.TheVariants.{UnknownRuleAttribute, RepeatedRuleAttribute}
use Rattle.lalrpop_norm_faults.specs.declared.kind.FaultKind.TheVariants.{InlineOnPublic, MalformedCfg, MissingLevel}
use Rattle.lalrpop_norm_faults.specs.declared.kind.FaultKind.TheVariants.{LevelArgument, LevelNumber, SideArgument, Side}
use Rattle.lalrpop_norm_faults.specs.declared.kind.FaultKind.TheVariants.{SideOnLowest, AlternativeAttribute, NamedWithoutAction}
use Rattle.lalrpop_norm_faults.specs.declared.kind.FaultKind.TheVariants.{AnonymousInBraces, ChosenWithNamed, NameTwice}
use Rattle.lalrpop_norm_faults.specs.declared.kind.FaultKind.TheVariants.{ErrorWithAscent, MacroWithoutArguments, NoLocation}
use Rattle.lalrpop_norm_faults.specs.declared.kind.FaultKind.TheVariants.{WrittenIntern, WrittenErrorTerminal, WrittenOfSymbol}
use Rattle.lalrpop_norm_faults.specs.declared.kind.FaultKind.TheVariants.{WrittenLookaround, NameDeclaredTwice, ArgumentTwice}
use Rattle.lalrpop_norm_faults.specs.declared.kind.FaultKind.TheVariants.{NoDefinition, ConditionOnOther, NotNonterminal}
use Rattle.lalrpop_norm_faults.specs.declared.kind.FaultKind.TheVariants.{NotMacro, Arity, MacroNamed, ConditionArgument}
use Rattle.lalrpop_norm_faults.specs.declared.kind.FaultKind.TheVariants.{ConditionPattern, NamedInGroup, RecursionCap}
use Rattle.lalrpop_norm_faults.specs.declared.kind.FaultKind.TheVariants.{SharedName, LiteralTwice, TerminalTwice, NoMapping}
use Rattle.lalrpop_norm_faults.specs.declared.kind.FaultKind.TheVariants.{NoPattern, BadRegex, RegexFeature, Ambiguity}
use Rattle.lalrpop_norm_faults.specs.declared.kind.FaultKind.TheVariants.{InputLifetime, InputParameter, NoAlternatives}
use Rattle.lalrpop_norm_faults.specs.declared.kind.FaultKind.TheVariants.{OnlyCoded, NotGrounded, Disagreement, TupleOverSymbol}
use Rattle.lalrpop_norm_faults.specs.declared.kind.FaultKind.TheVariants.{TupleOverType, TupleLength, Placeholders, StartTaken}
use Rattle.lalrpop_norm_faults.specs.declared.kind.FaultKind.TheVariants.{TooManyActions, NamedInTimes}
use Rattle.lalrpop_norm_faults.specs.Faults.{code_of}
use Rattle.lalrpop_norm_faults.specs.declared.failure.NormFailure.TheVariants.{Refused as faulty_grammar, Memory as no_room}
use Rattle.lalrpop_norm_tree_names.specs.declared.names.Span.{Span}
use Rattle.lalrpop_norm_explain.specs.FaultCodes.{tree_fault_code}
use Rattle.lalrpop_norm_explain.specs.declared.errors.ExplainFault.{ExplainFault}
use Rattle.lalrpop_norm_explain.specs.declared.errors.ExplainFault.TheVariants.{Root, Production, Child, Shape}
use Rattle.lalrpop_norm_explain.specs.declared.errors.ExplainError.TheVariants.{Refused as faulty_tree, Memory as no_memory}
use Rattle.lalrpop_norm_ambiguity.specs.declared.errors.AmbiguityError.{AmbiguityError}
use Rattle.lalrpop_norm_ambiguity.specs.declared.errors.AmbiguityError.TheVariants.{First, Second, Rules, Yields, Same, Memory}
use Rattle.lnorm_streams.specs.Streams.{WritesFront, fault_line, in_line, one_line, lexplain_memory_line, lexplain_no_tree_line}
use Rattle.lexplain_lines.proofs.NoFeed.{feeds_none, feeds_none_both}
use Rattle.lexplain_run.specs.Stops.{child_path_text, places_text, stop_line, tree_fault_line, unshown_line}
use Rattle.lexplain_run.specs.declared.answer.Stop.{Stop}
use Rattle.lexplain_run.specs.declared.answer.Stop.TheVariants.{NotAGrammar, NotATree, Failed, Tree, Trees}

-- a text without a line feed, and one behind it
pub record IsLine (text : List ℕ) : Type 0 where
  pub body : List ℕ
  pub none : feeds_none body ≡ true
  pub ended : text ≡ body ++ codes "\n"

-- ---- numbers

digit_none : (d : ℕ) → (digit_glyph false d == 10) ≡ false
digit_none d = at (nat_lt d 10)
  where
    at : (b : Bool) → (cond b (48 + d) (87 + d) == 10) ≡ false
    at true = ne_eqb (48 + d) 10 (λ e. omega arith)
    at false = ne_eqb (87 + d) 10 (λ e. omega arith)

digit_more : (n : ℕ) (behind : List ℕ) → feeds_none behind ≡ true → feeds_none (digit_glyph false (n % 10) ∷ behind) ≡ true
digit_more n behind h = ap (λ b. cond b false (feeds_none behind)) (digit_none (n % 10)) ∙ h

digits_none : (k n : ℕ) (behind : List ℕ) → feeds_none behind ≡ true → feeds_none (digits_onto k 10 false n behind) ≡ true
digits_none zero n behind h = h
digits_none (suc k) n behind h =
    at (n / 10 == 0) (digit_more n behind h) (digits_none k (n / 10) (digit_glyph false (n % 10) ∷ behind) (digit_more n behind h))
  where
    at : (b : Bool) → feeds_none (digit_glyph false (n % 10) ∷ behind) ≡ true →
        feeds_none (digits_onto k 10 false (n / 10) (digit_glyph false (n % 10) ∷ behind)) ≡ true →
        feeds_none (cond b (digit_glyph false (n % 10) ∷ behind) (digits_onto k 10 false (n / 10) (digit_glyph false (n % 10) ∷ behind))) ≡ true
    at true last more = last
    at false last more = more

number_none : (n : ℕ) → feeds_none (decimal n) ≡ true
unfolding digits
number_none n = digits_none 64 n [] refl

-- ---- faults of trees

tree_code_none : (fault : ExplainFault) → feeds_none (tree_fault_code fault) ≡ true
tree_code_none Root = refl
tree_code_none Production = refl
tree_code_none Child = refl
tree_code_none Shape = refl

places_none : (path : List ℕ) → feeds_none (places_text path) ≡ true
places_none [] = refl
places_none (place ∷ path) = feeds_none_both (decimal place) (places_text path) (number_none place) (places_none path)

path_none : (path : List ℕ) → feeds_none (child_path_text path) ≡ true
path_none [] = refl
path_none (place ∷ path) = places_none (place ∷ path)

tree_line : (fault : ExplainFault) (path : List ℕ) → IsLine (tree_fault_line fault path)
tree_line fault path = record {
  body = tree_fault_code fault ++ (codes " " ++ child_path_text path);
  none = feeds_none_both (tree_fault_code fault) (codes " " ++ child_path_text path) (tree_code_none fault) (path_none path);
  ended = sym (append_assoc (tree_fault_code fault) (codes " " ++ child_path_text path) (codes "\n"));
}

behind_text : (before text : List ℕ) → feeds_none before ≡ true → IsLine text → IsLine (before ++ text)
behind_text before text none line = record {
  body = before ++ line.body;
  none = feeds_none_both before line.body none line.none;
  ended = ap (λ t. before ++ t) line.ended ∙ sym (append_assoc before line.body (codes "\n"));
}

memory_ends : IsLine lexplain_memory_line
unfolding lexplain_memory_line
memory_ends = record { body = codes "lexplain: out of memory"; none = refl; ended = refl }

number_ends : (n : ℕ) → IsLine (decimal n ++ codes "\n")
number_ends n = record { body = decimal n; none = number_none n; ended = refl }

unshown_ends : (e : AmbiguityError) → IsLine (unshown_line e)
unshown_ends (First fault path) = behind_text (codes "first ") (tree_fault_line fault path.items) refl (tree_line fault path.items)
unshown_ends (Second fault path) = behind_text (codes "second ") (tree_fault_line fault path.items) refl (tree_line fault path.items)
unshown_ends Rules = record { body = codes "X5"; none = refl; ended = refl }
unshown_ends (Yields index) = behind_text (codes "X6 ") (decimal index ++ codes "\n") refl (number_ends index)
unshown_ends Same = record { body = codes "X7"; none = refl; ended = refl }
unshown_ends Memory = memory_ends

-- ---- faults of grammars

code_none : (kind : FaultKind) → feeds_none (code_of kind) ≡ true
code_none GrammarAttribute = refl
code_none SecondMatch = refl
code_none MatchWithExtern = refl
code_none SecondExtern = refl
code_none UnknownAssociatedType = refl
code_none RepeatedAssociatedType = refl
code_none PublicMacro = refl
code_none UnknownRuleAttribute = refl
code_none RepeatedRuleAttribute = refl
code_none InlineOnPublic = refl
code_none MalformedCfg = refl
code_none MissingLevel = refl
code_none LevelArgument = refl
code_none LevelNumber = refl
code_none SideArgument = refl
code_none Side = refl
code_none SideOnLowest = refl
code_none AlternativeAttribute = refl
code_none NamedWithoutAction = refl
code_none AnonymousInBraces = refl
code_none ChosenWithNamed = refl
code_none NameTwice = refl
code_none ErrorWithAscent = refl
code_none MacroWithoutArguments = refl
code_none NoLocation = refl
code_none WrittenIntern = refl
code_none WrittenErrorTerminal = refl
code_none WrittenOfSymbol = refl
code_none WrittenLookaround = refl
code_none NameDeclaredTwice = refl
code_none ArgumentTwice = refl
code_none NoDefinition = refl
code_none ConditionOnOther = refl
code_none NotNonterminal = refl
code_none NotMacro = refl
code_none Arity = refl
code_none MacroNamed = refl
code_none ConditionArgument = refl
code_none ConditionPattern = refl
code_none NamedInGroup = refl
code_none RecursionCap = refl
code_none SharedName = refl
code_none LiteralTwice = refl
code_none TerminalTwice = refl
code_none NoMapping = refl
code_none NoPattern = refl
code_none BadRegex = refl
code_none RegexFeature = refl
code_none Ambiguity = refl
code_none InputLifetime = refl
code_none InputParameter = refl
code_none NoAlternatives = refl
code_none OnlyCoded = refl
code_none NotGrounded = refl
code_none Disagreement = refl
code_none TupleOverSymbol = refl
code_none TupleOverType = refl
code_none TupleLength = refl
code_none Placeholders = refl
code_none StartTaken = refl
code_none TooManyActions = refl
code_none NamedInTimes = refl

-- a line feed of a message is written as two other bytes
byte_none : (byte : ℕ) → feeds_none (in_line byte) ≡ true
byte_none byte = at (byte == 10) (byte == 13) refl
  where
    at : (b c : Bool) → (byte == 10) ≡ b → feeds_none (cond b (codes "\\n") (cond c (codes "\\r") (byte ∷ []))) ≡ true
    at true c e = refl
    at false true e = refl
    at false false e = ap (λ b. cond b false true) e

message_none : (message : List ℕ) → feeds_none (one_line message) ≡ true
message_none [] = refl
message_none (byte ∷ message) = feeds_none_both (in_line byte) (one_line message) (byte_none byte) (message_none message)

message_ends : (message : List ℕ) → IsLine (one_line message ++ codes "\n")
message_ends message = record { body = one_line message; none = message_none message; ended = refl }

fault_ends : (kind : FaultKind) (span : Span) (message : List ℕ) → IsLine (fault_line kind span message)
fault_ends kind span message =
    let said : List ℕ = one_line message ++ codes "\n" in
    let to : List ℕ = decimal span.1 ++ (codes ": " ++ said) in
    let from : List ℕ = decimal span.0 ++ (codes ".." ++ to) in
    behind_text (code_of kind) (codes " " ++ from) (code_none kind)
    (behind_text (codes " ") from refl
    (behind_text (decimal span.0) (codes ".." ++ to) (number_none span.0)
    (behind_text (codes "..") to refl
    (behind_text (decimal span.1) (codes ": " ++ said) (number_none span.1)
    (behind_text (codes ": ") said refl (message_ends message))))))

-- ---- all

stop_ends : (stop : Stop) → IsLine (stop_line stop)
unfolding lexplain_no_tree_line
stop_ends NotAGrammar = record { body = codes "lexplain: the file is no tree of a grammar"; none = refl; ended = refl }
stop_ends NotATree = record { body = codes "lexplain: the lines are no tree"; none = refl; ended = refl }
stop_ends (Failed (faulty_grammar e)) = fault_ends e.fault e.span (string_bytes e.message)
stop_ends (Failed no_room) = memory_ends
stop_ends (Tree (faulty_tree fault path)) = tree_line fault path.items
stop_ends (Tree no_memory) = memory_ends
stop_ends (Trees e) = unshown_ends e

-- the last byte of a text is this one
abbrev EndsWith : ℕ → ℕ → List ℕ → Type 0
EndsWith y x xs = slice_get (x ∷ xs) (length xs) ≡ Some y

-- a beginning of a line ends with a line feed only behind the whole body
whole_body : (body : List ℕ) (x n : ℕ) → (x == 10) ≡ false → feeds_none body ≡ true → EndsWith 10 x (take n (body ++ codes "\n")) →
    take n (body ++ codes "\n") ≡ body ++ codes "\n"
whole_body body x zero not none last =
    let one : Some x ≡ Some 10 = last in
    let same : x ≡ 10 = cc one in
    let clash : (10 == 10) ≡ false = ap (λ (y : ℕ). y == 10) (sym same) ∙ not in absurd (cc clash)
whole_body [] x (suc zero) not none last = refl
whole_body [] x (suc (suc n)) not none last = refl
whole_body (y ∷ body) x (suc n) not none last = at (y == 10) refl none (λ e h. whole_body body y n e h last)
  where
    at : (b : Bool) → (y == 10) ≡ b → cond b false (feeds_none body) ≡ true →
        ((y == 10) ≡ false → feeds_none body ≡ true → take n (body ++ codes "\n") ≡ body ++ codes "\n") →
        y ∷ take n (body ++ codes "\n") ≡ y ∷ (body ++ codes "\n")
    at true e h more = absurd (cc)
    at false e h more = ap (λ (t : List ℕ). y ∷ t) (more e h)

first_of : (text : List ℕ) (n : ℕ) → slice_get (take n text) (length (take n text) - 1) ≡ Some 10 → EndsWith 10 0 (take n text)
first_of text zero last = absurd (cc last)
first_of [] (suc n) last = absurd (cc last)
first_of (x ∷ text) (suc n) last =
    let same : length (x ∷ take n text) - 1 ≡ length (take n text) = omega arith in
    subst (λ (k : ℕ). slice_get (x ∷ take n text) k ≡ Some 10) same last

-- a beginning of the line of a stop that ends with a line feed is the whole line
pub whole_line : (stop : Stop) (old front : List ℕ) → old ≡ [] → WritesFront (Some old) (Some front) (stop_line stop) →
    slice_get front (length front - 1) ≡ Some 10 → front ≡ stop_line stop
whole_line stop old front none (n, less, after) last =
    let line = stop_ends stop in
    let is : front ≡ take n (stop_line stop) = after ∙ ap (λ (t : List ℕ). t ++ take n (stop_line stop)) none in
    let ends : EndsWith 10 0 (take n (stop_line stop)) = first_of (stop_line stop) n (subst (λ (t : List ℕ). slice_get t (length t - 1) ≡ Some 10) is last) in
    is
    ∙ ap (λ (t : List ℕ). take n t) line.ended
    ∙ whole_body line.body 0 n refl line.none (subst (λ (t : List ℕ). EndsWith 10 0 (take n t)) line.ended ends)
    ∙ sym line.ended
