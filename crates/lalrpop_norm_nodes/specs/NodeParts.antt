-- The parts of a symbol that is desugared, as its node has them.
use Rattle.std.specs.Prelude.{◌≡◌, ⊤, ℕ, Bool, true, false, List, [], ◌∷◌, ◌++◌, Option, Some, None}
use Rattle.lalrpop_norm_tree.specs.Symbols.{Kind, Part, Parts, call, repeated, error_terminal, no_parts}
use Rattle.lalrpop_norm_nodes.specs.declared.node.Node.{Node}
use Rattle.lalrpop_norm_nodes.specs.declared.node.Node.TheVariants as node
use Rattle.lalrpop_norm_nodes.specs.declared.node.Unary.TheVariants as unary
use Rattle.lalrpop_norm_nodes.specs.declared.node.NamedUnary.TheVariants as named_unary
use Rattle.lalrpop_norm_nodes.specs.declared.node.Binary.TheVariants as binary
use Rattle.lalrpop_norm_model.specs.MadeRules.{kind_of}
use Rattle.lalrpop_norm_nodes.specs.declared.table.Waiting.{Waiting}
use Rattle.lalrpop_norm_nodes.specs.Filled.{inside_replaced}
use Rattle.lalrpop_norm_nodes.specs.Tables.{IsNumbered}
use Rattle.lalrpop_norm_nodes.specs.Wholes.{Whole, kind_at, part_at, symbols_at, IsKind, AreSymbols}
use Rattle.lalrpop_norm_nodes.specs.Apart.{unplaced_kind}
use Rattle.lalrpop_norm_tree.specs.Symbols.{kind_view}

-- a macro call, and its arguments
abbrev pub is_call : Kind → Bool
is_call (call n ps) = true
is_call _ = false

abbrev pub call_parts : Kind → Parts
call_parts (call n ps) = ps
call_parts _ = no_parts

-- a repeat, and what it repeats
abbrev pub is_repeat : Kind → Bool
is_repeat (repeated op p) = true
is_repeat _ = false

abbrev pub repeated_kind : Kind → Kind
repeated_kind (repeated op p) = kind_of p
repeated_kind _ = error_terminal

-- the ids that a node has for them, and those of a row that is not empty: of what is before the last, and of the last
abbrev pub row_of_call : Node → ℕ
row_of_call (node.NamedUnary named_unary.Call a l) = l
row_of_call _ = 0

abbrev pub part_of_repeat : Node → ℕ
part_of_repeat (node.Unary unary.Star n) = n
part_of_repeat (node.Unary unary.Plus n) = n
part_of_repeat (node.Unary unary.Question n) = n
part_of_repeat (node.Unary (unary.Times c) n) = n
part_of_repeat _ = 0

abbrev pub last_in_row : Node → Option (ℕ × ℕ)
last_in_row (node.Binary binary.Symbols l n) = Some (l, n)
last_in_row _ = None

-- how a row ends
abbrev pub EndsRow : List Whole → List Part → Option (ℕ × ℕ) → Type 0
EndsRow ws ps None = ps ≡ []
EndsRow ws ps (Some (l, n)) = AreSymbols ws l × IsKind ws n × (ps ≡ symbols_at ws l ++ part_at ws n ∷ [])

-- The id stands for the symbol with its parts rewritten, up to spans, and they are rewritten.
pub record IsShallow (ws : List Whole) (n : ℕ) (k : Kind) : Type 0 where
  pub stands : IsKind ws n
  pub same : unplaced_kind k ≡ unplaced_kind (inside_replaced (kind_at ws n))
  pub replaced : inside_replaced k ≡ k

-- a symbol on the worklist, with its id
abbrev pub IsWaiting : List Whole → Waiting → Type 0
IsWaiting ws w = IsNumbered ws w × IsShallow ws w.number (kind_view w.symbol.kind)

abbrev pub AreWaiting : List Whole → List Waiting → Type 0
AreWaiting ws [] = ⊤
AreWaiting ws (w ∷ rest) = IsWaiting ws w × AreWaiting ws rest
