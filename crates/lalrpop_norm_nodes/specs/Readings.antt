-- What reading a symbol gives: its node, and the rewritten symbol.
use Rattle.std.specs.Prelude.{◌≡◌, ℕ, List, map, if◌then◌else◌}
use Rattle.lalrpop_norm_tree.specs.declared.symbol.RepeatOp.{RepeatOp}
use Rattle.lalrpop_norm_tree.specs.declared.symbol.RepeatOp.TheVariants.{Star, Plus, Question, Times}
use Rattle.lalrpop_norm_model.specs.Replaced.{is_desugared}
use Rattle.lalrpop_norm_nodes.specs.declared.node.Node.TheVariants as node
use Rattle.lalrpop_norm_nodes.specs.declared.node.Unary.TheVariants as unary
use Rattle.lalrpop_norm_nodes.specs.declared.node.NamedUnary.TheVariants as named_unary
use Rattle.lalrpop_norm_tree.specs.declared.symbol.Name.{Name}
use Rattle.lalrpop_norm_tree.specs.Symbols.{one_name, Kind, Part, nonterminal, at}
use Rattle.lalrpop_norm_tree.specs.SymbolTexts.{kind_text}
use Rattle.lalrpop_norm_nodes.specs.Apart.{unplaced, unplaced_kind}
use Rattle.lalrpop_norm_nodes.specs.declared.node.Node.{Node}
use Rattle.lalrpop_norm_nodes.specs.declared.given.Environment.{Environment}
use Rattle.lalrpop_norm_nodes.specs.Wholes.{Whole, one_symbol, one_pattern, Fits, built}
use Rattle.lalrpop_norm_nodes.specs.Given.{read_whole}

-- the node stands for that symbol, up to spans
abbrev pub IsNodeFor : List Whole → Node → Kind → Type 0
IsNodeFor ws n k = Fits ws n × (built ws n ≡ one_symbol (unplaced_kind k))

-- a symbol with its parts rewritten, itself rewritten
abbrev pub topped_kind : Kind → Kind
topped_kind k = if is_desugared k then nonterminal (kind_text k) else k

abbrev pub topped : Part → Part
topped (at s k) = at s (topped_kind k)

-- symbols read one after another, up to spans
abbrev pub bare_wholes : List Whole → Environment → List Part → List Part
bare_wholes ws e ps = map (λ p. unplaced (read_whole ws e p)) ps

-- the node of a name that is a pattern
abbrev pub IsNameNode : Node → Name → Type 0
IsNameNode n a = (ws : List Whole) → Fits ws n × (built ws n ≡ one_pattern (one_name a))

abbrev pub repeat_node : RepeatOp → ℕ → Node
repeat_node Star n = node.Unary unary.Star n
repeat_node Plus n = node.Unary unary.Plus n
repeat_node Question n = node.Unary unary.Question n
repeat_node (Times c) n = node.Unary (unary.Times c) n

abbrev pub named_node : Name → ℕ → Node
named_node a n = node.NamedUnary (if a.mutable then named_unary.NamedMut else named_unary.Named) a.name n
