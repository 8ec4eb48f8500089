-- What a node's hash reads.
use Rattle.std.specs.Prelude.{◌≡◌, ℕ, ◌+◌, true, [], ◌++◌}
use Rattle.std.proofs.Common.{ap}
use Rattle.std.specs.Hash.{HashWrites, u64, usize, str}
use Rattle.lalrpop_norm_tree_names.specs.declared.names.TerminalLiteral.TheVariants as literal
use Rattle.lalrpop_norm_tree_names.specs.declared.names.TerminalString.TheVariants as terminal
use Rattle.lalrpop_norm_nodes.specs.NodeSameness.{same_node, node_sound}
use Rattle.lalrpop_norm_nodes.specs.declared.node.Node.{Node}
use Rattle.lalrpop_norm_nodes.specs.declared.node.Node.TheVariants as node
use Rattle.lalrpop_norm_nodes.specs.declared.node.Leaf.TheVariants as leaf
use Rattle.lalrpop_norm_nodes.specs.declared.node.NamedLeaf.TheVariants as named_leaf
use Rattle.lalrpop_norm_nodes.specs.declared.node.Unary.TheVariants as unary
use Rattle.lalrpop_norm_nodes.specs.declared.node.NamedUnary.TheVariants as named_unary
use Rattle.lalrpop_norm_nodes.specs.declared.node.Binary.TheVariants as binary

-- its case, as a number: all that it is but for its text and its parts
abbrev pub case_of : Node → ℕ
case_of (node.Leaf leaf.NoSymbols) = 0
case_of (node.Leaf leaf.NoPatterns) = 1
case_of (node.Leaf leaf.Lookahead) = 2
case_of (node.Leaf leaf.Lookbehind) = 3
case_of (node.Leaf leaf.Error) = 4
case_of (node.NamedLeaf named_leaf.Rule a) = 5
case_of (node.NamedLeaf named_leaf.Pattern a) = 6
case_of (node.NamedLeaf named_leaf.MutPattern a) = 7
case_of (node.Terminal (terminal.Literal (literal.Quoted a))) = 8
case_of (node.Terminal (terminal.Literal (literal.Regex a))) = 9
case_of (node.Terminal (terminal.Bare a)) = 10
case_of (node.Terminal terminal.Error) = 11
case_of (node.Unary unary.Group n) = 12
case_of (node.Unary unary.Star n) = 13
case_of (node.Unary unary.Plus n) = 14
case_of (node.Unary unary.Question n) = 15
case_of (node.Unary unary.Chosen n) = 16
case_of (node.Unary unary.Several n) = 17
case_of (node.NamedUnary named_unary.Call a n) = 18
case_of (node.NamedUnary named_unary.Named a n) = 19
case_of (node.NamedUnary named_unary.NamedMut a n) = 20
case_of (node.Binary binary.Symbols l n) = 21
case_of (node.Binary binary.Patterns l n) = 22
case_of (node.Binary binary.Tuple l n) = 23
case_of (node.Unary (unary.Times c) n) = 24 + c

-- its parts, and then its text
abbrev pub rest_writes : Node → HashWrites
rest_writes (node.Leaf l) = []
rest_writes (node.NamedLeaf l a) = str a
rest_writes (node.Terminal (terminal.Literal (literal.Quoted a))) = str a
rest_writes (node.Terminal (terminal.Literal (literal.Regex a))) = str a
rest_writes (node.Terminal (terminal.Bare a)) = str a
rest_writes (node.Terminal terminal.Error) = []
rest_writes (node.Unary u n) = usize n
rest_writes (node.NamedUnary u a n) = usize n ++ str a
rest_writes (node.Binary b l n) = usize l ++ usize n

abbrev pub node_writes : Node → HashWrites
node_writes n = u64 (case_of n) ++ rest_writes n

-- nodes that the test finds equal are read alike
pub same_writes : (m n : Node) → same_node m n ≡ true → node_writes m ≡ node_writes n
same_writes m n e = ap node_writes (node_sound m n e)
