-- The derived test of two nodes is true only where they are the same.
use Rattle.std.proofs.Common.{true≢false, ◌≡◌, Bool, true, refl, sym, ap, ap₂}
use Rattle.std.proofs.lemmas.Bool.{eqb-true, and_parts}
use Rattle.std.proofs.lemmas.Slice.Eq.{bytes_eq-Decides}
use Rattle.lalrpop_norm_tree_names.specs.declared.names.TerminalLiteral.{TerminalLiteral}
use Rattle.lalrpop_norm_tree_names.specs.declared.names.TerminalLiteral.TheVariants as literal
use Rattle.lalrpop_norm_tree_names.specs.declared.names.TerminalString.{TerminalString}
use Rattle.lalrpop_norm_tree_names.specs.declared.names.TerminalString.TheVariants as terminal
use Rattle.lalrpop_norm_tree_names.specs.contracts.names.TerminalLiteralPartialEq.TheImpl as literals
use Rattle.lalrpop_norm_tree_names.specs.contracts.names.TerminalStringPartialEq.TheImpl as terminals
use Rattle.lalrpop_norm_nodes.specs.contracts.node.NodePartialEq.TheImpl as nodes
use Rattle.lalrpop_norm_nodes.specs.contracts.node.LeafPartialEq.TheImpl as leaves
use Rattle.lalrpop_norm_nodes.specs.contracts.node.NamedLeafPartialEq.TheImpl as named_leaves
use Rattle.lalrpop_norm_nodes.specs.contracts.node.UnaryPartialEq.TheImpl as unaries
use Rattle.lalrpop_norm_nodes.specs.contracts.node.NamedUnaryPartialEq.TheImpl as named_unaries
use Rattle.lalrpop_norm_nodes.specs.contracts.node.BinaryPartialEq.TheImpl as binaries
use Rattle.lalrpop_norm_nodes.specs.declared.node.Node.{Node}
use Rattle.lalrpop_norm_nodes.specs.declared.node.Leaf.{Leaf}
use Rattle.lalrpop_norm_nodes.specs.declared.node.NamedLeaf.{NamedLeaf}
use Rattle.lalrpop_norm_nodes.specs.declared.node.Unary.{Unary}
use Rattle.lalrpop_norm_nodes.specs.declared.node.NamedUnary.{NamedUnary}
use Rattle.lalrpop_norm_nodes.specs.declared.node.Binary.{Binary}
use Rattle.lalrpop_norm_nodes.specs.declared.node.Node.TheVariants as node
use Rattle.lalrpop_norm_nodes.specs.declared.node.Leaf.TheVariants as leaf
use Rattle.lalrpop_norm_nodes.specs.declared.node.NamedLeaf.TheVariants as named_leaf
use Rattle.lalrpop_norm_nodes.specs.declared.node.Unary.TheVariants as unary
use Rattle.lalrpop_norm_nodes.specs.declared.node.NamedUnary.TheVariants as named_unary
use Rattle.lalrpop_norm_nodes.specs.declared.node.Binary.TheVariants as binary

abbrev pub same_node : Node → Node → Bool
same_node = nodes.eq-value.it

literal_sound : (a b : TerminalLiteral) → literals.eq-value.it a b ≡ true → a ≡ b
literal_sound (literal.Quoted a) (literal.Quoted b) e = ap literal.Quoted ((bytes_eq-Decides a b).0 e)
literal_sound (literal.Regex a) (literal.Regex b) e = ap literal.Regex ((bytes_eq-Decides a b).0 e)
literal_sound _ _ e = absurd (true≢false (sym e))

terminal_sound : (a b : TerminalString) → terminals.eq-value.it a b ≡ true → a ≡ b
terminal_sound (terminal.Literal a) (terminal.Literal b) e = ap terminal.Literal (literal_sound a b e)
terminal_sound (terminal.Bare a) (terminal.Bare b) e = ap terminal.Bare ((bytes_eq-Decides a b).0 e)
terminal_sound terminal.Error terminal.Error e = refl
terminal_sound _ _ e = absurd (true≢false (sym e))

leaf_sound : (a b : Leaf) → leaves.eq-value.it a b ≡ true → a ≡ b
leaf_sound leaf.NoSymbols leaf.NoSymbols e = refl
leaf_sound leaf.NoPatterns leaf.NoPatterns e = refl
leaf_sound leaf.Lookahead leaf.Lookahead e = refl
leaf_sound leaf.Lookbehind leaf.Lookbehind e = refl
leaf_sound leaf.Error leaf.Error e = refl
leaf_sound _ _ e = absurd (true≢false (sym e))

named_leaf_sound : (a b : NamedLeaf) → named_leaves.eq-value.it a b ≡ true → a ≡ b
named_leaf_sound named_leaf.Rule named_leaf.Rule e = refl
named_leaf_sound named_leaf.Pattern named_leaf.Pattern e = refl
named_leaf_sound named_leaf.MutPattern named_leaf.MutPattern e = refl
named_leaf_sound _ _ e = absurd (true≢false (sym e))

unary_sound : (a b : Unary) → unaries.eq-value.it a b ≡ true → a ≡ b
unary_sound unary.Group unary.Group e = refl
unary_sound unary.Star unary.Star e = refl
unary_sound unary.Plus unary.Plus e = refl
unary_sound unary.Question unary.Question e = refl
unary_sound (unary.Times m) (unary.Times n) e = ap unary.Times (eqb-true m n e)
unary_sound unary.Chosen unary.Chosen e = refl
unary_sound unary.Several unary.Several e = refl
unary_sound _ _ e = absurd (true≢false (sym e))

named_unary_sound : (a b : NamedUnary) → named_unaries.eq-value.it a b ≡ true → a ≡ b
named_unary_sound named_unary.Call named_unary.Call e = refl
named_unary_sound named_unary.Named named_unary.Named e = refl
named_unary_sound named_unary.NamedMut named_unary.NamedMut e = refl
named_unary_sound _ _ e = absurd (true≢false (sym e))

binary_sound : (a b : Binary) → binaries.eq-value.it a b ≡ true → a ≡ b
binary_sound binary.Symbols binary.Symbols e = refl
binary_sound binary.Patterns binary.Patterns e = refl
binary_sound binary.Tuple binary.Tuple e = refl
binary_sound _ _ e = absurd (true≢false (sym e))

pub node_sound : (m n : Node) → same_node m n ≡ true → m ≡ n
node_sound (node.Leaf a) (node.Leaf b) e = ap node.Leaf (leaf_sound a b e)
node_sound (node.NamedLeaf a b) (node.NamedLeaf c d) e = let r = and_parts _ _ e in ap₂ node.NamedLeaf (named_leaf_sound a c r.0) ((bytes_eq-Decides b d).0 r.1)
node_sound (node.Terminal a) (node.Terminal b) e = ap node.Terminal (terminal_sound a b e)
node_sound (node.Unary a b) (node.Unary c d) e = let r = and_parts _ _ e in ap₂ node.Unary (unary_sound a c r.0) (eqb-true b d r.1)
node_sound (node.NamedUnary a b c) (node.NamedUnary d f g) e =
    let r = and_parts (named_unaries.eq-value.it a d) _ e in
    let q = and_parts _ _ r.1 in
    let x : a ≡ d = named_unary_sound a d r.0 in
    let y : b ≡ f = (bytes_eq-Decides b f).0 q.0 in
    let z : c ≡ g = eqb-true c g q.1 in
    λ i. node.NamedUnary (x i) (y i) (z i)
node_sound (node.Binary a b c) (node.Binary d f g) e =
    let r = and_parts (binaries.eq-value.it a d) _ e in
    let q = and_parts _ _ r.1 in
    let x : a ≡ d = binary_sound a d r.0 in
    let y : b ≡ f = eqb-true b f q.0 in
    let z : c ≡ g = eqb-true c g q.1 in
    λ i. node.Binary (x i) (y i) (z i)
node_sound _ _ e = absurd (true≢false (sym e))
