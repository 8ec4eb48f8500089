-- The derived test of two nodes is true where they are the same; and where a list has a node by it.
use Rattle.std.proofs.Common.{◌≡◌, ℕ, ◌<◌, ◌≤◌, Bool, true, false, not, cond, List, [], ◌∷◌, length, Some, None, slice_get, get_or, refl, sym, ap, ◌∙◌, position, nat_lt, arith}
use Rattle.std.proofs.lemmas.Bool.{eq-eqb, and_from}
use Rattle.std.proofs.lemmas.Bool.Decides.{nat_tests}
use Rattle.std.proofs.lemmas.List.Quantifiers.{position-Some}
use Rattle.std.proofs.lemmas.List.Sums.{fails_before_first, prefix_len-le-length}
use Rattle.std.proofs.lemmas.Option.{slice_get-get_or, slice_get_within, get_or_from_slice_get}
use Rattle.std.specs.List.{position_or_len}
use Rattle.lalrpop_norm_theory.proofs.SameLemmas.{text_same}
use Rattle.lalrpop_norm_tree_names.specs.declared.names.TerminalLiteral.{TerminalLiteral}
use Rattle.lalrpop_norm_tree_names.specs.declared.names.TerminalLiteral.TheVariants as literal
use Rattle.lalrpop_norm_tree_names.specs.declared.names.TerminalString.{TerminalString}
use Rattle.lalrpop_norm_tree_names.specs.declared.names.TerminalString.TheVariants as terminal
use Rattle.lalrpop_norm_tree_names.specs.contracts.names.TerminalLiteralPartialEq.TheImpl as literals
use Rattle.lalrpop_norm_tree_names.specs.contracts.names.TerminalStringPartialEq.TheImpl as terminals
use Rattle.lalrpop_norm_nodes.specs.contracts.node.NodePartialEq.TheImpl as nodes
use Rattle.lalrpop_norm_nodes.specs.contracts.node.LeafPartialEq.TheImpl as leaves
use Rattle.lalrpop_norm_nodes.specs.contracts.node.NamedLeafPartialEq.TheImpl as named_leaves
use Rattle.lalrpop_norm_nodes.specs.contracts.node.UnaryPartialEq.TheImpl as unaries
use Rattle.lalrpop_norm_nodes.specs.contracts.node.NamedUnaryPartialEq.TheImpl as named_unaries
use Rattle.lalrpop_norm_nodes.specs.contracts.node.BinaryPartialEq.TheImpl as binaries
use Rattle.lalrpop_norm_nodes.specs.declared.node.Node.{Node}
use Rattle.lalrpop_norm_nodes.specs.declared.node.Leaf.{Leaf}
use Rattle.lalrpop_norm_nodes.specs.declared.node.NamedLeaf.{NamedLeaf}
use Rattle.lalrpop_norm_nodes.specs.declared.node.Unary.{Unary}
use Rattle.lalrpop_norm_nodes.specs.declared.node.NamedUnary.{NamedUnary}
use Rattle.lalrpop_norm_nodes.specs.declared.node.Binary.{Binary}
use Rattle.lalrpop_norm_nodes.specs.declared.node.Node.TheVariants as node
use Rattle.lalrpop_norm_nodes.specs.declared.node.Leaf.TheVariants as leaf
use Rattle.lalrpop_norm_nodes.specs.declared.node.NamedLeaf.TheVariants as named_leaf
use Rattle.lalrpop_norm_nodes.specs.declared.node.Unary.TheVariants as unary
use Rattle.lalrpop_norm_nodes.specs.declared.node.NamedUnary.TheVariants as named_unary
use Rattle.lalrpop_norm_nodes.specs.declared.node.Binary.TheVariants as binary
use Rattle.lalrpop_norm_nodes.specs.NodeSameness.{same_node}

literal_complete : (a : TerminalLiteral) → literals.eq-value.it a a ≡ true
literal_complete (literal.Quoted a) = text_same a
literal_complete (literal.Regex a) = text_same a

terminal_complete : (a : TerminalString) → terminals.eq-value.it a a ≡ true
terminal_complete (terminal.Literal a) = literal_complete a
terminal_complete (terminal.Bare a) = text_same a
terminal_complete terminal.Error = refl

leaf_complete : (a : Leaf) → leaves.eq-value.it a a ≡ true
leaf_complete leaf.NoSymbols = refl
leaf_complete _ = refl

named_leaf_complete : (a : NamedLeaf) → named_leaves.eq-value.it a a ≡ true
named_leaf_complete named_leaf.Rule = refl
named_leaf_complete _ = refl

unary_complete : (a : Unary) → unaries.eq-value.it a a ≡ true
unary_complete (unary.Times n) = eq-eqb n n refl
unary_complete _ = refl

named_unary_complete : (a : NamedUnary) → named_unaries.eq-value.it a a ≡ true
named_unary_complete named_unary.Call = refl
named_unary_complete _ = refl

binary_complete : (a : Binary) → binaries.eq-value.it a a ≡ true
binary_complete binary.Symbols = refl
binary_complete _ = refl

pub node_complete : (n : Node) → same_node n n ≡ true
node_complete (node.Leaf a) = leaf_complete a
node_complete (node.NamedLeaf a b) = and_from _ _ (named_leaf_complete a) (text_same b)
node_complete (node.Terminal a) = terminal_complete a
node_complete (node.Unary a b) = and_from _ _ (unary_complete a) (eq-eqb b b refl)
node_complete (node.NamedUnary a b c) = and_from _ _ (named_unary_complete a) (and_from _ _ (text_same b) (eq-eqb c c refl))
node_complete (node.Binary a b c) = and_from _ _ (binary_complete a) (and_from _ _ (eq-eqb b b refl) (eq-eqb c c refl))

-- ---- where a list has one that passes a test

pub position_found : {A : Type 0} (test : A → Bool) (xs : List A) (i : ℕ) → position test xs ≡ Some i → (x : A) × (slice_get xs i ≡ Some x) × (test x ≡ true)
position_found test [] i e = absurd (cc e)
position_found test (y ∷ xs) i e =
    let h = position-Some test (y ∷ xs) i y e in
    (get_or (y ∷ xs) i y, slice_get-get_or (y ∷ xs) i y h.0, h.1)

pub position_new : {A : Type 0} (test : A → Bool) (xs : List A) (i : ℕ) (x : A) → position test xs ≡ None → slice_get xs i ≡ Some x → test x ≡ false
position_new test xs i x e h =
    let within : i < length xs = slice_get_within xs i x h in
    let before : i < position_or_len test xs = by (nat_lt (position_or_len test xs) (length xs)) refl e within in
    ap test (sym (get_or_from_slice_get xs i x x h)) ∙ fails_before_first test xs i x before
  where
    by : (b : Bool) → nat_lt (position_or_len test xs) (length xs) ≡ b → cond b (Some (position_or_len test xs)) None ≡ None → i < length xs → i < position_or_len test xs
    by true f g k = absurd (cc g)
    by false f g k = grind (arith, nat_tests)

-- the index at which a search ends
pub place_found : {A : Type 0} (test : A → Bool) (xs : List A) (i : ℕ) → position test xs ≡ Some i → position_or_len test xs ≡ i
place_found test xs i e = by (nat_lt (position_or_len test xs) (length xs)) e
  where
    by : (b : Bool) → cond b (Some (position_or_len test xs)) None ≡ Some i → position_or_len test xs ≡ i
    by true f = cc f
    by false f = absurd (cc f)

pub place_new : {A : Type 0} (test : A → Bool) (xs : List A) → position test xs ≡ None → position_or_len test xs ≡ length xs
place_new test xs e = by (nat_lt (position_or_len test xs) (length xs)) refl e (prefix_len-le-length (λ x. not (test x)) xs)
  where
    by : (b : Bool) → nat_lt (position_or_len test xs) (length xs) ≡ b → cond b (Some (position_or_len test xs)) None ≡ None → position_or_len test xs ≤ length xs →
        position_or_len test xs ≡ length xs
    by true f g h = absurd (cc g)
    by false f g h = grind (arith, nat_tests)
