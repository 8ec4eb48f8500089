-- The numbers that nodes have for what their symbols are made of.
use Rattle.std.proofs.Common.{◌≡◌, ℕ, Bool, List, [], ◌∷◌, true, false, map, Option, Some, None, slice_get, refl, sym, ap, ◌∙◌}
use Rattle.lalrpop_norm_tree.specs.Symbols.{Kind, Part, parts_of, nonterminal, call, repeated, error_terminal}
use Rattle.lalrpop_norm_tree.specs.declared.symbol.RepeatOp.TheVariants.{Star, Plus, Question, Times}
use Rattle.lalrpop_norm_model.specs.MadeRules.{kind_of, all_kinds}
use Rattle.lalrpop_norm_nodes.specs.declared.node.Node.{Node}
use Rattle.lalrpop_norm_nodes.specs.declared.node.Node.TheVariants as node
use Rattle.lalrpop_norm_nodes.specs.declared.node.Leaf.TheVariants as leaf
use Rattle.lalrpop_norm_nodes.specs.declared.node.NamedLeaf.TheVariants as named_leaf
use Rattle.lalrpop_norm_nodes.specs.declared.node.Unary.TheVariants as unary
use Rattle.lalrpop_norm_nodes.specs.declared.node.NamedUnary.TheVariants as named_unary
use Rattle.lalrpop_norm_nodes.specs.declared.node.Binary.TheVariants as binary
use Rattle.lalrpop_norm_nodes.specs.Wholes.{Whole, one_symbol, symbols, kind_at, part_at, symbols_at, Fits, built, IsKind, AreSymbols, StandsFor, AreRows}
use Rattle.lalrpop_norm_nodes.specs.NodeParts.{is_call, call_parts, is_repeat, repeated_kind, row_of_call, part_of_repeat, last_in_row, EndsRow}
use Rattle.lalrpop_norm_nodes.proofs.RowLemmas.{node_at}

all_kinds_of : (ps : List Part) → all_kinds (parts_of ps) ≡ map kind_of ps
all_kinds_of [] = refl
all_kinds_of (p ∷ ps) = ap (λ ks. kind_of p ∷ ks) (all_kinds_of ps)

-- ---- a call

pub record CallRow (ws : List Whole) (l : ℕ) (k : Kind) : Type 0 where
  pub row : AreSymbols ws l
  pub kinds : map kind_of (symbols_at ws l) ≡ all_kinds (call_parts k)

abbrev CallOf : List Whole → Node → Kind → Type 0
CallOf ws n k = Fits ws n → built ws n ≡ one_symbol k → is_call k ≡ true → CallRow ws (row_of_call n) k

-- by what holds of a symbol
abbrev holds_of : (Kind → Bool) → Whole → Bool
holds_of test (one_symbol k) = test k
holds_of test _ = false

-- another whole is no call
no_call : (ws : List Whole) (l : ℕ) (w : Whole) (k : Kind) → holds_of is_call w ≡ false → w ≡ one_symbol k → is_call k ≡ true → CallRow ws l k
no_call ws l w k fails e holds = absurd (cc (fails, holds, ap (holds_of is_call) e))

call_of : (ws : List Whole) (n : Node) (k : Kind) → CallOf ws n k
call_of ws (node.NamedUnary named_unary.Call a l) k h e holds =
    let same : call a (parts_of (symbols_at ws l)) ≡ k = cc e in
    record { row = h; kinds = sym (all_kinds_of (symbols_at ws l)) ∙ ap (λ j. all_kinds (call_parts j)) same }
call_of ws (node.Leaf leaf.Error) k h e holds = no_call ws 0 (one_symbol error_terminal) k refl e holds
call_of ws (node.NamedLeaf named_leaf.Rule a) k h e holds = no_call ws 0 (one_symbol (nonterminal a)) k refl e holds
call_of ws (node.Unary unary.Group l) k h e holds = no_call ws 0 (built ws (node.Unary unary.Group l)) k refl e holds
call_of ws (node.Binary binary.Tuple l n) k h e holds = no_call ws 0 (built ws (node.Binary binary.Tuple l n)) k refl e holds
call_of ws n k h e holds = no_call ws 0 (built ws n) k refl e holds

-- ---- a repeat

abbrev RepeatOf : List Whole → Node → Kind → Type 0
RepeatOf ws n k = Fits ws n → built ws n ≡ one_symbol k → is_repeat k ≡ true → StandsFor ws (part_of_repeat n) (one_symbol (repeated_kind k))

no_repeat : (ws : List Whole) (i : ℕ) (w : Whole) (k : Kind) → holds_of is_repeat w ≡ false → w ≡ one_symbol k → is_repeat k ≡ true → StandsFor ws i (one_symbol (repeated_kind k))
no_repeat ws i w k fails e holds = absurd (cc (fails, holds, ap (holds_of is_repeat) e))

repeat_of : (ws : List Whole) (n : Node) (k : Kind) → RepeatOf ws n k
repeat_of ws (node.Unary unary.Star n) k h e holds = let same : repeated Star (part_at ws n) ≡ k = cc e in h ∙ ap (λ (j : Kind). Some (one_symbol (repeated_kind j))) same
repeat_of ws (node.Unary unary.Plus n) k h e holds = let same : repeated Plus (part_at ws n) ≡ k = cc e in h ∙ ap (λ (j : Kind). Some (one_symbol (repeated_kind j))) same
repeat_of ws (node.Unary unary.Question n) k h e holds = let same : repeated Question (part_at ws n) ≡ k = cc e in h ∙ ap (λ (j : Kind). Some (one_symbol (repeated_kind j))) same
repeat_of ws (node.Unary (unary.Times c) n) k h e holds = let same : repeated (Times c) (part_at ws n) ≡ k = cc e in h ∙ ap (λ (j : Kind). Some (one_symbol (repeated_kind j))) same
repeat_of ws (node.Leaf leaf.Error) k h e holds = no_repeat ws 0 (one_symbol error_terminal) k refl e holds
repeat_of ws (node.NamedLeaf named_leaf.Rule a) k h e holds = no_repeat ws 0 (one_symbol (nonterminal a)) k refl e holds
repeat_of ws (node.NamedUnary named_unary.Call a l) k h e holds = no_repeat ws 0 (built ws (node.NamedUnary named_unary.Call a l)) k refl e holds
repeat_of ws (node.Binary binary.Tuple l n) k h e holds = no_repeat ws 0 (built ws (node.Binary binary.Tuple l n)) k refl e holds
repeat_of ws n k h e holds = no_repeat ws 0 (built ws n) k refl e holds

-- ---- a row

abbrev RowOf : List Whole → Node → List Part → Type 0
RowOf ws n ps = Fits ws n → built ws n ≡ symbols ps → EndsRow ws ps (last_in_row n)

abbrev is_row : Whole → Bool
is_row (symbols ps) = true
is_row _ = false

no_row : (ws : List Whole) (w : Whole) (ps : List Part) (o : Option (ℕ × ℕ)) → is_row w ≡ false → w ≡ symbols ps → EndsRow ws ps o
no_row ws w ps o fails e = absurd (cc (fails, ap is_row e))

row_of : (ws : List Whole) (n : Node) (ps : List Part) → RowOf ws n ps
row_of ws (node.Leaf leaf.NoSymbols) ps h e = let same : [] ≡ ps = cc e in sym same
row_of ws (node.Binary binary.Symbols l n) ps h e = (h.0, h.1, sym (cc e))
row_of ws (node.NamedLeaf named_leaf.Rule a) ps h e = no_row ws (one_symbol (nonterminal a)) ps None refl e
row_of ws (node.Unary unary.Group l) ps h e = no_row ws (built ws (node.Unary unary.Group l)) ps None refl e
row_of ws (node.NamedUnary named_unary.Call a l) ps h e = no_row ws (built ws (node.NamedUnary named_unary.Call a l)) ps None refl e
row_of ws n ps h e = no_row ws (built ws n) ps None refl e

-- ---- the node of a number

module _ (ns : List Node) (ws : List Whole) (rows : AreRows ns ws) (i : ℕ) where
  stands_by : (n : Node) (w : Whole) → Some n ≡ slice_get ns i → StandsFor ws i w → built ws n ≡ w
  stands_by n w e h = let same : Some (built ws n) ≡ Some w = sym (rows.stand i n (sym e)) ∙ h in cc same

  pub row_of_call_is : (n : Node) → Some n ≡ slice_get ns i → IsKind ws i → is_call (kind_at ws i) ≡ true → CallRow ws (row_of_call n) (kind_at ws i)
  row_of_call_is n e h holds = call_of ws n (kind_at ws i) (rows.fit i n (sym e)) (stands_by n _ e h) holds

  pub part_of_repeat_is : (n : Node) → Some n ≡ slice_get ns i → IsKind ws i → is_repeat (kind_at ws i) ≡ true →
      StandsFor ws (part_of_repeat n) (one_symbol (repeated_kind (kind_at ws i)))
  part_of_repeat_is n e h holds = repeat_of ws n (kind_at ws i) (rows.fit i n (sym e)) (stands_by n _ e h) holds

  pub row_ends : (n : Node) → Some n ≡ slice_get ns i → AreSymbols ws i → EndsRow ws (symbols_at ws i) (last_in_row n)
  row_ends n e h = row_of ws n (symbols_at ws i) (rows.fit i n (sym e)) (stands_by n _ e h)

  -- where an id stands for something there is one
  pub no_node : (w : Whole) → None ≡ slice_get ns i → StandsFor ws i w → ⊥
  no_node w e h = let (n, k) = node_at ns ws rows i w h in cc (e, k)
