-- How many trees lines make that come one behind the other: so many as no other lines of a tree begin with.
use Rattle.std.proofs.Common.{◌≡◌, ◌≤◌, ◌<◌, ◌+◌, ◌-◌, ℕ, suc, List, [], ◌∷◌, ◌++◌, true, false, nat_lt, cond, Option, Some, None, refl, sym, ap, ◌∙◌, arith}
use Rattle.std.proofs.lemmas.List.{append_assoc, append-nil}
use Rattle.serde_json.specs.Data.{Data, number, unsigned, object, no_members, member}
use Rattle.lalrpop_norm_theory.specs.Symbols.{Terminal, quoted, regex, bare, error_terminal}
use Rattle.lalrpop_norm_theory.specs.LoweredTrees.{LoweredTree, LoweredTrees, lowered_leaf, lowered_node, no_lowered, lowered_and}
use Rattle.lalrpop_norm_theory.specs.WrittenTrees.{WrittenTree, WrittenTrees, tree_count, leaf, nothing, list, node, no_trees, tree_and}
use Rattle.lexplain_lines.specs.TreeLines.{lowered_count}
use Rattle.lexplain_lines.specs.LineForms.{leaf_form, lowered_node_form, written_node_form, list_line_form, nothing_form, lowered_forms, all_lowered_forms, written_forms, all_written_forms}

below : (k n : ℕ) → k < n → nat_lt k n ≡ true
below k n l = grind arith

not_below : (k n : ℕ) → n ≤ k → nat_lt k n ≡ false
not_below k n l = grind arith

-- how many trees there are behind these lines, where k were there before; none where a line takes more than there are
module _ (taken : Data → ℕ) where
  abbrev pub trees_behind : ℕ → List Data → Option ℕ
  trees_behind k [] = Some k
  trees_behind k (d ∷ ds) = cond (nat_lt k (taken d)) None (trees_behind (suc (k - taken d)) ds)

  takes : (d : Data) (k n : ℕ) (ds : List Data) → taken d ≡ n → trees_behind (k + n) (d ∷ ds) ≡ trees_behind (suc k) ds
  takes d k n ds e =
      ap (λ b. cond b None (trees_behind (suc ((k + n) - taken d)) ds)) (not_below (k + n) (taken d) (omega arith))
      ∙ ap (λ j. trees_behind j ds) (omega arith)

  lacks : (d : Data) (k : ℕ) (ds : List Data) → k < taken d → trees_behind k (d ∷ ds) ≡ None
  lacks d k ds l = ap (λ b. cond b None (trees_behind (suc (k - taken d)) ds)) (below k (taken d) l)

-- ---- lowered trees

abbrev pub lowered_taken : Data → ℕ
lowered_taken (object (member k (object (member l (number (unsigned n)) ms)) no_members)) = n
lowered_taken _ = 0

lowered_leaf_takes : (a : Terminal) → lowered_taken (leaf_form a) ≡ 0
lowered_leaf_takes (quoted s) = refl
lowered_leaf_takes (regex s) = refl
lowered_leaf_takes (bare s) = refl
lowered_leaf_takes error_terminal = refl

mutual
  lowered_makes : (u : LoweredTree) (k : ℕ) (ds : List Data) → trees_behind lowered_taken k (lowered_forms u ++ ds) ≡ trees_behind lowered_taken (suc k) ds
  lowered_makes (lowered_leaf a) k ds =
      ap (λ j. trees_behind lowered_taken j (leaf_form a ∷ ds)) (omega arith) ∙ takes lowered_taken (leaf_form a) k 0 ds (lowered_leaf_takes a)
  lowered_makes (lowered_node n p us) k ds =
      ap (trees_behind lowered_taken k) (append_assoc (all_lowered_forms us) (lowered_node_form n p (lowered_count us) ∷ []) ds)
      ∙ all_lowered_make us k (lowered_node_form n p (lowered_count us) ∷ ds)
      ∙ takes lowered_taken (lowered_node_form n p (lowered_count us)) k (lowered_count us) ds refl

  all_lowered_make : (us : LoweredTrees) (k : ℕ) (ds : List Data) →
      trees_behind lowered_taken k (all_lowered_forms us ++ ds) ≡ trees_behind lowered_taken (k + lowered_count us) ds
  all_lowered_make no_lowered k ds = ap (λ j. trees_behind lowered_taken j ds) (omega arith)
  all_lowered_make (lowered_and u us) k ds =
      ap (trees_behind lowered_taken k) (append_assoc (lowered_forms u) (all_lowered_forms us) ds)
      ∙ lowered_makes u k (all_lowered_forms us ++ ds) ∙ all_lowered_make us (suc k) ds
      ∙ ap (λ j. trees_behind lowered_taken j ds) (omega arith)

made_of_lowered : (us : LoweredTrees) → trees_behind lowered_taken 0 (all_lowered_forms us) ≡ Some (0 + lowered_count us)
made_of_lowered us = ap (trees_behind lowered_taken 0) (sym (append-nil (all_lowered_forms us))) ∙ all_lowered_make us 0 []

-- no trees have a line that takes more trees than are before it
pub lowered_lacks : (all us : LoweredTrees) (d : Data) (ds : List Data) → all_lowered_forms all ≡ all_lowered_forms us ++ (d ∷ ds) → lowered_count us < lowered_taken d → ⊥
lowered_lacks all us d ds e l =
    let some = made_of_lowered all in
    let none = ap (trees_behind lowered_taken 0) e ∙ all_lowered_make us 0 (d ∷ ds) ∙ lacks lowered_taken d (0 + lowered_count us) ds (omega arith) in
    absurd (cc (some, none))

-- lines are those of so many trees alone
pub lowered_as_many : (us vs : LoweredTrees) → all_lowered_forms us ≡ all_lowered_forms vs → lowered_count us ≡ lowered_count vs
lowered_as_many us vs e =
    let these = made_of_lowered us in
    let those = ap (trees_behind lowered_taken 0) e ∙ made_of_lowered vs in
    let same : 0 + lowered_count us ≡ 0 + lowered_count vs = cc (these, those) in
    omega arith

-- ---- written trees

abbrev pub written_taken : Data → ℕ
written_taken (object (member k (number (unsigned n)) no_members)) = n
written_taken (object (member k (object (member l e (member m (number (unsigned n)) ms))) no_members)) = n
written_taken _ = 0

written_leaf_takes : (a : Terminal) → written_taken (leaf_form a) ≡ 0
written_leaf_takes (quoted s) = refl
written_leaf_takes (regex s) = refl
written_leaf_takes (bare s) = refl
written_leaf_takes error_terminal = refl

mutual
  written_makes : (t : WrittenTree) (k : ℕ) (ds : List Data) → trees_behind written_taken k (written_forms t ++ ds) ≡ trees_behind written_taken (suc k) ds
  written_makes (leaf a) k ds =
      ap (λ j. trees_behind written_taken j (leaf_form a ∷ ds)) (omega arith) ∙ takes written_taken (leaf_form a) k 0 ds (written_leaf_takes a)
  written_makes nothing k ds = ap (λ j. trees_behind written_taken j (nothing_form ∷ ds)) (omega arith) ∙ takes written_taken nothing_form k 0 ds refl
  written_makes (list ts) k ds =
      ap (trees_behind written_taken k) (append_assoc (all_written_forms ts) (list_line_form (tree_count ts) ∷ []) ds)
      ∙ all_written_make ts k (list_line_form (tree_count ts) ∷ ds)
      ∙ takes written_taken (list_line_form (tree_count ts)) k (tree_count ts) ds refl
  written_makes (node n p ts) k ds =
      ap (trees_behind written_taken k) (append_assoc (all_written_forms ts) (written_node_form n p (tree_count ts) ∷ []) ds)
      ∙ all_written_make ts k (written_node_form n p (tree_count ts) ∷ ds)
      ∙ takes written_taken (written_node_form n p (tree_count ts)) k (tree_count ts) ds refl

  all_written_make : (ts : WrittenTrees) (k : ℕ) (ds : List Data) →
      trees_behind written_taken k (all_written_forms ts ++ ds) ≡ trees_behind written_taken (k + tree_count ts) ds
  all_written_make no_trees k ds = ap (λ j. trees_behind written_taken j ds) (omega arith)
  all_written_make (tree_and t ts) k ds =
      ap (trees_behind written_taken k) (append_assoc (written_forms t) (all_written_forms ts) ds)
      ∙ written_makes t k (all_written_forms ts ++ ds) ∙ all_written_make ts (suc k) ds
      ∙ ap (λ j. trees_behind written_taken j ds) (omega arith)

one_written : (t : WrittenTree) → trees_behind written_taken 0 (written_forms t) ≡ Some 1
one_written t = ap (trees_behind written_taken 0) (sym (append-nil (written_forms t))) ∙ written_makes t 0 []

pub written_lacks : (t : WrittenTree) (ts : WrittenTrees) (d : Data) (ds : List Data) → written_forms t ≡ all_written_forms ts ++ (d ∷ ds) → tree_count ts < written_taken d → ⊥
written_lacks t ts d ds e l =
    let some = one_written t in
    let none = ap (trees_behind written_taken 0) e ∙ all_written_make ts 0 (d ∷ ds) ∙ lacks written_taken d (0 + tree_count ts) ds (omega arith) in
    absurd (cc (some, none))

pub written_is_one : (t : WrittenTree) (ts : WrittenTrees) → written_forms t ≡ all_written_forms ts → tree_count ts ≡ 1
written_is_one t ts e =
    let one = one_written t in
    let all = ap (trees_behind written_taken 0) (e ∙ sym (append-nil (all_written_forms ts))) ∙ all_written_make ts 0 [] in
    let same : 0 + tree_count ts ≡ 1 = cc (one, all) in
    omega arith
