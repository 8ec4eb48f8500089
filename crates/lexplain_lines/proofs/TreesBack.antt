-- A tree back from the data of its lines: a stack of trees, from which the line of a list or node takes its children.
use Rattle.std.proofs.Common.{◌≡◌, ℕ, zero, suc, ◌+◌, List, [], ◌∷◌, ◌++◌, codes, bytes_eq, cond, refl, sym, ap, ◌∙◌, arith}
use Rattle.std.proofs.lemmas.List.{append_assoc, append-nil}
use Rattle.serde_json.specs.Data.{Data, number, unsigned, string, object, no_members, member}
use Rattle.lalrpop_norm_theory.specs.Symbols.{Terminal, quoted, regex, bare, error_terminal}
use Rattle.lalrpop_norm_theory.specs.LoweredTrees.{LoweredTree, LoweredTrees, lowered_leaf, lowered_node, no_lowered, lowered_and}
use Rattle.lalrpop_norm_theory.specs.WrittenTrees.{WrittenTree, WrittenTrees, tree_count, leaf, nothing, list, node, no_trees, tree_and, append}
use Rattle.lexplain_lines.specs.TreeLines.{lowered_count}
use Rattle.lexplain_lines.specs.LineForms.{AreLines, leaf_form, lowered_node_form, written_node_form, list_line_form, lowered_forms, all_lowered_forms, written_forms, all_written_forms}
use Rattle.lexplain_lines.proofs.SoFar.{same_lines}

-- the terminal of this form
abbrev terminal_back : Data → Terminal
terminal_back (object (member k (object (member l (string s) no_members)) no_members)) = cond (bytes_eq l (codes "Quoted")) (quoted s) (regex s)
terminal_back (object (member k (string s) no_members)) = bare s
terminal_back _ = error_terminal

-- ---- lowered trees

-- so many trees of the stack before these, in their order, and what is left of the stack
abbrev lowered_taken_off : ℕ → LoweredTrees → LoweredTrees → LoweredTrees × LoweredTrees
lowered_taken_off zero us stack = (us, stack)
lowered_taken_off (suc n) us no_lowered = (us, no_lowered)
lowered_taken_off (suc n) us (lowered_and u stack) = lowered_taken_off n (lowered_and u us) stack

abbrev lowered_joined : LoweredTrees → LoweredTrees → LoweredTrees
lowered_joined no_lowered vs = vs
lowered_joined (lowered_and u us) vs = lowered_and u (lowered_joined us vs)

abbrev lowered_pushed : LoweredTrees → LoweredTrees → LoweredTrees
lowered_pushed no_lowered stack = stack
lowered_pushed (lowered_and u us) stack = lowered_pushed us (lowered_and u stack)

lowered_joined_none : (us : LoweredTrees) → lowered_joined us no_lowered ≡ us
lowered_joined_none no_lowered = refl
lowered_joined_none (lowered_and u us) = ap (lowered_and u) (lowered_joined_none us)

lowered_off : (us vs stack : LoweredTrees) (k : ℕ) →
    lowered_taken_off (lowered_count us + k) vs (lowered_pushed us stack) ≡ lowered_taken_off k (lowered_joined us vs) stack
lowered_off no_lowered vs stack k = ap (λ n. lowered_taken_off n vs stack) (omega arith)
lowered_off (lowered_and u us) vs stack k =
    ap (λ n. lowered_taken_off n vs (lowered_pushed us (lowered_and u stack))) (omega arith) ∙ lowered_off us vs (lowered_and u stack) (suc k)

lowered_all_off : (us stack : LoweredTrees) → lowered_taken_off (lowered_count us) no_lowered (lowered_pushed us stack) ≡ (us, stack)
lowered_all_off us stack =
    ap (λ n. lowered_taken_off n no_lowered (lowered_pushed us stack)) (omega arith) ∙ lowered_off us no_lowered stack 0
    ∙ ap (λ vs. (vs, stack)) (lowered_joined_none us)

-- the stack behind a line of this form
abbrev lowered_after : Data → LoweredTrees → LoweredTrees
lowered_after (object (member k (object (member l (number (unsigned count)) (member m (string n) (member o (number (unsigned p)) no_members)))) no_members)) stack =
    let taken = lowered_taken_off count no_lowered stack in lowered_and (lowered_node n p taken.0) taken.1
lowered_after (object (member k d no_members)) stack = lowered_and (lowered_leaf (terminal_back d)) stack
lowered_after _ stack = stack

abbrev lowered_stack : List Data → LoweredTrees → LoweredTrees
lowered_stack [] stack = stack
lowered_stack (d ∷ ds) stack = lowered_stack ds (lowered_after d stack)

lowered_leaf_after : (a : Terminal) (stack : LoweredTrees) → lowered_after (leaf_form a) stack ≡ lowered_and (lowered_leaf a) stack
lowered_leaf_after (quoted s) stack = refl
lowered_leaf_after (regex s) stack = refl
lowered_leaf_after (bare s) stack = refl
lowered_leaf_after error_terminal stack = refl

mutual
  lowered_stands : (u : LoweredTree) (ds : List Data) (stack : LoweredTrees) → lowered_stack (lowered_forms u ++ ds) stack ≡ lowered_stack ds (lowered_and u stack)
  lowered_stands (lowered_leaf a) ds stack = ap (lowered_stack ds) (lowered_leaf_after a stack)
  lowered_stands (lowered_node n p us) ds stack =
      ap (λ es. lowered_stack es stack) (append_assoc (all_lowered_forms us) (lowered_node_form n p (lowered_count us) ∷ []) ds)
      ∙ all_lowered_stand us (lowered_node_form n p (lowered_count us) ∷ ds) stack
      ∙ ap (λ (taken : LoweredTrees × LoweredTrees). lowered_stack ds (lowered_and (lowered_node n p taken.0) taken.1)) (lowered_all_off us stack)

  all_lowered_stand : (us : LoweredTrees) (ds : List Data) (stack : LoweredTrees) →
      lowered_stack (all_lowered_forms us ++ ds) stack ≡ lowered_stack ds (lowered_pushed us stack)
  all_lowered_stand no_lowered ds stack = refl
  all_lowered_stand (lowered_and u us) ds stack =
      ap (λ es. lowered_stack es stack) (append_assoc (lowered_forms u) (all_lowered_forms us) ds)
      ∙ lowered_stands u (all_lowered_forms us ++ ds) stack ∙ all_lowered_stand us ds (lowered_and u stack)

lowered_alone : (u : LoweredTree) → lowered_stack (lowered_forms u) no_lowered ≡ lowered_and u no_lowered
lowered_alone u = ap (λ ds. lowered_stack ds no_lowered) (sym (append-nil (lowered_forms u))) ∙ lowered_stands u [] no_lowered

lowered_two : (u v : LoweredTree) → lowered_stack (lowered_forms u ++ lowered_forms v) no_lowered ≡ lowered_and v (lowered_and u no_lowered)
lowered_two u v =
    lowered_stands u (lowered_forms v) no_lowered ∙ ap (λ ds. lowered_stack ds (lowered_and u no_lowered)) (sym (append-nil (lowered_forms v)))
    ∙ lowered_stands v [] (lowered_and u no_lowered)

-- two lowered trees of one list of data are the same
pub same_lowered : (u v : LoweredTree) → lowered_forms u ≡ lowered_forms v → u ≡ v
same_lowered u v e =
    let same : lowered_and u no_lowered ≡ lowered_and v no_lowered = sym (lowered_alone u) ∙ ap (λ ds. lowered_stack ds no_lowered) e ∙ lowered_alone v in
    cc

pub same_two_lowered : (u v w x : LoweredTree) → lowered_forms u ++ lowered_forms v ≡ lowered_forms w ++ lowered_forms x → (u ≡ w) × (v ≡ x)
same_two_lowered u v w x e =
    let same : lowered_and v (lowered_and u no_lowered) ≡ lowered_and x (lowered_and w no_lowered) =
    sym (lowered_two u v) ∙ ap (λ ds. lowered_stack ds no_lowered) e ∙ lowered_two w x in
    (cc, cc)

-- ---- written trees

abbrev written_taken_off : ℕ → WrittenTrees → WrittenTrees → WrittenTrees × WrittenTrees
written_taken_off zero ts stack = (ts, stack)
written_taken_off (suc n) ts no_trees = (ts, no_trees)
written_taken_off (suc n) ts (tree_and t stack) = written_taken_off n (tree_and t ts) stack

abbrev written_pushed : WrittenTrees → WrittenTrees → WrittenTrees
written_pushed no_trees stack = stack
written_pushed (tree_and t ts) stack = written_pushed ts (tree_and t stack)

written_joined_none : (ts stack : WrittenTrees) → written_taken_off 0 (append ts no_trees) stack ≡ (ts, stack)
written_joined_none no_trees stack = refl
written_joined_none (tree_and t ts) stack = ap (λ (p : WrittenTrees × WrittenTrees). (tree_and t p.0, p.1)) (written_joined_none ts stack)

written_off : (ts ss stack : WrittenTrees) (k : ℕ) →
    written_taken_off (tree_count ts + k) ss (written_pushed ts stack) ≡ written_taken_off k (append ts ss) stack
written_off no_trees ss stack k = ap (λ n. written_taken_off n ss stack) (omega arith)
written_off (tree_and t ts) ss stack k =
    ap (λ n. written_taken_off n ss (written_pushed ts (tree_and t stack))) (omega arith) ∙ written_off ts ss (tree_and t stack) (suc k)

written_all_off : (ts stack : WrittenTrees) → written_taken_off (tree_count ts) no_trees (written_pushed ts stack) ≡ (ts, stack)
written_all_off ts stack =
    ap (λ n. written_taken_off n no_trees (written_pushed ts stack)) (omega arith) ∙ written_off ts no_trees stack 0
    ∙ written_joined_none ts stack

abbrev written_after : Data → WrittenTrees → WrittenTrees
written_after (object (member k (object (member l (number (unsigned p)) (member m (number (unsigned count)) (member o (string n) no_members)))) no_members)) stack =
    let taken = written_taken_off count no_trees stack in tree_and (node n p taken.0) taken.1
written_after (object (member k (number (unsigned count)) no_members)) stack =
    let taken = written_taken_off count no_trees stack in tree_and (list taken.0) taken.1
written_after (object (member k d no_members)) stack = tree_and (leaf (terminal_back d)) stack
written_after _ stack = tree_and nothing stack

abbrev written_stack : List Data → WrittenTrees → WrittenTrees
written_stack [] stack = stack
written_stack (d ∷ ds) stack = written_stack ds (written_after d stack)

written_leaf_after : (a : Terminal) (stack : WrittenTrees) → written_after (leaf_form a) stack ≡ tree_and (leaf a) stack
written_leaf_after (quoted s) stack = refl
written_leaf_after (regex s) stack = refl
written_leaf_after (bare s) stack = refl
written_leaf_after error_terminal stack = refl

mutual
  written_stands : (t : WrittenTree) (ds : List Data) (stack : WrittenTrees) → written_stack (written_forms t ++ ds) stack ≡ written_stack ds (tree_and t stack)
  written_stands (leaf a) ds stack = ap (written_stack ds) (written_leaf_after a stack)
  written_stands nothing ds stack = refl
  written_stands (list ts) ds stack =
      ap (λ es. written_stack es stack) (append_assoc (all_written_forms ts) (list_line_form (tree_count ts) ∷ []) ds)
      ∙ all_written_stand ts (list_line_form (tree_count ts) ∷ ds) stack
      ∙ ap (λ (taken : WrittenTrees × WrittenTrees). written_stack ds (tree_and (list taken.0) taken.1)) (written_all_off ts stack)
  written_stands (node n k ts) ds stack =
      ap (λ es. written_stack es stack) (append_assoc (all_written_forms ts) (written_node_form n k (tree_count ts) ∷ []) ds)
      ∙ all_written_stand ts (written_node_form n k (tree_count ts) ∷ ds) stack
      ∙ ap (λ (taken : WrittenTrees × WrittenTrees). written_stack ds (tree_and (node n k taken.0) taken.1)) (written_all_off ts stack)

  all_written_stand : (ts : WrittenTrees) (ds : List Data) (stack : WrittenTrees) →
      written_stack (all_written_forms ts ++ ds) stack ≡ written_stack ds (written_pushed ts stack)
  all_written_stand no_trees ds stack = refl
  all_written_stand (tree_and t ts) ds stack =
      ap (λ es. written_stack es stack) (append_assoc (written_forms t) (all_written_forms ts) ds)
      ∙ written_stands t (all_written_forms ts ++ ds) stack ∙ all_written_stand ts ds (tree_and t stack)

written_alone : (t : WrittenTree) → written_stack (written_forms t) no_trees ≡ tree_and t no_trees
written_alone t = ap (λ ds. written_stack ds no_trees) (sym (append-nil (written_forms t))) ∙ written_stands t [] no_trees

-- two written trees of one list of data are the same
pub same_written : (t r : WrittenTree) → written_forms t ≡ written_forms r → t ≡ r
same_written t r e =
    let same : tree_and t no_trees ≡ tree_and r no_trees = sym (written_alone t) ∙ ap (λ ds. written_stack ds no_trees) e ∙ written_alone r in
    cc

-- ---- a text

pub one_written : (text : List ℕ) (t r : WrittenTree) → AreLines text (written_forms t) → AreLines text (written_forms r) → t ≡ r
one_written text t r a b = same_written t r (same_lines text (written_forms t) (written_forms r) a b)

pub one_lowered : (text : List ℕ) (u v : LoweredTree) → AreLines text (lowered_forms u) → AreLines text (lowered_forms v) → u ≡ v
one_lowered text u v a b = same_lowered u v (same_lines text (lowered_forms u) (lowered_forms v) a b)

pub one_two_lowered : (text : List ℕ) (u v w x : LoweredTree) → AreLines text (lowered_forms u ++ lowered_forms v) →
    AreLines text (lowered_forms w ++ lowered_forms x) → (u ≡ w) × (v ≡ x)
one_two_lowered text u v w x a b =
    same_two_lowered u v w x (same_lines text (lowered_forms u ++ lowered_forms v) (lowered_forms w ++ lowered_forms x) a b)
