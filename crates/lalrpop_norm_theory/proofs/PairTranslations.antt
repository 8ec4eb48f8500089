-- Corresponding trees are the translations of one another; they have one word and the same alternatives.
use Rattle.std.proofs.Common.{◌≡◌, ◌≤◌, ℕ, zero, suc, ◌+◌, ◌<◌, List, [], ◌++◌, refl, sym, ap, ap₂, ◌∙◌, arith, append_assoc, append-nil}
use Rattle.std.specs.Prelude.{slice_get, Option, Some, None, length}
use Rattle.lalrpop_norm_theory.specs.Symbols.{Name, error_terminal, ClosedSymbol, ClosedSymbols, reference, call, group, star, plus, question, times, lookahead, lookbehind, only, replicated}
use Rattle.lalrpop_norm_theory.specs.Meaning.{Meaning, HasLevels}
use Rattle.lalrpop_norm_theory.specs.WrittenTrees.{WrittenTree, WrittenTrees, leaf, nothing, list, node, no_trees, tree_and, IsNonempty, IsTreeOf, yield, yields, alternatives, alternatives_of, append}
use Rattle.lalrpop_norm_theory.specs.LoweredTrees.{LoweredTree, LoweredTrees, lowered_leaf, lowered_node, no_lowered, lowered_and, ProductionTable, Origin, lowered_yield, lowered_yields, written_origins, written_origins_of, written_of, written}
use Rattle.lalrpop_norm_theory.specs.Clauses.{Clause, clauses, numbered, own_clauses, IsNonterminal}
use Rattle.lalrpop_norm_theory.specs.Pairs.{Pairs, AllPairs, terminal_pair, error_pair, wrapped_pair, lookahead_pair, lookbehind_pair, group_pair, rule_pair, step_pair, call_pair, star_empty_pair, star_some_pair, plus_one_pair, plus_more_pair, question_some_pair, question_empty_pair, times_pair, no_pairs, pair_and}
use Rattle.lalrpop_norm_theory.specs.Translations.{made_by, written_tree, written_each, lowered_place, own_node, step_node, lowered_rule, lowered_star, extended, left_leaning, lowered_tree, lowered_all, lowered_each}
use Rattle.lalrpop_norm_theory.specs.Tables.{AllKnown, Realizes}
use Rattle.lalrpop_norm_theory.proofs.Numbered.{alternative_clause, Numbered, numbered_sound, own_clause_at, step_clause_last}
use Rattle.lalrpop_norm_theory.proofs.PairSides.{tree_of, trees_of, production_at}
use Rattle.lalrpop_norm_theory.proofs.ReplicatedLemmas.{each_of_one, lowered_one_by_one}

module _ (M : Meaning) (name : ClosedSymbol → Name) (P : ProductionTable) (Known : ClosedSymbol → Type 0)
    (R : Realizes M name P Known) where
  written_node : (g : ClosedSymbol) → IsNonterminal g → Known g → (p : ℕ) (c : Clause) → slice_get (clauses M g) p ≡ Some c →
      (us : LoweredTrees) (ts : WrittenTrees) → written_each P us ≡ ts → written_tree P (lowered_node (name g) p us) ≡ made_by c.origin ts
  written_node g n k p c h us ts e = rw (production_at M name P Known R g n k p c h, e) refl

  mutual
    pub written_back : {g : ClosedSymbol} {t : WrittenTree} {u : LoweredTree} → Pairs M name g t u → Known g → written_tree P u ≡ t
    written_back (terminal_pair a) k = refl
    written_back error_pair k = refl
    written_back (wrapped_pair w g t u h) k = written_back h (R.inner w g k)
    written_back lookahead_pair k = written_node lookahead tt k 0 _ refl no_lowered _ refl
    written_back lookbehind_pair k = written_node lookbehind tt k 0 _ refl no_lowered _ refl
    written_back (group_pair gs ts us h) k =
        written_node (group gs) tt k 0 _ refl us ts (written_back_all h (R.parts_known (group gs) 0 _ k refl))
    written_back (rule_pair n j p b parts ts us e i h) k =
        written_node (reference n b) tt k p _ i us ts (written_back_all h (R.parts_known (reference n b) p _ k i))
    written_back (step_pair n p b c t u e i h) k =
        written_node (reference n b) tt k p _ i (lowered_and u no_lowered) (tree_and t no_trees)
        (ap (λ r. tree_and r no_trees) (written_back h (R.parts_known (reference n b) p _ k i).0))
    written_back (call_pair n j p args parts ts us e i h) k =
        written_node (call n args) tt k p _ i us ts (written_back_all h (R.parts_known (call n args) p _ k i))
    written_back (star_empty_pair x) k = written_node (star x) tt k 0 _ refl no_lowered _ refl
    written_back (star_some_pair x ts u h) k =
        written_node (star x) tt k 1 _ refl (lowered_and u no_lowered) (tree_and (list ts) no_trees)
        (ap (λ r. tree_and r no_trees) (written_back h (R.parts_known (star x) 1 _ k refl).0))
    written_back (plus_one_pair x t u h) k =
        written_node (plus x) tt k 0 _ refl (lowered_and u no_lowered) (tree_and t no_trees)
        (ap (λ r. tree_and r no_trees) (written_back h (R.parts_known (plus x) 0 _ k refl).0))
    written_back (plus_more_pair x ts t v w h i) k =
        written_node (plus x) tt k 1 _ refl (lowered_and v (lowered_and w no_lowered)) (tree_and (list ts) (tree_and t no_trees))
        (ap₂ (λ r s. tree_and r (tree_and s no_trees))
        (written_back h (R.parts_known (plus x) 1 _ k refl).0)
        (written_back i (R.parts_known (plus x) 1 _ k refl).1.0))
    written_back (question_some_pair x t u h) k =
        written_node (question x) tt k 0 _ refl (lowered_and u no_lowered) (tree_and t no_trees)
        (ap (λ r. tree_and r no_trees) (written_back h (R.parts_known (question x) 0 _ k refl).0))
    written_back (question_empty_pair x) k = written_node (question x) tt k 1 _ refl no_lowered _ refl
    written_back (times_pair n x ts us h) k =
        written_node (times n x) tt k 0 _ refl us ts (written_back_all h (R.parts_known (times n x) 0 _ k refl))

    pub written_back_all : {gs : ClosedSymbols} {ts : WrittenTrees} {us : LoweredTrees} → AllPairs M name gs ts us → AllKnown Known gs → written_each P us ≡ ts
    written_back_all no_pairs k = refl
    written_back_all (pair_and g gs t ts u us h hs) k =
        ap₂ tree_and (written_back h k.0) (written_back_all hs k.1)

-- the index of an alternative in its rule
pub place_is : (n : Name) (k p : ℕ) (f : ℕ → Option ClosedSymbols) (count : ℕ) (parts : ClosedSymbols) →
    slice_get (numbered n f 0 count) p ≡ Some (alternative_clause n k parts) → lowered_place f 0 k ≡ p
place_is n k p f count parts h = children (numbered_sound n f 0 count p (alternative_clause n k parts) h)
  where
    children : Numbered n f 0 count p (alternative_clause n k parts) → lowered_place f 0 k ≡ p
    children r =
        let z : 0 + r.number ≡ r.number = omega arith in
        let same : k ≡ 0 + r.number = ap (λ c. number_in c.origin) r.is in
        rw (same ∙ z) r.at
      where
        number_in : Origin → ℕ
        number_in (written m j) = j
        number_in _ = 0

module _ (M : Meaning) (name : ClosedSymbol → Name) where
  -- one more element is one more step outside
  extended_more : (x : ClosedSymbol) (ts : WrittenTrees) (t : WrittenTree) (acc : LoweredTree) →
      extended name x acc (lowered_each M name (append ts (tree_and t no_trees)) x) ≡
      lowered_node (name (plus x)) 1 (lowered_and (extended name x acc (lowered_each M name ts x)) (lowered_and (lowered_tree M name t x) no_lowered))
  extended_more x no_trees t acc = refl
  extended_more x (tree_and s ts) t acc = extended_more x ts t (lowered_node (name (plus x)) 1 (lowered_and acc (lowered_and (lowered_tree M name s x) no_lowered)))

  left_leaning_more : (x : ClosedSymbol) (ts : WrittenTrees) (t : WrittenTree) → IsNonempty ts →
      left_leaning name x (lowered_each M name (append ts (tree_and t no_trees)) x) ≡
      lowered_node (name (plus x)) 1 (lowered_and (left_leaning name x (lowered_each M name ts x)) (lowered_and (lowered_tree M name t x) no_lowered))
  left_leaning_more x no_trees t h = absurd h
  left_leaning_more x (tree_and s ts) t h = extended_more x ts t (lowered_node (name (plus x)) 0 (lowered_and (lowered_tree M name s x) no_lowered))

star_filled : (name : ClosedSymbol → Name) (x : ClosedSymbol) (ts : WrittenTrees) (u : LoweredTree) → IsNonempty ts →
    lowered_star name ts x u ≡ lowered_node (name (star x)) 1 (lowered_and u no_lowered)
star_filled name x no_trees u h = absurd h
star_filled name x (tree_and t ts) u h = refl

module _ (M : Meaning) (name : ClosedSymbol → Name) where
  lowered_own : (n : Name) (k : ℕ) (children : ClosedSymbols → LoweredTrees) (b : Option ℕ) (parts : ClosedSymbols) →
      M.own_parts n b k ≡ Some parts → (depth : ℕ) →
      lowered_rule M name n k children depth b ≡ lowered_node (name (reference n b)) (lowered_place (M.own_parts n b) 0 k) (children parts)
  lowered_own n k children b parts e zero = rw e refl
  lowered_own n k children b parts e (suc depth) = rw e refl

  -- what is below the own alternatives, with so many steps at most
  abbrev below_own : (n : Name) (k : ℕ) (children : ClosedSymbols → LoweredTrees) → ℕ → Option ℕ → LoweredTree
  below_own n k children zero b = lowered_leaf error_terminal
  below_own n k children (suc d) b = step_node M name n b (M.previous n b) (λ c. lowered_rule M name n k children d c)

  unrolled : (n : Name) (k : ℕ) (children : ClosedSymbols → LoweredTrees) (d : ℕ) (b : Option ℕ) →
      lowered_rule M name n k children d b ≡ own_node M name n k children b (M.own_parts n b k) (below_own n k children d b)
  unrolled n k children zero b = refl
  unrolled n k children (suc d) b = refl

module _ (M : Meaning) (name : ClosedSymbol → Name) (V : HasLevels M) where
  step_same : (n : Name) (b : Option ℕ) (d e : ℕ) (f g : Option ℕ → LoweredTree) →
      M.depth n b ≤ suc d → M.depth n b ≤ suc e →
      ((c : Option ℕ) → M.depth n c ≤ d → M.depth n c ≤ e → f c ≡ g c) →
      step_node M name n b (M.previous n b) f ≡ step_node M name n b (M.previous n b) g
  step_same n b d e f g l m h = at (M.previous n b) refl
    where
      at : (o : Option (Option ℕ)) → M.previous n b ≡ o → step_node M name n b o f ≡ step_node M name n b o g
      at None p = refl
      at (Some c) p =
          let less : M.depth n c < M.depth n b = V.deeper n b c p in
          ap (λ r. lowered_node (name (reference n b)) (length (own_clauses M n b)) (lowered_and r no_lowered)) (h c (omega arith) (omega arith))

  no_step : (n : Name) (b : Option ℕ) (f : Option ℕ → LoweredTree) →
      M.depth n b ≤ 0 → step_node M name n b (M.previous n b) f ≡ lowered_leaf error_terminal
  no_step n b f l = at (M.previous n b) refl
    where
      at : (o : Option (Option ℕ)) → M.previous n b ≡ o → step_node M name n b o f ≡ lowered_leaf error_terminal
      at None p = refl
      at (Some c) p = let less : M.depth n c < M.depth n b = V.deeper n b c p in absurd (omega arith)

  tail_same : (n : Name) (k : ℕ) (children : ClosedSymbols → LoweredTrees) (d e : ℕ) (b : Option ℕ) →
      M.depth n b ≤ d → M.depth n b ≤ e → below_own M name n k children d b ≡ below_own M name n k children e b
  tail_same n k children zero zero b l m = refl
  tail_same n k children zero (suc e) b l m = sym (no_step n b _ l)
  tail_same n k children (suc d) zero b l m = no_step n b _ m
  tail_same n k children (suc d) (suc e) b l m = step_same n b d e _ _ l m (λ c i j.
      unrolled M name n k children d c ∙
      ap (λ r. own_node M name n k children c (M.own_parts n c k) r) (tail_same n k children d e c i j) ∙
      sym (unrolled M name n k children e c))

  -- any bound on the steps serves
  enough : (n : Name) (k : ℕ) (children : ClosedSymbols → LoweredTrees) (d e : ℕ) (b : Option ℕ) →
      M.depth n b ≤ d → M.depth n b ≤ e → lowered_rule M name n k children d b ≡ lowered_rule M name n k children e b
  enough n k children d e b l m =
      unrolled M name n k children d b ∙
      ap (λ r. own_node M name n k children b (M.own_parts n b k) r) (tail_same n k children d e b l m) ∙
      sym (unrolled M name n k children e b)

  lowered_step : (n : Name) (b c : Option ℕ) → M.previous n b ≡ Some c →
      (t : WrittenTree) → IsTreeOf M t (reference n c) →
      lowered_tree M name t (reference n b) ≡ lowered_node (name (reference n b)) (length (own_clauses M n b)) (lowered_and (lowered_tree M name t (reference n c)) no_lowered)
  lowered_step n b c e (leaf a) h = absurd h
  lowered_step n b c e nothing h = absurd h
  lowered_step n b c e (list ts) h = absurd h
  lowered_step n b c e (node m k ts) (same, parts, at, hs) =
      deep (M.depth n b) (V.deeper n b c e)
    where
      deep : (depth : ℕ) → M.depth n c < depth →
          lowered_rule M name n k (λ gs. lowered_all M name ts gs) depth b ≡
          lowered_node (name (reference n b)) (length (own_clauses M n b)) (lowered_and (lowered_rule M name n k (λ gs. lowered_all M name ts gs) (M.depth n c) c) no_lowered)
      deep zero l = absurd (omega arith)
      deep (suc d) l =
          rw (V.apart n b c k parts e at, e)
          (ap (λ r. lowered_node (name (reference n b)) (length (own_clauses M n b)) (lowered_and r no_lowered))
          (enough n k (λ gs. lowered_all M name ts gs) d (M.depth n c) c (omega arith) (omega arith)))

  mutual
    pub lowered_to : {g : ClosedSymbol} {t : WrittenTree} {u : LoweredTree} → Pairs M name g t u → lowered_tree M name t g ≡ u
    lowered_to (terminal_pair a) = refl
    lowered_to error_pair = refl
    lowered_to (wrapped_pair w g t u h) = lowered_to h
    lowered_to lookahead_pair = refl
    lowered_to lookbehind_pair = refl
    lowered_to (group_pair gs ts us h) = ap (λ r. lowered_node (name (group gs)) 0 r) (lowered_to_all h)
    lowered_to (rule_pair n k p b parts ts us e i h) =
        lowered_own M name n k (λ gs. lowered_all M name ts gs) b parts e (M.depth n b) ∙
        ap₂ (λ q r. lowered_node (name (reference n b)) q r)
        (place_is n k p (M.own_parts n b) (M.reference_count n) parts
        (own_clause_at n (M.own_parts n b) (M.reference_count n) (M.previous n b) p k parts i))
        (lowered_to_all h)
    lowered_to (step_pair n p b c t u e i h) =
        lowered_step n b c e t (tree_of M name V h) ∙
        ap₂ (λ q r. lowered_node (name (reference n b)) q (lowered_and r no_lowered))
        (sym (step_clause_last n (M.own_parts n b) (M.reference_count n) (M.previous n b) p (only (reference n c)) i))
        (lowered_to h)
    lowered_to (call_pair n k p args parts ts us e i h) =
        rw (e, place_is n k p (M.call_parts n args) (M.call_count n) parts i, lowered_to_all h) refl
    lowered_to (star_empty_pair x) = refl
    lowered_to (star_some_pair x ts u h) = rw (lowered_to h) (star_filled name x ts u (tree_of M name V h).0)
    lowered_to (plus_one_pair x t u h) = ap (λ r. lowered_node (name (plus x)) 0 (lowered_and r no_lowered)) (lowered_to h)
    lowered_to (plus_more_pair x ts t v w h i) =
        left_leaning_more M name x ts t (tree_of M name V h).0 ∙
        ap₂ (λ r s. lowered_node (name (plus x)) 1 (lowered_and r (lowered_and s no_lowered))) (lowered_to h) (lowered_to i)
    lowered_to (question_some_pair x t u h) = ap (λ r. lowered_node (name (question x)) 0 (lowered_and r no_lowered)) (lowered_to h)
    lowered_to (question_empty_pair x) = refl
    lowered_to (times_pair n x ts us h) =
        ap (λ r. lowered_node (name (times n x)) 0 r)
        (sym (lowered_one_by_one M x name ts n (each_of_one M x ts n (trees_of M name V h)).0) ∙ lowered_to_all h)

    pub lowered_to_all : {gs : ClosedSymbols} {ts : WrittenTrees} {us : LoweredTrees} → AllPairs M name gs ts us → lowered_all M name ts gs ≡ us
    lowered_to_all no_pairs = refl
    lowered_to_all (pair_and g gs t ts u us h hs) = ap₂ lowered_and (lowered_to h) (lowered_to_all hs)

yields_more : (ts : WrittenTrees) (t : WrittenTree) → yields (append ts (tree_and t no_trees)) ≡ yields ts ++ yield t
yields_more no_trees t = append-nil (yield t)
yields_more (tree_and s ts) t = rw (yields_more ts t) (sym (append_assoc (yield s) (yields ts) (yield t)))

alternatives_more : (ts : WrittenTrees) (t : WrittenTree) → alternatives_of (append ts (tree_and t no_trees)) ≡ alternatives_of ts ++ alternatives t
alternatives_more no_trees t = append-nil (alternatives t)
alternatives_more (tree_and s ts) t = rw (alternatives_more ts t) (sym (append_assoc (alternatives s) (alternatives_of ts) (alternatives t)))

module _ (M : Meaning) (name : ClosedSymbol → Name) where
  mutual
    pub same_yield : {g : ClosedSymbol} {t : WrittenTree} {u : LoweredTree} → Pairs M name g t u → yield t ≡ lowered_yield u
    same_yield (terminal_pair a) = refl
    same_yield error_pair = refl
    same_yield (wrapped_pair w g t u h) = same_yield h
    same_yield lookahead_pair = refl
    same_yield lookbehind_pair = refl
    same_yield (group_pair gs ts us h) = same_yields h
    same_yield (rule_pair n k p b parts ts us e i h) = same_yields h
    same_yield (step_pair n p b c t u e i h) = same_yield h ∙ sym (append-nil (lowered_yield u))
    same_yield (call_pair n k p args parts ts us e i h) = same_yields h
    same_yield (star_empty_pair x) = refl
    same_yield (star_some_pair x ts u h) = same_yield h ∙ sym (append-nil (lowered_yield u))
    same_yield (plus_one_pair x t u h) = ap (λ w. w ++ []) (same_yield h)
    same_yield (plus_more_pair x ts t v w h i) =
        yields_more ts t ∙ ap₂ (λ a b. a ++ b) (same_yield h) (same_yield i ∙ sym (append-nil (lowered_yield w)))
    same_yield (question_some_pair x t u h) = ap (λ w. w ++ []) (same_yield h)
    same_yield (question_empty_pair x) = refl
    same_yield (times_pair n x ts us h) = same_yields h

    pub same_yields : {gs : ClosedSymbols} {ts : WrittenTrees} {us : LoweredTrees} → AllPairs M name gs ts us → yields ts ≡ lowered_yields us
    same_yields no_pairs = refl
    same_yields (pair_and g gs t ts u us h hs) = ap₂ (λ a b. a ++ b) (same_yield h) (same_yields hs)

module _ (M : Meaning) (name : ClosedSymbol → Name) (P : ProductionTable) (Known : ClosedSymbol → Type 0)
    (R : Realizes M name P Known) where
  node_origins : (g : ClosedSymbol) → IsNonterminal g → Known g → (p : ℕ) (c : Clause) → slice_get (clauses M g) p ≡ Some c →
      (us : LoweredTrees) (rest : List (Name × ℕ)) → rest ≡ written_origins_of P us → written_of c.origin ++ rest ≡ written_origins P (lowered_node (name g) p us)
  node_origins g n k p c h us rest e = rw (production_at M name P Known R g n k p c h, e) refl

  mutual
    pub same_alternatives : {g : ClosedSymbol} {t : WrittenTree} {u : LoweredTree} → Pairs M name g t u → Known g → alternatives t ≡ written_origins P u
    same_alternatives (terminal_pair a) k = refl
    same_alternatives error_pair k = refl
    same_alternatives (wrapped_pair w g t u h) k = same_alternatives h (R.inner w g k)
    same_alternatives lookahead_pair k = node_origins lookahead tt k 0 _ refl no_lowered [] refl
    same_alternatives lookbehind_pair k = node_origins lookbehind tt k 0 _ refl no_lowered [] refl
    same_alternatives (group_pair gs ts us h) k =
        node_origins (group gs) tt k 0 _ refl us (alternatives_of ts) (all_alternatives h (R.parts_known (group gs) 0 _ k refl))
    same_alternatives (rule_pair n j p b parts ts us e i h) k =
        node_origins (reference n b) tt k p _ i us (alternatives_of ts) (all_alternatives h (R.parts_known (reference n b) p _ k i))
    same_alternatives (step_pair n p b c t u e i h) k =
        node_origins (reference n b) tt k p _ i (lowered_and u no_lowered) (alternatives t)
        (same_alternatives h (R.parts_known (reference n b) p _ k i).0 ∙ sym (append-nil (written_origins P u)))
    same_alternatives (call_pair n j p args parts ts us e i h) k =
        node_origins (call n args) tt k p _ i us (alternatives_of ts) (all_alternatives h (R.parts_known (call n args) p _ k i))
    same_alternatives (star_empty_pair x) k = node_origins (star x) tt k 0 _ refl no_lowered [] refl
    same_alternatives (star_some_pair x ts u h) k =
        node_origins (star x) tt k 1 _ refl (lowered_and u no_lowered) (alternatives_of ts)
        (same_alternatives h (R.parts_known (star x) 1 _ k refl).0 ∙ sym (append-nil (written_origins P u)))
    same_alternatives (plus_one_pair x t u h) k =
        node_origins (plus x) tt k 0 _ refl (lowered_and u no_lowered) (alternatives t ++ [])
        (ap (λ w. w ++ []) (same_alternatives h (R.parts_known (plus x) 0 _ k refl).0))
    same_alternatives (plus_more_pair x ts t v w h i) k =
        alternatives_more ts t ∙
        node_origins (plus x) tt k 1 _ refl (lowered_and v (lowered_and w no_lowered)) (alternatives_of ts ++ alternatives t)
        (ap₂ (λ a b. a ++ b) (same_alternatives h (R.parts_known (plus x) 1 _ k refl).0)
        (same_alternatives i (R.parts_known (plus x) 1 _ k refl).1.0 ∙ sym (append-nil (written_origins P w))))
    same_alternatives (question_some_pair x t u h) k =
        node_origins (question x) tt k 0 _ refl (lowered_and u no_lowered) (alternatives t ++ [])
        (ap (λ w. w ++ []) (same_alternatives h (R.parts_known (question x) 0 _ k refl).0))
    same_alternatives (question_empty_pair x) k = node_origins (question x) tt k 1 _ refl no_lowered [] refl
    same_alternatives (times_pair n x ts us h) k =
        node_origins (times n x) tt k 0 _ refl us (alternatives_of ts) (all_alternatives h (R.parts_known (times n x) 0 _ k refl))

    pub all_alternatives : {gs : ClosedSymbols} {ts : WrittenTrees} {us : LoweredTrees} → AllPairs M name gs ts us → AllKnown Known gs → alternatives_of ts ≡ written_origins_of P us
    all_alternatives no_pairs k = refl
    all_alternatives (pair_and g gs t ts u us h hs) k =
        ap₂ (λ a b. a ++ b) (same_alternatives h k.0) (all_alternatives hs k.1)
