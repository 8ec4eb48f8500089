-- Each written tree has its lowered tree, and each lowered tree its written one.
use Rattle.std.proofs.Common.{◌≤◌, le_refl, inl, inr, ◌≡◌, ℕ, zero, suc, ◌+◌, ◌<◌, refl, sym, ap, ◌∙◌, subst, arith}
use Rattle.std.specs.Prelude.{slice_get, Option, Some, None, option_map, length}
use Rattle.std.proofs.lemmas.Option.{slice_get-map}
use Rattle.lalrpop_norm_theory.specs.Symbols.{Name, Terminal, error_terminal, error, ClosedSymbol, ClosedSymbols, terminal, reference, call, group, star, plus, question, times, wrapped, lookahead, lookbehind, no_symbols, symbol_and, only, replicated}
use Rattle.lalrpop_norm_theory.specs.Meaning.{Meaning, HasLevels, HasCounts}
use Rattle.lalrpop_norm_theory.specs.WrittenTrees.{WrittenTree, WrittenTrees, leaf, nothing, list, node, no_trees, tree_and, IsNonempty, IsAtMostOne, IsTreeOf, AreTreesOf, EachTreeOf, append}
use Rattle.lalrpop_norm_theory.specs.LoweredTrees.{LoweredTree, LoweredTrees, lowered_leaf, lowered_node, no_lowered, lowered_and, ProductionTable, Production, terminal_symbol, nonterminal_symbol, IsDerivation, AreDerivations, level_step}
use Rattle.lalrpop_norm_theory.specs.Clauses.{Clause, clause, clauses, numbered, own_clauses, step_clauses, symbol_of, symbols_of, clause_production, IsNonterminal}
use Rattle.lalrpop_norm_theory.specs.Pairs.{Pairs, AllPairs, terminal_pair, error_pair, wrapped_pair, lookahead_pair, lookbehind_pair, group_pair, rule_pair, step_pair, call_pair, star_empty_pair, star_some_pair, plus_one_pair, plus_more_pair, question_some_pair, question_empty_pair, times_pair, no_pairs, pair_and}
use Rattle.lalrpop_norm_theory.specs.Translations.{first_tree, elements, made_by, made_at, written_tree, written_each, lowered_place, lowered_rule, lowered_star, lowered_question, extended, left_leaning, lowered_tree, lowered_all, lowered_each}
use Rattle.lalrpop_norm_theory.specs.Tables.{AllKnown, Realizes}
use Rattle.lalrpop_norm_theory.proofs.Numbered.{alternative_clause, Numbered, numbered_sound, numbered_complete, left_at, right_at, split_at}
use Rattle.lalrpop_norm_theory.proofs.PairSides.{tree_of}
use Rattle.lalrpop_norm_theory.proofs.ReplicatedLemmas.{one_for_each, lowered_one_by_one}

module _ (M : Meaning) (name : ClosedSymbol → Name) (C : HasCounts M) where
  own_paired : (m : Name) (k : ℕ) (b : Option ℕ) (parts : ClosedSymbols) (ts : WrittenTrees) (us : LoweredTrees) →
      M.own_parts m b k ≡ Some parts → AllPairs M name parts ts us →
      Pairs M name (reference m b) (node m k ts) (lowered_node (name (reference m b)) (lowered_place (M.own_parts m b) 0 k) us)
  own_paired m k b parts ts us e h =
      let z : 0 + k ≡ k = omega arith in
      let at = numbered_complete m (M.own_parts m b) 0 (M.reference_count m) k parts (rw z e) (C.of_rules m b k parts e) in
      let at' = left_at (own_clauses M m b) (step_clauses m (M.previous m b)) (lowered_place (M.own_parts m b) 0 k) _ (rw z at at) in
      rule_pair m k (lowered_place (M.own_parts m b) 0 k) b parts ts us e at' h

pub step_place : (M : Meaning) (n : Name) (b c : Option ℕ) → M.previous n b ≡ Some c →
    slice_get (clauses M (reference n b)) (length (own_clauses M n b)) ≡ Some (clause level_step (only (reference n c)))
step_place M n b c e = right_at (own_clauses M n b) (step_clauses n (M.previous n b)) ∙ (rw e refl)

module _ (M : Meaning) (name : ClosedSymbol → Name) (C : HasCounts M) (V : HasLevels M) where
  rule_paired : (m : Name) (k : ℕ) (children : ClosedSymbols → LoweredTrees) (ts : WrittenTrees) (parts : ClosedSymbols) →
      AllPairs M name parts ts (children parts) → (depth : ℕ) (b : Option ℕ) → M.depth m b ≤ depth →
      M.reference_parts m b k ≡ Some parts →
      Pairs M name (reference m b) (node m k ts) (lowered_rule M name m k children depth b)
  rule_paired m k children ts parts h zero b d e = elim (V.split m b k parts e) [
    | inl own ↦ rw own (own_paired M name C m k b parts ts (children parts) own h)
    | inr r ↦ absurd (let deep : M.depth m r.0 < M.depth m b = V.deeper m b r.0 r.2 in omega arith)
  ]
  rule_paired m k children ts parts h (suc depth) b d e = elim (V.split m b k parts e) [
    | inl own ↦ rw own (own_paired M name C m k b parts ts (children parts) own h)
    | inr r ↦
        let deep : M.depth m r.0 < M.depth m b = V.deeper m b r.0 r.2 in
        let less : M.depth m r.0 ≤ depth = omega arith in
        rw (r.1, r.2)
        (step_pair m (length (own_clauses M m b)) b r.0 (node m k ts) (lowered_rule M name m k children depth r.0) r.2 (step_place M m b r.0 r.2)
        (rule_paired m k children ts parts h depth r.0 less r.3))
  ]

module _ (M : Meaning) (name : ClosedSymbol → Name) (C : HasCounts M) where
  call_paired : (n m : Name) (k : ℕ) (args : ClosedSymbols) (parts : ClosedSymbols) (ts : WrittenTrees) (us : LoweredTrees) → n ≡ m →
      M.call_parts m args k ≡ Some parts → AllPairs M name parts ts us →
      Pairs M name (call m args) (node n k ts) (lowered_node (name (call m args)) (lowered_place (M.call_parts m args) 0 k) us)
  call_paired n m k args parts ts us same e h =
      let z : 0 + k ≡ k = omega arith in
      let at = numbered_complete m (M.call_parts m args) 0 (M.call_count m) k parts (rw z e) (C.of_calls m args k parts e) in
      rw same (call_pair m k (lowered_place (M.call_parts m args) 0 k) args parts ts us e (rw z at at) h)

module _ (M : Meaning) (name : ClosedSymbol → Name) where
  -- each of the trees ts corresponds to the one of us at its index, as trees of x
  abbrev EachPairs : ClosedSymbol → WrittenTrees → LoweredTrees → Type 0
  EachPairs x no_trees no_lowered = Unit {0}
  EachPairs x (tree_and t ts) (lowered_and u us) = Pairs M name x t u × EachPairs x ts us
  EachPairs x _ _ = ⊥

append_step : (ts : WrittenTrees) (t : WrittenTree) (rest : WrittenTrees) → append (append ts (tree_and t no_trees)) rest ≡ append ts (tree_and t rest)
append_step no_trees t rest = refl
append_step (tree_and s ts) t rest = ap (λ r. tree_and s r) (append_step ts t rest)

append_nil : (ts : WrittenTrees) → append ts no_trees ≡ ts
append_nil no_trees = refl
append_nil (tree_and s ts) = ap (λ r. tree_and s r) (append_nil ts)

module _ (M : Meaning) (name : ClosedSymbol → Name) where
  extended_paired : (x : ClosedSymbol) (before ts : WrittenTrees) (acc : LoweredTree) (us : LoweredTrees) →
      Pairs M name (plus x) (list before) acc → EachPairs M name x ts us →
      Pairs M name (plus x) (list (append before ts)) (extended name x acc us)
  extended_paired x before no_trees acc no_lowered h e = rw (append_nil before) h
  extended_paired x before (tree_and t ts) acc (lowered_and u us) h e =
      rw (← append_step before t ts)
      (extended_paired x (append before (tree_and t no_trees)) ts (lowered_node (name (plus x)) 1 (lowered_and acc (lowered_and u no_lowered))) us
      (plus_more_pair x before t acc u h e.0) e.1)
  extended_paired x before no_trees acc (lowered_and u us) h e = absurd e
  extended_paired x before (tree_and t ts) acc no_lowered h e = absurd e

  plus_paired : (x : ClosedSymbol) (ts : WrittenTrees) (us : LoweredTrees) → IsNonempty ts → EachPairs M name x ts us →
      Pairs M name (plus x) (list ts) (left_leaning name x us)
  plus_paired x no_trees us n e = absurd n
  plus_paired x (tree_and t ts) no_lowered n e = absurd e
  plus_paired x (tree_and t ts) (lowered_and u us) n e =
      extended_paired x (tree_and t no_trees) ts (lowered_node (name (plus x)) 0 (lowered_and u no_lowered)) us (plus_one_pair x t u e.0) e.1

  star_paired : (x : ClosedSymbol) (ts : WrittenTrees) (us : LoweredTrees) → EachPairs M name x ts us →
      Pairs M name (star x) (list ts) (lowered_star name ts x (left_leaning name x us))
  star_paired x no_trees us e = star_empty_pair x
  star_paired x (tree_and t ts) us e = star_some_pair x (tree_and t ts) (left_leaning name x us) (plus_paired x (tree_and t ts) us tt e)

  question_paired : (x : ClosedSymbol) (ts : WrittenTrees) (us : LoweredTrees) → IsAtMostOne ts → EachPairs M name x ts us →
      Pairs M name (question x) (list ts) (lowered_question name x us)
  question_paired x no_trees no_lowered m e = question_empty_pair x
  question_paired x no_trees (lowered_and u us) m e = absurd e
  question_paired x (tree_and t ts) no_lowered m e = absurd e
  question_paired x (tree_and t no_trees) (lowered_and u no_lowered) m e = question_some_pair x t u e.0
  question_paired x (tree_and t no_trees) (lowered_and u (lowered_and v us)) m e = absurd e.1
  question_paired x (tree_and t (tree_and s ts)) (lowered_and u us) m e = absurd m

module _ (M : Meaning) (name : ClosedSymbol → Name) (C : HasCounts M) (V : HasLevels M) where
  mutual
    -- a written tree pairs with what it is lowered to
    pub pairs_lowered : (t : WrittenTree) (g : ClosedSymbol) → IsTreeOf M t g → Pairs M name g t (lowered_tree M name t g)
    pairs_lowered t (wrapped w g) h = wrapped_pair w g t _ (pairs_lowered t g h)
    pairs_lowered (leaf a) (terminal b) h = subst (λ c. Pairs M name (terminal c) (leaf a) (lowered_leaf a)) h (terminal_pair a)
    pairs_lowered (leaf a) error h = subst (λ c. Pairs M name error (leaf c) (lowered_leaf c)) (sym h) error_pair
    pairs_lowered nothing lookahead h = lookahead_pair
    pairs_lowered nothing lookbehind h = lookbehind_pair
    pairs_lowered (list ts) (group gs) h = group_pair gs ts _ (pairs_lowered_all ts gs h)
    pairs_lowered (list ts) (star x) h = star_paired M name x ts _ (pairs_lowered_each ts x h)
    pairs_lowered (list ts) (plus x) h = plus_paired M name x ts _ h.0 (pairs_lowered_each ts x h.1)
    pairs_lowered (list ts) (question x) h = question_paired M name x ts _ h.0 (pairs_lowered_each ts x h.1)
    pairs_lowered (list ts) (times n x) h =
        times_pair n x ts _
        (subst (AllPairs M name (replicated n x) ts) (lowered_one_by_one M x name ts n h.0)
        (pairs_lowered_all ts (replicated n x) (one_for_each M x ts n h.0 h.1)))
    pairs_lowered (node n k ts) (reference m b) (same, parts, e, hs) =
        rw same (rule_paired M name C V m k (λ gs. lowered_all M name ts gs) ts parts (pairs_lowered_all ts parts hs) (M.depth m b) b (le_refl (M.depth m b)) e)
    pairs_lowered (node n k ts) (call m args) (same, parts, e, hs) =
        rw e (call_paired M name C n m k args parts ts (lowered_all M name ts parts) same e (pairs_lowered_all ts parts hs))
    pairs_lowered _ _ h = absurd h

    pub pairs_lowered_all : (ts : WrittenTrees) (gs : ClosedSymbols) → AreTreesOf M ts gs → AllPairs M name gs ts (lowered_all M name ts gs)
    pairs_lowered_all no_trees no_symbols h = no_pairs
    pairs_lowered_all (tree_and t ts) (symbol_and g gs) h =
        pair_and g gs t ts _ _ (pairs_lowered t g h.0) (pairs_lowered_all ts gs h.1)
    pairs_lowered_all _ _ h = absurd h

    pub pairs_lowered_each : (ts : WrittenTrees) (x : ClosedSymbol) → EachTreeOf M ts x → EachPairs M name x ts (lowered_each M name ts x)
    pairs_lowered_each no_trees x h = tt
    pairs_lowered_each (tree_and t ts) x h = (pairs_lowered t x h.0, pairs_lowered_each ts x h.1)

nonterminal≢terminal : (n : Name) (a : Terminal) → nonterminal_symbol n ≡ terminal_symbol a → ⊥
nonterminal≢terminal n a h = cc h

module _ (M : Meaning) (name : ClosedSymbol → Name) where
  leaf_written : (a : Terminal) (g : ClosedSymbol) → symbol_of name g ≡ terminal_symbol a → Pairs M name g (leaf a) (lowered_leaf a)
  leaf_written a (terminal b) h = let same : a ≡ b = cc h in subst (λ c. Pairs M name (terminal c) (leaf a) (lowered_leaf a)) same (terminal_pair a)
  leaf_written a error h =
      let same : error_terminal ≡ a = cc h in subst (λ c. Pairs M name error (leaf c) (lowered_leaf c)) same error_pair
  leaf_written a (wrapped w g) h = wrapped_pair w g (leaf a) (lowered_leaf a) (leaf_written a g h)
  leaf_written a (reference n b) h = absurd (nonterminal≢terminal _ _ h)
  leaf_written a (call n b) h = absurd (nonterminal≢terminal _ _ h)
  leaf_written a (group n) h = absurd (nonterminal≢terminal _ _ h)
  leaf_written a (star n) h = absurd (nonterminal≢terminal _ _ h)
  leaf_written a (plus n) h = absurd (nonterminal≢terminal _ _ h)
  leaf_written a (question n) h = absurd (nonterminal≢terminal _ _ h)
  leaf_written a (times n x) h = absurd (nonterminal≢terminal _ _ h)
  leaf_written a lookahead h = absurd (nonterminal≢terminal _ _ h)
  leaf_written a lookbehind h = absurd (nonterminal≢terminal _ _ h)

abbrev made_clause : Option Clause → WrittenTrees → WrittenTree
made_clause None ts = nothing
made_clause (Some c) ts = made_by c.origin ts

abbrev HasClause : (name : ClosedSymbol → Name) → ProductionTable → LoweredTrees → Option Clause → Type 0
HasClause name P us None = ⊥
HasClause name P us (Some c) = AreDerivations P us (symbols_of name c.parts)

clause_of_production : (name : ClosedSymbol → Name) (P : ProductionTable) (us : LoweredTrees) (o : Option Clause) (q : Production) →
    option_map (clause_production name) o ≡ Some q → AreDerivations P us q.symbols → HasClause name P us o
clause_of_production name P us None q h d = absurd (grind arith)
clause_of_production name P us (Some c) q h d =
    let same : clause_production name c ≡ q = cc h in subst (λ r. AreDerivations P us r.symbols) (sym same) d

made_at_mapped : (name : ClosedSymbol → Name) (ts : WrittenTrees) (o : Option Clause) → made_at (option_map (clause_production name) o) ts ≡ made_clause o ts
made_at_mapped name ts None = refl
made_at_mapped name ts (Some c) = refl

module _ (M : Meaning) (name : ClosedSymbol → Name) where
  pair_first : (g : ClosedSymbol) (gs : ClosedSymbols) (t : WrittenTree) (ts : WrittenTrees) (u : LoweredTree) (us : LoweredTrees) →
      AllPairs M name (symbol_and g gs) (tree_and t ts) (lowered_and u us) → Pairs M name g t u × AllPairs M name gs ts us
  pair_first g gs t ts u us (pair_and _ _ _ _ _ _ h hs) = (h, hs)

list_elements : (M : Meaning) (x : ClosedSymbol) (t : WrittenTree) → IsTreeOf M t (plus x) → t ≡ list (elements t)
list_elements M x (leaf a) h = absurd h
list_elements M x nothing h = absurd h
list_elements M x (list ts) h = refl
list_elements M x (node n k ts) h = absurd h

module _ (M : Meaning) (name : ClosedSymbol → Name) where
  -- what is known of the children: they pair, symbol by symbol
  abbrev Children : ProductionTable → (ClosedSymbol → Type 0) → LoweredTrees → Type 0
  Children P Known us = (gs : ClosedSymbols) → AreDerivations P us (symbols_of name gs) → AllKnown Known gs → AllPairs M name gs (written_each P us) us

pub numbered_clause_at : (n : Name) (f : ℕ → Option ClosedSymbols) (count p : ℕ) (c : Clause) → slice_get (numbered n f 0 count) p ≡ Some c →
    (k : ℕ) × (parts : ClosedSymbols) × (f k ≡ Some parts) × (c ≡ alternative_clause n k parts)
numbered_clause_at n f count p c h = children (numbered_sound n f 0 count p c h)
  where
    children : Numbered n f 0 count p c → (k : ℕ) × (parts : ClosedSymbols) × (f k ≡ Some parts) × (c ≡ alternative_clause n k parts)
    children r = let z : 0 + r.number ≡ r.number = omega arith in (r.number, r.parts, rw z at r.has, rw z at r.is)

pub step_clause_at : (n : Name) (o : Option (Option ℕ)) (q : ℕ) (c : Clause) → slice_get (step_clauses n o) q ≡ Some c →
    (b : Option ℕ) × (o ≡ Some b) × (c ≡ clause level_step (only (reference n b)))
step_clause_at n None q c e = absurd (grind arith)
step_clause_at n (Some b) zero c e = (b, refl, cc e)
step_clause_at n (Some b) (suc q) c e = absurd (grind arith)

module _ (M : Meaning) (name : ClosedSymbol → Name) (P : ProductionTable) (Known : ClosedSymbol → Type 0)
    (R : Realizes M name P Known) where
  stepped_read : (us : LoweredTrees) → Children M name P Known us → (p : ℕ) (m : Name) (b d : Option ℕ) → Known (reference m b) → M.previous m b ≡ Some d →
      slice_get (clauses M (reference m b)) p ≡ Some (clause level_step (only (reference m d))) →
      AreDerivations P us (symbols_of name (only (reference m d))) →
      Pairs M name (reference m b) (first_tree (written_each P us)) (lowered_node (name (reference m b)) p us)
  stepped_read no_lowered ih p m b d k e at h = absurd h
  stepped_read (lowered_and u no_lowered) ih p m b d k e at h =
      step_pair m p b d _ u e at (pair_first _ _ _ _ _ _ _ _ (ih (only (reference m d)) h (R.parts_known (reference m b) p _ k at))).0
  stepped_read (lowered_and u (lowered_and v us)) ih p m b d k e at h = absurd h.1

  rule_read : (us : LoweredTrees) → Children M name P Known us → (p : ℕ) (m : Name) (b : Option ℕ) → Known (reference m b) → (o : Option Clause) →
      slice_get (clauses M (reference m b)) p ≡ o → HasClause name P us o →
      Pairs M name (reference m b) (made_clause o (written_each P us)) (lowered_node (name (reference m b)) p us)
  rule_read us ih p m b k None e d = absurd d
  rule_read us ih p m b k (Some c) e d =
      elim (split_at (own_clauses M m b) (step_clauses m (M.previous m b)) p c e) [
        | inl i ↦
            let (j, parts, has, same) = numbered_clause_at m (M.own_parts m b) (M.reference_count m) p c i in
            let e' = rw same at e in
            let d' = rw same at d in
            rw same (rule_pair m j p b parts (written_each P us) us has e' (ih parts d' (R.parts_known (reference m b) p _ k e')))
        | inr r ↦
            let (q, before, here) = r in
            let (f, prev, same) = step_clause_at m (M.previous m b) q c here in
            let e' = rw same at e in
            let d' = rw same at d in
            rw same (stepped_read us ih p m b f k prev e' d')
      ]

  call_read : (us : LoweredTrees) → Children M name P Known us → (p : ℕ) (m : Name) (args : ClosedSymbols) → Known (call m args) → (o : Option Clause) →
      slice_get (clauses M (call m args)) p ≡ o → HasClause name P us o →
      Pairs M name (call m args) (made_clause o (written_each P us)) (lowered_node (name (call m args)) p us)
  call_read us ih p m args k None e d = absurd d
  call_read us ih p m args k (Some c) e d =
      let (j, parts, has, same) = numbered_clause_at m (M.call_parts m args) (M.call_count m) p c e in
      let e' = rw same at e in
      let d' = rw same at d in
      rw same (call_pair m j p args parts (written_each P us) us has e' (ih parts d' (R.parts_known (call m args) p _ k e')))

module _ (M : Meaning) (name : ClosedSymbol → Name) (P : ProductionTable) (Known : ClosedSymbol → Type 0)
    (R : Realizes M name P Known) (V : HasLevels M) where
  node_read : (us : LoweredTrees) → Children M name P Known us → (p : ℕ) (g : ClosedSymbol) → IsNonterminal g → Known g →
      HasClause name P us (slice_get (clauses M g) p) →
      Pairs M name g (made_clause (slice_get (clauses M g) p) (written_each P us)) (lowered_node (name g) p us)
  node_read us ih p (terminal a) n k d = absurd n
  node_read us ih p error n k d = absurd n
  node_read us ih p (wrapped w g) n k d = absurd n
  node_read no_lowered ih zero lookahead n k d = lookahead_pair
  node_read no_lowered ih zero lookbehind n k d = lookbehind_pair
  node_read (lowered_and u us) ih zero lookahead n k d = absurd d
  node_read (lowered_and u us) ih zero lookbehind n k d = absurd d
  node_read us ih (suc p) lookahead n k d = absurd d
  node_read us ih (suc p) lookbehind n k d = absurd d
  node_read us ih zero (group gs) n k d = group_pair gs _ us (ih gs d (R.parts_known (group gs) 0 _ k refl))
  node_read us ih (suc p) (group gs) n k d = absurd d
  node_read us ih zero (times m x) n k d = times_pair m x _ us (ih (replicated m x) d (R.parts_known (times m x) 0 _ k refl))
  node_read us ih (suc p) (times m x) n k d = absurd d
  node_read no_lowered ih zero (star x) n k d = star_empty_pair x
  node_read (lowered_and u us) ih zero (star x) n k d = absurd d
  node_read no_lowered ih (suc zero) (star x) n k d = absurd d
  node_read (lowered_and u no_lowered) ih (suc zero) (star x) n k d =
      let h = (pair_first _ _ _ _ _ _ _ _ (ih (symbol_and (plus x) no_symbols) d (R.parts_known (star x) 1 _ k refl))).0 in
      let same = list_elements M x (written_tree P u) (tree_of M name V h) in
      rw same (star_some_pair x (elements (written_tree P u)) u (rw same at h))
  node_read (lowered_and u (lowered_and v us)) ih (suc zero) (star x) n k d = absurd d.1
  node_read us ih (suc (suc p)) (star x) n k d = absurd d
  node_read no_lowered ih zero (plus x) n k d = absurd d
  node_read (lowered_and u no_lowered) ih zero (plus x) n k d =
      plus_one_pair x _ u (pair_first _ _ _ _ _ _ _ _ (ih (symbol_and x no_symbols) d (R.parts_known (plus x) 0 _ k refl))).0
  node_read (lowered_and u (lowered_and v us)) ih zero (plus x) n k d = absurd d.1
  node_read no_lowered ih (suc zero) (plus x) n k d = absurd d
  node_read (lowered_and u no_lowered) ih (suc zero) (plus x) n k d = absurd d.1
  node_read (lowered_and u (lowered_and v no_lowered)) ih (suc zero) (plus x) n k d =
      let both = pair_first _ _ _ _ _ _ _ _ (ih (symbol_and (plus x) (symbol_and x no_symbols)) d (R.parts_known (plus x) 1 _ k refl)) in
      let last = (pair_first _ _ _ _ _ _ _ _ both.1).0 in
      let same = list_elements M x (written_tree P u) (tree_of M name V both.0) in
      plus_more_pair x (elements (written_tree P u)) (written_tree P v) u v (rw same at both.0) last
  node_read (lowered_and u (lowered_and v (lowered_and w us))) ih (suc zero) (plus x) n k d = absurd d.1.1
  node_read us ih (suc (suc p)) (plus x) n k d = absurd d
  node_read no_lowered ih zero (question x) n k d = absurd d
  node_read (lowered_and u no_lowered) ih zero (question x) n k d =
      question_some_pair x _ u (pair_first _ _ _ _ _ _ _ _ (ih (symbol_and x no_symbols) d (R.parts_known (question x) 0 _ k refl))).0
  node_read (lowered_and u (lowered_and v us)) ih zero (question x) n k d = absurd d.1
  node_read no_lowered ih (suc zero) (question x) n k d = question_empty_pair x
  node_read (lowered_and u us) ih (suc zero) (question x) n k d = absurd d
  node_read us ih (suc (suc p)) (question x) n k d = absurd d
  node_read us ih p (reference m b) n k d = rule_read M name P Known R us ih p m b k _ refl d
  node_read us ih p (call m args) n k d = call_read M name P Known R us ih p m args k _ refl d

  rule_node_read : (us : LoweredTrees) → Children M name P Known us → (n : Name) (p : ℕ) (g : ClosedSymbol) → IsNonterminal g → Known g → nonterminal_symbol (name g) ≡ nonterminal_symbol n →
      (q : Production) → slice_get (P n) p ≡ Some q → AreDerivations P us q.symbols →
      Pairs M name g (made_at (slice_get (P n) p) (written_each P us)) (lowered_node n p us)
  rule_node_read us ih n p g i k s q at d =
      let same : name g ≡ n = cc s in
      let at' = rw (← same, R.productions g i k, slice_get-map (clause_production name) (clauses M g) p) at at in
      rw (← same, R.productions g i k, slice_get-map (clause_production name) (clauses M g) p, made_at_mapped name (written_each P us) (slice_get (clauses M g) p))
      (node_read us ih p g i k (clause_of_production name P us (slice_get (clauses M g) p) q at' d))

  node_derivation : (us : LoweredTrees) → Children M name P Known us → (n : Name) (p : ℕ) (g : ClosedSymbol) → Known g → symbol_of name g ≡ nonterminal_symbol n →
      (q : Production) → slice_get (P n) p ≡ Some q → AreDerivations P us q.symbols →
      Pairs M name g (made_at (slice_get (P n) p) (written_each P us)) (lowered_node n p us)
  node_derivation us ih n p (terminal a) k s q at d = absurd (nonterminal≢terminal n a (sym s))
  node_derivation us ih n p error k s q at d = absurd (nonterminal≢terminal n error_terminal (sym s))
  node_derivation us ih n p (wrapped w g) k s q at d =
      wrapped_pair w g _ _ (node_derivation us ih n p g (R.inner w g k) s q at d)
  node_derivation us ih n p (reference m b) k s q at d = rule_node_read us ih n p (reference m b) tt k s q at d
  node_derivation us ih n p (call m b) k s q at d = rule_node_read us ih n p (call m b) tt k s q at d
  node_derivation us ih n p (group x) k s q at d = rule_node_read us ih n p (group x) tt k s q at d
  node_derivation us ih n p (star x) k s q at d = rule_node_read us ih n p (star x) tt k s q at d
  node_derivation us ih n p (plus x) k s q at d = rule_node_read us ih n p (plus x) tt k s q at d
  node_derivation us ih n p (question x) k s q at d = rule_node_read us ih n p (question x) tt k s q at d
  node_derivation us ih n p (times m x) k s q at d = rule_node_read us ih n p (times m x) tt k s q at d
  node_derivation us ih n p lookahead k s q at d = rule_node_read us ih n p lookahead tt k s q at d
  node_derivation us ih n p lookbehind k s q at d = rule_node_read us ih n p lookbehind tt k s q at d

  mutual
    -- a lowered tree pairs with what its origins make of it
    pub pairs_written : (u : LoweredTree) (g : ClosedSymbol) → IsDerivation P u (symbol_of name g) → Known g → Pairs M name g (written_tree P u) u
    pairs_written (lowered_leaf a) g h k = leaf_written M name a g h
    pairs_written (lowered_node n p us) g (s, q, at, d) k =
        node_derivation us (λ gs i j. pairs_written_each us gs i j) n p g k s q at d

    pub pairs_written_each : (us : LoweredTrees) (gs : ClosedSymbols) → AreDerivations P us (symbols_of name gs) → AllKnown Known gs → AllPairs M name gs (written_each P us) us
    pairs_written_each no_lowered no_symbols h k = no_pairs
    pairs_written_each no_lowered (symbol_and g gs) h k = absurd h
    pairs_written_each (lowered_and u us) no_symbols h k = absurd h
    pairs_written_each (lowered_and u us) (symbol_and g gs) h k =
        pair_and g gs _ _ u us (pairs_written u g h.0 k.0) (pairs_written_each us gs h.1 k.1)
