-- A written tree without a fault is lowered to a tree that reads as it.
use Rattle.std.proofs.Common.{◌≡◌, ℕ, zero, suc, ◌+◌, Bool, true, false, List, [], ◌∷◌, refl, sym, ap, ap₂, subst, ◌∙◌, arith, bytes_eq, nat_eq}
use Rattle.std.specs.Prelude.{slice_get, Option, Some, None}
use Rattle.lalrpop_norm_theory.specs.Symbols.{Name, Terminal, lookahead}
use Rattle.lalrpop_norm_theory.specs.LoweredTrees.{ProductionTable, Production, Origin, written, level_step, from_group, star_empty, star_some, plus_one, plus_more, question_some, question_empty, from_times, from_lookahead, from_lookbehind, LoweredSymbol, terminal_symbol, nonterminal_symbol, LoweredTree, LoweredTrees, lowered_leaf, lowered_node, no_lowered, lowered_and, IsDerivation, AreDerivations}
use Rattle.lalrpop_norm_theory.specs.WrittenTrees.{WrittenTree, WrittenTrees, leaf, nothing, list, node, no_trees, tree_and, append}
use Rattle.lalrpop_norm_theory.specs.Translations.{made_by, written_tree, written_each, extended}
use Rattle.std.proofs.lemmas.Bool.{eqb-true, and_parts}
use Rattle.lalrpop_norm_theory.specs.Same.{same_closed_terminal}
use Rattle.lalrpop_norm_theory.proofs.SameLemmas.{text_sound}
use Rattle.lalrpop_norm_explain.proofs.Derivations.{terminal_found, none_in_front, none_behind, none_raised}
use Rattle.lalrpop_norm_explain.specs.TreeFaults.{Found, raised}
use Rattle.lalrpop_norm_explain.specs.Forms.{Form, group_form, star_form, plus_form, question_form, times_form, ahead_form, behind_form, made_productions, production, form_of, IsVisited, AreVisited, IsFormedIn}
use Rattle.lalrpop_norm_explain.specs.Plans.{flat, leaning, TreePlan, plan, plan_under, planned_tree, is_one_for_each, fitting, each, plus_plan, list_plan, nothing_plan, list_at, nothing_at, node_at, is_written, is_step, own_plan, step_to, step, or_plan, node_plan}
use Rattle.lalrpop_norm_explain.specs.TreeLowering.{plan_faults, plan_tree, shape_faults, shapes_faults, lowered_by, each_lowered}

lacks : {A C : Type 0} {x : A} → None ≡ Some x → C
lacks e = absurd (cc e)

pub visited_and : (Visited : Name → Type 0) (s : LoweredSymbol) (ss : List LoweredSymbol) → IsVisited Visited s → AreVisited Visited ss → AreVisited Visited (s ∷ ss)
visited_and Visited (terminal_symbol a) ss h hs = hs
visited_and Visited (nonterminal_symbol n) ss h hs = (h, hs)

first_visited : (Visited : Name → Type 0) (s : LoweredSymbol) (ss : List LoweredSymbol) → AreVisited Visited (s ∷ ss) → IsVisited Visited s
first_visited Visited (terminal_symbol a) ss h = tt
first_visited Visited (nonterminal_symbol n) ss h = h.0

rest_visited : (Visited : Name → Type 0) (s : LoweredSymbol) (ss : List LoweredSymbol) → AreVisited Visited (s ∷ ss) → AreVisited Visited ss
rest_visited Visited (terminal_symbol a) ss h = h
rest_visited Visited (nonterminal_symbol n) ss h = h.1

-- a plan is right for a symbol: over derivation trees it gives one, which reads as `make` of what they read as
abbrev pub Serves : ProductionTable → LoweredSymbol → TreePlan → (WrittenTrees → WrittenTree) → Type 0
Serves P s q make = (us : LoweredTrees) → AreDerivations P us q.wanted →
    IsDerivation P (planned_tree q us) s × (written_tree P (planned_tree q us) ≡ make (written_each P us))

-- the lowered tree reads as the written one, if there is a plan
abbrev pub ServesIf : ProductionTable → LoweredSymbol → Option TreePlan → (WrittenTrees → WrittenTree) → Type 0
ServesIf P s o make = (q : TreePlan) → o ≡ Some q → Serves P s q make

-- each of them is a derivation tree of x
abbrev EachDerives : ProductionTable → LoweredSymbol → LoweredTrees → Type 0
EachDerives P x no_lowered = Unit {0}
EachDerives P x (lowered_and u us) = IsDerivation P u x × EachDerives P x us

each_derives : (P : ProductionTable) (x : LoweredSymbol) (us : LoweredTrees) (ts : WrittenTrees) → AreDerivations P us (each x ts) → EachDerives P x us
each_derives P x no_lowered ts d = tt
each_derives P x (lowered_and u us) no_trees d = absurd d
each_derives P x (lowered_and u us) (tree_and t ts) d = (d.0, each_derives P x us ts d.1)

from_plan : (P : ProductionTable) (s : LoweredSymbol) (p q : TreePlan) (make : WrittenTrees → WrittenTree) → Some p ≡ Some q → Serves P s p make → Serves P s q make
from_plan P s p q make e h = let same : p ≡ q = cc in subst (λ r. Serves P s r make) same h

module _ (P : ProductionTable) (n : Name) (x : LoweredSymbol) (e : P n ≡ made_productions n (plus_form x)) where
  append_step : (ts : WrittenTrees) (t : WrittenTree) (rest : WrittenTrees) → append (append ts (tree_and t no_trees)) rest ≡ append ts (tree_and t rest)
  append_step no_trees t rest = refl
  append_step (tree_and s ts) t rest = ap (λ r. tree_and s r) (append_step ts t rest)

  append_none : (ts : WrittenTrees) → append ts no_trees ≡ ts
  append_none no_trees = refl
  append_none (tree_and s ts) = ap (λ r. tree_and s r) (append_none ts)

  -- a list that leans to the left so far, with further elements
  further : (acc : LoweredTree) (us : LoweredTrees) (before : WrittenTrees) → IsDerivation P acc (nonterminal_symbol n) →
      written_tree P acc ≡ list before → EachDerives P x us →
      IsDerivation P (extended (λ _. n) lookahead acc us) (nonterminal_symbol n)
      × (written_tree P (extended (λ _. n) lookahead acc us) ≡ list (append before (written_each P us)))
  further acc no_lowered before d w ds = (d, w ∙ ap list (sym (append_none before)))
  further acc (lowered_and u us) before d w ds =
      let more : IsDerivation P (lowered_node n 1 (lowered_and acc (lowered_and u no_lowered))) (nonterminal_symbol n) =
      (refl, production plus_more (nonterminal_symbol n ∷ (x ∷ [])), rw e refl, (d, (ds.0, tt))) in
      let read : written_tree P (lowered_node n 1 (lowered_and acc (lowered_and u no_lowered))) ≡ list (append before (tree_and (written_tree P u) no_trees)) =
      rw (e, w) refl in
      let r = further (lowered_node n 1 (lowered_and acc (lowered_and u no_lowered))) us (append before (tree_and (written_tree P u) no_trees)) more read ds.1 in
      (r.0, r.1 ∙ ap list (append_step before (written_tree P u) (written_each P us)))

  leaning_serves : (ts : WrittenTrees) → Serves P (nonterminal_symbol n) (plan n leaning (x ∷ each x ts)) list
  leaning_serves ts no_lowered d = absurd d
  leaning_serves ts (lowered_and u us) d =
      let one : IsDerivation P (lowered_node n 0 (lowered_and u no_lowered)) (nonterminal_symbol n) =
      (refl, production plus_one (x ∷ []), rw e refl, (d.0, tt)) in
      let read : written_tree P (lowered_node n 0 (lowered_and u no_lowered)) ≡ list (tree_and (written_tree P u) no_trees) = rw e refl in
      further (lowered_node n 0 (lowered_and u no_lowered)) us (tree_and (written_tree P u) no_trees) one read (each_derives P x us ts d.1)

module _ (P : ProductionTable) where
  -- under a production of one symbol that reads as its child
  under_serves : (n m : Name) (p : ℕ) (q : Production) (make : WrittenTrees → WrittenTree) → slice_get (P n) p ≡ Some q → q.symbols ≡ nonterminal_symbol m ∷ [] →
      ((t : WrittenTree) → made_by q.origin (tree_and t no_trees) ≡ t) → (o : Option TreePlan) → ServesIf P (nonterminal_symbol m) o make →
      ServesIf P (nonterminal_symbol n) (plan_under n p o) make
  under_serves n m p q make at one same None h r e = lacks e
  under_serves n m p q make at one same (Some below) h r e =
      from_plan P (nonterminal_symbol n) (record { steps = (n, p) ∷ below.steps; name = below.name; shape = below.shape; wanted = below.wanted }) r make e
      (λ us d.
      let b = h below refl us d in
      let ds : AreDerivations P (lowered_and (planned_tree below us) no_lowered) q.symbols = rw one (b.0, tt) in
      ((refl, q, at, ds), rw at (same (written_tree P (planned_tree below us)) ∙ b.1)))

  flat_serves : (n : Name) (p : ℕ) (q : Production) (make : WrittenTrees → WrittenTree) → slice_get (P n) p ≡ Some q →
      ((ts : WrittenTrees) → made_by q.origin ts ≡ make ts) → Serves P (nonterminal_symbol n) (plan n (flat p) q.symbols) make
  flat_serves n p q make at same us d = ((refl, q, at, d), rw at (same (written_each P us)))

  empty_serves : (n : Name) (p : ℕ) (o : Origin) (make : WrittenTrees → WrittenTree) → slice_get (P n) p ≡ Some (production o []) →
      made_by o no_trees ≡ make no_trees → Serves P (nonterminal_symbol n) (plan n (flat p) []) make
  empty_serves n p o make at same no_lowered d = ((refl, production o [], at, d), rw at same)
  empty_serves n p o make at same (lowered_and u us) d = absurd d

  module _ (Visited : Name → Type 0) (F : IsFormedIn P Visited) where
    plus_serves : (n : Name) → Visited n → (o : Option Form) → form_of (P n) ≡ o → (ts : WrittenTrees) → ServesIf P (nonterminal_symbol n) (plus_plan n o ts) list
    plus_serves n v (Some (plus_form x)) h (tree_and t ts) q e =
        from_plan P (nonterminal_symbol n) (plan n leaning (x ∷ each x ts)) q list e (leaning_serves P n x (F.formed n (plus_form x) v h) ts)
    plus_serves n v _ h _ q e = lacks e

    -- the symbol of `X+` in the rule of `X*`
    star_visited : (n m : Name) → Visited n → form_of (P n) ≡ Some (star_form m) → Visited m
    star_visited n m v h = (F.closed n 1 (production star_some (nonterminal_symbol m ∷ [])) v (rw (F.formed n (star_form m) v h) refl)).0

    list_serves : (n : Name) → Visited n → (o : Option Form) → form_of (P n) ≡ o → (ts : WrittenTrees) → ServesIf P (nonterminal_symbol n) (list_plan P n o ts) list
    list_serves n v (Some (group_form ss)) h ts q e =
        from_plan P (nonterminal_symbol n) (plan n (flat 0) ss) q list e
        (flat_serves n 0 (production from_group ss) list (rw (F.formed n (group_form ss) v h) refl) (λ ts. refl))
    list_serves n v (Some (star_form m)) h no_trees q e =
        from_plan P (nonterminal_symbol n) (plan n (flat 0) []) q list e (empty_serves n 0 star_empty list (rw (F.formed n (star_form m) v h) refl) refl)
    list_serves n v (Some (star_form m)) h (tree_and t ts) q e =
        under_serves n m 1 (production star_some (nonterminal_symbol m ∷ [])) list (rw (F.formed n (star_form m) v h) refl) refl (λ t. refl)
        (plus_plan m (form_of (P m)) (tree_and t ts)) (plus_serves m (star_visited n m v h) (form_of (P m)) refl (tree_and t ts)) q e
    list_serves n v (Some (plus_form x)) h ts q e = plus_serves n v (Some (plus_form x)) h ts q e
    list_serves n v (Some (question_form x)) h no_trees q e =
        from_plan P (nonterminal_symbol n) (plan n (flat 1) []) q list e (empty_serves n 1 question_empty list (rw (F.formed n (question_form x) v h) refl) refl)
    list_serves n v (Some (question_form x)) h (tree_and t ts) q e =
        from_plan P (nonterminal_symbol n) (plan n (flat 0) (x ∷ [])) q list e
        (flat_serves n 0 (production question_some (x ∷ [])) list (rw (F.formed n (question_form x) v h) refl) (λ ts. refl))
    list_serves n v (Some (times_form ss)) h ts q e =
        from_plan P (nonterminal_symbol n) (plan n (flat 0) ss) q list e
        (flat_serves n 0 (production from_times ss) list (rw (F.formed n (times_form ss) v h) refl) (λ ts. refl))
    list_serves n v (Some ahead_form) h ts q e = lacks e
    list_serves n v (Some behind_form) h ts q e = lacks e
    list_serves n v None h ts q e = lacks e

    nothing_serves : (n : Name) → Visited n → (o : Option Form) → form_of (P n) ≡ o → ServesIf P (nonterminal_symbol n) (nothing_plan n o) (λ _. nothing)
    nothing_serves n v (Some ahead_form) h q e =
        from_plan P (nonterminal_symbol n) (plan n (flat 0) []) q (λ _. nothing) e (empty_serves n 0 from_lookahead (λ _. nothing) (rw (F.formed n ahead_form v h) refl) refl)
    nothing_serves n v (Some behind_form) h q e =
        from_plan P (nonterminal_symbol n) (plan n (flat 0) []) q (λ _. nothing) e (empty_serves n 0 from_lookbehind (λ _. nothing) (rw (F.formed n behind_form v h) refl) refl)
    nothing_serves n v _ h q e = lacks e

    -- what a plan wants is visited
    same_wants : (p q : TreePlan) → Some p ≡ Some q → AreVisited Visited p.wanted → AreVisited Visited q.wanted
    same_wants p q e h = let same : p ≡ q = cc in subst (λ (r : TreePlan). AreVisited Visited r.wanted) same h

    under_wants : (n : Name) (p : ℕ) (o : Option TreePlan) → ((q : TreePlan) → o ≡ Some q → AreVisited Visited q.wanted) → (q : TreePlan) → plan_under n p o ≡ Some q → AreVisited Visited q.wanted
    under_wants n p None h q e = lacks e
    under_wants n p (Some r) h q e =
        same_wants (record { steps = (n, p) ∷ r.steps; name = r.name; shape = r.shape; wanted = r.wanted }) q e (h r refl)

    each_wants : (x : LoweredSymbol) (ts : WrittenTrees) → IsVisited Visited x → AreVisited Visited (each x ts)
    each_wants x no_trees h = tt
    each_wants x (tree_and t ts) h = visited_and Visited x (each x ts) h (each_wants x ts h)

    plus_wants : (n : Name) → Visited n → (o : Option Form) → form_of (P n) ≡ o → (ts : WrittenTrees) (q : TreePlan) → plus_plan n o ts ≡ Some q → AreVisited Visited q.wanted
    plus_wants n v (Some (plus_form x)) h (tree_and t ts) q e =
        let here = first_visited Visited x [] (F.closed n 0 (production plus_one (x ∷ [])) v (rw (F.formed n (plus_form x) v h) refl)) in
        same_wants (plan n leaning (x ∷ each x ts)) q e (visited_and Visited x (each x ts) here (each_wants x ts here))
    plus_wants n v _ h _ q e = lacks e

    list_wants : (n : Name) → Visited n → (o : Option Form) → form_of (P n) ≡ o → (ts : WrittenTrees) (q : TreePlan) → list_plan P n o ts ≡ Some q → AreVisited Visited q.wanted
    list_wants n v (Some (group_form ss)) h ts q e =
        same_wants (plan n (flat 0) ss) q e (F.closed n 0 (production from_group ss) v (rw (F.formed n (group_form ss) v h) refl))
    list_wants n v (Some (star_form m)) h no_trees q e = same_wants (plan n (flat 0) []) q e tt
    list_wants n v (Some (star_form m)) h (tree_and t ts) q e =
        under_wants n 1 (plus_plan m (form_of (P m)) (tree_and t ts)) (plus_wants m (star_visited n m v h) (form_of (P m)) refl (tree_and t ts)) q e
    list_wants n v (Some (plus_form x)) h ts q e = plus_wants n v (Some (plus_form x)) h ts q e
    list_wants n v (Some (question_form x)) h no_trees q e = same_wants (plan n (flat 1) []) q e tt
    list_wants n v (Some (question_form x)) h (tree_and t ts) q e =
        same_wants (plan n (flat 0) (x ∷ [])) q e (F.closed n 0 (production question_some (x ∷ [])) v (rw (F.formed n (question_form x) v h) refl))
    list_wants n v (Some (times_form ss)) h ts q e =
        same_wants (plan n (flat 0) ss) q e (F.closed n 0 (production from_times ss) v (rw (F.formed n (times_form ss) v h) refl))
    list_wants n v (Some ahead_form) h ts q e = lacks e
    list_wants n v (Some behind_form) h ts q e = lacks e
    list_wants n v None h ts q e = lacks e

written_origin : (m : Name) (k : ℕ) (o : Origin) → is_written m k o ≡ true → o ≡ written m k
written_origin m k (written n j) e =
    let both = and_parts (bytes_eq n m) (nat_eq j k) e in
    ap₂ written (text_sound n m both.0) (eqb-true j k both.1)
written_origin m k _ e = absurd (cc e)

step_origin : (o : Origin) → is_step o ≡ true → o ≡ level_step
step_origin level_step e = refl
step_origin _ e = absurd (cc e)

-- the productions qs are in P n from index i on
abbrev StandFrom : ProductionTable → Name → ℕ → List Production → Type 0
StandFrom P n i qs = (j : ℕ) → slice_get (P n) (j + i) ≡ slice_get qs j

stand_next : (P : ProductionTable) (n : Name) (i : ℕ) (q : Production) (qs : List Production) → StandFrom P n i (q ∷ qs) → StandFrom P n (suc i) qs
stand_next P n i q qs h j = let e : j + suc i ≡ suc j + i = omega arith in rw e (h (suc j))

stand_here : (P : ProductionTable) (n : Name) (i : ℕ) (q : Production) (qs : List Production) → StandFrom P n i (q ∷ qs) → slice_get (P n) i ≡ Some q
stand_here P n i q qs h = let e : 0 + i ≡ i = omega arith in rw e at (h 0)

stand_all : (P : ProductionTable) (n : Name) → StandFrom P n 0 (P n)
stand_all P n j = let e : j + 0 ≡ j = omega arith in rw e refl

module _ (P : ProductionTable) (m : Name) (k : ℕ) where
  own_serves : (n : Name) (i : ℕ) (qs : List Production) → StandFrom P n i qs → ServesIf P (nonterminal_symbol n) (own_plan n m k i qs) (node m k)
  own_serves n i [] h q e = lacks e
  own_serves n i (p ∷ qs) h q e = at (is_written m k p.origin) refl (own_serves n (suc i) qs (stand_next P n i p qs h) q) e
    where
      at : (b : Bool) → is_written m k p.origin ≡ b → (own_plan n m k (suc i) qs ≡ Some q → Serves P (nonterminal_symbol n) q (node m k)) →
          own_plan n m k i (p ∷ qs) ≡ Some q → Serves P (nonterminal_symbol n) q (node m k)
      at true w rest f =
          from_plan P (nonterminal_symbol n) (plan n (flat i) p.symbols) q (node m k) (rw w at f)
          (flat_serves P n i p (node m k) (stand_here P n i p qs h) (λ ts. rw (written_origin m k p.origin w) refl))
      at false w rest f = rest (rw w at f)

  step_serves : (n : Name) (below : Name → Option TreePlan) → ((c : Name) → ServesIf P (nonterminal_symbol c) (below c) (node m k)) →
      (i : ℕ) (qs : List Production) → StandFrom P n i qs → ServesIf P (nonterminal_symbol n) (step n below i qs) (node m k)
  step_serves n below b i [] h q e = lacks e
  step_serves n below b i (p ∷ qs) h q e =
      at (is_step p.origin) p.symbols refl refl (step_serves n below b (suc i) qs (stand_next P n i p qs h) q) e
    where
      at : (is : Bool) (ss : List LoweredSymbol) → is_step p.origin ≡ is → p.symbols ≡ ss →
          (step n below (suc i) qs ≡ Some q → Serves P (nonterminal_symbol n) q (node m k)) →
          step_to n i is ss below (step n below (suc i) qs) ≡ Some q → Serves P (nonterminal_symbol n) q (node m k)
      at true (nonterminal_symbol c ∷ []) w one rest f =
          under_serves P n c i p (node m k) (stand_here P n i p qs h) one (λ t. rw (step_origin p.origin w) refl) (below c) (b c) q f
      at true [] w one rest f = rest f
      at true (terminal_symbol a ∷ ss) w one rest f = rest f
      at true (nonterminal_symbol c ∷ (s ∷ ss)) w one rest f = rest f
      at false ss w one rest f = rest f

  either_serves : (s : LoweredSymbol) (o p : Option TreePlan) → ServesIf P s o (node m k) → ServesIf P s p (node m k) → ServesIf P s (or_plan o p) (node m k)
  either_serves s None p a b = b
  either_serves s (Some r) p a b = a

  node_serves : (fuel : ℕ) (n : Name) → ServesIf P (nonterminal_symbol n) (node_plan P fuel n m k) (node m k)
  node_serves zero n = own_serves n 0 (P n) (stand_all P n)
  node_serves (suc fuel) n =
      either_serves (nonterminal_symbol n) (own_plan n m k 0 (P n)) (step n (λ c. node_plan P fuel c m k) 0 (P n))
      (own_serves n 0 (P n) (stand_all P n))
      (step_serves n (λ c. node_plan P fuel c m k) (λ c. node_serves fuel c) 0 (P n) (stand_all P n))

module _ (P : ProductionTable) (Visited : Name → Type 0) (F : IsFormedIn P Visited) (m : Name) (k : ℕ) where
  abbrev Wants : Option TreePlan → Type 0
  Wants o = (q : TreePlan) → o ≡ Some q → AreVisited Visited q.wanted

  own_wants : (n : Name) → Visited n → (i : ℕ) (qs : List Production) → StandFrom P n i qs → Wants (own_plan n m k i qs)
  own_wants n v i [] h q e = lacks e
  own_wants n v i (p ∷ qs) h q e = at (is_written m k p.origin) refl (own_wants n v (suc i) qs (stand_next P n i p qs h) q) e
    where
      at : (b : Bool) → is_written m k p.origin ≡ b → (own_plan n m k (suc i) qs ≡ Some q → AreVisited Visited q.wanted) →
          own_plan n m k i (p ∷ qs) ≡ Some q → AreVisited Visited q.wanted
      at true w rest f = same_wants P Visited F (plan n (flat i) p.symbols) q (rw w at f) (F.closed n i p v (stand_here P n i p qs h))
      at false w rest f = rest (rw w at f)

  step_wants : (n : Name) → Visited n → (below : Name → Option TreePlan) → ((c : Name) → Visited c → Wants (below c)) →
      (i : ℕ) (qs : List Production) → StandFrom P n i qs → Wants (step n below i qs)
  step_wants n v below b i [] h q e = lacks e
  step_wants n v below b i (p ∷ qs) h q e =
      at (is_step p.origin) p.symbols refl (step_wants n v below b (suc i) qs (stand_next P n i p qs h) q) e
    where
      at : (is : Bool) (ss : List LoweredSymbol) → p.symbols ≡ ss → (step n below (suc i) qs ≡ Some q → AreVisited Visited q.wanted) →
          step_to n i is ss below (step n below (suc i) qs) ≡ Some q → AreVisited Visited q.wanted
      at true (nonterminal_symbol c ∷ []) one rest f =
          let there : Visited c = (rw one at (F.closed n i p v (stand_here P n i p qs h))).0 in
          under_wants P Visited F n i (below c) (b c there) q f
      at true [] one rest f = rest f
      at true (terminal_symbol a ∷ ss) one rest f = rest f
      at true (nonterminal_symbol c ∷ (s ∷ ss)) one rest f = rest f
      at false ss one rest f = rest f

  either_wants : (o p : Option TreePlan) → Wants o → Wants p → Wants (or_plan o p)
  either_wants None p a b = b
  either_wants (Some r) p a b = a

  node_wants : (fuel : ℕ) (n : Name) → Visited n → Wants (node_plan P fuel n m k)
  node_wants zero n v = own_wants n v 0 (P n) (stand_all P n)
  node_wants (suc fuel) n v =
      either_wants (own_plan n m k 0 (P n)) (step n (λ c. node_plan P fuel c m k) 0 (P n))
      (own_wants n v 0 (P n) (stand_all P n))
      (step_wants n v (λ c. node_plan P fuel c m k) (λ c w. node_wants fuel c w) 0 (P n) (stand_all P n))

-- a plan that fits is the plan, and has a symbol for each tree
fits : (ts : WrittenTrees) (o : Option TreePlan) (q : TreePlan) → fitting ts o ≡ Some q → (o ≡ Some q) × (is_one_for_each ts q.wanted ≡ true)
fits ts None q e = lacks e
fits ts (Some p) q e = at (is_one_for_each ts p.wanted) refl e
  where
    at : (b : Bool) → is_one_for_each ts p.wanted ≡ b → fitting ts (Some p) ≡ Some q → (Some p ≡ Some q) × (is_one_for_each ts q.wanted ≡ true)
    at true w f = let g : Some p ≡ Some q = rw w at f in let same : p ≡ q = cc in (g, rw (← same) w)
    at false w f = let g : None ≡ Some q = rw w at f in lacks g

module _ (P : ProductionTable) (Visited : Name → Type 0) where
  -- what a plan makes of children that come back
  planned : (s : LoweredSymbol) (make : WrittenTrees → WrittenTree) (ts : WrittenTrees) (o : Option TreePlan) → ServesIf P s o make →
      ((q : TreePlan) → o ≡ Some q → is_one_for_each ts q.wanted ≡ true) → ((q : TreePlan) → o ≡ Some q → AreVisited Visited q.wanted) → (below : List LoweredSymbol → List Found) (low : List LoweredSymbol → LoweredTrees) →
      ((ss : List LoweredSymbol) → is_one_for_each ts ss ≡ true → AreVisited Visited ss → below ss ≡ [] → AreDerivations P (low ss) ss × (written_each P (low ss) ≡ ts)) →
      plan_faults o below ≡ [] → IsDerivation P (plan_tree o low) s × (written_tree P (plan_tree o low) ≡ make ts)
  planned s make ts None h fit seen below low back e = absurd (cc e)
  planned s make ts (Some q) h fit seen below low back e =
      let b = back q.wanted (fit q refl) (seen q refl) e in
      let r = h q refl (low q.wanted) b.0 in
      (r.0, r.1 ∙ ap make b.1)

  list_at_serves : IsFormedIn P Visited → (s : LoweredSymbol) → IsVisited Visited s → (ts : WrittenTrees) → ServesIf P s (list_at P s ts) list
  list_at_serves F (terminal_symbol a) v ts q e = lacks e
  list_at_serves F (nonterminal_symbol n) v ts q e =
      list_serves P Visited F n v (form_of (P n)) refl ts q (fits ts (list_plan P n (form_of (P n)) ts) q e).0

  list_at_wants : IsFormedIn P Visited → (s : LoweredSymbol) → IsVisited Visited s → (ts : WrittenTrees) (q : TreePlan) → list_at P s ts ≡ Some q → AreVisited Visited q.wanted
  list_at_wants F (terminal_symbol a) v ts q e = lacks e
  list_at_wants F (nonterminal_symbol n) v ts q e =
      list_wants P Visited F n v (form_of (P n)) refl ts q (fits ts (list_plan P n (form_of (P n)) ts) q e).0

  node_at_wants : IsFormedIn P Visited → (fuel : ℕ) (s : LoweredSymbol) → IsVisited Visited s → (m : Name) (k : ℕ) (ts : WrittenTrees) (q : TreePlan) →
      node_at P fuel s m k ts ≡ Some q → AreVisited Visited q.wanted
  node_at_wants F fuel (terminal_symbol a) v m k ts q e = lacks e
  node_at_wants F fuel (nonterminal_symbol n) v m k ts q e = node_wants P Visited F m k fuel n v q (fits ts (node_plan P fuel n m k) q e).0

  list_at_fits : (s : LoweredSymbol) (ts : WrittenTrees) (q : TreePlan) → list_at P s ts ≡ Some q → is_one_for_each ts q.wanted ≡ true
  list_at_fits (terminal_symbol a) ts q e = lacks e
  list_at_fits (nonterminal_symbol n) ts q e = (fits ts (list_plan P n (form_of (P n)) ts) q e).1

  node_at_serves : (fuel : ℕ) (s : LoweredSymbol) (m : Name) (k : ℕ) (ts : WrittenTrees) → ServesIf P s (node_at P fuel s m k ts) (node m k)
  node_at_serves fuel (terminal_symbol a) m k ts q e = lacks e
  node_at_serves fuel (nonterminal_symbol n) m k ts q e = node_serves P m k fuel n q (fits ts (node_plan P fuel n m k) q e).0

  node_at_fits : (fuel : ℕ) (s : LoweredSymbol) (m : Name) (k : ℕ) (ts : WrittenTrees) (q : TreePlan) → node_at P fuel s m k ts ≡ Some q → is_one_for_each ts q.wanted ≡ true
  node_at_fits fuel (terminal_symbol a) m k ts q e = lacks e
  node_at_fits fuel (nonterminal_symbol n) m k ts q e = (fits ts (node_plan P fuel n m k) q e).1

  nothing_at_serves : IsFormedIn P Visited → (s : LoweredSymbol) → IsVisited Visited s → ServesIf P s (nothing_at P s) (λ _. nothing)
  nothing_at_serves F (terminal_symbol a) v q e = lacks e
  nothing_at_serves F (nonterminal_symbol n) v q e = nothing_serves P Visited F n v (form_of (P n)) refl q e

  nothing_wants_none : (n : Name) (o : Option Form) (q : TreePlan) → nothing_plan n o ≡ Some q → AreVisited Visited q.wanted
  nothing_wants_none n (Some ahead_form) q e = let same : plan n (flat 0) [] ≡ q = cc in rw (← same) tt
  nothing_wants_none n (Some behind_form) q e = let same : plan n (flat 0) [] ≡ q = cc in rw (← same) tt
  nothing_wants_none n _ q e = lacks e

  nothing_at_wants : (s : LoweredSymbol) (q : TreePlan) → nothing_at P s ≡ Some q → AreVisited Visited q.wanted
  nothing_at_wants (terminal_symbol a) q e = lacks e
  nothing_at_wants (nonterminal_symbol n) q e = nothing_wants_none n (form_of (P n)) q e

  nothing_wants : (n : Name) (o : Option Form) (q : TreePlan) → nothing_plan n o ≡ Some q → is_one_for_each no_trees q.wanted ≡ true
  nothing_wants n (Some ahead_form) q e = let same : plan n (flat 0) [] ≡ q = cc in rw (← same) refl
  nothing_wants n (Some behind_form) q e = let same : plan n (flat 0) [] ≡ q = cc in rw (← same) refl
  nothing_wants n _ q e = lacks e

  nothing_at_fits : (s : LoweredSymbol) (q : TreePlan) → nothing_at P s ≡ Some q → is_one_for_each no_trees q.wanted ≡ true
  nothing_at_fits (terminal_symbol a) q e = lacks e
  nothing_at_fits (nonterminal_symbol n) q e = nothing_wants n (form_of (P n)) q e

  leaf_back : (fuel : ℕ) (a : Terminal) (s : LoweredSymbol) → shape_faults P fuel (leaf a) s ≡ [] → IsDerivation P (lowered_leaf a) s
  leaf_back fuel a (terminal_symbol b) e = at (same_closed_terminal b a) refl e
    where
      at : (c : Bool) → same_closed_terminal b a ≡ c → shape_faults P fuel (leaf a) (terminal_symbol b) ≡ [] → terminal_symbol b ≡ terminal_symbol a
      at true w f = terminal_found b a w
      at false w f = let g = rw w at f in cc
  leaf_back fuel a (nonterminal_symbol n) e = cc

  none_wanted : (ss : List LoweredSymbol) → is_one_for_each no_trees ss ≡ true → AreDerivations P no_lowered ss
  none_wanted [] e = tt
  none_wanted (s ∷ ss) e = absurd (cc e)

  module _ (F : IsFormedIn P Visited) (fuel : ℕ) where
    mutual
      tree_back : (t : WrittenTree) (s : LoweredSymbol) → IsVisited Visited s → shape_faults P fuel t s ≡ [] →
          IsDerivation P (lowered_by P fuel t s) s × (written_tree P (lowered_by P fuel t s) ≡ t)
      tree_back (leaf a) s v e = (leaf_back fuel a s e, refl)
      tree_back nothing s v e =
          planned s (λ _. nothing) no_trees (nothing_at P s) (nothing_at_serves F s v) (nothing_at_fits s) (nothing_at_wants s) (λ _. []) (λ _. no_lowered)
          (λ ss f w g. (none_wanted ss f, refl)) e
      tree_back (list ts) s v e =
          planned s list ts (list_at P s ts) (list_at_serves F s v ts) (list_at_fits s ts) (list_at_wants F s v ts) (λ ss. shapes_faults P fuel ts ss 0)
          (λ ss. each_lowered P fuel ts ss) (λ ss f w g. trees_back ts ss 0 w f g) e
      tree_back (node m k ts) s v e =
          planned s (node m k) ts (node_at P fuel s m k ts) (node_at_serves fuel s m k ts) (node_at_fits fuel s m k ts) (node_at_wants F fuel s v m k ts)
          (λ ss. shapes_faults P fuel ts ss 0) (λ ss. each_lowered P fuel ts ss) (λ ss f w g. trees_back ts ss 0 w f g) e

      trees_back : (ts : WrittenTrees) (ss : List LoweredSymbol) (i : ℕ) → AreVisited Visited ss → is_one_for_each ts ss ≡ true → shapes_faults P fuel ts ss i ≡ [] →
          AreDerivations P (each_lowered P fuel ts ss) ss × (written_each P (each_lowered P fuel ts ss) ≡ ts)
      trees_back no_trees [] i v f e = (tt, refl)
      trees_back no_trees (s ∷ ss) i v f e = absurd (cc f)
      trees_back (tree_and t ts) [] i v f e = absurd (cc f)
      trees_back (tree_and t ts) (s ∷ ss) i v f e =
          let here = tree_back t s (first_visited Visited s ss v) (none_raised i (shape_faults P fuel t s) (none_in_front (raised i (shape_faults P fuel t s)) (shapes_faults P fuel ts ss (i + 1)) e)) in
          let rest = trees_back ts ss (i + 1) (rest_visited Visited s ss v) f (none_behind (raised i (shape_faults P fuel t s)) (shapes_faults P fuel ts ss (i + 1)) e) in
          ((here.0, rest.0), ap₂ tree_and here.1 rest.1)

pub comes_back : (P : ProductionTable) (Visited : Name → Type 0) → IsFormedIn P Visited →
    (fuel : ℕ) (t : WrittenTree) (s : LoweredSymbol) → IsVisited Visited s → shape_faults P fuel t s ≡ [] →
    IsDerivation P (lowered_by P fuel t s) s × (written_tree P (lowered_by P fuel t s) ≡ t)
comes_back P Visited F fuel t s v e = tree_back P Visited F fuel t s v e
