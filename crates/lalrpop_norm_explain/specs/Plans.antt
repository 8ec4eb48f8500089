-- Plans: how a written tree is lowered, seen without its children.
use Rattle.std.specs.Borrow.{Bor}
use Rattle.std.specs.Prelude.{ℕ, zero, suc, Bool, true, false, ◌&&◌, bytes_eq, nat_eq, List, [], ◌∷◌, map, reverse, Option}
use Rattle.std.specs.Prelude.{Some}
use Rattle.std.specs.Prelude.{None, if◌then◌else◌}
use Rattle.lalrpop_norm_tree_names.specs.declared.names.NonterminalString.{NonterminalString}
use Rattle.lalrpop_norm_repr.specs.declared.symbol.Symbol.{Symbol}
use Rattle.lalrpop_norm_theory.specs.Symbols.{Name, lookahead}
use Rattle.lalrpop_norm_theory.specs.LoweredTrees.{ProductionTable, Production, Origin, LoweredSymbol, terminal_symbol}
use Rattle.lalrpop_norm_theory.specs.LoweredTrees.{nonterminal_symbol, LoweredTree, LoweredTrees, lowered_node, no_lowered}
use Rattle.lalrpop_norm_theory.specs.LoweredTrees.{lowered_and, written, level_step}
use Rattle.lalrpop_norm_theory.specs.WrittenTrees.{WrittenTrees, no_trees, tree_and}
use Rattle.lalrpop_norm_theory.specs.Translations.{left_leaning}
use Rattle.lalrpop_norm_explain.specs.declared.levels.Way.{Way}
use Rattle.lalrpop_norm_explain.specs.Derivations.{symbols_view}
use Rattle.lalrpop_norm_explain.specs.Forms.{Form, group_form, star_form, plus_form, question_form, times_form, ahead_form}
use Rattle.lalrpop_norm_explain.specs.Forms.{behind_form, form_of}

-- the children as they are, under the production of an index; or leaning to the left
pub data Standing : Type 0 where
  flat : ℕ → Standing
  leaning : Standing

-- productions of one symbol each, the outermost first; the name below them, how its children are placed, and a symbol for each
pub record TreePlan : Type 0 where
  pub steps : List (Name × ℕ)
  pub name : Name
  pub shape : Standing
  pub wanted : List LoweredSymbol

abbrev pub plan : Name → Standing → List LoweredSymbol → TreePlan
plan n s ss = record { steps = []; name = n; shape = s; wanted = ss }

abbrev pub plan_under : Name → ℕ → Option TreePlan → Option TreePlan
plan_under n p None = None
plan_under n p (Some q) = Some (record { steps = (n, p) ∷ q.steps; name = q.name; shape = q.shape; wanted = q.wanted })

abbrev pub stepped : List (Name × ℕ) → LoweredTree → LoweredTree
stepped [] u = u
stepped (s ∷ ss) u = lowered_node s.0 s.1 (lowered_and (stepped ss u) no_lowered)

abbrev pub shaped : Name → Standing → LoweredTrees → LoweredTree
shaped n (flat p) us = lowered_node n p us
shaped n leaning us = left_leaning (λ _. n) lookahead us

-- the tree of a plan over the children's trees
abbrev pub planned_tree : TreePlan → LoweredTrees → LoweredTree
planned_tree q us = stepped q.steps (shaped q.name q.shape us)

abbrev pub is_one_for_each : WrittenTrees → List LoweredSymbol → Bool
is_one_for_each no_trees [] = true
is_one_for_each no_trees (s ∷ ss) = false
is_one_for_each (tree_and t ts) [] = false
is_one_for_each (tree_and t ts) (s ∷ ss) = is_one_for_each ts ss

-- the plan, if it has a symbol for each of the trees
abbrev pub fitting : WrittenTrees → Option TreePlan → Option TreePlan
fitting ts None = None
fitting ts (Some q) = if is_one_for_each ts q.wanted then Some q else None

-- the symbol for each of the trees
abbrev pub each : LoweredSymbol → WrittenTrees → List LoweredSymbol
each x no_trees = []
each x (tree_and t ts) = x ∷ each x ts

abbrev pub plus_plan : Name → Option Form → WrittenTrees → Option TreePlan
plus_plan n (Some (plus_form x)) (tree_and t ts) = Some (plan n leaning (x ∷ each x ts))
plus_plan n _ _ = None

-- a list under a generated rule
abbrev pub list_plan : ProductionTable → Name → Option Form → WrittenTrees → Option TreePlan
list_plan P n (Some (group_form ss)) ts = Some (plan n (flat 0) ss)
list_plan P n (Some (star_form m)) no_trees = Some (plan n (flat 0) [])
list_plan P n (Some (star_form m)) (tree_and t ts) = plan_under n 1 (plus_plan m (form_of (P m)) (tree_and t ts))
list_plan P n (Some (plus_form x)) ts = plus_plan n (Some (plus_form x)) ts
list_plan P n (Some (question_form x)) no_trees = Some (plan n (flat 1) [])
list_plan P n (Some (question_form x)) (tree_and t ts) = Some (plan n (flat 0) (x ∷ []))
list_plan P n (Some (times_form ss)) ts = Some (plan n (flat 0) ss)
list_plan P n _ ts = None

-- nothing, under a generated rule
abbrev pub nothing_plan : Name → Option Form → Option TreePlan
nothing_plan n (Some ahead_form) = Some (plan n (flat 0) [])
nothing_plan n (Some behind_form) = Some (plan n (flat 0) [])
nothing_plan n _ = None

-- ---- nodes: the alternative's own production, else a step to the level below

abbrev pub is_written : Name → ℕ → Origin → Bool
is_written m k (written n j) = bytes_eq n m && nat_eq j k
is_written m k _ = false

abbrev pub is_step : Origin → Bool
is_step level_step = true
is_step _ = false

abbrev pub own_plan : Name → Name → ℕ → ℕ → List Production → Option TreePlan
own_plan n m k i [] = None
own_plan n m k i (q ∷ qs) = if is_written m k q.origin then Some (plan n (flat i) q.symbols) else own_plan n m k (suc i) qs

abbrev pub step_to : Name → ℕ → Bool → List LoweredSymbol → (Name → Option TreePlan) → Option TreePlan → Option TreePlan
step_to n i true (nonterminal_symbol m ∷ []) below rest = plan_under n i (below m)
step_to n i _ _ below rest = rest

abbrev pub step : Name → (Name → Option TreePlan) → ℕ → List Production → Option TreePlan
step n below i [] = None
step n below i (q ∷ qs) = step_to n i (is_step q.origin) q.symbols below (step n below (suc i) qs)

abbrev pub or_plan : Option TreePlan → Option TreePlan → Option TreePlan
or_plan None q = q
or_plan (Some p) q = Some p

-- steps are followed as often as the fuel says
abbrev pub node_plan : ProductionTable → ℕ → Name → Name → ℕ → Option TreePlan
node_plan P zero n m k = own_plan n m k 0 (P n)
node_plan P (suc fuel) n m k = or_plan (own_plan n m k 0 (P n)) (step n (λ c. node_plan P fuel c m k) 0 (P n))

-- ---- trees

abbrev pub list_at : ProductionTable → LoweredSymbol → WrittenTrees → Option TreePlan
list_at P (terminal_symbol a) ts = None
list_at P (nonterminal_symbol n) ts = fitting ts (list_plan P n (form_of (P n)) ts)

abbrev pub nothing_at : ProductionTable → LoweredSymbol → Option TreePlan
nothing_at P (terminal_symbol a) = None
nothing_at P (nonterminal_symbol n) = nothing_plan n (form_of (P n))

abbrev pub node_at : ProductionTable → ℕ → LoweredSymbol → Name → ℕ → WrittenTrees → Option TreePlan
node_at P fuel (terminal_symbol a) m k ts = None
node_at P fuel (nonterminal_symbol n) m k ts = fitting ts (node_plan P fuel n m k)

-- More steps than that no rule has: levels are numbers of 32 bits.
unfoldable pub most_steps : ℕ
most_steps = 4294967295

-- ---- the code's own words

-- an own production as code hands it out
abbrev pub own_view : Name → ℕ × Bor (List Symbol) → TreePlan
own_view n q = plan n (flat q.0) (symbols_view q.1.now)

-- the name that a step leads to
abbrev pub lower_of : Bool → List LoweredSymbol → Option Name
lower_of true (nonterminal_symbol m ∷ []) = Some m
lower_of _ _ = None

-- the index of the first step, and the name below it
abbrev pub first_to : ℕ → Option Name → Option (ℕ × Name) → Option (ℕ × Name)
first_to i None rest = rest
first_to i (Some m) rest = Some (i, m)

abbrev pub first_step : ℕ → List Production → Option (ℕ × Name)
first_step i [] = None
first_step i (q ∷ qs) = first_to i (lower_of (is_step q.origin) q.symbols) (first_step (suc i) qs)

-- a step as code hands it out
abbrev pub step_view : ℕ × Bor NonterminalString → ℕ × Name
step_view s = (s.0, s.1.now.0)

abbrev pub step_pair : NonterminalString × ℕ → Name × ℕ
step_pair s = (s.0.0, s.1)

-- a way as code hands it out: its innermost step is the first
abbrev pub way_view : Way → TreePlan
way_view w = record {
  steps = reverse (map step_pair w.steps.items);
  name = w.name.0;
  shape = flat w.place;
  wanted = symbols_view w.symbols.now;
}

-- a first step, and what is below it
abbrev pub by_step : Name → (Name → Option TreePlan) → Option (ℕ × Name) → Option TreePlan
by_step n below None = None
by_step n below (Some s) = plan_under n s.0 (below s.1)
