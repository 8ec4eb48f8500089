-- Which rules are visited in a round: those that may take a type there.
use Rattle.std.specs.Prelude.{◌≡◌, ◌<◌, ◌≤◌, ◌⊎◌, ◌==◌, ◌||◌, ℕ, Bool, true, false, List, [], length, Option, Some, None}
use Rattle.std.specs.Prelude.{is_some, slice_get, if◌then◌else◌}
use Rattle.std.specs.Ordering.{nat_cmp}
use Rattle.std.specs.List.{list_any}
use Rattle.std.specs.BTreeMap.{is_at}
use Rattle.std.specs.BTreeSet.{contains}
use Rattle.lalrpop_norm_tree_names.specs.declared.names.TypeParameter.{TypeParameter}
use Rattle.lalrpop_norm_theory.specs.Rounds.{In}
use Rattle.lalrpop_norm_repr.specs.Tables.{TypeTable}
use Rattle.lalrpop_norm_model.specs.TypeRelation.{TypeClause}
use Rattle.lalrpop_norm_tyinfer_steps.specs.declared.needs.Need.{Need}
use Rattle.lalrpop_norm_tyinfer_steps.specs.declared.stops.Stops.{Stops}
use Rattle.lalrpop_norm_tyinfer_steps.specs.declared.waiting.Waiting.{Waiting}
use Rattle.lalrpop_norm_tyinfer_steps.specs.Clauses.{first_in}
use Rattle.lalrpop_norm_tyinfer_steps.specs.Needs.{names_seen, AreRuleNumbers, IsNeedOf}
use Rattle.lalrpop_norm_tyinfer_steps.specs.Stops.{typed_at, Settled, IsStops, GivesType}
use Rattle.lalrpop_norm_tyinfer_steps.specs.TableValues.{type_by_name}
use Rattle.lalrpop_norm_tyinfer_steps.specs.Visits.{Seen, TakesType}

-- ---- the worklist: indices of rules

-- the index is in the queue
abbrev pub is_queued : List ℕ → ℕ → Bool
is_queued ks k = list_any (is_at (nat_cmp k)) ks

-- the worklist has the index
abbrev pub has : Waiting → ℕ → Bool
has p k = is_queued p.queue.items k || contains nat_cmp p.others k

-- the least index
pub record IsLeast (waiting : Waiting) (place : ℕ) : Type 0 where
  pub there : has waiting place ≡ true
  pub least : (k : ℕ) → has waiting k ≡ true → place ≤ k

-- the least index is taken out
pub record TakesLeast (before after : Waiting) (place : ℕ) : Type 0 where
  pub there : has before place ≡ true
  pub least : (k : ℕ) → has before k ≡ true → place ≤ k
  pub rest : (k : ℕ) → has after k ≡ (if place == k then false else has before k)

-- ---- rules on the worklist

-- the visit of the rule changes nothing: it has a type, or its clauses make none
abbrev pub IsQuiet : List TypeParameter → TypeTable → Seen → Type 0
IsQuiet ps tt s = type_by_name tt s.0.name.0 ≡ None → first_in ps tt s.1 ≡ None

-- the rules at other indices than these are quiet
pub record Waits (ps : List TypeParameter) (tt : TypeTable) (ss : List Seen) (waiting : Waiting) : Type 0 where
  pub quiet : (k : ℕ) (s : Seen) → slice_get ss k ≡ Some s → has waiting k ≡ false → IsQuiet ps tt s
  pub within : (k : ℕ) → has waiting k ≡ true → k < length ss

-- Some indices are added to the worklists: those behind the index to that of this round, the others to that of the next.
pub record Wakes (places : List ℕ) (place : ℕ) (now now_after next next_after : Waiting) : Type 0 where
  pub kept_now : (k : ℕ) → has now k ≡ true → has now_after k ≡ true
  pub kept_next : (k : ℕ) → has next k ≡ true → has next_after k ≡ true
  pub behind : (k : ℕ) → In k places → place < k → has now_after k ≡ true
  pub before : (k : ℕ) → In k places → k ≤ place → has next_after k ≡ true
  pub only_now : (k : ℕ) → has now_after k ≡ true → (has now k ≡ true) ⊎ ((place < k) × In k places)
  pub only_next : (k : ℕ) → has next_after k ≡ true → (has next k ≡ true) ⊎ In k places

-- ---- what stops know

-- They know which rules have types, and where each clause stopped.
pub record Watches (ps : List TypeParameter) (tt : TypeTable) (ss : List Seen) (stops : Stops) : Type 0 where
  pub number : List ℕ → Option ℕ
  pub numbers : AreRuleNumbers number (names_seen ss)
  pub sound : IsStops stops
  pub count : length stops.typed.items ≡ length ss
  pub tells : (k : ℕ) (s : Seen) → slice_get ss k ≡ Some s → typed_at stops k ≡ is_some (type_by_name tt s.0.name.0)
  pub only : (n : List ℕ) → number n ≡ None → type_by_name tt n ≡ None
  pub settled : (k : ℕ) (s : Seen) (c : TypeClause) → slice_get ss k ≡ Some s → In c s.1 →
      (n : Need) × IsNeedOf number ps c k n × Settled stops n

-- The rule at the index is visited. If it takes a type, the rules of the clauses that have all types now are ready.
pub record VisitsOne (ps : List TypeParameter) (before after : TypeTable) (s : Seen) (place : ℕ) (stops stops_after : Stops)
    (ready : List ℕ) : Type 0 where
  pub added : Bool
  pub takes : TakesType before after s.0.name.0 (first_in ps before s.1) added
  pub gives : added ≡ true → GivesType stops stops_after place ready
  pub still : added ≡ false → stops_after ≡ stops
  pub none : added ≡ false → ready ≡ []
