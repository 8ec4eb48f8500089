-- Recursive occurrences (`own`): the references of a rule to itself, and the bound of each.
use Rattle.std.specs.Prelude.{ℕ, zero, suc, ◌+◌, Bool, List, Option, unwrap_or, if◌then◌else◌}
use Rattle.lalrpop_norm_tree.specs.Symbols.{Kind, Part, Parts, nonterminal}
use Rattle.lalrpop_norm_tree.specs.Traversal.{gathered_kind, gathered_part, gathered_parts}
use Rattle.lalrpop_norm_model.specs.Levels.{Side, left, right, neither, every}

-- How many recursive occurrences a symbol holds, also in macro arguments, groups, repeats and wrapped symbols; `own` is the test
-- of the name.
abbrev pub own_or_inside : (List ℕ → Bool) → Kind → ℕ → ℕ
own_or_inside own (nonterminal n) inside = if own n then 1 else 0
own_or_inside own _ inside = inside

abbrev pub count_kind : (List ℕ → Bool) → Kind → ℕ
count_kind own = gathered_kind (own_or_inside own) 0 (λ m n. m + n)

abbrev pub count_part : (List ℕ → Bool) → Part → ℕ
count_part own = gathered_part (own_or_inside own) 0 (λ m n. m + n)

abbrev pub count_parts : (List ℕ → Bool) → Parts → ℕ
count_parts own = gathered_parts (own_or_inside own) 0 (λ m n. m + n)

-- of those numbered from 0, the first has the current level, any other the previous one
abbrev pub first_current : ℕ → ℕ → ℕ → ℕ
first_current current previous zero = current
first_current current previous (suc k) = previous

-- The bound of a recursive occurrence by its alternative's associativity, where there are `before` recursive occurrences before
-- it and `after` behind it: `left` gives the current level to the first, `right` to the last, `none` to none of them and `all` to
-- each.
abbrev pub bound_at : Side → ℕ → ℕ → ℕ → ℕ → ℕ
bound_at left current previous before after = first_current current previous before
bound_at right current previous before after = first_current current previous after
bound_at neither current previous before after = previous
bound_at every current previous before after = current

-- The bound on a level that may have no previous one: on the lowest level any associativity but `all` is rejected, and the bound
-- is its own level.
abbrev pub own_bound : Side → ℕ → Option ℕ → ℕ → ℕ → ℕ
own_bound side current previous before after = bound_at side current (unwrap_or previous current) before after
