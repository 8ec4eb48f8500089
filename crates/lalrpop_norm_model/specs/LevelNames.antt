-- When the levels of a grammar can become rules of their own: what must hold of its names. And the origins of what is in the
-- grammar with levels.
use Rattle.std.specs.Prelude.{◌≡◌, ℕ, zero, suc, Bool, false, List, [], ◌∷◌, Option, Some, None, slice_get, bytes_eq}
use Rattle.std.specs.Prelude.{if◌then◌else◌}
use Rattle.lalrpop_norm_tree.specs.Items.{RuleData, GrammarData}
use Rattle.lalrpop_norm_theory.specs.Symbols.{Name, ClosedSymbol, reference}
use Rattle.lalrpop_norm_theory.specs.Meaning.{Meaning}
use Rattle.lalrpop_norm_theory.specs.LoweredTrees.{Origin, written}
use Rattle.lalrpop_norm_theory.specs.Clauses.{Clause, clauses}
use Rattle.lalrpop_norm_theory.specs.Leveled.{level_reference}
use Rattle.lalrpop_norm_theory.specs.Rounds.{In, IsDistinct}
use Rattle.lalrpop_norm_model.specs.Enabled.{all_places}
use Rattle.lalrpop_norm_model.specs.Scopes.{resolved_grammar}
use Rattle.lalrpop_norm_model.specs.Levels.{with_levels}
use Rattle.lalrpop_norm_model.specs.Stated.{HasLevel}
use Rattle.lalrpop_norm_model.specs.WrittenRules.{WrittenRule, rule_named, leveled_rules}
use Rattle.lalrpop_norm_model.specs.Grammars.{ConditionValue, is_nil, meaning, references}
use Rattle.lalrpop_norm_model.specs.Scoped.{NamesAreScoped}
use Rattle.lalrpop_norm_model.specs.ClosedTexts.{level_names}
use Rattle.lalrpop_norm_model.specs.LevelRules.{leveled_grammar}
use Rattle.lalrpop_norm_model.specs.PlainRules.{all_rules}
use Rattle.lalrpop_norm_model.specs.Expanded.{rule_names}

pub record HasLevelNames (g : GrammarData) : Type 0 where
  -- each name is resolved, and has a meaning
  pub resolved : resolved_grammar g ≡ g
  pub names : NamesAreScoped (leveled_rules g)
  -- no two rules share a name, the rules of levels included
  pub no_clash : IsDistinct (rule_names (leveled_grammar g))
  -- a macro has no two levels
  pub macros : (d : RuleData) → In d (all_rules g) → is_nil d.args ≡ false → (l m : ℕ) →
      HasLevel (with_levels (all_places d)) l → HasLevel (with_levels (all_places d)) m → l ≡ m

-- ---- origins

abbrev pub is_level_named : (Name → ℕ → Name) → Name → ClosedSymbol → Bool
is_level_named l m (reference n b) = bytes_eq (level_reference l n b) m
is_level_named l m _ = false

abbrev pub clause_origin : Name → ℕ → Option Clause → Origin
clause_origin m p None = written m p
clause_origin m p (Some c) = c.origin

-- the origin of alternative p of the rule m: that of clause p of the reference whose level has that name; of any other rule it
-- is the given one
abbrev pub origin_among : (Name → ℕ → Origin) → Meaning → (Name → ℕ → Name) → List ClosedSymbol → Name → ℕ → Origin
origin_among other M l [] m p = other m p
origin_among other M l (g ∷ gs) m p =
    if is_level_named l m g then clause_origin m p (slice_get (clauses M g) p) else origin_among other M l gs m p

-- in a grammar all of whose alternatives count: any other rule keeps its name and numbers
abbrev pub level_origin : ConditionValue → GrammarData → Name → ℕ → Origin
level_origin value g =
    origin_among written (meaning value (leveled_rules g)) (level_names (leveled_rules g)) (references (leveled_rules g))

-- the index of what is number j of that which is there
abbrev pub place_in : {A : Type 0} → List (Option A) → ℕ → ℕ
place_in [] j = j
place_in (None ∷ ps) j = suc (place_in ps j)
place_in (Some a ∷ ps) zero = 0
place_in (Some a ∷ ps) (suc j) = suc (place_in ps j)

abbrev pub place_of : Option WrittenRule → ℕ → ℕ
place_of None j = j
place_of (Some r) j = place_in r.places j

-- in written rules: any other rule keeps its name, and number j of it is at its index
abbrev pub written_origin : ConditionValue → List WrittenRule → Name → ℕ → Origin
written_origin value rs =
    origin_among (λ m j. written m (place_of (rule_named rs m) j)) (meaning value rs) (level_names rs) (references rs)
