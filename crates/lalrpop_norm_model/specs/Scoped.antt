-- Rules in which each name has a meaning of the right kind: what holds if no name fault holds.
use Rattle.std.specs.Prelude.{◌≡◌, ◌<◌, Bool, true, false, ◌&&◌, ◌||◌, not, List, [], ◌∷◌, length, Option}
use Rattle.std.specs.Prelude.{Some, None}
use Rattle.lalrpop_norm_tree_names.specs.declared.names.NonterminalString.{NonterminalString}
use Rattle.lalrpop_norm_tree.specs.Symbols.{Kind, Part, Parts, ambiguous_id, nonterminal, call, no_parts, part_and}
use Rattle.lalrpop_norm_theory.specs.Rounds.{In}
use Rattle.lalrpop_norm_tree.specs.Traversal.{gathered_kind, gathered_part, gathered_parts}
use Rattle.lalrpop_norm_model.specs.Scopes.{is_argument}
use Rattle.lalrpop_norm_model.specs.Levels.{Leveled, levels_of}
use Rattle.lalrpop_norm_model.specs.WrittenRules.{WrittenRule, rule_named}
use Rattle.lalrpop_norm_model.specs.Grammars.{has_arguments}

abbrev pub is_rule : Option WrittenRule → Bool
is_rule None = false
is_rule (Some r) = not (has_arguments r)

-- one symbol for each argument
abbrev pub takes : List NonterminalString → Parts → Bool
takes [] no_parts = true
takes (a ∷ rest) (part_and p ps) = takes rest ps
takes _ _ = false

abbrev pub is_macro_for : Parts → Option WrittenRule → Bool
is_macro_for ps None = false
is_macro_for ps (Some r) = has_arguments r && takes r.args ps

-- Each name in a symbol is one of the arguments or a rule without arguments, each call names a macro with that many arguments,
-- and no identifier is left open.
abbrev pub is_scoped_with : List WrittenRule → List NonterminalString → Kind → Bool → Bool
is_scoped_with rs args (nonterminal n) inside = is_argument args n || is_rule (rule_named rs n)
is_scoped_with rs args (call n ps) inside = not (is_argument args n) && (is_macro_for ps (rule_named rs n) && inside)
is_scoped_with rs args (ambiguous_id a) inside = false
is_scoped_with rs args _ inside = inside

abbrev pub is_scoped_kind : List WrittenRule → List NonterminalString → Kind → Bool
is_scoped_kind rs args = gathered_kind (is_scoped_with rs args) true (λ x y. x && y)

abbrev pub is_scoped : List WrittenRule → List NonterminalString → Part → Bool
is_scoped rs args = gathered_part (is_scoped_with rs args) true (λ x y. x && y)

abbrev pub are_scoped : List WrittenRule → List NonterminalString → Parts → Bool
are_scoped rs args = gathered_parts (is_scoped_with rs args) true (λ x y. x && y)

-- the names in each alternative of each rule have a meaning
abbrev pub NamesAreScoped : List WrittenRule → Type 0
NamesAreScoped rs =
    (r : WrittenRule) (a : Leveled) → In r rs → In (Some a) r.places → are_scoped rs r.args a.alternative.parts ≡ true

-- rules whose names have a meaning, and whose levels are there
pub record IsScoped (rs : List WrittenRule) : Type 0 where
  pub names : NamesAreScoped rs
  -- a rule with levels has one
  pub some_level : (r : WrittenRule) → In r rs → r.has_levels ≡ true → 0 < length (levels_of r.places)
