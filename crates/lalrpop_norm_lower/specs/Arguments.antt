-- The arguments of an action code: which symbols give it values, and under which names. All of it by indices, which count
-- from 0. How they are put into the action code is `IsFilled`.
use Rattle.std.specs.Prelude.{ℕ, Bool, true, List, [], ◌∷◌, length, map, filter, take}
use Rattle.std.specs.Prelude.{Option, option_map, unwrap_or, if◌then◌else◌, codes}
use Rattle.std.specs.List.{list_any, enumerate_from}
use Rattle.lalrpop_norm_tree.specs.Symbols.{ArgumentPattern, one_name, several, Kind, Part, at, Parts, no_parts}
use Rattle.lalrpop_norm_tree.specs.Symbols.{part_and}
use Rattle.lalrpop_norm_tree.specs.Accessors.{binding_of}
use Rattle.lalrpop_norm_tree.specs.SymbolTexts.{tuple_text}
use Rattle.lalrpop_norm_model.specs.MadeRules.{names_value}
use Rattle.lalrpop_norm_common.specs.Values.{is_chosen}
use Rattle.lalrpop_norm_lower.specs.Sources.{source_name, plain_name}
pub use Rattle.lalrpop_norm_lower_steps.specs.Filled.{in_slots, IsFilled}

-- the symbols of an alternative
abbrev pub part_list : Parts → List Part
part_list no_parts = []
part_list (part_and p ps) = p ∷ part_list ps

-- ---- sources

-- the pattern that a named or tuple symbol is written with
abbrev pub kind_pattern : Kind → Option ArgumentPattern
kind_pattern k = option_map (λ b. b.0) (binding_of k)

abbrev pub written_pattern : Part → Option ArgumentPattern
written_pattern (at s k) = kind_pattern k

-- which of the symbols are sources: the named and tuple ones if there are any, else the selected ones if there are any, else all
abbrev pub is_source_of : List Part → Part → Bool
is_source_of ps p =
    if list_any names_value ps then names_value p
    else (if list_any is_chosen ps then is_chosen p else true)

-- ---- patterns and names

-- how many sources are before index i
abbrev pub sources_before : List Part → ℕ → ℕ
sources_before ps i = length (filter (is_source_of ps) (take i ps))

-- the pattern at index i: a source's own, or its number behind the prefix, and `_` for any other symbol
abbrev pub pattern_at_place : List ℕ → List Part → ℕ → Part → ArgumentPattern
pattern_at_place prefix ps i p =
    if is_source_of ps p then unwrap_or (written_pattern p) (plain_name (source_name prefix (sources_before ps i)))
    else plain_name (codes "_")

abbrev pub patterns : List ℕ → List Part → List ArgumentPattern
patterns prefix ps = map (λ e. pattern_at_place prefix ps e.0 e.1) (enumerate_from 0 ps)

-- the name that a pattern gives: without `mut`, and the text of a tuple
abbrev pub name_given : ArgumentPattern → List ℕ
name_given (one_name n) = n.name
name_given (several ns) = tuple_text ns

-- the names of the sources, in order
abbrev pub names : List ℕ → List Part → List (List ℕ)
names prefix ps =
    map (λ e. name_given (pattern_at_place prefix ps e.0 e.1)) (filter (λ e. is_source_of ps e.1) (enumerate_from 0 ps))
