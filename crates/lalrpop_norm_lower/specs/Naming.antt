-- The names and patterns of sources, counted along the symbols.
use Rattle.std.specs.Prelude.{ℕ, ◌+◌, Bool, true, List, [], ◌∷◌, unwrap_or, if◌then◌else◌, codes}
use Rattle.lalrpop_norm_tree.specs.Symbols.{ArgumentPattern, Part, Parts, no_parts, part_and}
use Rattle.lalrpop_norm_model.specs.MadeRules.{names_value, some_name_value}
use Rattle.lalrpop_norm_common.specs.Values.{is_chosen, has_chosen}
use Rattle.lalrpop_norm_lower.specs.Arguments.{written_pattern, name_given}
use Rattle.lalrpop_norm_lower.specs.Sources.{source_name, plain_name}

-- the named and tuple symbols if there are any, else the selected ones if there are any, else each
abbrev pub is_source : Bool → Bool → Part → Bool
is_source some_named some_chosen p = if some_named then names_value p else (if some_chosen then is_chosen p else true)

-- the pattern of source j: its own, or its number behind the prefix
abbrev pub source_pattern : List ℕ → ℕ → Part → ArgumentPattern
source_pattern prefix j p = unwrap_or (written_pattern p) (plain_name (source_name prefix j))

-- the names of the sources, the first of which has the number j
abbrev pub names_from : List ℕ → Bool → Bool → ℕ → Parts → List (List ℕ)
names_from prefix some_named some_chosen j no_parts = []
names_from prefix some_named some_chosen j (part_and p ps) =
    if is_source some_named some_chosen p then name_given (source_pattern prefix j p)
    ∷ names_from prefix some_named some_chosen (j + 1) ps
    else names_from prefix some_named some_chosen j ps

abbrev pub source_names : List ℕ → Parts → List (List ℕ)
source_names prefix ps = names_from prefix (some_name_value ps) (has_chosen ps) 0 ps

-- the pattern of each source, and `_` for each other symbol
abbrev pub patterns_from : List ℕ → Bool → Bool → ℕ → Parts → List ArgumentPattern
patterns_from prefix some_named some_chosen j no_parts = []
patterns_from prefix some_named some_chosen j (part_and p ps) =
    if is_source some_named some_chosen p then source_pattern prefix j p
    ∷ patterns_from prefix some_named some_chosen (j + 1) ps
    else plain_name (codes "_") ∷ patterns_from prefix some_named some_chosen j ps

abbrev pub argument_patterns : List ℕ → Parts → List ArgumentPattern
argument_patterns prefix ps = patterns_from prefix (some_name_value ps) (has_chosen ps) 0 ps
