-- Names and their indices (`number`).
use Rattle.std.specs.Prelude.{◌≡◌, ◌++◌, ℕ, List, [], ◌∷◌, Option, bytes_eq}
use Rattle.std.specs.List.{position}
use Rattle.std.specs.HashMap.{get, keys}
use Rattle.lalrpop_norm_names.specs.declared.table.Names.{Names}

-- the first index of a name in a list of names, from 0
abbrev pub first_place : List (List ℕ) → List ℕ → Option ℕ
first_place names name = position (λ stands. bytes_eq stands name) names

-- the index that a name has in a table: its index among few names, or the entry under it
abbrev pub number_by : List (List ℕ) → Option ℕ → List ℕ → Option ℕ
number_by [] number name = number
number_by (f ∷ fs) number name = first_place (f ∷ fs) name

abbrev pub number_in_table : Names → List ℕ → Option ℕ
number_in_table table name = number_by table.few.items (get bytes_eq table.many name) name

-- the names that may have indices: few ones are listed, many are keys
abbrev pub names_looked_up : Names → List (List ℕ)
names_looked_up table = table.few.items ++ keys table.many

-- each name has its first index in the list, and a name that is not in the list has none
abbrev pub IsNumbering : List (List ℕ) → Names → Type 0
IsNumbering names table = (name : List ℕ) → number_in_table table name ≡ first_place names name
