-- How the values of the sources of an alternative are named: those symbols whose values its action code gets.
use Rattle.std.specs.Prelude.{ℕ, false, List, ◌++◌, decimal}
use Rattle.lalrpop_norm_tree.specs.Symbols.{ArgumentPattern, one_name}

-- how source j is named: its number behind the prefix
abbrev pub source_name : List ℕ → ℕ → List ℕ
source_name prefix j = prefix ++ decimal j

abbrev pub plain_name : List ℕ → ArgumentPattern
plain_name text = one_name (record { mutable = false; name = text })
