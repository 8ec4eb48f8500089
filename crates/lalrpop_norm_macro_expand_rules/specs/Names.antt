-- The names that a grammar declares.
use Rattle.std.specs.Prelude.{ℕ, Bool, ◌||◌, List, [], ◌∷◌, bytes_eq}
use Rattle.std.specs.List.{list_any}
use Rattle.lalrpop_norm_tree.specs.Items.{ItemData, match_item, extern_item, intern_item, rule_item, use_item}

abbrev pub is_declared_name : List (List ℕ) → List ℕ → Bool
is_declared_name names t = list_any (bytes_eq t) names

-- ---- internal definitions

-- the names that an item declares
abbrev pub item_names : ItemData → List (List ℕ)
item_names (rule_item r) = r.name.0 ∷ []
item_names (match_item m) = []
item_names (extern_item t) = []
item_names (intern_item t) = []
item_names (use_item u) = []

-- what is declared, once these are also declared
abbrev pub with_names : (List ℕ → Bool) → List (List ℕ) → List ℕ → Bool
with_names declared names t = is_declared_name names t || declared t
