-- The type table as plain data: its rows in the order of their keys.
use Rattle.std.specs.Prelude.{ℕ, false, List, [], ◌∷◌, ◌++◌, map, Option, Some, None, codes, bytes_eq, unwrap_or}
use Rattle.std.specs.Prelude.{if◌then◌else◌}
use Rattle.std.specs.BTreeMap.{BTreeMap}
use Rattle.std.specs.Prelude.{option_map}
use Rattle.lalrpop_norm_tree_names.specs.declared.names.NonterminalString.{NonterminalString}
use Rattle.lalrpop_norm_tree_names.specs.declared.names.TerminalString.{TerminalString}
use Rattle.lalrpop_norm_tree_names.specs.declared.names.TerminalString.TheVariants as terminal
pub use Rattle.lalrpop_norm_tree_names.specs.Terminals.{same_literal, same_terminal}
use Rattle.lalrpop_norm_tree_parts.specs.Reprs.{ReprData, tuple, nominal, no_reprs, repr_and, repr_view, unit_type, static_str}
use Rattle.lalrpop_norm_repr.specs.declared.types.Types.{Types}

-- the rows of a map, each value seen through f
abbrev pub rows : {K X V : Type 0} → (X → V) → BTreeMap K X → List (K × V)
rows f m = map (λ e. (e.0, f e.1)) m.entries

-- the value at the name
abbrev pub found : {V : Type 0} → NonterminalString → List (NonterminalString × V) → Option V
found name [] = None
found name (r ∷ rs) = if bytes_eq name.0 r.0.0 then Some r.1 else found name rs

-- the value at the terminal
abbrev pub found_terminal : {V : Type 0} → TerminalString → List (TerminalString × V) → Option V
found_terminal t [] = None
found_terminal t (r ∷ rs) = if same_terminal t r.0 then Some r.1 else found_terminal t rs

pub record TypeTable : Type 0 where
  -- the type of a token
  pub token : ReprData
  -- the type of a location, if one is declared
  pub location : Option ReprData
  -- the type of the user's errors, if one is declared
  pub error : Option ReprData
  pub terminals : List (TerminalString × ReprData)
  pub nonterminals : List (NonterminalString × ReprData)
  pub parse_error : ReprData
  pub recovery : ReprData

abbrev pub type_table : Types → TypeTable
type_table t = record {
  token = repr_view t.terminal_token_type;
  location = option_map repr_view t.terminal_loc_type;
  error = option_map repr_view t.error_type;
  terminals = rows repr_view t.terminal_types;
  nonterminals = rows repr_view t.nonterminal_types;
  parse_error = repr_view t.parse_error_type;
  recovery = repr_view t.error_recovery_type;
}

-- the type of a nonterminal
abbrev pub type_of : NonterminalString → TypeTable → Option ReprData
type_of name t = found name t.nonterminals

-- the type that is listed for a terminal
abbrev pub listed_type : TerminalString → TypeTable → Option ReprData
listed_type terminal t = found_terminal terminal t.terminals

-- the type of a terminal's token
abbrev pub type_of_terminal : TerminalString → TypeTable → ReprData
type_of_terminal terminal t = unwrap_or (listed_type terminal t) t.token

-- the type of a location, the unit type if none is declared
abbrev pub location_type : TypeTable → ReprData
location_type t = unwrap_or t.location unit_type

-- the type of the user's errors, `&'static str` if none is declared
abbrev pub user_error_type : TypeTable → ReprData
user_error_type t = unwrap_or t.error static_str

-- `(L, T, L)`
abbrev pub spanned : ReprData → ReprData → ReprData
spanned location t = tuple (repr_and location (repr_and t (repr_and location no_reprs)))

-- `{prefix}lalrpop_util::Name<L, T, E>`
abbrev pub util_type : List ℕ → List ℕ → ReprData → ReprData → ReprData → ReprData
util_type prefix name location token error =
    nominal (record {
      absolute = false;
      ids = (prefix ++ codes "lalrpop_util") ∷ name
          ∷ [];
    }) (repr_and location (repr_and token (repr_and error no_reprs)))

-- a table that lists only the error terminal
abbrev pub new_table : List ℕ → Option ReprData → Option ReprData → ReprData → TypeTable
new_table prefix location error token =
    let l = unwrap_or location unit_type in
    let e = unwrap_or error static_str in
    let recovery = util_type prefix (codes "ErrorRecovery") l token e in
    record {
      token = token;
      location = location;
      error = error;
      terminals = (terminal.Error, recovery) ∷ [];
      nonterminals = [];
      parse_error = util_type prefix (codes "ParseError") l token e;
      recovery = recovery;
    }
