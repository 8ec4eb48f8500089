-- Global definitions as the code keeps them: a table that says of names what they are, to which one after the other is added.
use Rattle.std.specs.Prelude.{ℕ, Bool, List, [], ◌∷◌, ◌++◌, map, flat_map, Option, Some, option_map, is_some}
use Rattle.std.specs.Prelude.{bytes_eq, if◌then◌else◌}
use Rattle.std.specs.Ordering.{nat_cmp}
use Rattle.std.specs.Cmp.Lexicographic.{slice_cmp}
use Rattle.std.specs.HashMap.{HashMap, get}
use Rattle.std.specs.BTreeSet.{BTreeSet, contains}
use Rattle.lalrpop_norm_names.specs.declared.seeded.Seeded.{Seeded}
use Rattle.lalrpop_norm_tree_names.specs.declared.names.Span.{Span}
use Rattle.shared_text.specs.declared.atom.Atom.{Atom}
use Rattle.lalrpop_norm_tree.specs.Items.{RuleData, ConversionData, ItemData, match_item, extern_item, intern_item, rule_item}
use Rattle.lalrpop_norm_tree.specs.Items.{use_item}
use Rattle.lalrpop_norm_faults.specs.declared.kind.FaultKind.TheVariants.{NameDeclaredTwice}
use Rattle.lalrpop_norm_faults.specs.Faults.{Fault, fault_if}
use Rattle.lalrpop_norm_model.specs.Scopes.{Definition, a_rule, a_macro, a_terminal, Global, Sense, an_argument, a_global}
use Rattle.lalrpop_norm_model.specs.Scopes.{definition_of, is_argument, bare_global, rule_globals, conversion_globals, match_globals}
use Rattle.lalrpop_norm_model.specs.Scopes.{resolved_alternative}
use Rattle.lalrpop_norm_resolve.specs.declared.resolve.Def.{Def}
use Rattle.lalrpop_norm_resolve.specs.declared.resolve.Def.TheVariants.{Terminal, Rule, Macro, MacroArg}
use Rattle.lalrpop_norm_resolve.specs.NameFaults.{repeated_faults, repeated_argument_faults, alternative_name_faults}
use Rattle.lalrpop_norm_resolve.specs.NameFaults.{item_name_faults}

abbrev pub sense_view : Def → Sense
sense_view Terminal = a_global a_terminal
sense_view Rule = a_global a_rule
sense_view (Macro n) = a_global (a_macro n)
sense_view MacroArg = an_argument

-- the entry of a name, if there is one
abbrev pub sense_seen : Option Def → Option Sense
sense_seen d = option_map sense_view d

abbrev pub def_of : Definition → Def
def_of a_rule = Rule
def_of (a_macro n) = Macro n
def_of a_terminal = Terminal

-- what a table has of each name
abbrev pub NameRows : Type 0
NameRows = List ℕ → Option Def

abbrev pub GlobalMap : Type 0
GlobalMap = HashMap Atom Def Seeded

unfoldable pub rows_of : GlobalMap → NameRows
rows_of m name = get bytes_eq m name

-- what a name means by the table, and by a test of whether it is an argument's
abbrev pub sense_beside : GlobalMap → (List ℕ → Bool) → List ℕ → Option Sense
sense_beside m is_own name = if is_own name then Some an_argument else sense_seen (rows_of m name)

-- what a name means by the table and the names of the arguments
unfoldable pub sense_in : GlobalMap → BTreeSet Atom → List ℕ → Option Sense
sense_in m own = sense_beside m (contains (slice_cmp nat_cmp) own)

-- a table with one more row
unfoldable pub with_def : NameRows → List ℕ → Def → NameRows
with_def rows name d asked = if bytes_eq name asked then Some d else rows asked

abbrev pub with_all : NameRows → List Global → NameRows
with_all rows [] = rows
with_all rows (d ∷ ds) = with_all (with_def rows d.name (def_of d.definition)) ds

-- what a table of definitions, and of those before them, has of each name: the first of its own
abbrev pub all_rows : List Global → List Global → NameRows
all_rows before ds name = option_map def_of (definition_of (before ++ ds) name)

-- F25 where the table has a row of that name
unfoldable pub row_faults : NameRows → List ℕ → Span → List Fault
row_faults rows name s = fault_if (is_some (rows name)) (NameDeclaredTwice, s)

abbrev pub rows_faults : NameRows → List Global → List Fault
rows_faults rows [] = []
rows_faults rows (d ∷ ds) = row_faults rows d.name d.span ++ rows_faults (with_def rows d.name (def_of d.definition)) ds

-- the bare terminal of a conversion
abbrev pub conversion_global : ConversionData → List Global
conversion_global c = bare_global c.from c.span

-- the global definitions of some items
abbrev pub items_globals : List ItemData → List Global
items_globals is = flat_map rule_globals is ++ (flat_map conversion_globals is ++ flat_map match_globals is)

-- the faults of names in some items
abbrev pub names_faults : List ItemData → List Fault
names_faults is = repeated_faults [] (items_globals is) ++ flat_map (item_name_faults (items_globals is)) is

-- ---- rules and items by a table

abbrev pub rule_faults_in : GlobalMap → RuleData → List Fault
rule_faults_in m r =
    repeated_argument_faults r.span r.args ++ flat_map (alternative_name_faults (sense_beside m (is_argument r.args))) r.alternatives

abbrev pub resolved_rule_in : GlobalMap → RuleData → RuleData
resolved_rule_in m r = record r { alternatives = map (resolved_alternative (sense_beside m (is_argument r.args))) r.alternatives }

unfoldable pub item_faults_in : GlobalMap → ItemData → List Fault
item_faults_in m (rule_item r) = rule_faults_in m r
item_faults_in m (match_item t) = []
item_faults_in m (extern_item t) = []
item_faults_in m (intern_item t) = []
item_faults_in m (use_item u) = []

unfoldable pub resolved_item_in : GlobalMap → ItemData → ItemData
resolved_item_in m (rule_item r) = rule_item (resolved_rule_in m r)
resolved_item_in m (match_item t) = match_item t
resolved_item_in m (extern_item t) = extern_item t
resolved_item_in m (intern_item t) = intern_item t
resolved_item_in m (use_item u) = use_item u
