-- The orders of names and of terminals, in which tables list them.
use Rattle.std.specs.Cmp.Lexicographic.{slice_cmp}
use Rattle.std.specs.declared.cmp.Ordering.{Ordering}
use Rattle.std.specs.Ordering.{nat_cmp}
use Rattle.lalrpop_norm_tree_names.specs.declared.names.NonterminalString.{NonterminalString}
pub use Rattle.lalrpop_norm_tree_names.specs.Terminals.{literal_cmp, terminal_cmp}

abbrev pub name_cmp : NonterminalString → NonterminalString → Ordering
name_cmp a b = slice_cmp nat_cmp a.0 b.0
