-- Tables with the same parts.
use Rattle.std.proofs.Common.{◌≡◌, List, Option}
use Rattle.lalrpop_norm_tree_names.specs.declared.names.NonterminalString.{NonterminalString}
use Rattle.lalrpop_norm_tree_names.specs.declared.names.TerminalString.{TerminalString}
use Rattle.lalrpop_norm_tree_parts.specs.Reprs.{ReprData}
use Rattle.lalrpop_norm_repr.specs.Tables.{TypeTable}

abbrev pub table_of : ReprData → Option ReprData → Option ReprData → List (TerminalString × ReprData) → List (NonterminalString × ReprData) → ReprData → ReprData → TypeTable
table_of t l e ts ns p r = record { token = t; location = l; error = e; terminals = ts; nonterminals = ns; parse_error = p; recovery = r }

pub same_tables : (t u : ReprData) (l m e f : Option ReprData) (ts us : List (TerminalString × ReprData)) (ns os : List (NonterminalString × ReprData)) (p q r s : ReprData)
    → t ≡ u → l ≡ m → e ≡ f → ts ≡ us → ns ≡ os → p ≡ q → r ≡ s → table_of t l e ts ns p r ≡ table_of u m f us os q s
same_tables t u l m e f ts us ns os p q r s a b c d g h i = cc
