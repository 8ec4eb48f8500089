-- Lowered grammars with the same parts.
use Rattle.std.proofs.Common.{◌≡◌, ℕ, Bool, List, Option}
use Rattle.lalrpop_norm_tree_parts.specs.declared.lowered.Algorithm.{Algorithm}
use Rattle.lalrpop_norm_tree_names.specs.declared.names.NonterminalString.{NonterminalString}
use Rattle.lalrpop_norm_tree_names.specs.declared.names.TerminalString.{TerminalString}
use Rattle.lalrpop_norm_tree_names.specs.declared.names.TypeParameter.{TypeParameter}
use Rattle.lalrpop_norm_tree_patterns.specs.Patterns.{PatternData}
use Rattle.lalrpop_norm_tree_parts.specs.Reprs.{ReprData, LoweredClause}
use Rattle.lalrpop_norm_tree.specs.Items.{InternTokenData}
use Rattle.lalrpop_norm_repr.specs.Actions.{ActionData}
use Rattle.lalrpop_norm_repr.specs.Lowered.{LoweredParameter, TerminalTable, LoweredGrammar}
use Rattle.lalrpop_norm_repr.specs.Productions.{EntryData}
use Rattle.lalrpop_norm_repr.specs.Tables.{TypeTable}

pub same_grammars : (b : Bool) (p p-2 : List ℕ) (a a-2 : Algorithm) (s s-2 : List (NonterminalString × NonterminalString)) (u u-2 : List (List ℕ)) (ts ts-2 : List TypeParameter) (ps ps-2 : List LoweredParameter) (ws ws-2 : List LoweredClause) (i i-2 : Option InternTokenData) (ds ds-2 : List ActionData) (t t-2 : TerminalTable) (ns ns-2 : List (NonterminalString × EntryData)) (cs cs-2 : List (TerminalString × PatternData ReprData)) (y y-2 : TypeTable) (m m-2 : List (List ℕ))
    → p ≡ p-2 → a ≡ a-2 → s ≡ s-2 → u ≡ u-2 → ts ≡ ts-2 → ps ≡ ps-2 → ws ≡ ws-2 → i ≡ i-2 → ds ≡ ds-2 → t ≡ t-2 → ns ≡ ns-2 → cs ≡ cs-2 → y ≡ y-2 → m ≡ m-2
    → (let g : LoweredGrammar = record { prefix = p; algorithm = a; uses_error_recovery = b; start_nonterminals = s; uses = u; type_parameters = ts; parameters = ps; where_clauses = ws; intern_token = i; actions = ds; terminals = t; nonterminals = ns; conversions = cs; types = y; module_attributes = m } in g) ≡ record { prefix = p-2; algorithm = a-2; uses_error_recovery = b; start_nonterminals = s-2; uses = u-2; type_parameters = ts-2; parameters = ps-2; where_clauses = ws-2; intern_token = i-2; actions = ds-2; terminals = t-2; nonterminals = ns-2; conversions = cs-2; types = y-2; module_attributes = m-2 }
same_grammars b p p-2 a a-2 s s-2 u u-2 ts ts-2 ps ps-2 ws ws-2 i i-2 ds ds-2 t t-2 ns ns-2 cs cs-2 y y-2 m m-2 e0 e1 e2 e3 e4 e5 e6 e7 e8 e9 e10 e11 e12 e13 = cc
