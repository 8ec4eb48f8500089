use Rattle.std.proofs.Common.{ap, sym, ◌∙◌, Option, IsSome, subst}
use Rattle.std.specs.Prelude.{option_map}
use Rattle.lalrpop_norm_tree_patterns.specs.Patterns.{PatternData, pattern_view}
use Rattle.lalrpop_norm_tree_parts.specs.Reprs.{repr_view, ReprData}
use Rattle.lalrpop_norm_repr.proofs.TableLemmas.{found_terminal_rows, some_of_map}
use Rattle.lalrpop_norm_repr.proofs.TerminalOrder.{terminal_ties}
use Rattle.lalrpop_norm_repr.proofs.whole.Grammar.pattern.Goals as goal

pub index-requires : goal.index-requires
index-requires c =
    some_of_map (pattern_view repr_view) _ (subst (λ (o : Option (PatternData ReprData)). IsSome o) (sym (found_terminal_rows (pattern_view repr_view) c.args.terminal.now _ (λ q. terminal_ties c.args.terminal.now q) c.args.self.now.conversions.entries)) c.requires)

pub returns : goal.returns
returns c =
    ap (option_map (pattern_view repr_view)) (sym c.index.ensures) ∙ found_terminal_rows (pattern_view repr_view) c.args.terminal.now _ (λ q. terminal_ties c.args.terminal.now q) c.args.self.now.conversions.entries
