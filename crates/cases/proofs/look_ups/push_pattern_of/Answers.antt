use Rattle.std.proofs.Common.{◌∙◌, sym, subst, Option, IsSome}
use Rattle.lalrpop_norm_tree_patterns.specs.Patterns.{PatternData, pattern_view}
use Rattle.lalrpop_norm_tree_parts.specs.Reprs.{repr_view, ReprData}
use Rattle.lalrpop_norm_repr.proofs.TableLemmas.{found_terminal_rows, some_map}
use Rattle.lalrpop_norm_repr.proofs.TerminalOrder.{terminal_ties}
use Rattle.cases.proofs.look_ups.push_pattern_of.Goals as goal

pub pattern-pattern-requires : goal.pattern-pattern-requires
pattern-pattern-requires c =
    subst (λ (o : Option (PatternData ReprData)). IsSome o)
    (found_terminal_rows (pattern_view repr_view) c.args.terminal.now _ (λ q. terminal_ties c.args.terminal.now q) c.args.lowered.now.conversions.entries)
    (some_map (pattern_view repr_view) _ (sym c.contains_key.ensures ∙ c.if-contains_key.true))
