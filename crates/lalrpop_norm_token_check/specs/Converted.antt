-- Conversions as the code looks at them: one after the other, beside the terminals of those before.
use Rattle.std.specs.Prelude.{List, [], ◌∷◌, ◌++◌, flat_map, not}
use Rattle.std.specs.BTreeSet.{insert_key}
use Rattle.lalrpop_norm_tree_names.specs.declared.names.Span.{Span}
use Rattle.lalrpop_norm_tree_names.specs.declared.names.TerminalString.{TerminalString}
use Rattle.lalrpop_norm_tree.specs.Items.{ConversionData, EnumTokenData}
use Rattle.lalrpop_norm_faults.specs.Faults.{Fault, fault_if}
use Rattle.lalrpop_norm_faults.specs.declared.kind.FaultKind.TheVariants.{TerminalTwice, NoPattern}
use Rattle.lalrpop_norm_model.specs.Terminals.{terminal_cmp}
use Rattle.lalrpop_norm_model.specs.TokenFaults.{each_after, repeated_conversion_faults, has_conversion}
use Rattle.lalrpop_norm_token_check.specs.Keys.{terminal_in}

-- F39 where the terminal of a conversion is among the keys when its turn comes
abbrev pub twice_from : List TerminalString → List ConversionData → List Fault
twice_from keys [] = []
twice_from keys (c ∷ cs) =
    fault_if (terminal_in keys c.from) (TerminalTwice, c.span) ++ twice_from (insert_key terminal_cmp keys c.from) cs

-- the terminals with spans that have no conversion
abbrev pub unconverted_faults : List ConversionData → List (TerminalString × Span) → List Fault
unconverted_faults cs uses =
    flat_map (λ (p : TerminalString × Span). fault_if (not (has_conversion cs p.0)) (NoPattern, p.1)) uses

-- the faults of an extern enum and of the terminals used
abbrev pub converted_faults : EnumTokenData → List (TerminalString × Span) → List Fault
converted_faults e uses = each_after repeated_conversion_faults [] e.conversions ++ unconverted_faults e.conversions uses
