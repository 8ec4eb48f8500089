-- The faults of conversions, looked at beside a set, are those beside the list of the conversions before.
use Rattle.std.proofs.Common.{◌≡◌, ◌||◌, List, [], ◌∷◌, ◌++◌, refl, ap, ap₂, ◌∙◌}
use Rattle.std.specs.BTreeSet.{insert_key}
use Rattle.std.specs.List.{list_any}
use Rattle.lalrpop_norm_tree_names.specs.declared.names.TerminalString.{TerminalString}
use Rattle.lalrpop_norm_tree.specs.Items.{ConversionData}
use Rattle.lalrpop_norm_faults.specs.Faults.{Fault, fault_if}
use Rattle.lalrpop_norm_faults.specs.declared.kind.FaultKind.TheVariants.{TerminalTwice}
use Rattle.lalrpop_norm_model.specs.Expanded.{terminals_converted}
use Rattle.lalrpop_norm_model.specs.Terminals.{same_terminal, terminal_cmp}
use Rattle.lalrpop_norm_model.specs.TokenFaults.{each_after, repeated_conversion_faults, has_conversion}
use Rattle.lalrpop_norm_token_check.specs.Converted.{twice_from}
use Rattle.lalrpop_norm_token_check.specs.Keys.{with_keys, terminal_in}
use Rattle.lalrpop_norm_token_check.proofs.KeyLemmas.{named_more, named_all}
use Rattle.lalrpop_norm_theory.proofs.BoolLemmas.{or_nothing}

-- the keys are the terminals of the conversions before
abbrev Keeps : List TerminalString → List ConversionData → Type 0
Keeps keys before = (t : TerminalString) → terminal_in keys t ≡ has_conversion before t

twice_same : (keys : List TerminalString) (before cs : List ConversionData) → Keeps keys before →
    twice_from keys cs ≡ each_after repeated_conversion_faults before cs
twice_same keys before [] h = refl
twice_same keys before (c ∷ cs) h =
    ap₂ (λ (xs ys : List Fault). xs ++ ys) (ap (λ b. fault_if b (TerminalTwice, c.span)) (h c.from))
    (twice_same (insert_key terminal_cmp keys c.from) (c ∷ before) cs
    (λ t. named_more keys c.from t ∙ ap (λ b. same_terminal t c.from || b) (h t)))

-- two conversions of one terminal, looked for beside a set that is empty at first
pub twice_is : (cs : List ConversionData) → twice_from [] cs ≡ each_after repeated_conversion_faults [] cs
twice_is cs = twice_same [] [] cs (λ t. refl)

any_converted : (t : TerminalString) (cs : List ConversionData) → list_any (same_terminal t) (terminals_converted cs) ≡ has_conversion cs t
any_converted t [] = refl
any_converted t (c ∷ cs) = ap (λ b. same_terminal t c.from || b) (any_converted t cs)

-- the set of the terminals of conversions has a terminal exactly where one converts it
pub converted_is : (cs : List ConversionData) (t : TerminalString) → terminal_in (with_keys terminal_cmp [] (terminals_converted cs)) t ≡ has_conversion cs t
converted_is cs t = named_all [] (terminals_converted cs) t ∙ or_nothing _ ∙ any_converted t cs
