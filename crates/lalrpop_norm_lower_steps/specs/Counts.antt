-- The number of `<>` in an action code against that of its sources.
use Rattle.std.specs.Prelude.{ℕ, not, List, [], ◌∷◌, length, nat_eq}
use Rattle.lalrpop_norm_tree_names.specs.declared.names.Span.{Span}
use Rattle.lalrpop_norm_faults.specs.Faults.{Fault, fault_if}
use Rattle.lalrpop_norm_faults.specs.declared.kind.FaultKind.TheVariants.{Placeholders}
use Rattle.lalrpop_norm_model.specs.LoweringFaults.{span_over}
use Rattle.lalrpop_norm_model.specs.MadeRules.{span_of}
use Rattle.lalrpop_norm_model.specs.Sources.{Source}

-- so many `<>` that are not as many as the sources
abbrev pub count_faults : Span → ℕ → List Source → List Fault
count_faults span count sources = fault_if (not (nat_eq count (length sources))) (Placeholders, span_over span sources)

-- where the last of the sources ends, or that end where there is none
abbrev pub end_of : ℕ → List Source → ℕ
end_of e [] = e
end_of e (x ∷ xs) = end_of (span_of x.symbol).1 xs
