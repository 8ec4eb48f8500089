-- How the code reaches symbols, one after another: internal definitions, which no public contract clause mentions.
use Rattle.std.specs.Prelude.{ℕ, Bool, true, false, not, ◌||◌, ◌&&◌, List, [], ◌∷◌, ◌++◌}
use Rattle.std.specs.Prelude.{Option, Some, None, is_some, bytes_eq, if◌then◌else◌}
use Rattle.std.specs.HashSet.{HashSet, contains}
use Rattle.lalrpop_norm_names.specs.declared.seeded.Seeded.{Seeded}
use Rattle.lalrpop_norm_tree_names.specs.declared.names.Span.{Span}
use Rattle.lalrpop_norm_tree.specs.Symbols.{Kind, Part, group, call, repeated, at}
use Rattle.lalrpop_norm_tree.specs.SymbolTexts.{kind_text, part_text}
use Rattle.lalrpop_norm_faults.specs.declared.kind.FaultKind.TheVariants.{SharedName}
use Rattle.lalrpop_norm_faults.specs.Faults.{Fault, fault_if}
use Rattle.lalrpop_norm_model.specs.PlainRules.{same_apart_from_spans, met, all_met}
use Rattle.lalrpop_norm_model.specs.MadeRules.{span_of}
use Rattle.lalrpop_norm_model.specs.Replaced.{is_desugared}
use Rattle.lalrpop_norm_nodes.specs.Apart.{nowhere}

-- ---- what a symbol reaches

-- what is inside it reaches: of a symbol that is not desugared, all that it reaches
abbrev pub met_inside : Kind → List Part
met_inside (group ps) = all_met ps
met_inside (call n ps) = all_met ps
met_inside (repeated op p) = met p
met_inside k = if is_desugared k then [] else met (at nowhere k)

-- the symbol itself, if it is desugared
abbrev pub own : Span → Kind → List Part
own s k = if is_desugared k then at s k ∷ [] else []

abbrev pub met_itself : Part → List Part
met_itself (at s k) = own s k

abbrev pub inside : Part → List Part
inside (at s k) = met_inside k

-- the text of a symbol that is desugared
abbrev pub own_text : Part → Option (List ℕ)
own_text (at s k) = if is_desugared k then Some (kind_text k) else None

-- ---- symbols reached one after another

-- the first symbol of that text
abbrev pub first_with_text : List ℕ → List Part → Option Part
first_with_text t [] = None
first_with_text t (p ∷ ps) = if bytes_eq (part_text p) t then Some p else first_with_text t ps

abbrev pub joined_by : Option Part → List Part → Part → List Part
joined_by None seen x = seen ++ x ∷ []
joined_by (Some y) seen x = seen

-- the reached symbols, once one more is reached: the first of each text stays
abbrev pub after_one : List Part → Part → List Part
after_one seen x = joined_by (first_with_text (part_text x) seen) seen x

abbrev pub after : List Part → List Part → List Part
after seen [] = seen
after seen (x ∷ xs) = after (after_one seen x) xs

abbrev pub differs : Option Part → Part → Bool
differs None x = false
differs (Some y) x = not (same_apart_from_spans y x)

-- its text is a name, or that of a symbol that is not the same
abbrev pub clashes : (List ℕ → Bool) → List Part → Part → Bool
clashes names seen x = names (part_text x) || differs (first_with_text (part_text x) seen) x

abbrev pub clash_faults : (List ℕ → Bool) → List Part → List Part → List Fault
clash_faults names seen [] = []
clash_faults names seen (x ∷ xs) =
    fault_if (clashes names seen x) (SharedName, span_of x) ++ clash_faults names (after_one seen x) xs

-- a symbol of its text was reached that is the same, and its text is no name
abbrev pub was_met : (List ℕ → Bool) → List Part → Part → Bool
was_met names seen x = is_some (first_with_text (part_text x) seen) && not (clashes names seen x)

abbrev pub were_met : (List ℕ → Bool) → List Part → List Part → Bool
were_met names seen [] = true
were_met names seen (x ∷ xs) = was_met names seen x && were_met names seen xs

abbrev pub has_key : HashSet (List ℕ) Seeded → List ℕ → Bool
has_key = contains bytes_eq
