-- The sources of a group, once its symbols are replaced: as many, and with the same types.
use Rattle.std.proofs.Common.{◌≡◌, List, [], ◌∷◌, map, refl, ap, ap₂, ◌∙◌}
use Rattle.lalrpop_norm_tree.specs.Symbols.{Kind, Part, Parts, chosen, at, no_parts, part_and}
use Rattle.lalrpop_norm_tree.specs.Types.{TypeData, of_symbol}
use Rattle.lalrpop_norm_model.specs.MadeRules.{kind_of, chosen_kinds, all_kinds, if_any, group_sources, type_of_kind, bare_or_tuple_code}
use Rattle.lalrpop_norm_model.specs.Replaced.{replaced, replaced_kind, all_replaced}
use Rattle.lalrpop_norm_nodes.proofs.TwiceLemmas.{kind_twice}

kind_replaced : (p : Part) → kind_of (replaced p) ≡ replaced_kind (kind_of p)
kind_replaced (at s k) = refl

all_kinds_replaced : (ps : Parts) → all_kinds (all_replaced ps) ≡ map replaced_kind (all_kinds ps)
all_kinds_replaced no_parts = refl
all_kinds_replaced (part_and p ps) = ap₂ (λ (k : Kind) (ks : List Kind). k ∷ ks) (kind_replaced p) (all_kinds_replaced ps)

chosen_replaced : (ps : Parts) → chosen_kinds (all_replaced ps) ≡ map replaced_kind (chosen_kinds ps)
chosen_replaced no_parts = refl
chosen_replaced (part_and (at s (chosen p)) ps) = ap₂ (λ (k : Kind) (ks : List Kind). k ∷ ks) (kind_replaced p) (chosen_replaced ps)
chosen_replaced (part_and (at s _) ps) = chosen_replaced ps

pub sources_replaced : (ps : Parts) → group_sources (all_replaced ps) ≡ map replaced_kind (group_sources ps)
sources_replaced ps = ap₂ if_any (chosen_replaced ps) (all_kinds_replaced ps) ∙ by (chosen_kinds ps)
  where
    by : (ks : List Kind) → if_any (map replaced_kind ks) (map replaced_kind (all_kinds ps)) ≡ map replaced_kind (if_any ks (all_kinds ps))
    by [] = refl
    by (k ∷ ks) = refl

types_twice : (ks : List Kind) → map type_of_kind (map replaced_kind ks) ≡ map type_of_kind ks
types_twice [] = refl
types_twice (k ∷ ks) = ap₂ (λ (j : Kind) (ts : List TypeData). of_symbol j ∷ ts) (kind_twice k) (types_twice ks)

code_replaced : (ks : List Kind) → bare_or_tuple_code (map replaced_kind ks) ≡ bare_or_tuple_code ks
code_replaced [] = refl
code_replaced (k ∷ []) = refl
code_replaced (k ∷ j ∷ ks) = refl

pub types_of_replaced : (ps : Parts) → map type_of_kind (group_sources (all_replaced ps)) ≡ map type_of_kind (group_sources ps)
types_of_replaced ps = ap (map type_of_kind) (sources_replaced ps) ∙ types_twice (group_sources ps)

pub code_of_replaced : (ps : Parts) → bare_or_tuple_code (group_sources (all_replaced ps)) ≡ bare_or_tuple_code (group_sources ps)
code_of_replaced ps = ap bare_or_tuple_code (sources_replaced ps) ∙ code_replaced (group_sources ps)
