-- The clause of an alternative.
use Rattle.std.proofs.Common.{◌≡◌, ℕ, suc, Bool, true, false, List, [], ◌∷◌, map, Some, None, refl, sym, ap, ◌∙◌}
use Rattle.std.specs.Prelude.{option_map}
use Rattle.lalrpop_norm_tree_names.specs.declared.names.TypeParameter.{TypeParameter}
use Rattle.lalrpop_norm_tree.specs.Items.{AlternativeData}
use Rattle.lalrpop_norm_tree_parts.specs.Reprs.{repr_and, tuple}
use Rattle.lalrpop_norm_tree.specs.Symbols.{Kind, Parts, chosen, at, no_parts, part_and}
use Rattle.lalrpop_norm_tree.specs.Types.{of_symbol, types_of}
use Rattle.lalrpop_norm_repr.specs.Tables.{TypeTable}
use Rattle.lalrpop_norm_model.specs.MadeRules.{kind_of, chosen_kinds, all_kinds, if_any, group_sources, bare_or_tuple, some_name_value}
use Rattle.lalrpop_norm_model.specs.Sources.{Source, chosen_sources, all_sources, sources, default_type}
use Rattle.lalrpop_norm_model.specs.TypeRelation.{makes, alternative_clause}
use Rattle.lalrpop_norm_model.specs.TypeTables.{both}
use Rattle.lalrpop_norm_tyinfer_steps.specs.Clauses.{type_of_sources, default_clause, kinds_in, sources_in}
use Rattle.lalrpop_norm_common.proofs.ExprLemmas.{map_any}
use Rattle.lalrpop_norm_common.proofs.SymbolLemmas.{no_named}
use Rattle.lalrpop_norm_tyinfer_steps.specs.TableValues.{kind_in, type_in, types_in}
use Rattle.lalrpop_norm_tree_parts.proofs.KnownTextLemmas.{map_twice}

-- ---- sources

abbrev kind_in_source : Source → Kind
kind_in_source s = kind_of s.symbol

chosen_are : (k : ℕ) (ps : Parts) → map kind_in_source (chosen_sources k ps) ≡ chosen_kinds ps
chosen_are k no_parts = refl
chosen_are k (part_and (at s (chosen p)) ps) = ap (λ ks. kind_of p ∷ ks) (chosen_are (suc k) ps)
chosen_are k (part_and (at s x) ps) = chosen_are (suc k) ps

all_are : (k : ℕ) (ps : Parts) → map kind_in_source (all_sources k ps) ≡ all_kinds ps
all_are k no_parts = refl
all_are k (part_and p ps) = ap (λ ks. kind_of p ∷ ks) (all_are (suc k) ps)

sources_are : (ps : Parts) → some_name_value ps ≡ false → map kind_in_source (sources ps) ≡ group_sources ps
sources_are ps e =
    ap (λ ss. map kind_in_source (if_any ss (if_any (chosen_sources 0 ps) (all_sources 0 ps)))) (no_named 0 ps e)
    ∙ (map_any kind_in_source (chosen_sources 0 ps) (all_sources 0 ps)
    ∙ (ap (λ ks. if_any ks (map kind_in_source (all_sources 0 ps))) (chosen_are 0 ps) ∙ ap (if_any (chosen_kinds ps)) (all_are 0 ps)))

type_is : (a : AlternativeData) → some_name_value a.parts ≡ false → type_of_sources (group_sources a.parts) ≡ default_type a
type_is a e =
    ap (λ ks. bare_or_tuple (map of_symbol ks)) (sym (sources_are a.parts e))
    ∙ ap bare_or_tuple (sym (map_twice of_symbol kind_in_source (sources a.parts)))

-- ---- alternatives without action code

default_case : (a : AlternativeData) → a.action ≡ None → (b : Bool) → some_name_value a.parts ≡ b → default_clause a.parts ≡ alternative_clause a
default_case a none true e = rw (e, none) refl
default_case a none false e = rw (e, none) (ap (λ t. Some (makes t)) (type_is a e))

pub default_is : (a : AlternativeData) → a.action ≡ None → default_clause a.parts ≡ alternative_clause a
default_is a none = default_case a none (some_name_value a.parts) refl

-- ---- values

kinds_are : (ps : List TypeParameter) (tt : TypeTable) (ks : List Kind) → kinds_in tt ks ≡ types_in ps tt (types_of (map of_symbol ks))
kinds_are ps tt [] = refl
kinds_are ps tt (k ∷ ks) = ap (both repr_and (kind_in tt k)) (kinds_are ps tt ks)

-- the sources of an alternative give what its type means
pub sources_mean : (ps : List TypeParameter) (tt : TypeTable) (ks : List Kind) → sources_in tt ks ≡ type_in ps tt (type_of_sources ks)
sources_mean ps tt [] = refl
sources_mean ps tt (k ∷ []) = refl
sources_mean ps tt (k ∷ l ∷ ks) = ap (option_map tuple) (kinds_are ps tt (k ∷ l ∷ ks))
