-- Alternatives that are read in the empty environment.
use Rattle.std.proofs.Common.{◌≡◌, ℕ, List, [], ◌∷◌, ◌++◌, map, Option, Some, None, option_map, option_and_then, slice_get, refl, sym, ap, ap₂, ◌∙◌}
use Rattle.std.proofs.Math.Path.{fun_ext}
use Rattle.std.specs.List.{flat_map}
use Rattle.std.proofs.lemmas.List.{map-append}
use Rattle.lalrpop_norm_tree.specs.Symbols.{Kind, Part, Parts, nonterminal, kind_view}
use Rattle.lalrpop_norm_tree.specs.Items.{AlternativeData}
use Rattle.lalrpop_norm_names.specs.Numbers.{number_in_table}
use Rattle.lalrpop_norm_names.specs.declared.table.Names.{Names}
use Rattle.lalrpop_norm_model.specs.PlainRules.{all_met, replaced_alternative}
use Rattle.lalrpop_norm_nodes.specs.declared.given.Given.{Given}
use Rattle.lalrpop_norm_nodes.specs.Filled.{filled_leaf, all_filled}
use Rattle.lalrpop_norm_nodes.specs.Given.{IsGiven}
use Rattle.lalrpop_norm_nodes.specs.Waits.{parts_replaced}
use Rattle.lalrpop_norm_nodes.specs.Wholes.{Whole, kind_at}
use Rattle.lalrpop_norm_nodes.proofs.MapLemmas.{parts_kept}
use Rattle.lalrpop_norm_macro_expand_rules.specs.Generated.{met_filled, shown_filled, read_filled, given_numbered, whole_numbered, shown_numbered}

abbrev unbound : List ℕ → Option Kind
unbound n = None

leaf_unbound : (k : Kind) → filled_leaf unbound k ≡ k
leaf_unbound (nonterminal n) = refl
leaf_unbound _ = refl

all_unbound : (ps : Parts) → all_filled unbound ps ≡ ps
all_unbound ps = parts_kept (filled_leaf unbound) leaf_unbound ps

met_unbound : (xs : List AlternativeData) → flat_map (met_filled unbound) xs ≡ flat_map (λ (a : AlternativeData). all_met a.parts) xs
met_unbound [] = refl
met_unbound (a ∷ xs) = ap₂ (λ (ps : Parts) (ys : List Part). all_met ps ++ ys) (all_unbound a.parts) (met_unbound xs)

shown_unbound : (xs : List AlternativeData) → flat_map (shown_filled unbound) xs ≡ map parts_replaced (flat_map (λ (a : AlternativeData). all_met a.parts) xs)
shown_unbound [] = refl
shown_unbound (a ∷ xs) =
    ap₂ (λ (ps : Parts) (ys : List Part). map parts_replaced (all_met ps) ++ ys) (all_unbound a.parts) (shown_unbound xs)
    ∙ sym (map-append parts_replaced (all_met a.parts) (flat_map (λ (b : AlternativeData). all_met b.parts) xs))

read_unbound : (xs : List AlternativeData) → map (read_filled unbound) xs ≡ map replaced_alternative xs
read_unbound [] = refl
read_unbound (a ∷ xs) =
    ap₂ (λ (ps : Parts) (ys : List AlternativeData). let b : AlternativeData = record a { parts = ps } in replaced_alternative b ∷ ys) (all_unbound a.parts) (read_unbound xs)

-- where nothing is given
nothing_there : (given : List Given) (o : Option ℕ) → given ≡ [] → option_and_then (λ i. slice_get given i) o ≡ None
nothing_there given None none = refl
nothing_there given (Some i) none = ap (λ (gs : List Given). slice_get gs i) none

module _ (table : Names) (given : List Given) (none : given ≡ []) where
  given_none : (n : List ℕ) → given_numbered table given n ≡ None
  given_none n = nothing_there given (number_in_table table n) none

  pub none_given : (ws : List Whole) (n : List ℕ) (g : Given) → given_numbered table given n ≡ Some g → IsGiven ws g
  none_given ws n g f = absurd (cc (given_none n, f))

  pub whole_none : (ws : List Whole) → whole_numbered ws table given ≡ unbound
  whole_none ws = fun_ext (λ n. ap (option_map (λ (g : Given). kind_at ws g.number)) (given_none n))

  pub shown_none : shown_numbered table given ≡ unbound
  shown_none = fun_ext (λ n. ap (option_map (λ (g : Given). kind_view g.symbol.kind)) (given_none n))

  pub none_met : (ws : List Whole) (xs : List AlternativeData) →
      flat_map (met_filled (whole_numbered ws table given)) xs ≡ flat_map (λ (a : AlternativeData). all_met a.parts) xs
  none_met ws xs = ap (λ (f : List ℕ → Option Kind). flat_map (met_filled f) xs) (whole_none ws) ∙ met_unbound xs

  pub none_shown : (xs : List AlternativeData) →
      flat_map (shown_filled (shown_numbered table given)) xs ≡ map parts_replaced (flat_map (λ (a : AlternativeData). all_met a.parts) xs)
  none_shown xs = ap (λ (f : List ℕ → Option Kind). flat_map (shown_filled f) xs) shown_none ∙ shown_unbound xs

  pub none_read : (xs : List AlternativeData) →
      map (read_filled (shown_numbered table given)) xs ≡ map replaced_alternative xs
  none_read xs = ap (λ (f : List ℕ → Option Kind). map (read_filled f) xs) shown_none ∙ read_unbound xs
