-- What holds of the terminals and nonterminals of plain symbols holds of what they are lowered to.
use Rattle.std.proofs.Common.{◌≡◌, ◌∙◌, ℕ, Bool, true, List, [], ◌∷◌, map, refl, sym, ap, subst, inl, inr}
use Rattle.std.specs.List.{list_any, AllByRecursion}
use Rattle.lalrpop_norm_tree_names.specs.declared.names.Span.{Span}
use Rattle.lalrpop_norm_tree_names.specs.declared.names.TerminalString.{TerminalString}
use Rattle.lalrpop_norm_tree_names.specs.declared.names.TerminalString.TheVariants as terminal_string
use Rattle.lalrpop_norm_tree.specs.Items.{AlternativeData, RuleData}
use Rattle.lalrpop_norm_tree.specs.Symbols.{terminal, nonterminal, error_terminal, Part, at, Parts, no_parts, part_and}
use Rattle.lalrpop_norm_tree.specs.Traversal.{unwrapped}
use Rattle.lalrpop_norm_theory.specs.Rounds.{In}
use Rattle.lalrpop_norm_theory.proofs.RoundsLemmas.{in_left, in_right}
use Rattle.lalrpop_norm_model.specs.Expanded.{is_plain_leaf, any_name, is_plain, are_plain, leaf_names, names_in, names_in_parts}
use Rattle.lalrpop_norm_model.specs.Terminals.{terminal_place, terminals_in, terminals_in_parts}
use Rattle.lalrpop_norm_repr.specs.declared.symbol.Symbol.{Symbol}
use Rattle.lalrpop_norm_repr.specs.declared.symbol.Symbol.TheVariants.{Nonterminal, Terminal}
use Rattle.lalrpop_norm_lower.specs.Carried.{is_error_leaf, is_error, any_error, uses_recovery}
use Rattle.lalrpop_norm_lower.specs.Lowering.{lowered_leaf, lowered_symbol, lowered_symbols}
use Rattle.lalrpop_norm_lower.proofs.WrappedLemmas.{kind_at, wrapped_at}
use Rattle.lalrpop_norm_theory.proofs.BoolLemmas.{both_true, or_left, or_right}

abbrev pub AtNames : (Symbol → Type 0) → List (List ℕ) → Type 0
AtNames P ns = (n : List ℕ) → In n ns → P (Nonterminal (record { 0 = n }))

abbrev pub AtTerminals : (Symbol → Type 0) → List TerminalString → Type 0
AtTerminals P ts = (t : TerminalString) → In t ts → P (Terminal t)

abbrev pub AtError : (Symbol → Type 0) → Bool → Type 0
AtError P b = b ≡ true → P (Terminal terminal_string.Error)

leaf_by : (P : Symbol → Type 0) (p : Part) → is_plain_leaf any_name (kind_at p) ≡ true → AtNames P (leaf_names (kind_at p)) → AtTerminals P (map (λ (u : TerminalString × Span). u.0) (terminal_place p)) → AtError P (is_error_leaf p) → P (lowered_leaf (kind_at p))
leaf_by P (at s (terminal t)) h ns ts e = ts t (inl refl)
leaf_by P (at s (nonterminal n)) h ns ts e = ns n (inl refl)
leaf_by P (at s error_terminal) h ns ts e = e refl
leaf_by P (at s _) h ns ts e = cc

part_by : (P : Symbol → Type 0) (p : Part) → is_plain p ≡ true → AtNames P (names_in p) → AtTerminals P (terminals_in p) → AtError P (is_error p) → P (lowered_symbol p)
part_by P p h ns ts e =
    subst (λ k. is_plain_leaf any_name k ≡ true → AtNames P (leaf_names k) → P (lowered_leaf k)) (sym (wrapped_at p)) (λ h ns. leaf_by P (unwrapped p) h ns ts e) h ns

pub parts_by : (P : Symbol → Type 0) (ps : Parts) → are_plain ps ≡ true → AtNames P (names_in_parts ps) → AtTerminals P (terminals_in_parts ps) → AtError P (any_error ps) → AllByRecursion P (lowered_symbols ps)
parts_by P no_parts h ns ts e = tt
parts_by P (part_and p ps) h ns ts e =
    let hs = both_true (is_plain p) (are_plain ps) h in (
      part_by P p hs.0 (λ n i. ns n (in_left n (names_in p) (names_in_parts ps) i)) (λ t i. ts t (in_left t (terminals_in p) (terminals_in_parts ps) i)) (λ i. e (or_left (is_error p) (any_error ps) i)),
      parts_by P ps hs.1 (λ n i. ns n (in_right n (names_in p) (names_in_parts ps) i)) (λ t i. ts t (in_right t (terminals_in p) (terminals_in_parts ps) i)) (λ i. e (or_right (is_error p) (any_error ps) i)),
    )

-- ---- `!` in a rule

any_in : {A : Type 0} (test : A → Bool) (x : A) (xs : List A) → In x xs → test x ≡ true → list_any test xs ≡ true
any_in test x [] i h = absurd i
any_in test x (y ∷ ys) (inl e) h = or_left (test y) (list_any test ys) (ap test (sym e) ∙ h)
any_in test x (y ∷ ys) (inr i) h = or_right (test y) (list_any test ys) (any_in test x ys i h)

pub recovers : (rs : List RuleData) (r : RuleData) (a : AlternativeData) → In r rs → In a r.alternatives → any_error a.parts ≡ true → uses_recovery rs ≡ true
recovers rs r a i j h = any_in (λ (s : RuleData). list_any (λ (b : AlternativeData). any_error b.parts) s.alternatives) r rs i (any_in (λ (b : AlternativeData). any_error b.parts) a r.alternatives j h)
