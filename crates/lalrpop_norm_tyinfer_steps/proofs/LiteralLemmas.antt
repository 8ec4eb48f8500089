-- What a catch-all lets in.
use Rattle.std.proofs.Common.{◌≡◌, ℕ, true, false, List, [], ◌∷◌, ◌++◌, map, Option, Some, None, append-nil, refl, sym, ap, ◌∙◌}
use Rattle.std.specs.Prelude.{is_some}
use Rattle.std.specs.List.{flat_map}
use Rattle.lalrpop_norm_tree_names.specs.declared.names.TerminalString.{TerminalString}
use Rattle.lalrpop_norm_tree_names.specs.declared.names.TerminalString.TheVariants.{Literal, Bare, Error}
use Rattle.lalrpop_norm_tree.specs.Items.{GrammarData}
use Rattle.lalrpop_norm_model.specs.Terminals.{terminals_used}
use Rattle.lalrpop_norm_model.specs.TerminalTypes.{let_in}
use Rattle.lalrpop_norm_common.specs.Uses.{Use, places_in_item}
use Rattle.lalrpop_norm_common.proofs.UsedLemmas.{uses_are, terminals_are_used}
use Rattle.lalrpop_norm_tyinfer_steps.specs.Literals.{used_literal}

none_let : (ts : List TerminalString) → flat_map (let_in None) ts ≡ []
none_let [] = refl
none_let (Literal l ∷ ts) = none_let ts
none_let (Bare a ∷ ts) = none_let ts
none_let (Error ∷ ts) = none_let ts

-- without a catch-all none is let in
pub kept : (o : Option ℕ) → is_some o ≡ false → (names ts : List TerminalString) → names ≡ names ++ flat_map (let_in o) ts
kept None none names ts = sym (ap (λ us. names ++ us) (none_let ts) ∙ append-nil names)
kept (Some p) none names ts = absurd cc

of_uses : (us : List Use) → flat_map (λ (u : Use). used_literal u.0) us ≡ flat_map used_literal (map (λ (u : Use). u.0) us)
of_uses [] = refl
of_uses (u ∷ us) = ap (λ ts. used_literal u.0 ++ ts) (of_uses us)

-- a catch-all lets in the literals among the terminals used
pub literals_let : (o : Option ℕ) → is_some o ≡ true → (us : List Use) (g : GrammarData) → us ≡ flat_map places_in_item g.items →
    flat_map (λ (u : Use). used_literal u.0) us ≡ flat_map (let_in o) (terminals_used g)
literals_let (Some p) some us g are =
    of_uses us ∙ ap (flat_map used_literal) (ap (map (λ (u : Use). u.0)) (are ∙ uses_are g) ∙ sym (terminals_are_used g))
literals_let None some us g are = absurd cc
