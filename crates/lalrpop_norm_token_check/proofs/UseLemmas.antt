-- The terminals that are used.
use Rattle.std.proofs.Common.{◌≡◌, ℕ, true, false, cond, List, [], ◌∷◌, ◌++◌, Option, Some, None, refl, sym, ap, ◌∙◌}
use Rattle.std.specs.List.{flat_map}
use Rattle.lalrpop_norm_tree_names.specs.declared.names.Span.{Span}
use Rattle.lalrpop_norm_tree_names.specs.declared.names.TerminalLiteral.{TerminalLiteral}
use Rattle.lalrpop_norm_tree_names.specs.declared.names.TerminalString.{TerminalString}
use Rattle.lalrpop_norm_tree_names.specs.declared.names.TerminalString.TheVariants.{Literal, Bare, Error}
use Rattle.lalrpop_norm_tree.specs.Items.{AlternativeData, RuleData}
use Rattle.lalrpop_norm_theory.proofs.ListLemmas.{flat_append}
use Rattle.lalrpop_norm_model.specs.TokenFaults.{places_in_parts}
use Rattle.lalrpop_norm_common.specs.Uses.{Use, places_in_alternatives}
use Rattle.lalrpop_norm_token_check.specs.Keys.{terminal_in}
use Rattle.lalrpop_norm_token_check.specs.Found.{FoundData, with_added, with_literal, with_terminal}

-- what is named stays
pub known_stays : (c : Option ℕ) (f : FoundData) (t : TerminalString) (s : Span) → terminal_in f.names t ≡ true → f ≡ with_terminal c f t s
known_stays None f (Literal l) s h = refl
known_stays (Some p) f (Literal l) s h = ap (λ b. cond b f (with_added p f l s)) (sym h)
known_stays c f (Bare a) s h = refl
known_stays c f Error s h = refl

put_literal : (p : ℕ) (f : FoundData) (l : TerminalLiteral) (s : Span) → terminal_in f.names (Literal l) ≡ false → with_added p f l s ≡ with_literal (Some p) f l s
put_literal p f l s h = ap (λ b. cond b f (with_added p f l s)) (sym h)

-- a literal that is not named, and is let in
pub put_terminal : (c : Option ℕ) (f new : FoundData) (t : TerminalString) (l : TerminalLiteral) (s : Span) (p : ℕ) → c ≡ Some p → t ≡ Literal l →
    terminal_in f.names t ≡ false → new ≡ with_added p f l s → new ≡ with_terminal c f t s
put_terminal c f new t l s p e d absent made = rw (e, d) (made ∙ put_literal p f l s (ap (terminal_in f.names) (sym d) ∙ absent))

-- the uses in the alternatives of rules, rule by rule
pub uses_of_rules : (rules : List RuleData) →
    places_in_alternatives (flat_map (λ (r : RuleData). r.alternatives) rules) ≡ flat_map (λ (r : RuleData). places_in_alternatives r.alternatives) rules
uses_of_rules [] = refl
uses_of_rules (r ∷ rules) =
    flat_append (λ (a : AlternativeData). places_in_parts a.parts) r.alternatives (flat_map (λ (q : RuleData). q.alternatives) rules)
    ∙ ap (λ (us : List Use). places_in_alternatives r.alternatives ++ us) (uses_of_rules rules)
