-- A symbol that is read without a change reaches nothing.
use Rattle.std.proofs.Common.{◌≡◌, ◌∙◌, true, not, is_some, List, [], ℕ, Option, Some, None, map, option_map, refl, ap}
use Rattle.lalrpop_norm_tree_names.specs.declared.names.Span.{Span}
use Rattle.lalrpop_norm_tree.specs.Symbols.{Kind, terminal, nonterminal, error_terminal, chosen, named, tupled, Part, at, kind_view}
use Rattle.lalrpop_norm_tree.specs.Traversal.{unwrapped_kind}
use Rattle.lalrpop_norm_model.specs.MadeRules.{or_name}
use Rattle.lalrpop_norm_model.specs.PlainRules.{met}
use Rattle.lalrpop_norm_model.specs.Replaced.{replaced, replaced_kind}
use Rattle.lalrpop_norm_nodes.specs.declared.given.Given.{Given}
use Rattle.lalrpop_norm_nodes.specs.declared.given.Environment.{Environment}
use Rattle.lalrpop_norm_nodes.specs.Filled.{filled, filled_kind}
use Rattle.lalrpop_norm_nodes.specs.Given.{given_in, read_whole, read_shown}
use Rattle.lalrpop_norm_nodes.specs.Waits.{parts_replaced, shown_met}
use Rattle.lalrpop_norm_nodes.specs.Wholes.{Whole, kind_at}
use Rattle.lalrpop_norm_macro_expand_rules.specs.Unchanged.{is_unchanged_there, is_unchanged}

unbound_name : (n : List ℕ) (B : Given → Kind) (o : Option Given) → not (is_some o) ≡ true → or_name n (option_map B o) ≡ nonterminal n
unbound_name n B None h = refl
unbound_name n B (Some g) h = absurd (cc h)

module _ (e : Environment) (B : Given → Kind) where
  mutual
    filled_same : (p : Part) → is_unchanged e p ≡ true → filled (λ n. option_map B (given_in e n)) p ≡ p
    filled_same (at s k) h = ap (at s) (filled_same_kind s k h)

    filled_same_kind : (s : Span) (k : Kind) → is_unchanged_there e (unwrapped_kind s k) ≡ true → filled_kind (λ n. option_map B (given_in e n)) k ≡ k
    filled_same_kind s (chosen p) h = ap chosen (filled_same p h)
    filled_same_kind s (named n p) h = ap (named n) (filled_same p h)
    filled_same_kind s (tupled ns p) h = ap (tupled ns) (filled_same p h)
    filled_same_kind s (nonterminal n) h = unbound_name n B (given_in e n) h
    filled_same_kind s (terminal t) h = refl
    filled_same_kind s error_terminal h = refl
    filled_same_kind s _ h = absurd (cc h)

module _ (e : Environment) where
  mutual
    replaced_same : (p : Part) → is_unchanged e p ≡ true → replaced p ≡ p
    replaced_same (at s k) h = ap (at s) (replaced_same_kind s k h)

    replaced_same_kind : (s : Span) (k : Kind) → is_unchanged_there e (unwrapped_kind s k) ≡ true → replaced_kind k ≡ k
    replaced_same_kind s (chosen p) h = ap chosen (replaced_same p h)
    replaced_same_kind s (named n p) h = ap (named n) (replaced_same p h)
    replaced_same_kind s (tupled ns p) h = ap (tupled ns) (replaced_same p h)
    replaced_same_kind s (nonterminal n) h = refl
    replaced_same_kind s (terminal t) h = refl
    replaced_same_kind s error_terminal h = refl
    replaced_same_kind s _ h = absurd (cc h)

  mutual
    met_nothing : (p : Part) → is_unchanged e p ≡ true → met p ≡ []
    met_nothing (at s k) h = met_nothing_kind s k h

    met_nothing_kind : (s : Span) (k : Kind) → is_unchanged_there e (unwrapped_kind s k) ≡ true → met (at s k) ≡ []
    met_nothing_kind s (chosen p) h = met_nothing p h
    met_nothing_kind s (named n p) h = met_nothing p h
    met_nothing_kind s (tupled ns p) h = met_nothing p h
    met_nothing_kind s (nonterminal n) h = refl
    met_nothing_kind s (terminal t) h = refl
    met_nothing_kind s error_terminal h = refl
    met_nothing_kind s _ h = absurd (cc h)

module _ (e : Environment) (p : Part) (h : is_unchanged e p ≡ true) where
  pub unchanged_meets : (ws : List Whole) → met (read_whole ws e p) ≡ []
  unchanged_meets ws = ap met (filled_same e (λ g. kind_at ws g.number) p h) ∙ met_nothing e p h

  pub unchanged_shown_met : shown_met e p ≡ []
  unchanged_shown_met = ap (λ q. map parts_replaced (met q)) (filled_same e (λ g. kind_view g.symbol.kind) p h) ∙ ap (map parts_replaced) (met_nothing e p h)

  pub unchanged_shown : read_shown e p ≡ p
  unchanged_shown = ap replaced (filled_same e (λ g. kind_view g.symbol.kind) p h) ∙ replaced_same e p h
