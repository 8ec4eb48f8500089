-- What symbols are lowered to, by the symbol under their wrappers.
use Rattle.std.proofs.Common.{◌≡◌, ◌∙◌, false, refl, sym, ap}
use Rattle.lalrpop_norm_tree_names.specs.declared.names.Span.{Span}
use Rattle.lalrpop_norm_tree.specs.declared.symbol.Symbol.{Symbol}
use Rattle.lalrpop_norm_tree.specs.Accessors.{is_grammar_symbol}
use Rattle.lalrpop_norm_tree.specs.Symbols.{Kind, terminal, nonterminal, chosen, named, tupled, error_terminal, Part, at, kind_view, symbol_view}
use Rattle.lalrpop_norm_tree.specs.SymbolTexts.{kind_text}
use Rattle.lalrpop_norm_tree.specs.Traversal.{unwrapped, unwrapped_kind, wrapped_part, wrapped_kind}
use Rattle.lalrpop_norm_tree.proofs.SymbolViews.{seen_at}
use Rattle.lalrpop_norm_repr.specs.declared.symbol.Symbol.TheVariants.{Nonterminal}
use Rattle.lalrpop_norm_lower.specs.Lowering.{lowered_leaf, lowered_symbol}

abbrev pub kind_at : Part → Kind
kind_at (at s k) = k

mutual
  pub wrapped_at : (p : Part) → wrapped_part p ≡ kind_at (unwrapped p)
  wrapped_at (at s k) = wrapped_kind_at s k

  wrapped_kind_at : (s : Span) (k : Kind) → wrapped_kind k ≡ kind_at (unwrapped_kind s k)
  wrapped_kind_at s (chosen p) = wrapped_at p
  wrapped_kind_at s (named n p) = wrapped_at p
  wrapped_kind_at s (tupled ns p) = wrapped_at p
  wrapped_kind_at s _ = refl

module _ (x u : Symbol) (e : symbol_view u ≡ unwrapped (symbol_view x)) (k : Kind) (is : kind_view u.kind ≡ k) where
  under : wrapped_part (symbol_view x) ≡ k
  under = wrapped_at (symbol_view x) ∙ ap kind_at (sym e ∙ seen_at u) ∙ is

  pub lowered_under : lowered_symbol (symbol_view x) ≡ lowered_leaf k
  lowered_under = ap lowered_leaf under

pub named_by_text : (k : Kind) → is_grammar_symbol k ≡ false → lowered_leaf k ≡ Nonterminal (record { 0 = kind_text k })
named_by_text (terminal t) h = cc
named_by_text (nonterminal n) h = cc
named_by_text error_terminal h = cc
named_by_text _ h = refl
