-- What a symbol is under wrappers.
use Rattle.std.proofs.Common.{◌≡◌, Some, refl, sym, ap, ◌∙◌}
use Rattle.lalrpop_norm_tree_names.specs.declared.names.Span.{Span}
use Rattle.lalrpop_norm_tree.specs.declared.symbol.Symbol.{Symbol}
use Rattle.lalrpop_norm_tree.specs.Accessors.{binding_of, selected_of}
use Rattle.lalrpop_norm_tree.specs.Symbols.{ArgumentPattern, one_name, several, Kind, Part, chosen, named, tupled, at, kind_view, symbol_view}
use Rattle.lalrpop_norm_tree.specs.Traversal.{unwrapped, unwrapped_kind, wrapped_kind, wrapped_part}
use Rattle.lalrpop_norm_tree.proofs.SymbolViews.{seen_at}
use Rattle.lalrpop_norm_model.specs.MadeRules.{kind_of}

mutual
  bare : (p : Part) → kind_of (unwrapped p) ≡ wrapped_part p
  bare (at s k) = bare_kind s k

  bare_kind : (s : Span) (k : Kind) → kind_of (unwrapped_kind s k) ≡ wrapped_kind k
  bare_kind s (chosen p) = bare p
  bare_kind s (named n p) = bare p
  bare_kind s (tupled ns p) = bare p
  bare_kind s _ = refl

-- what the symbol under wrappers is, without its span
pub under_is : (x : Symbol) (p : Part) → symbol_view x ≡ unwrapped p → kind_view x.kind ≡ wrapped_part p
under_is x p is = ap kind_of (sym (seen_at x) ∙ is) ∙ bare p

second : (x y : ArgumentPattern × Part) → Some x ≡ Some y → x.1 ≡ y.1
second x y e = let same : x ≡ y = cc in ap (λ (w : ArgumentPattern × Part). w.1) same

-- a named or a tuple symbol is under wrappers what its symbol is
pub bound_under : (k : Kind) (b : ArgumentPattern) (p : Part) → Some (b, p) ≡ binding_of k → wrapped_part p ≡ wrapped_kind k
bound_under (named n q) b p e = ap wrapped_part (second (b, p) (one_name n, q) e)
bound_under (tupled ns q) b p e = ap wrapped_part (second (b, p) (several ns, q) e)
bound_under _ b p e = absurd cc

-- and so is a selected one
pub selected_under : (k : Kind) (p : Part) → Some p ≡ selected_of k → wrapped_part p ≡ wrapped_kind k
selected_under (chosen q) p e = let same : p ≡ q = cc in ap wrapped_part same
selected_under _ p e = absurd cc
