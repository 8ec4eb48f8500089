-- The span from the first source to the last one.
use Rattle.std.proofs.Common.{◌≡◌, ◌∙◌, ℕ, List, [], ◌∷◌, map, refl, sym, ap}
use Rattle.lalrpop_norm_tree_names.specs.declared.names.Span.{Span}
use Rattle.lalrpop_norm_tree.specs.declared.symbol.Symbol.{Symbol}
use Rattle.lalrpop_norm_tree.specs.Symbols.{symbol_view}
use Rattle.lalrpop_norm_tree.proofs.SymbolViews.{seen_at}
use Rattle.lalrpop_norm_model.specs.MadeRules.{span_of}
use Rattle.lalrpop_norm_model.specs.LoweringFaults.{last_of, span_over}
use Rattle.lalrpop_norm_model.specs.Sources.{Source}
use Rattle.lalrpop_norm_lower_steps.specs.Counts.{end_of}

end_is : (x : Source) (xs : List Source) → end_of (span_of x.symbol).1 xs ≡ (span_of (last_of x xs).symbol).1
end_is x [] = refl
end_is x (y ∷ ys) = end_is y ys

span_is : (s : Symbol) → span_of (symbol_view s) ≡ s.span
span_is s = ap span_of (seen_at s)

abbrev span_at : ℕ → ℕ → Span
span_at m n = record { 0 = m; 1 = n }

pub span_made : {X : Type 0} (f : X → Source) (all : Span) (whole xs : List X) (x : X) (s : Symbol) (end : ℕ) → whole ≡ x ∷ xs → (f x).symbol ≡ symbol_view s → end ≡ end_of s.span.1 (map f xs)
    → span_at s.span.0 end ≡ span_over all (map f whole)
span_made f all whole xs x s end is kept ends =
    let there : span_of (f x).symbol ≡ s.span = ap span_of kept ∙ span_is s in
    ap (λ (p : Span). span_at p.0 end) (sym there)
    ∙ ap (span_at (span_of (f x).symbol).0) (ends ∙ ap (λ (p : Span). end_of p.1 (map f xs)) (sym there) ∙ end_is (f x) (map f xs))
    ∙ ap (λ w. span_over all (map f w)) (sym is)
