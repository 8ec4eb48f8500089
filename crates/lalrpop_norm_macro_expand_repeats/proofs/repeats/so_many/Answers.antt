use Rattle.std.proofs.Common.{◌≡◌, ◌++◌, ℕ, List, [], ◌∷◌, replicate, arith, ap, ◌∙◌}
use Rattle.std.proofs.lemmas.List.{replicate_more}
use Rattle.lalrpop_norm_tree.specs.Symbols.{Part, parts_of, symbol_view}
use Rattle.lalrpop_norm_macro_expand_repeats.proofs.repeats.so_many.Goals as goal

pub loop-copy-preserved : goal.loop-copy-preserved
loop-copy-preserved c =
    c.in_ok-add_copy.ensures
    ∙ ap (λ (ps : List Part). ps ++ symbol_view c.args.symbol.now ∷ []) c.loop-copy.invariant
    ∙ replicate_more c.loop-copy._copy (symbol_view c.args.symbol.now)

pub returns : goal.returns
returns c =
    let all : c.loop-copy._copy ≡ c.args.count = omega arith in
    ap parts_of (c.loop-copy.invariant ∙ ap (λ (n : ℕ). replicate n (symbol_view c.args.symbol.now)) all)
