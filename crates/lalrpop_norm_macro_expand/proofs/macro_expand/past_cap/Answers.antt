use Rattle.std.proofs.Common.{◌≡◌, ◌-◌, ◌<◌, ℕ, suc, List, [], ◌∷◌, map, length, get_or, sym, ap, ◌∙◌, subst, refl, arith}
use Rattle.std.proofs.lemmas.List.{get_or_default}
use Rattle.lalrpop_norm_tree.specs.Symbols.{Part, symbol_view}
use Rattle.lalrpop_norm_tree.proofs.SymbolViews.{seen_at}
use Rattle.lalrpop_norm_faults.specs.declared.kind.FaultKind.TheVariants.{RecursionCap}
use Rattle.lalrpop_norm_faults.specs.Faults.{Fault, IsFirst}
use Rattle.lalrpop_norm_model.specs.MadeRules.{span_of}
use Rattle.lalrpop_norm_nodes.specs.declared.table.Waiting.{Waiting}
use Rattle.lalrpop_norm_macro_expand.specs.Expansion.{past_cap}
use Rattle.lalrpop_norm_macro_expand.proofs.macro_expand.past_cap.Goals as goal

-- of some symbols the last one is past the cap
last_past_cap : (ws : List Waiting) (w : Waiting) → 0 < length ws → w ≡ get_or ws (length ws - 1) w →
    past_cap (map (λ v. symbol_view v.symbol) ws) ≡ (RecursionCap, w.symbol.span) ∷ []
last_past_cap [] w l e = absurd (omega arith)
last_past_cap (v ∷ []) w l e = ap (λ (u : Waiting). (RecursionCap, span_of (symbol_view u.symbol)) ∷ []) (sym e) ∙ ap (λ (p : Part). (RecursionCap, span_of p) ∷ []) (seen_at w.symbol)
last_past_cap (v ∷ u ∷ ws) w l e =
    let further : length (v ∷ u ∷ ws) - 1 ≡ suc (length (u ∷ ws) - 1) = omega arith in
    last_past_cap (u ∷ ws) w (omega arith) (e ∙ ap (λ (n : ℕ). get_or (v ∷ u ∷ ws) n w) further)

pub returns : goal.returns
returns c =
    let ws : List Waiting = c.args.waiting.now in
    let w : Waiting = get_or ws (length ws - 1) c.index-waiting-waiting.result in
    let at_end : w ≡ get_or ws (length ws - 1) w = get_or_default ws (length ws - 1) c.index-waiting-waiting.result w (omega (arith, c.requires)) in
    subst (λ (fs : List Fault). IsFirst fs c.refusal.result) (sym (last_past_cap ws w c.requires at_end)) c.refusal.ensures.first
