use Rattle.std.proofs.Common.{◌≡◌, ◌==◌, ℕ, Bool, true, List, [], map, arith, subst}
use Rattle.std.specs.Prelude.{if◌then◌else◌}
use Rattle.lalrpop_norm_tree.specs.Symbols.{Part, symbol_view}
use Rattle.lalrpop_norm_faults.specs.Faults.{IsFirst}
use Rattle.lalrpop_norm_macro_expand.specs.Expansion.{past_cap}
use Rattle.lalrpop_norm_macro_expand.proofs.macro_expand.is_ended.Goals as goal

at_zero : (left : ℕ) → left ≡ 0 → true ≡ (left == 0)
at_zero left e = grind arith

pub returns-then-left-eq0 : goal.returns-then-left-eq0
returns-then-left-eq0 c =
    let waiting : List Part = map (λ w. symbol_view w.symbol) c.args.waiting.now in
    record {
      refuses = subst (λ (b : Bool). IsFirst (if b then past_cap waiting else []) c.past_cap.result) (at_zero c.args.left c.if-left-eq0.true) c.past_cap.ensures;
      ended = tt;
      goes_on = tt;
    }
