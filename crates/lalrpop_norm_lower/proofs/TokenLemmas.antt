-- The numbers of terminals are their indices.
use Rattle.std.proofs.Common.{◌≡◌, ◌∙◌, ℕ, suc, zero, ◌+◌, Bool, true, false, cond, List, [], ◌∷◌, Some, refl, sym, ap, subst, arith}
use Rattle.std.specs.Prelude.{slice_get}
use Rattle.std.specs.List.{AllByRecursion, IsDistinct}
use Rattle.std.specs.Map.{keys_of}
use Rattle.lalrpop_norm_tree_names.specs.declared.names.TerminalString.{TerminalString}
use Rattle.lalrpop_norm_repr.specs.Tables.{found_terminal, same_terminal}
use Rattle.lalrpop_norm_lower.specs.Conversions.{numbered_terminals, sorted_terminals}
use Rattle.lalrpop_norm_lower.specs.Shape.{AreNumbers}
use Rattle.lalrpop_norm_lower.proofs.KeyLaws.{terminals_decide, terminals_laws, terminal_table}
use Rattle.lalrpop_norm_theory.proofs.ListLemmas.{some_inner}
use Rattle.lalrpop_norm_model.proofs.SameTerminalLemmas.{terminal_itself}

numbered_keys : (k : ℕ) (ts : List TerminalString) → keys_of (numbered_terminals k ts) ≡ ts
numbered_keys k [] = refl
numbered_keys k (t ∷ ts) = ap (λ us. t ∷ us) (numbered_keys (k + 1) ts)

-- what has number j is at the index j - k
number_place : (t : TerminalString) (k j : ℕ) (ts : List TerminalString) → found_terminal t (numbered_terminals k ts) ≡ Some j → (i : ℕ) × (j ≡ k + i) × (slice_get ts i ≡ Some t)
number_place t k j [] h = cc
number_place t k j (u ∷ ts) h = by (same_terminal t u) refl h (number_place t (k + 1) j ts)
  where
    by : (b : Bool) → same_terminal t u ≡ b → cond b (Some k) (found_terminal t (numbered_terminals (k + 1) ts)) ≡ Some j → (found_terminal t (numbered_terminals (k + 1) ts) ≡ Some j → (i : ℕ) × (j ≡ k + 1 + i) × (slice_get ts i ≡ Some t)) → (i : ℕ) × (j ≡ k + i) × (slice_get (u ∷ ts) i ≡ Some t)
    by true is e deeper = let same : k ≡ j = some_inner k j e in (0, omega arith, ap Some (sym ((terminals_decide t u).0 is)))
    by false is e deeper = let there = deeper e in let at : j ≡ k + 1 + there.0 = there.1 in (suc there.0, omega arith, there.2)

apart_at : (t u : TerminalString) (ts : List TerminalString) (i : ℕ) → AllByRecursion (λ y. same_terminal u y ≡ false) ts → slice_get ts i ≡ Some t → same_terminal u t ≡ false
apart_at t u [] i h e = cc
apart_at t u (v ∷ ts) zero h e = subst (λ (y : TerminalString). same_terminal u y ≡ false) (some_inner v t e) h.0
apart_at t u (v ∷ ts) (suc i) h e = apart_at t u ts i h.1 e

-- what is at an index has its number
place_number : (t : TerminalString) (k i : ℕ) (ts : List TerminalString) → IsDistinct same_terminal ts → slice_get ts i ≡ Some t → found_terminal t (numbered_terminals k ts) ≡ Some (k + i)
unfolding IsDistinct
place_number t k i [] h e = cc
place_number t k zero (u ∷ ts) h e =
    ap (λ b. cond b (Some k) (found_terminal t (numbered_terminals (k + 1) ts))) (subst (λ (y : TerminalString). same_terminal t y ≡ true) (sym (some_inner u t e)) (terminal_itself t)) ∙ ap Some (omega arith)
place_number t k (suc i) (u ∷ ts) h e =
    ap (λ b. cond b (Some k) (found_terminal t (numbered_terminals (k + 1) ts))) (terminals_laws.symm t u ∙ apart_at t u ts i h.0 e)
    ∙ place_number t (k + 1) i ts h.1 e ∙ ap Some (omega arith)

-- the numbers put into a table are the indices
pub numbers_of_places : (ts : List TerminalString) → IsDistinct same_terminal ts → AreNumbers ts (sorted_terminals [] (numbered_terminals 0 ts))
numbers_of_places ts distinct =
    let table = terminal_table (numbered_terminals 0 ts) (subst (IsDistinct same_terminal) (sym (numbered_keys 0 ts)) distinct) in
    record {
      places = λ t i. (
        λ e. let there = number_place t 0 i ts (sym (table.holds t) ∙ e) in let at : i ≡ 0 + there.0 = there.1 in let same : there.0 ≡ i = omega arith in subst (λ j. slice_get ts j ≡ Some t) same there.2,
        λ e. table.holds t ∙ place_number t 0 i ts distinct e ∙ ap Some (omega arith),
      );
      in_order = table.in_order;
    }
