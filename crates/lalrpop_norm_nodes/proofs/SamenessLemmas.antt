-- Symbols that are the same have the same text; tests that are false, and faults that do not hold.
use Rattle.std.proofs.Common.{◌≡◌, ℕ, List, [], ◌++◌, Bool, true, false, bytes_eq, refl, sym, ap, ◌∙◌, subst}
use Rattle.std.specs.Prelude.{◌||◌}
use Rattle.std.proofs.lemmas.Slice.Eq.{bytes_eq-Decides}
use Rattle.lalrpop_norm_tree.specs.Symbols.{Part}
use Rattle.lalrpop_norm_tree.specs.SymbolTexts.{part_text}
use Rattle.lalrpop_norm_faults.specs.Faults.{Fault, fault_if}
use Rattle.lalrpop_norm_theory.specs.Symbols.{ClosedSymbol}
use Rattle.lalrpop_norm_theory.specs.Same.{same_symbol}
use Rattle.lalrpop_norm_theory.proofs.SameLemmas.{symbol_test}
use Rattle.lalrpop_norm_model.specs.ClosedTexts.{closed_text}
use Rattle.lalrpop_norm_model.specs.PlainRules.{same_apart_from_spans}
use Rattle.lalrpop_norm_model.specs.PlainTables.{closed}
use Rattle.lalrpop_norm_model.proofs.TextLemmas.{part_displayed}

pub same_closed : (p q : Part) → same_apart_from_spans p q ≡ true → closed p ≡ closed q
same_closed p q e = symbol_test.sound (closed p) (closed q) e

pub closed_same : (p q : Part) → closed p ≡ closed q → same_apart_from_spans p q ≡ true
closed_same p q e = subst (λ (g : ClosedSymbol). same_symbol (closed p) g ≡ true) e (symbol_test.complete (closed p))

pub closed_text_same : (p q : Part) → closed p ≡ closed q → part_text p ≡ part_text q
closed_text_same p q e =
    sym (part_displayed (λ n b. n) (λ n. refl) 0 0 p) ∙ ap (closed_text (λ n b. n)) e ∙ part_displayed (λ n b. n) (λ n. refl) 0 0 q

pub is_text : (s t : List ℕ) → s ≡ t → bytes_eq s t ≡ true
is_text s t e = (bytes_eq-Decides s t).1 e

-- a test is false where it can't be true
pub false_where : (b : Bool) → (b ≡ true → ⊥) → b ≡ false
false_where true n = absurd (n refl)
false_where false n = refl

pub or_false : (a b : Bool) → (a || b) ≡ false → (a ≡ false) × (b ≡ false)
or_false true b e = absurd (cc e)
or_false false b e = (refl, e)

-- a list of faults that begins with one that may hold
pub none_if : (b : Bool) (f : Fault) (fs : List Fault) → fault_if b f ++ fs ≡ [] → (b ≡ false) × (fs ≡ [])
none_if true f fs e = absurd (cc e)
none_if false f fs e = (refl, e)
