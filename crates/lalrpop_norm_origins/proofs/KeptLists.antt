-- The origins of the alternatives that a call of a macro keeps.
use Rattle.std.proofs.Common.{◌≡◌, ℕ, zero, suc, ◌+◌, Bool, true, false, List, [], ◌∷◌, length, map, refl, sym, ap, ◌∙◌, arith}
use Rattle.std.specs.Prelude.{Option, Some, None, slice_get, if◌then◌else◌}
use Rattle.lalrpop_norm_theory.specs.Symbols.{Name, ClosedSymbols}
use Rattle.lalrpop_norm_theory.specs.Meaning.{Meaning}
use Rattle.lalrpop_norm_theory.specs.LoweredTrees.{Origin, written}
use Rattle.lalrpop_norm_theory.specs.Clauses.{Clause, clause_and, numbered}
use Rattle.lalrpop_norm_model.specs.Levels.{Leveled}
use Rattle.lalrpop_norm_model.specs.WrittenRules.{WrittenRule, rule_named}
use Rattle.lalrpop_norm_model.specs.Reading.{read_all}
use Rattle.lalrpop_norm_model.specs.Grammars.{ConditionValue, meaning, has_arguments, arguments_fit, is_true, instance_at, macro_reader}
use Rattle.lalrpop_norm_origins.specs.EnabledOrigins.{places_from}
use Rattle.lalrpop_norm_origins.specs.Laws.{kept_there, CallsKeepOrigins}

module _ (value : ConditionValue) (rs : List WrittenRule) (r : WrittenRule) (args : ClosedSymbols) (n : Name) (f : ℕ → Option ClosedSymbols) where
  abbrev Tells : ℕ → List (Option Leveled) → Type 0
  Tells k ps = (j : ℕ) → f (k + j) ≡ instance_at value rs r args (slice_get ps j)

  tells_here : (k : ℕ) (p : Option Leveled) (ps : List (Option Leveled)) → Tells k (p ∷ ps) → f k ≡ instance_at value rs r args (Some p)
  tells_here k p ps h = let z : k + 0 ≡ k = omega arith in ap f (sym z) ∙ h 0

  tells_next : (k : ℕ) (p : Option Leveled) (ps : List (Option Leveled)) → Tells k (p ∷ ps) → Tells (suc k) ps
  tells_next k p ps h j = let s : suc k + j ≡ k + suc j = omega arith in ap f s ∙ h (suc j)

  abbrev Keeps : Leveled → Bool
  Keeps a = is_true value r.args args a.alternative.condition

  kept : (k : ℕ) (ps : List (Option Leveled)) → Tells k ps → map (λ (c : Clause). c.origin) (numbered n f k (length ps)) ≡ kept_there Keeps ps (places_from n k ps)
  kept k [] h = refl
  kept k (None ∷ ps) h = rw (tells_here k None ps h) (kept (suc k) ps (tells_next k None ps h))
  kept k (Some a ∷ ps) h = at (Keeps a) refl (kept (suc k) ps (tells_next k (Some a) ps h))
    where
      at : (b : Bool) → Keeps a ≡ b → map (λ (c : Clause). c.origin) (numbered n f (suc k) (length ps)) ≡ kept_there Keeps ps (places_from n (suc k) ps) →
          map (λ (c : Clause). c.origin) (clause_and n k (f k) (numbered n f (suc k) (length ps)))
          ≡ (if b then written n k ∷ kept_there Keeps ps (places_from n (suc k) ps) else kept_there Keeps ps (places_from n (suc k) ps))
      at true t ih =
          let here : f k ≡ Some (read_all (macro_reader rs r args) a.alternative.parts) = (tells_here k (Some a) ps h ∙ rw t refl) in
          rw here (ap (λ os. written n k ∷ os) ih)
      at false t ih =
          let here : f k ≡ None = (tells_here k (Some a) ps h ∙ rw t refl) in
          rw here ih

pub calls_keep : CallsKeepOrigins
calls_keep value rs n args r found macro fit =
    let count : (meaning value rs).call_count n ≡ length r.places = rw (found, macro) refl in
    ap (λ m. map (λ (c : Clause). c.origin) (numbered n ((meaning value rs).call_parts n args) 0 m)) count
    ∙ kept value rs r args n ((meaning value rs).call_parts n args) 0 r.places
    (λ j. let z : 0 + j ≡ j = omega arith in rw (z, found, macro, fit) refl)
